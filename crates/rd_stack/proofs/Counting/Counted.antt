-- Four weights of lists: how often a leaf comes, how often a group comes, how many groups are empty, and how many leaves are off the canvas.
use Rattle.std.proofs.Common.{◌≡◌, refl, ap, ◌∙◌, sym, subst, Bool, true, false, not, ◌&&◌, cond, List, [], ◌∷◌, ◌++◌, ℕ, zero, suc, ◌+◌, ◌≤◌, ◌<◌, length, get_or, arith, inl, inr, append_assoc}
use Rattle.std.specs.Prelude.{Option, Some, None, AllPairs}
use Rattle.rd_geom.specs.Plane.{Rectangle, has_none, meet}
use Rattle.rd_geom.specs.declared.color.Color.{Color}
use Rattle.rd_keys.specs.Keys.{BoxKey, same_key}
use Rattle.rd_keys.proofs.Keys.{same_key-sound}
use Rattle.rd_keys.specs.declared.entry.Part.{Part}
use Rattle.rd_keys.specs.declared.entry.Part.TheVariants.{Back, Border, Content, Outline}
use Rattle.rd_item.specs.declared.leaf.Leaf.{Leaf}
use Rattle.rd_item.specs.declared.leaf.Shape.{Shape}
use Rattle.rd_tree.specs.Forest.{empty, tree, has, IsApart}
use Rattle.rd_tree.specs.Document.{BoxForest}
use Rattle.rd_tree.proofs.Linking.Standing.{cases}
use Rattle.rd_list.specs.Wrappers.{Wrapper}
use Rattle.rd_list.specs.Entries.{Entries, nil, leaf, group, ◌▷◌, flat, option_entry, has_leaf, is_empty, no_group_is_empty}
use Rattle.rd_list.specs.Lists.{same_leaf, groups}
use Rattle.rd_graph.specs.Names.{same_part}
use Rattle.rd_list.proofs.Joins.{flat-join}
use Rattle.rd_stack.specs.Paths.{BoxData, BoxPath, is_root}
use Rattle.rd_stack.specs.Clips.{clip_of}
use Rattle.rd_stack.specs.Parts.{leaf_at, shown, shape_of, is_seen, takes_hits}
use Rattle.rd_stack.specs.Painting.{Painted, paint, entry_of, wrapper_of}
use Rattle.rd_stack.specs.Fresh.{grouping, root_order}
use Rattle.rd_stack.proofs.Counting.Sums.{total, total-append}
use Rattle.rd_stack.proofs.Counting.Weights.{Weighs}
use Rattle.rd_stack.proofs.Counting.Takes.{all, root_fit}

abbrev pub one : Bool → ℕ
one b = cond b 1 0

-- A list in which each element is once.
one_at : {A : Type 0} (p : A → Bool) (xs : List A) (j : ℕ) (d : A) → j < length xs → p (get_or xs j d) ≡ true → 1 ≤ total (λ x. one (p x)) xs
one_at p [] j d h t = absurd (omega arith)
one_at p (x ∷ xs) zero d h t = let k : one (p x) ≡ 1 = ap one t in omega (arith, k)
one_at p (x ∷ xs) (suc j) d h t = omega (arith, one_at p xs j d (omega arith) t)

pub pairs_apart : {A : Type 0} (same : A → A → Bool) → ((a : A) → same a a ≡ true) → (xs : List A) → ((a : A) → total (λ x. one (same a x)) xs ≤ 1) → AllPairs (λ a b. same a b ≡ false) xs
pairs_apart same reflexive [] h i j d k l = absurd (omega arith)
pairs_apart same reflexive (x ∷ xs) h zero zero d k l = absurd (omega arith)
pairs_apart same reflexive (x ∷ xs) h zero (suc j) d k l =
    elim (cases (same x (get_or xs j d))) [
      | inl t ↦
          let self : one (same x x) ≡ 1 = ap one (reflexive x) in
          let more = one_at (same x) xs j d (omega arith) t in
          absurd (omega (arith, self, more, h x))
      | inr t ↦ t
    ]
pairs_apart same reflexive (x ∷ xs) h (suc i) zero d k l = absurd (omega arith)
pairs_apart same reflexive (x ∷ xs) h (suc i) (suc j) d k l = pairs_apart same reflexive xs (λ a. let m = h a in omega (arith, m)) i j d (omega arith) (omega arith)

pub none_fails : {A : Type 0} (p : A → Bool) (xs : List A) → total (λ x. one (not (p x))) xs ≤ 0 → (k : ℕ) (d : A) → k < length xs → p (get_or xs k d) ≡ true
none_fails p xs h k d l =
    elim (cases (p (get_or xs k d))) [
      | inl t ↦ t
      | inr t ↦
          let more = one_at (λ x. not (p x)) xs k d l (rw t refl) in
          absurd (omega (arith, more, h))
    ]

-- the boxes with one key
pub all-none : (f : BoxForest) → all (λ b. 0) f ≡ 0
all-none empty = refl
all-none (tree k d c n) = omega (arith, all-none c, all-none n)

all-key : (j : BoxKey) (f : BoxForest) → IsApart same_key f → all (λ b. one (same_key j b.key)) f ≤ one (has same_key j f)
all-key j empty a = omega arith
all-key j (tree k d c n) a =
    let s = all-key j c a.3 in
    let t = all-key j n a.4 in
    elim (cases (same_key j k)) [
      | inl e ↦
          let i : j ≡ k = same_key-sound j k e in
          let no_c : has same_key j c ≡ false = subst (λ x. has same_key x c ≡ false) (sym i) a.0 in
          let no_n : has same_key j n ≡ false = subst (λ x. has same_key x n ≡ false) (sym i) a.1 in
          let cn : one (has same_key j c) ≡ 0 = ap one no_c in
          let nn : one (has same_key j n) ≡ 0 = ap one no_n in
          rw e (omega (arith, s, t, cn, nn))
      | inr e ↦ elim (cases (has same_key j c)) [
        | inl u ↦
            let no_n : one (has same_key j n) ≡ 0 = ap one (a.2 j u) in
            let uc : one (has same_key j c) ≡ 1 = ap one u in
            rw (e, u) (omega (arith, s, t, no_n, uc))
        | inr u ↦
            let uc : one (has same_key j c) ≡ 0 = ap one u in
            rw (e, u) (omega (arith, s, t, uc))
      ]
    ]

all-once : (j : BoxKey) (f : BoxForest) → IsApart same_key f → all (λ b. one (same_key j b.key)) f ≤ 1
all-once j f a = let s = all-key j f a in let t = at_most (has same_key j f) in omega (arith, s, t)
  where
    at_most : (b : Bool) → one b ≤ 1
    at_most true = omega arith
    at_most false = omega arith

-- Leaves.
module _ (p : Leaf → Bool) where
  abbrev pub leaves_that : Entries Wrapper Leaf → ℕ
  leaves_that xs = total (λ l. one (p l)) (flat xs)

  pub that-join : (xs ys : Entries Wrapper Leaf) → leaves_that (xs ▷ ys) ≡ leaves_that xs + leaves_that ys
  that-join xs ys = ap (total (λ l. one (p l))) (flat-join xs ys) ∙ total-append (λ l. one (p l)) (flat xs) (flat ys)

  pub that-group : (x : Painted) → leaves_that (entry_of x) ≤ 0 + leaves_that x.order
  that-group x = choose (x.grouped && has_leaf (flat x.order))
    where
      inner : leaves_that (group (wrapper_of x.at) x.order nil) ≡ leaves_that x.order
      inner = total-append (λ l. one (p l)) (flat x.order) [] ∙ omega arith

      choose : (b : Bool) → leaves_that (cond b (group (wrapper_of x.at) x.order nil) x.order) ≤ 0 + leaves_that x.order
      choose true = omega (arith, inner)
      choose false = omega arith

  abbrev pub leaf_weight : Option Leaf → ℕ
  leaf_weight None = 0
  leaf_weight (Some l) = one (p l)

  pub that-option_entry : (o : Option Leaf) → leaves_that (option_entry o) ≡ leaf_weight o
  that-option_entry None = refl
  that-option_entry (Some l) = omega arith

-- A leaf of a part of a box is named by them.
abbrev IsNamed : BoxKey → Part → Option Leaf → Type 0
IsNamed k part None = Unit {0}
IsNamed k part (Some l) = (l.owner ≡ k) × (l.part ≡ part)

named-shown : (canvas : Rectangle) (x : BoxPath) (part : Part) (s : Option (Shape × Color)) → IsNamed x.here.key part (shown (clip_of canvas x) x.here part s)
named-shown canvas x part None = tt
named-shown canvas x part (Some s) =
    let visible = meet s.0.outer (clip_of canvas x) in
    elim (has_none visible) as (λ b. IsNamed x.here.key part (cond b None (Some (record { owner = x.here.key; part = part; visible = visible; shape = s.0; color = s.1; hits = takes_hits x.here.style.pointer })))) [ true ↦ tt | false ↦ (refl, refl) ]

named : (canvas : Rectangle) (x : BoxPath) (part : Part) → IsNamed x.here.key part (leaf_at canvas x part)
named canvas x part =
    elim (is_seen x.here.style.visibility) as (λ b. IsNamed x.here.key part (cond b (shown (clip_of canvas x) x.here part (shape_of canvas (is_root x) x.here part)) None)) [
      | true ↦ named-shown canvas x part (shape_of canvas (is_root x) x.here part)
      | false ↦ tt
    ]

module _ (canvas : Rectangle) (a : Leaf) where
  part_weight : (k : BoxKey) (part : Part) (o : Option Leaf) → IsNamed k part o → leaf_weight (same_leaf a) o ≤ one (same_key a.owner k && same_part a.part part)
  part_weight k part None n = omega arith
  part_weight k part (Some l) n = rw (n.0, n.1) (omega arith)

  one_part : (s : Bool) (p : Part) → one (s && same_part p Back) + one (s && same_part p Border) + one (s && same_part p Content) + one (s && same_part p Outline) ≤ one s
  one_part false p = omega arith
  one_part true Back = omega arith
  one_part true Border = omega arith
  one_part true Content = omega arith
  one_part true Outline = omega arith

  leaf_parts : (x : BoxPath) → 0 + (leaves_that (same_leaf a) (paint canvas Back x) + leaves_that (same_leaf a) (paint canvas Border x) + leaves_that (same_leaf a) (paint canvas Content x) + leaves_that (same_leaf a) (paint canvas Outline x)) ≤ one (same_key a.owner x.here.key)
  leaf_parts x =
      let q = λ (part : Part). part_weight x.here.key part (leaf_at canvas x part) (named canvas x part) in
      let s = λ (part : Part). that-option_entry (same_leaf a) (leaf_at canvas x part) in
      omega (arith, s Back, s Border, s Content, s Outline, q Back, q Border, q Content, q Outline, one_part (same_key a.owner x.here.key) a.part)

  pub leaf_once : (f : BoxForest) → IsApart same_key f → leaves_that (same_leaf a) (root_order grouping canvas f) ≤ 1
  leaf_once f apart =
      let w : Weighs canvas (leaves_that (same_leaf a)) (λ b. 0) (λ b. one (same_key a.owner b.key)) = record { none = refl; join = that-join (same_leaf a); group = that-group (same_leaf a); parts = leaf_parts } in
      omega (arith, root_fit canvas (leaves_that (same_leaf a)) (λ b. 0) (λ b. one (same_key a.owner b.key)) w f apart, all-once a.owner f apart)

-- Groups.
pub groups-join : (xs ys : Entries Wrapper Leaf) → groups (xs ▷ ys) ≡ groups xs ++ groups ys
groups-join nil ys = refl
groups-join (leaf l xs) ys = groups-join xs ys
groups-join (group g inner xs) ys = ap (λ zs. g.key ∷ zs) (ap (λ zs. groups inner ++ zs) (groups-join xs ys) ∙ sym (append_assoc (groups inner) (groups xs) (groups ys)))

module _ (canvas : Rectangle) (j : BoxKey) where
  abbrev pub groups_of : Entries Wrapper Leaf → ℕ
  groups_of xs = total (λ k. one (same_key j k)) (groups xs)

  groups_of-join : (xs ys : Entries Wrapper Leaf) → groups_of (xs ▷ ys) ≡ groups_of xs + groups_of ys
  groups_of-join xs ys = ap (total (λ k. one (same_key j k))) (groups-join xs ys) ∙ total-append (λ k. one (same_key j k)) (groups xs) (groups ys)

  groups_of-group : (x : Painted) → groups_of (entry_of x) ≤ one (same_key j x.at.here.key) + groups_of x.order
  groups_of-group x = choose (x.grouped && has_leaf (flat x.order))
    where
      choose : (b : Bool) → groups_of (cond b (group (wrapper_of x.at) x.order nil) x.order) ≤ one (same_key j x.at.here.key) + groups_of x.order
      choose true = let s = total-append (λ k. one (same_key j k)) (groups x.order) [] in omega (arith, s)
      choose false = omega arith

  no_groups : (o : Option Leaf) → groups_of (option_entry o) ≡ 0
  no_groups None = refl
  no_groups (Some l) = refl

  group_parts : (x : BoxPath) → one (same_key j x.here.key) + (groups_of (paint canvas Back x) + groups_of (paint canvas Border x) + groups_of (paint canvas Content x) + groups_of (paint canvas Outline x)) ≤ one (same_key j x.here.key)
  group_parts x =
      let s = λ (part : Part). no_groups (leaf_at canvas x part) in
      omega (arith, s Back, s Border, s Content, s Outline)

  pub group_once : (f : BoxForest) → IsApart same_key f → groups_of (root_order grouping canvas f) ≤ 1
  group_once f apart =
      let own : BoxData → ℕ = λ b. one (same_key j b.key) in
      let w : Weighs canvas groups_of own own = record { none = refl; join = groups_of-join; group = groups_of-group; parts = group_parts } in
      omega (arith, root_fit canvas groups_of own own w f apart, all-once j f apart)

-- Empty groups.
abbrev pub empty_groups : Entries Wrapper Leaf → ℕ
empty_groups nil = 0
empty_groups (leaf l rest) = empty_groups rest
empty_groups (group g inner rest) = one (is_empty inner) + empty_groups inner + empty_groups rest

empty-join : (xs ys : Entries Wrapper Leaf) → empty_groups (xs ▷ ys) ≡ empty_groups xs + empty_groups ys
empty-join nil ys = omega arith
empty-join (leaf l xs) ys = empty-join xs ys
empty-join (group g inner xs) ys = omega (arith, empty-join xs ys)

leafy : (xs : Entries Wrapper Leaf) → has_leaf (flat xs) ≡ true → is_empty xs ≡ false
leafy nil h = cc
leafy (leaf l xs) h = refl
leafy (group g inner xs) h = refl

empty-group : (x : Painted) → empty_groups (entry_of x) ≤ 0 + empty_groups x.order
empty-group x = choose (x.grouped) (has_leaf (flat x.order)) refl
  where
    choose : (b h : Bool) → has_leaf (flat x.order) ≡ h → empty_groups (cond (b && h) (group (wrapper_of x.at) x.order nil) x.order) ≤ 0 + empty_groups x.order
    choose false h e = omega arith
    choose true false e = omega arith
    choose true true e = let n : one (is_empty x.order) ≡ 0 = ap one (leafy x.order e) in omega (arith, n)

module _ (canvas : Rectangle) where
  no_empty : (o : Option Leaf) → empty_groups (option_entry o) ≡ 0
  no_empty None = refl
  no_empty (Some l) = refl

  empty_parts : (x : BoxPath) → 0 + (empty_groups (paint canvas Back x) + empty_groups (paint canvas Border x) + empty_groups (paint canvas Content x) + empty_groups (paint canvas Outline x)) ≤ 0
  empty_parts x =
      let s = λ (part : Part). no_empty (leaf_at canvas x part) in
      omega (arith, s Back, s Border, s Content, s Outline)

  pub none_empty : (f : BoxForest) → IsApart same_key f → empty_groups (root_order grouping canvas f) ≤ 0
  none_empty f apart =
      let w : Weighs canvas empty_groups (λ b. 0) (λ b. 0) = record { none = refl; join = empty-join; group = empty-group; parts = empty_parts } in
      omega (arith, root_fit canvas empty_groups (λ b. 0) (λ b. 0) w f apart, all-none f)

pub filled : (xs : Entries Wrapper Leaf) → empty_groups xs ≤ 0 → no_group_is_empty xs ≡ true
filled nil h = refl
filled (leaf l xs) h = filled xs h
filled (group g inner xs) h =
    let e : one (is_empty inner) ≡ 0 = omega (arith, h) in
    let n : is_empty inner ≡ false = by (is_empty inner) e in
    rw (n, filled inner (omega (arith, h)), filled xs (omega (arith, h))) refl
  where
    by : (b : Bool) → one b ≡ 0 → b ≡ false
    by true h = absurd (omega arith)
    by false h = refl
