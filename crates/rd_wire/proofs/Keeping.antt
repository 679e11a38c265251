-- A kept list that stands for a painting order keeps the rules of a wire.
use Rattle.std.proofs.Common.{◌≡◌, suc, ◌<◌, ◌≤◌, ◌^◌, Bool, true, false, not, ◌&&◌, List, [], ◌∷◌, ◌++◌, length, refl, sym, ap, subst, ◌∙◌, arith, inl, inr, length-append, ◌⊎◌}
use Rattle.std.specs.Prelude.{IsTrue, Contains, AllPairs}
use Rattle.rd_geom.specs.Canvas.{canvas_of}
use Rattle.rd_item.specs.Items.{Made}
use Rattle.rd_item.specs.declared.leaf.Leaf as item
use Rattle.rd_keys.specs.Keys.{BoxKey, same_key}
use Rattle.rd_keys.specs.declared.entry.EntryKey.{EntryKey}
use Rattle.rd_keys.specs.declared.entry.EntryKey.TheVariants as key
use Rattle.rd_graph.specs.Names.{same_entry}
use Rattle.rd_graph.proofs.Reaching.Calls.{once_to}
use Rattle.rd_graph.proofs.Lists.Entries.{same_entry-refl}
use Rattle.rd_graph.proofs.Lists.Listing.{Has, Once, has_left, has_right, has_either, contains_from}
use Rattle.rd_list.specs.Wrappers.{Wrapper}
use Rattle.rd_list.specs.Entries.{Entries, nil, leaf, group, flat, is_empty, no_group_is_empty}
use Rattle.rd_list.specs.EntryNames.{kept_leaves, new_leaves}
use Rattle.rd_list.specs.GroupDepth.{group_depth}
use Rattle.rd_list.specs.Kept.{Ordered}
use Rattle.rd_list.specs.Lists.{groups, same_leaf}
use Rattle.rd_list.specs.Unordered.{unordered}
use Rattle.rd_wire.specs.Leaves.{IsSeen}
use Rattle.rd_wire.specs.Wires.{width, names, EachEntry, IsFilled}
use Rattle.rd_wire.specs.Laws.{Keeping}
use Rattle.rd_wire.proofs.Bared.{same_leaves}

-- ---- without graphs

flat-unordered : (xs : Entries (Ordered EntryKey Wrapper) Made) → flat (unordered xs) ≡ flat xs
flat-unordered nil = refl
flat-unordered (leaf m xs) = ap (λ z. m ∷ z) (flat-unordered xs)
flat-unordered (group g inner xs) = rw (flat-unordered inner, flat-unordered xs) refl

depth-unordered : (xs : Entries (Ordered EntryKey Wrapper) Made) → group_depth (unordered xs) ≡ group_depth xs
depth-unordered nil = refl
depth-unordered (leaf m xs) = depth-unordered xs
depth-unordered (group g inner xs) = rw (depth-unordered inner, depth-unordered xs) refl

-- ---- groups with entries

both : (a b : Bool) → IsTrue (a && b) → IsTrue a × IsTrue b
both true true h = (refl, refl)
both true false h = absurd cc
both false b h = absurd cc

some_shown : (xs : Entries Wrapper Made) → IsTrue (not (is_empty (new_leaves xs))) → (is_empty xs ≡ false) × (1 ≤ width xs)
some_shown nil h = absurd cc
some_shown (leaf m xs) h = (refl, omega arith)
some_shown (group g inner xs) h = (refl, omega arith)

-- a list has no more entries than leaves
width_few : (xs : Entries Wrapper Made) → IsTrue (no_group_is_empty (new_leaves xs)) → width xs ≤ length (flat xs)
width_few nil h = omega arith
width_few (leaf m xs) h = let r = width_few xs h in omega (arith, r)
width_few (group g inner xs) h =
    let p = both (not (is_empty (new_leaves inner)) && no_group_is_empty (new_leaves inner)) (no_group_is_empty (new_leaves xs)) h in
    let q = both (not (is_empty (new_leaves inner))) (no_group_is_empty (new_leaves inner)) p.0 in
    let s = (some_shown inner q.0).1 in
    let a = width_few inner q.1 in
    let b = width_few xs p.1 in
    let l = length-append (flat inner) (flat xs) in
    omega (arith, s, a, b, l)

each_filled : (P : Made → Type 0) (xs : Entries Wrapper Made) → ((m : Made) → Has (flat xs) m → P m) → length (flat xs) < 2 ^ 32 → IsTrue (no_group_is_empty (new_leaves xs))
    → EachEntry P (λ g inner. IsFilled inner) xs
each_filled P nil each few h = tt
each_filled P (leaf m xs) each few h = (each m (inl refl), each_filled P xs (λ k n. each k (inr n)) (omega (arith, few)) h)
each_filled P (group g inner xs) each few h =
    let p = both (not (is_empty (new_leaves inner)) && no_group_is_empty (new_leaves inner)) (no_group_is_empty (new_leaves xs)) h in
    let q = both (not (is_empty (new_leaves inner))) (no_group_is_empty (new_leaves inner)) p.0 in
    let l = length-append (flat inner) (flat xs) in
    let few_inner : length (flat inner) < 2 ^ 32 = omega (arith, few, l) in
    let few_rest : length (flat xs) < 2 ^ 32 = omega (arith, few, l) in
    let w = width_few inner q.1 in (
      record { some = (some_shown inner q.0).0; count = omega (arith, w, few_inner) },
      each_filled P inner (λ k n. each k (has_left (flat inner) (flat xs) k n)) few_inner q.1,
      each_filled P xs (λ k n. each k (has_right (flat inner) (flat xs) k n)) few_rest p.1,
    )

-- ---- each name once

-- no two of a list are the same, by recursion
abbrev Apart : {A : Type 0} → (A → A → Bool) → List A → Type 0
Apart same [] = Unit {0}
Apart same (x ∷ xs) = ((y : _) → Has xs y → same x y ≡ false) × Apart same xs

module _ {A : Type 0} (same : A → A → Bool) where
  apart_of : (xs : List A) → AllPairs (λ a b. same a b ≡ false) xs → Apart same xs
  apart_of [] h = tt
  apart_of (x ∷ xs) h = (
    (λ y m. let c = contains_from xs y m in subst (λ (z : A). same x z ≡ false) c.2 (h 0 (suc c.0) y (omega arith) (let l = c.1 in omega (arith, l)))),
    apart_of xs (λ i j d l m. h (suc i) (suc j) d (omega (arith, l)) (omega (arith, m))),
  )

  apart_left : (xs ys : List A) → Apart same (xs ++ ys) → Apart same xs
  apart_left [] ys h = tt
  apart_left (x ∷ xs) ys h = ((λ y m. h.0 y (has_left xs ys y m)), apart_left xs ys h.1)

  apart_right : (xs ys : List A) → Apart same (xs ++ ys) → Apart same ys
  apart_right [] ys h = h
  apart_right (x ∷ xs) ys h = apart_right xs ys h.1

  apart_both : (xs ys : List A) → Apart same (xs ++ ys) → (x y : A) → Has xs x → Has ys y → same x y ≡ false
  apart_both [] ys h x y m n = absurd m
  apart_both (z ∷ xs) ys h x y (inl e) n = subst (λ (w : A). same w y ≡ false) e (h.0 y (has_right xs ys y n))
  apart_both (z ∷ xs) ys h x y (inr m) n = apart_both xs ys h.1 x y m n

-- the names of leaves, and of groups
abbrev leaf_name : item.Leaf → EntryKey
leaf_name l = key.Leaf l.owner l.part

abbrev IsLeafOf : Entries Wrapper Made → EntryKey → Type 0
IsLeafOf xs k = (l : item.Leaf) × Has (flat (new_leaves xs)) l × (leaf_name l ≡ k)

abbrev IsGroupOf : Entries Wrapper Made → EntryKey → Type 0
IsGroupOf xs k = (b : BoxKey) × Has (groups (new_leaves xs)) b × (key.Group b ≡ k)

-- a name is that of a leaf or of a group
named : (xs : Entries Wrapper Made) (k : EntryKey) → Has (names xs) k → IsLeafOf xs k ⊎ IsGroupOf xs k
named nil k h = absurd h
named (leaf m xs) k (inl e) = inl (m.leaf, inl refl, e)
named (leaf m xs) k (inr h) = elim (named xs k h) [ inl p ↦ inl (p.0, inr p.1, p.2) | inr p ↦ inr p ]
named (group g inner xs) k (inl e) = inr (g.key, inl refl, e)
named (group g inner xs) k (inr h) = elim (has_either (names inner) (names xs) k h) [
  | inl m ↦ elim (named inner k m) [
    | inl p ↦ inl (p.0, has_left (flat (new_leaves inner)) (flat (new_leaves xs)) p.0 p.1, p.2)
    | inr p ↦ inr (p.0, inr (has_left (groups (new_leaves inner)) (groups (new_leaves xs)) p.0 p.1), p.2)
  ]
  | inr m ↦ elim (named xs k m) [
    | inl p ↦ inl (p.0, has_right (flat (new_leaves inner)) (flat (new_leaves xs)) p.0 p.1, p.2)
    | inr p ↦ inr (p.0, inr (has_right (groups (new_leaves inner)) (groups (new_leaves xs)) p.0 p.1), p.2)
  ]
]

never_same : (a b : EntryKey) → same_entry a b ≡ false → a ≡ b → ⊥
never_same a b f e =
    let t : same_entry a b ≡ true = subst (λ (z : EntryKey). same_entry a z ≡ true) e (same_entry-refl a) in
    clash (same_entry a b) t f
  where
    clash : (c : Bool) → c ≡ true → c ≡ false → ⊥
    clash c t f = cc

once_append : (xs ys : List EntryKey) → Once xs → Once ys → ((k : EntryKey) → Has xs k → Has ys k → ⊥) → Once (xs ++ ys)
once_append [] ys o p apart = p
once_append (x ∷ xs) ys o p apart =
    ((λ m. elim (has_either xs ys x m) [ inl h ↦ o.0 h | inr h ↦ apart x (inl refl) h ]), once_append xs ys o.1 p (λ k h n. apart k (inr h) n))

names_once : (xs : Entries Wrapper Made) → Apart same_leaf (flat (new_leaves xs)) → Apart same_key (groups (new_leaves xs)) → Once (names xs)
names_once nil a b = tt
names_once (leaf m xs) a b = (
  (λ h. elim (named xs (leaf_name m.leaf) h) [
    | inl p ↦ never_same (leaf_name m.leaf) (leaf_name p.0) (a.0 p.0 p.1) (sym p.2)
    | inr p ↦ never_same (key.Group p.0) (leaf_name m.leaf) refl p.2
  ]),
  names_once xs a.1 b,
)
names_once (group g inner xs) a b =
    let ls = flat (new_leaves inner) in
    let ms = flat (new_leaves xs) in
    let gs = groups (new_leaves inner) in
    let hs = groups (new_leaves xs) in
    let first = names_once inner (apart_left same_leaf ls ms a) (apart_left same_key gs hs b.1) in
    let second = names_once xs (apart_right same_leaf ls ms a) (apart_right same_key gs hs b.1) in
    let own : Has (names inner ++ names xs) (key.Group g.key) → ⊥ = λ h. elim (has_either (names inner) (names xs) (key.Group g.key) h) [
      | inl n ↦ elim (named inner (key.Group g.key) n) [
        | inl p ↦ never_same (leaf_name p.0) (key.Group g.key) refl p.2
        | inr p ↦ never_same (key.Group g.key) (key.Group p.0) (b.0 p.0 (has_left gs hs p.0 p.1)) (sym p.2)
      ]
      | inr n ↦ elim (named xs (key.Group g.key) n) [
        | inl p ↦ never_same (leaf_name p.0) (key.Group g.key) refl p.2
        | inr p ↦ never_same (key.Group g.key) (key.Group p.0) (b.0 p.0 (has_right gs hs p.0 p.1)) (sym p.2)
      ]
    ] in
    let apart : (k : EntryKey) → Has (names inner) k → Has (names xs) k → ⊥ = λ k n o. elim (named inner k n) [
      | inl p ↦ elim (named xs k o) [
        | inl q ↦ never_same (leaf_name p.0) (leaf_name q.0) (apart_both same_leaf ls ms a p.0 q.0 p.1 q.1) (p.2 ∙ sym q.2)
        | inr q ↦ never_same (leaf_name p.0) (key.Group q.0) refl (p.2 ∙ sym q.2)
      ]
      | inr p ↦ elim (named xs k o) [
        | inl q ↦ never_same (key.Group p.0) (leaf_name q.0) refl (p.2 ∙ sym q.2)
        | inr q ↦ never_same (key.Group p.0) (key.Group q.0) (apart_both same_key gs hs b.1 p.0 q.0 p.1 q.1) (p.2 ∙ sym q.2)
      ]
    ] in
    (own, once_append (names inner) (names xs) first second apart)

pub keeping : Keeping
keeping = λ size kept s.
    let same : new_leaves (unordered kept) ≡ kept_leaves kept = same_leaves kept in
    let once : AllPairs (λ a b. same_leaf a b ≡ false) (flat (new_leaves (unordered kept))) = rw same s.once in
    let grouped : AllPairs (λ a b. same_key a b ≡ false) (groups (new_leaves (unordered kept))) = rw same s.grouped in
    let filled : IsTrue (no_group_is_empty (new_leaves (unordered kept))) = rw same s.filled in
    let flats : flat (unordered kept) ≡ flat kept = flat-unordered kept in
    let few : length (flat (unordered kept)) < 2 ^ 32 = rw flats s.few in
    let wide = width_few (unordered kept) filled in
    let each : (m : Made) → Has (flat (unordered kept)) m → IsSeen (canvas_of size) m.leaf = λ m h. s.leaves_seen m (subst (λ (ms : List Made). Contains ms m) flats (contains_from (flat (unordered kept)) m h)) in
    record {
      canvas = s.canvas;
      entries = each_filled (λ m. IsSeen (canvas_of size) m.leaf) (unordered kept) each few filled;
      count = omega (arith, wide, few);
      once = once_to (names (unordered kept)) (names_once (unordered kept) (apart_of same_leaf (flat (new_leaves (unordered kept))) once) (apart_of same_key (groups (new_leaves (unordered kept))) grouped));
      depth = rw (depth-unordered kept) s.depth;
    }
