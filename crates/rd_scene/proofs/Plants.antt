-- The walk over the boxes that are planted.
use Rattle.std.proofs.Common.{◌≡◌, ℕ, ◌+◌, ◌≤◌, Bool, true, false, ◌&&◌, ◌-◌, cond, List, [], ◌∷◌, ◌++◌, length, get_or, take, drop, reverse, Option, Some, None, is_none, is_some, IsSome, refl, sym, ap, ◌∙◌, subst, bytes_eq, option_and_then, option_map, arith, inl, inr}
use Rattle.std.proofs.lemmas.List.{take_all}
use Rattle.rd_keys.specs.Keys.{same_key}
use Rattle.rd_tree.specs.Forest.{empty, tree, has, depth, map_where}
use Rattle.rd_tree.specs.Touching.{touch}
use Rattle.rd_tree.specs.Figures.{max_depth}
use Rattle.rd_tree.proofs.Nodes.Naming.{named_there, bytes_same}
use Rattle.rd_tree.proofs.Linking.Standing.{cases}
use Rattle.rd_tree.proofs.Nodes.Each.{has-each}
use Rattle.rd_keys.proofs.Keys.{same_key-sound}
use Rattle.rd_tree.specs.Document.{Document, BoxKey, BoxForest, named, or_else}
use Rattle.rd_scene.specs.declared.script.SceneBox.{SceneBox}
use Rattle.rd_scene.specs.Order.{depth_of, is_first, has_level_below, has_place, are_in_order}
use Rattle.rd_scene.specs.Planting.{item_of, parent_in, IsAlone, Adds, AddsAll, Grows}
use Rattle.rd_scene.proofs.Growing.{grow, named-new, named-kept, depth-new, depth-kept}

-- one more box is added after the others
pub adds_push : (bs : List SceneBox) (b : SceneBox) (s m t : Document) → AddsAll bs s m → Adds b m t → AddsAll (bs ++ b ∷ []) s t
adds_push [] b s m t e a = (t, rw (sym e) a, refl)
adds_push (c ∷ bs) b s m t (n, first, rest) a = (n, first, adds_push bs b n m t rest a)

-- The boxes so far, the latest first.
abbrev pub so_far : SceneBox → List SceneBox → List SceneBox
so_far first bs = reverse bs ++ first ∷ []

pub not_first : (bs : List SceneBox) (first : SceneBox) → is_first (bs ++ first ∷ []) ≡ false
not_first [] first = refl
not_first (b ∷ bs) first = refl

-- A box that may stand: its id is new, its parent is there, and the others may follow.
pub record Stands (before rest : List SceneBox) (b : SceneBox) : Type 0 where
  pub free : depth_of b.id before ≡ None
  pub place : has_place before b.parent ≡ true
  pub others : are_in_order (b ∷ before) rest ≡ true

pub stands : (before rest : List SceneBox) (b : SceneBox) → are_in_order before (b ∷ rest) ≡ true → Stands before rest b
stands before rest b h = by (depth_of b.id before) refl (has_place before b.parent) refl h
  where
    by : (o : Option ℕ) → depth_of b.id before ≡ o → (p : Bool) → has_place before b.parent ≡ p → (is_none o && p && are_in_order (b ∷ before) rest) ≡ true → Stands before rest b
    by None e true f h = record { free = e; place = f; others = h }
    by None e false f h = cc
    by (Some d) e p f h = cc

pub has_parent : (before : List SceneBox) (parent : Option (List ℕ)) → is_first before ≡ false → has_place before parent ≡ true →
    (p : List ℕ) × (parent ≡ Some p) × (is_some (depth_of p before) ≡ true)
has_parent [] parent h place = cc
has_parent (b ∷ before) None h place = cc
has_parent (b ∷ before) (Some p) h place = (p, refl, by (depth_of p (b ∷ before)) place)
  where
    by : (o : Option ℕ) → has_level_below o ≡ true → is_some o ≡ true
    by None h = cc
    by (Some d) h = refl

-- the parent of a box, where the forest has one
pub parent_there : (f : BoxForest) (b : SceneBox) (k : BoxKey) → parent_in f b ≡ Some k → has same_key k f ≡ true
parent_there f b k h = by b.parent h
  where
    by : (p : Option (List ℕ)) → option_and_then (λ i. named i f) p ≡ Some k → has same_key k f ≡ true
    by None h = cc
    by (Some i) h = named_there i k f h

-- The ids of the tree are those of the boxes so far, at the same depths.
abbrev pub SameDepths : BoxForest → List SceneBox → Type 0
SameDepths f before = (q : List ℕ) → option_map (λ k. depth same_key k f) (named q f) ≡ depth_of q before

some_depth : (o : Option BoxKey) (f : BoxForest) (d : Option ℕ) → option_map (λ k. depth same_key k f) o ≡ d → d ≡ None → o ≡ None
some_depth None f d e n = refl
some_depth (Some k) f d e n = absurd (let no : Some (depth same_key k f) ≡ None = e ∙ n in cc)

-- the depth of the parent
pub parent_depth : (f : BoxForest) (before : List SceneBox) (b : SceneBox) (p : BoxKey) → SameDepths f before → parent_in f b ≡ Some p
    → option_and_then (λ i. depth_of i before) b.parent ≡ Some (depth same_key p f)
parent_depth f before b p same e = by b.parent e
  where
    by : (o : Option (List ℕ)) → option_and_then (λ i. named i f) o ≡ Some p → option_and_then (λ i. depth_of i before) o ≡ Some (depth same_key p f)
    by None e = absurd (let no : None ≡ Some p = e in cc)
    by (Some i) e = sym (same i) ∙ ap (option_map (λ k. depth same_key k f)) e

pub depths_grown : (f : BoxForest) (before : List SceneBox) (b : SceneBox) (p k : BoxKey) → SameDepths f before → has same_key k f ≡ false
    → parent_in f b ≡ Some p → depth_of b.id before ≡ None → SameDepths (grow p k (touch (item_of b)) f) (b ∷ before)
depths_grown f before b p k same out e free q =
    elim (cases (bytes_eq b.id q)) [
      | inl s ↦
          let id : b.id ≡ q = bytes_same b.id q s in
          let none : named q f ≡ None = some_depth (named q f) f (depth_of q before) (same q) (ap (λ i. depth_of i before) (sym id) ∙ free) in
          rw (named-new q p k (touch (item_of b)) f there s none, depth-new p k (touch (item_of b)) f there out, s, parent_depth f before b p same e) refl
      | inr s ↦ rw (named-kept q p k (touch (item_of b)) f there s, s) (old (named q f) refl ∙ same q)
    ]
  where
    there : has same_key p f ≡ true
    there = parent_there f b p e

    old : (o : Option BoxKey) → named q f ≡ o → option_map (λ j. depth same_key j (grow p k (touch (item_of b)) f)) o ≡ option_map (λ j. depth same_key j f) o
    old None h = refl
    old (Some j) h = ap Some (depth-kept j p k (touch (item_of b)) f there (apart j (named_there q j f h)))
      where
        apart : (j : BoxKey) → has same_key j f ≡ true → same_key j k ≡ false
        apart j m = elim (cases (same_key j k)) [
          | inl s ↦ absurd (let no : true ≡ false = sym m ∙ (ap (λ i. has same_key i f) (same_key-sound j k s) ∙ out) in cc)
          | inr s ↦ s
        ]

-- Marks leave ids and depths.
named-marked : (q : BoxKey → Bool) (i : List ℕ) (f : BoxForest) → named i (map_where q touch f) ≡ named i f
named-marked q i empty = refl
named-marked q i (tree k d below rest) = λ j. cond (bytes_eq (same (q k) j) i) (Some k) (or_else (named-marked q i below j) (named-marked q i rest j))
  where
    same : (b : Bool) → (cond b (touch d) d).id ≡ d.id
    same true = refl
    same false = refl

depth-marked : (q : BoxKey → Bool) (k : BoxKey) (f : BoxForest) → depth same_key k (map_where q touch f) ≡ depth same_key k f
depth-marked q k empty = refl
depth-marked q k (tree i d below rest) =
    λ j. cond (same_key k i) 1 (cond (has-each q touch same_key k below j) (1 + depth-marked q k below j) (depth-marked q k rest j))

pub depths_marked : (q : BoxKey → Bool) (f : BoxForest) (before : List SceneBox) → SameDepths f before → SameDepths (map_where q touch f) before
depths_marked q f before same i = ap (option_map (λ k. depth same_key k (map_where q touch f))) (named-marked q i f) ∙ by (named i f) ∙ same i
  where
    by : (o : Option BoxKey) → option_map (λ k. depth same_key k (map_where q touch f)) o ≡ option_map (λ k. depth same_key k f) o
    by None = refl
    by (Some k) = ap Some (depth-marked q k f)

pub new_name : (f : BoxForest) (before : List SceneBox) (b : SceneBox) → SameDepths f before → depth_of b.id before ≡ None → named b.id f ≡ None
new_name f before b same free = some_depth (named b.id f) f (depth_of b.id before) (same b.id) free

is_known : (o : Option BoxKey) (f : BoxForest) (d : Option ℕ) → option_map (λ k. depth same_key k f) o ≡ d → is_some d ≡ true → IsSome o
is_known None f d e s = absurd (let no : true ≡ false = sym s ∙ ap is_some (sym e) in cc)
is_known (Some k) f d e s = refl

pub known_parent : (f : BoxForest) (first : SceneBox) (bs rest : List SceneBox) (b : SceneBox) → SameDepths f (so_far first bs) → Stands (so_far first bs) rest b → IsSome (parent_in f b)
known_parent f first bs rest b same s =
    let p = has_parent (so_far first bs) b.parent (not_first (reverse bs) first) s.place in
    rw p.1 (is_known (named (p.0) f) f (depth_of (p.0) (so_far first bs)) (same (p.0)) p.2)

-- there is room for a level below the parent
pub room_below : (f : BoxForest) (before : List SceneBox) (b : SceneBox) (p : BoxKey) → SameDepths f before → is_first before ≡ false → has_place before b.parent ≡ true
    → parent_in f b ≡ Some p → depth same_key p f + 1 ≤ max_depth
room_below f [] b p same away place e = absurd (let n : true ≡ false = away in cc)
room_below f (c ∷ before) b p same away place e = by b.parent place (parent_depth f (c ∷ before) b p same e)
  where
    by : (o : Option (List ℕ)) → has_place (c ∷ before) o ≡ true → option_and_then (λ i. depth_of i (c ∷ before)) o ≡ Some (depth same_key p f) → depth same_key p f + 1 ≤ max_depth
    by None h d = absurd (let n : None ≡ Some (depth same_key p f) = d in cc)
    by (Some i) h d =
        let room : has_level_below (Some (depth same_key p f)) ≡ true = ap has_level_below (sym d) ∙ h in
        grind arith

-- ---- the first box, and the others

pub first_and_rest : (xs : List SceneBox) (b : SceneBox) → 1 ≤ length xs → b ≡ get_or xs 0 b → xs ≡ b ∷ take (length xs - 1) (drop 1 xs)
first_and_rest [] b some is = absurd (omega arith)
first_and_rest (x ∷ xs) b some is =
    let few : length xs ≤ length (x ∷ xs) - 1 = omega arith in
    rw (take_all (length (x ∷ xs) - 1) xs few) (ap (λ (y : SceneBox). y ∷ xs) (sym is))

pub grows_from : (xs rest : List SceneBox) (b : SceneBox) (root t : Document) → xs ≡ b ∷ rest → IsAlone b root → AddsAll rest root t → Grows xs root t
grows_from xs rest b root t e a h = subst (λ (l : List SceneBox). Grows l root t) (sym e) (a, h)
