-- Lists with the same routes have as many levels and leaves, and groups stand as deep in them.
use Rattle.std.proofs.Common.{◌≡◌, refl, ap, ◌∙◌, sym, subst, true, false, not, List, [], ◌∷◌, ◌++◌, length, ℕ, zero, suc, ◌+◌, ◌≤◌, arith, inl, inr}
use Rattle.std.specs.Prelude.{IsTrue, IsPermutation}
use Rattle.std.proofs.lemmas.List.{length-append}
use Rattle.std.proofs.lemmas.List.Sorted.{length_permutation, IsPermutation-sym}
use Rattle.rd_keys.specs.declared.entry.EntryKey.{EntryKey}
use Rattle.rd_item.specs.declared.leaf.Leaf.{Leaf}
use Rattle.rd_item.specs.Items.{Made}
use Rattle.rd_list.specs.Wrappers.{Wrapper}
use Rattle.rd_list.specs.Entries.{Entries, nil, leaf, group, flat, routes, is_empty, no_group_is_empty}
use Rattle.rd_list.specs.EntryNames.{kept_leaves}
use Rattle.rd_list.specs.GroupDepth.{group_depth}
use Rattle.rd_list.specs.Kept.{Ordered}
use Rattle.rd_list.specs.Lists.{StandsFor}
use Rattle.rd_list.specs.Views.{larger, deeper, levels}
use Rattle.rd_list.proofs.Merges.Routing.{Routed, routed_same, three_true}
use Rattle.rd_tree.specs.Forest.{height}
use Rattle.rd_tree.specs.Document.{Document}
use Rattle.rd_stack.specs.Fresh.{fresh_list}
use Rattle.rd_engine.proofs.Larger.{larger_within, left_within, right_within, deeper_within}
use Rattle.rd_engine.proofs.Shallow.{shallow}

module _ {G L : Type 0} where
  -- round each leaf there are fewer groups than levels
  route_within : (xs : Entries G L) (gs : List G) (l : L) → Routed gs l xs → length gs + 1 ≤ levels xs
  route_within nil gs l h = absurd h
  route_within (leaf m xs) gs l (inl h) = rw h.0 (left_within 1 (levels xs))
  route_within (leaf m xs) gs l (inr h) = let a = route_within xs gs l h in let b = right_within 1 (levels xs) in omega (arith, a, b)
  route_within (group g inner xs) gs l (inl h) =
      let a = left_within (deeper (levels inner)) (levels xs) in
      let b = route_within inner h.0 l h.2 in
      let c = more (levels inner) (length h.0) b in
      rw h.1 (omega (arith, a, c))
    where
      more : (n k : ℕ) → k + 1 ≤ n → k + 1 + 1 ≤ deeper n
      more zero k h = absurd (omega arith)
      more (suc n) k h = omega (arith, h)
  route_within (group g inner xs) gs l (inr h) =
      let a = route_within xs gs l h in
      let b = right_within (deeper (levels inner)) (levels xs) in
      omega (arith, a, b)

  -- there are no more levels than that
  levels_within : (xs : Entries G L) (n : ℕ) → ((gs : List G) (l : L) → Routed gs l xs → length gs + 1 ≤ n) → levels xs ≤ n
  levels_within nil n h = omega arith
  levels_within (leaf m xs) n h = larger_within 1 (levels xs) n (h [] m (inl (refl, refl))) (levels_within xs n (λ gs l r. h gs l (inr r)))
  levels_within (group g inner xs) n h =
      larger_within (deeper (levels inner)) (levels xs) n (by n (λ gs l r. h (g ∷ gs) l (inl (gs, refl, r))) (levels_within inner)) (levels_within xs n (λ gs l r. h gs l (inr r)))
    where
      none : (m : ℕ) → m ≤ 0 → deeper m ≤ 0
      none zero h = omega arith
      none (suc m) h = absurd (omega (arith, h))

      by : (n : ℕ) → ((gs : List G) (l : L) → Routed gs l inner → length (g ∷ gs) + 1 ≤ n)
          → ((m : ℕ) → ((gs : List G) (l : L) → Routed gs l inner → length gs + 1 ≤ m) → levels inner ≤ m) → deeper (levels inner) ≤ n
      by zero k w = none (levels inner) (w 0 (λ gs l r. let b = k gs l r in absurd (omega (arith, b))))
      by (suc m) k w =
          let a = deeper_within (levels inner) m (w m (λ gs l r. let b = k gs l r in omega (arith, b))) in
          omega (arith, a)

  levels_no_more : (xs ys : Entries G L) → IsPermutation (routes [] xs) (routes [] ys) → levels xs ≤ levels ys
  levels_no_more xs ys p = levels_within xs (levels ys) (λ gs l r. route_within ys gs l (routed_same xs ys p gs l r))

  length-routes : (path : List G) (xs : Entries G L) → length (routes path xs) ≡ length (flat xs)
  length-routes path nil = refl
  length-routes path (leaf l xs) = ap suc (length-routes path xs)
  length-routes path (group g inner xs) =
      length-append (routes (path ++ g ∷ []) inner) (routes path xs) ∙ rw (length-routes (path ++ g ∷ []) inner, length-routes path xs) (sym (length-append (flat inner) (flat xs)))

  -- lists with the same routes have as many levels
  pub same_levels : (xs ys : Entries G L) → IsPermutation (routes [] xs) (routes [] ys) → levels xs ≡ levels ys
  same_levels xs ys p =
      let a = levels_no_more xs ys p in
      let b = levels_no_more ys xs (IsPermutation-sym (routes [] xs) (routes [] ys) p) in
      omega (arith, a, b)

  -- and as many leaves
  pub same_length : (xs ys : Entries G L) → IsPermutation (routes [] xs) (routes [] ys) → length (flat xs) ≡ length (flat ys)
  same_length xs ys p = sym (length-routes [] xs) ∙ sym (length_permutation (routes [] xs) (routes [] ys) p) ∙ length-routes [] ys

  -- a list with an entry and no empty group has a level
  some_level : (xs : Entries G L) → IsTrue (no_group_is_empty xs) → IsTrue (not (is_empty xs)) → 1 ≤ levels xs
  some_level nil f e = absurd (let no : false ≡ true = e in cc)
  some_level (leaf l xs) f e = left_within 1 (levels xs)
  some_level (group g inner xs) f e =
      let t = three_true (not (is_empty inner)) (no_group_is_empty inner) (no_group_is_empty xs) f in
      let a = some_level inner t.1 t.0 in
      let b = left_within (deeper (levels inner)) (levels xs) in
      omega (arith, b, (at_least (levels inner) a))
    where
      at_least : (n : ℕ) → 1 ≤ n → 1 ≤ deeper n
      at_least zero h = h
      at_least (suc n) h = omega arith

  -- where no group is empty, fewer groups than levels stand one in another
  pub depth_within : (xs : Entries G L) (n : ℕ) → IsTrue (no_group_is_empty xs) → levels xs ≤ n + 1 → group_depth xs ≤ n
  depth_within nil n f h = omega arith
  depth_within (leaf l xs) n f h = let a = right_within 1 (levels xs) in depth_within xs n f (omega (arith, a, h))
  depth_within (group g inner xs) n f h =
      let t = three_true (not (is_empty inner)) (no_group_is_empty inner) (no_group_is_empty xs) f in
      let s = some_level inner t.1 t.0 in
      let a = left_within (deeper (levels inner)) (levels xs) in
      let b = right_within (deeper (levels inner)) (levels xs) in
      larger_within (group_depth inner + 1) (group_depth xs) n
      (by n s (under (levels inner) n s (omega (arith, a, h))) (λ m. depth_within inner m t.1))
      (depth_within xs n t.2 (omega (arith, b, h)))
    where
      under : (m n : ℕ) → 1 ≤ m → deeper m ≤ n + 1 → m ≤ n
      under zero n s h = absurd (omega (arith, s))
      under (suc m) n s h = omega (arith, h)

      by : (n : ℕ) → 1 ≤ levels inner → levels inner ≤ n → ((m : ℕ) → levels inner ≤ m + 1 → group_depth inner ≤ m) → group_depth inner + 1 ≤ n
      by zero s k w = absurd (omega (arith, s, k))
      by (suc m) s k w = let a = w m (omega (arith, k)) in omega (arith, a)

  pub depth_below : (xs : Entries G L) → IsTrue (no_group_is_empty xs) → group_depth xs ≤ levels xs
  depth_below xs f = depth_within xs (levels xs) f (omega arith)

-- ---- a kept list has the levels, the leaves and the groups of what it shows

pub kept_levels : (xs : Entries (Ordered EntryKey Wrapper) Made) → levels (kept_leaves xs) ≡ levels xs
kept_levels nil = refl
kept_levels (leaf m xs) = ap (larger 1) (kept_levels xs)
kept_levels (group g inner xs) = rw (kept_levels inner, kept_levels xs) refl

pub kept_length : (xs : Entries (Ordered EntryKey Wrapper) Made) → length (flat (kept_leaves xs)) ≡ length (flat xs)
kept_length nil = refl
kept_length (leaf m xs) = ap suc (kept_length xs)
kept_length (group g inner xs) =
    length-append (flat (kept_leaves inner)) (flat (kept_leaves xs)) ∙ rw (kept_length inner, kept_length xs) (sym (length-append (flat inner) (flat xs)))

pub kept_depth : (xs : Entries (Ordered EntryKey Wrapper) Made) → group_depth (kept_leaves xs) ≡ group_depth xs
kept_depth nil = refl
kept_depth (leaf m xs) = kept_depth xs
kept_depth (group g inner xs) = rw (kept_depth inner, kept_depth xs) refl

-- ---- so of a kept list that shows what a fresh list shows

pub alike : (kept fresh : Entries Wrapper Leaf) → StandsFor kept fresh
    → (levels kept ≡ levels fresh) × (length (flat kept) ≡ length (flat fresh)) × (group_depth kept ≤ levels fresh)
alike kept fresh s =
    let e = same_levels kept fresh s.leaves in
    (e, same_length kept fresh s.leaves, subst (λ n. group_depth kept ≤ n) e (depth_below kept s.filled))

-- A kept list has at most one level more than its tree, and as many groups at most stand one in another as the tree has levels.
pub kept_shallow : (t : Document) (xs : Entries (Ordered EntryKey Wrapper) Made) → StandsFor (kept_leaves xs) (fresh_list t)
    → (levels xs ≤ height t.boxes + 1) × (length (flat xs) ≡ length (flat (fresh_list t))) × (group_depth xs ≤ height t.boxes)
kept_shallow t xs s =
    let a = alike (kept_leaves xs) (fresh_list t) s in
    let b : levels (kept_leaves xs) ≤ height t.boxes + 1 = subst (λ n. n ≤ height t.boxes + 1) (sym a.0) (shallow t) in (
      subst (λ n. n ≤ height t.boxes + 1) (kept_levels xs) b,
      sym (kept_length xs) ∙ a.1,
      subst (λ n. n ≤ height t.boxes) (kept_depth xs) (depth_within (kept_leaves xs) (height t.boxes) s.filled b),
    )
