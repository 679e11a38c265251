-- What passes a test of a list has no more levels and no more leaves than the list.
use Rattle.std.proofs.Common.{◌≡◌, refl, ap, ◌∙◌, sym, Bool, true, false, cond, length, ℕ, zero, suc, ◌+◌, ◌≤◌, arith}
use Rattle.std.proofs.lemmas.List.{length-append}
use Rattle.rd_item.specs.Items.{Made}
use Rattle.rd_item.specs.declared.leaf.Leaf.{Leaf}
use Rattle.rd_list.specs.Wrappers.{Wrapper}
use Rattle.rd_list.specs.Entries.{Entries, nil, leaf, group, flat, only, grouped_if_any}
use Rattle.rd_list.specs.EntryNames.{new_leaves}
use Rattle.rd_list.specs.Views.{larger, deeper, levels}
use Rattle.rd_tree.specs.Forest.{height}
use Rattle.rd_tree.specs.Document.{Document}
use Rattle.rd_stack.specs.Fresh.{fresh_list}
use Rattle.rd_engine.proofs.Larger.{larger_within, left_within, right_within}
use Rattle.rd_engine.proofs.Shallow.{shallow}

deeper_keeps : (a b : ℕ) → a ≤ b → deeper a ≤ deeper b
deeper_keeps zero b h = omega arith
deeper_keeps (suc a) zero h = absurd (omega (arith, h))
deeper_keeps (suc a) (suc b) h = omega (arith, h)

larger_keeps : (a b c d : ℕ) → a ≤ c → b ≤ d → larger a b ≤ larger c d
larger_keeps a b c d h k =
    let l = left_within c d in
    let r = right_within c d in
    larger_within a b (larger c d) (omega (arith, h, l)) (omega (arith, k, r))

module _ {G L : Type 0} where
  grouped_levels : (g : G) (inner xs : Entries G L) → levels (grouped_if_any g inner xs) ≤ larger (deeper (levels inner)) (levels xs)
  grouped_levels g nil xs = right_within 0 (levels xs)
  grouped_levels g (leaf l inner) xs = omega arith
  grouped_levels g (group k below inner) xs = omega arith

  grouped_length : (g : G) (inner xs : Entries G L) → length (flat (grouped_if_any g inner xs)) ≤ length (flat inner) + length (flat xs)
  grouped_length g nil xs = omega arith
  grouped_length g (leaf l inner) xs = let e = length-append (flat (leaf l inner)) (flat xs) in omega (arith, e)
  grouped_length g (group k below inner) xs = let e = length-append (flat (group k below inner)) (flat xs) in omega (arith, e)

  module _ (p : L → Bool) where
    pub only_levels : (xs : Entries G L) → levels (only p xs) ≤ levels xs
    only_levels nil = omega arith
    only_levels (leaf l xs) = by (p l) (only_levels xs)
      where
        by : (b : Bool) → levels (only p xs) ≤ levels xs → levels (cond b (leaf l (only p xs)) (only p xs)) ≤ larger 1 (levels xs)
        by true h = larger_keeps 1 (levels (only p xs)) 1 (levels xs) (omega arith) h
        by false h = let r = right_within 1 (levels xs) in omega (arith, h, r)
    only_levels (group g inner xs) =
        let a = grouped_levels g (only p inner) (only p xs) in
        let b = larger_keeps (deeper (levels (only p inner))) (levels (only p xs)) (deeper (levels inner)) (levels xs) (deeper_keeps (levels (only p inner)) (levels inner) (only_levels inner)) (only_levels xs) in
        omega (arith, a, b)

    pub only_length : (xs : Entries G L) → length (flat (only p xs)) ≤ length (flat xs)
    only_length nil = omega arith
    only_length (leaf l xs) = by (p l) (only_length xs)
      where
        by : (b : Bool) → length (flat (only p xs)) ≤ length (flat xs) → length (flat (cond b (leaf l (only p xs)) (only p xs))) ≤ suc (length (flat xs))
        by true h = omega (arith, h)
        by false h = omega (arith, h)
    only_length (group g inner xs) =
        let a = grouped_length g (only p inner) (only p xs) in
        let b = only_length inner in
        let c = only_length xs in
        let d = length-append (flat inner) (flat xs) in
        omega (arith, a, b, c, d)

-- ---- a new list has the levels and the leaves of what it shows

pub new_levels : (xs : Entries Wrapper Made) → levels (new_leaves xs) ≡ levels xs
new_levels nil = refl
new_levels (leaf m xs) = ap (larger 1) (new_levels xs)
new_levels (group g inner xs) = rw (new_levels inner, new_levels xs) refl

pub new_length : (xs : Entries Wrapper Made) → length (flat (new_leaves xs)) ≡ length (flat xs)
new_length nil = refl
new_length (leaf m xs) = ap suc (new_length xs)
new_length (group g inner xs) = length-append (flat (new_leaves inner)) (flat (new_leaves xs)) ∙ rw (new_length inner, new_length xs) (sym (length-append (flat inner) (flat xs)))

-- so of what a paint builds of a fresh list
pub new_shallow : (t : Document) (xs : Entries Wrapper Made) (in_area : Leaf → Bool) → new_leaves xs ≡ only in_area (fresh_list t)
    → (levels xs ≤ height t.boxes + 1) × (length (flat xs) ≤ length (flat (fresh_list t)))
new_shallow t xs in_area e =
    let a = sym (new_levels xs) ∙ ap levels e in
    let b = only_levels in_area (fresh_list t) in
    let c = shallow t in
    let d = sym (new_length xs) ∙ ap (λ ys. length (flat ys)) e in
    let f = only_length in_area (fresh_list t) in
    (omega (arith, a, b, c), omega (arith, d, f))
