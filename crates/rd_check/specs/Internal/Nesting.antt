-- Lines that are those of a nested list.
use Rattle.std.specs.Prelude.{ℕ, zero, suc, ◌+◌, ◌-◌, Bool, ◌&&◌, ◌==◌, nat_lt, List, [], ◌∷◌, length}
use Rattle.rd_check.specs.Rows.{Row, item, head}

-- How many entries the open groups still want, the innermost first; those that want no more are closed.
abbrev pub without_done : List ℕ → List ℕ
without_done [] = []
without_done (zero ∷ stack) = without_done stack
without_done (suc n ∷ stack) = suc n ∷ stack

-- the innermost wants one less
abbrev pub one_less : List ℕ → List ℕ
one_less [] = []
one_less (n ∷ stack) = (n - 1) ∷ stack

module _ {G L : Type 0} where
  -- the open groups after an entry
  abbrev pub opened : Row G L → List ℕ → List ℕ
  opened (item depth l) stack = stack
  opened (head depth g entries) stack = entries ∷ stack

  -- May the entry come, below just the open groups? A group has an entry, which is below at most 256.
  abbrev pub may_come : List ℕ → Row G L → Bool
  may_come stack (item depth l) = depth == length stack
  may_come stack (head depth g entries) = (depth == length stack) && (nat_lt 0 entries && nat_lt (length stack) 256)

  -- are the lines those of entries that the open groups want, and then of others?
  abbrev pub nests : List ℕ → List (Row G L) → Bool
  nests stack [] = length (without_done stack) == 0
  nests stack (r ∷ rs) = may_come (without_done stack) r && nests (opened r (one_less (without_done stack))) rs

  -- 1 for a leaf, and 0 for a group
  abbrev pub leaf_count : Row G L → ℕ
  leaf_count (item depth l) = 1
  leaf_count (head depth g entries) = 0

  -- how many of the lines are those of leaves
  abbrev pub leaves_in : List (Row G L) → ℕ
  leaves_in [] = 0
  leaves_in (r ∷ rs) = leaf_count r + leaves_in rs
