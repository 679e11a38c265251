use Rattle.std.proofs.Common.{◌≡◌, ◌<◌, ℕ, false, get_or}
use Rattle.rd_keys.specs.Keys.{same_key}
use Rattle.rd_low_tests.specs.DrawnLevels.{Spot}
use Rattle.rd_low_tests.proofs.merge.checked.are_apart.Given as goal

abbrev pub invariant-loop-i : goal.invariant-loop-i
invariant-loop-i l = record { so_far : (k j : ℕ) (d : Spot) → k < j → j < l.i → same_key (get_or l.spots k d).0 (get_or l.spots j d).0 ≡ false }
