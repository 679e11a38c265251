use Rattle.std.proofs.Common.{◌≡◌, ◌<◌, ℕ, false, get_or}
use Rattle.rd_keys.specs.Keys.{same_key}
use Rattle.rd_low_tests.specs.DrawnLevels.{Spot}
use Rattle.rd_low_tests.proofs.merge.checked.is_alone.Given as goal

abbrev pub invariant-loop-j : goal.invariant-loop-j
invariant-loop-j l = record { so_far : (k : ℕ) (d : Spot) → k < l.j → same_key (get_or l.spots k d).0 l.key ≡ false }
