use Rattle.std.proofs.Common.{ℕ, ◌-◌, ◌<◌, ◌≤◌, [], get_or, length, IsFalse}
use Rattle.rd_area.specs.Internal.Bands.{band_of}
use Rattle.rd_area.specs.Internal.Joining.{row_meets}
use Rattle.rd_area.specs.Internal.Normal.{spans_of}
use Rattle.rd_area.proofs.bands.meets.Given as goal

abbrev pub invariant-loop-k : goal.invariant-loop-k
invariant-loop-k l = record {
  first : band_of l.ends l.from ≤ l.k;
  within : l.k ≤ length l.ends;
  before : (j : ℕ) → j < l.k → get_or l.ends j 0 < l.to;
  none : (n : ℕ) → band_of l.ends l.from ≤ n → n < l.k → IsFalse (row_meets (get_or (spans_of l.bands.items) n []) l.span);
}

abbrev pub decreases-loop-k : goal.decreases-loop-k
decreases-loop-k l = length l.ends - l.k
