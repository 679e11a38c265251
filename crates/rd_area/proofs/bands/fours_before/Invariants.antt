use Rattle.std.proofs.Common.{ℕ, ◌<◌, ◌≤◌, ◌-◌, get_or, length}
use Rattle.rd_area.proofs.bands.fours_before.Given as goal

abbrev pub invariant-loop-first : goal.invariant-loop-first
invariant-loop-first l = record {
  within : l.first ≤ length l.ends;
  before : (i : ℕ) → i < l.first → get_or l.ends i 0 < l.y;
}

abbrev pub decreases-loop-first : goal.decreases-loop-first
decreases-loop-first l = length l.ends - l.first
