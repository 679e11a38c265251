use Rattle.std.proofs.Common.{◌≡◌, ◌<◌, ◌≤◌, ◌-◌, ℕ, length, get_or}
use Rattle.rd_geom.specs.Colors.{clear}
use Rattle.rd_paint.proofs.runs.both_same_until.Given as goal

abbrev pub invariant-loop-end : goal.invariant-loop-end
invariant-loop-end l = record {
  more : l.from < l.end;
  within : l.end ≤ length l.out;
  same : (k : ℕ) → l.from ≤ k → k < l.end → get_or l.out k clear ≡ get_or l.out l.from clear;
  same_row : (k : ℕ) → l.from ≤ k → k < l.end → get_or l.row k clear ≡ get_or l.row l.from clear;
}

abbrev pub decreases-loop-end : goal.decreases-loop-end
decreases-loop-end l = length l.out - l.end

abbrev pub invariant-loop-end-2 : goal.invariant-loop-end-2
invariant-loop-end-2 l = record {
  more : l.from < l.end;
  within : l.end ≤ length l.out;
  same : (k : ℕ) → l.from ≤ k → k < l.end → get_or l.out k clear ≡ get_or l.out l.from clear;
  same_row : (k : ℕ) → l.from ≤ k → k < l.end → get_or l.row k clear ≡ get_or l.row l.from clear;
}

abbrev pub decreases-loop-end-2 : goal.decreases-loop-end-2
decreases-loop-end-2 l = length l.out - l.end
