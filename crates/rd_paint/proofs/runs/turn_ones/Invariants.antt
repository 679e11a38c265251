use Rattle.std.proofs.Common.{◌≤◌, ◌-◌, length}
use Rattle.rd_paint.specs.Internal.Runs.{IsTurned}
use Rattle.rd_paint.proofs.runs.turn_ones.Given as goal

abbrev pub invariant-loop-end : goal.invariant-loop-end
invariant-loop-end l = record {
  more : l.from ≤ l.end;
  within : l.end ≤ length l.out;
  turned : IsTurned l.was l.laid l.from l.end l.initial.out l.out;
}

abbrev pub decreases-loop-end : goal.decreases-loop-end
decreases-loop-end l = length l.out - l.end
