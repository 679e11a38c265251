use Rattle.std.proofs.Common.{◌≤◌, ◌-◌, length}
use Rattle.rd_paint.specs.Internal.Runs.{IsTurned}
use Rattle.rd_paint.proofs.runs.turn_eights.Given as goal

abbrev pub invariant-loop-out : goal.invariant-loop-out
invariant-loop-out l = record {
  more : l.from ≤ l.end;
  within : l.end ≤ length l.out;
  turned : IsTurned l.was l.laid l.from l.end l.initial.out l.out;
}

abbrev pub decreases-loop-out : goal.decreases-loop-out
decreases-loop-out l = length l.out - l.end
