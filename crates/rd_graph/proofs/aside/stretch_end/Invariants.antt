use Rattle.std.proofs.Common.{length, ◌<◌, ◌≤◌, ◌-◌}
use Rattle.rd_graph.proofs.aside.stretch_end.Given as goal

abbrev pub invariant-loop-to : goal.invariant-loop-to
invariant-loop-to l = record { more : l.from < l.to; within : l.to ≤ length l.runs }

abbrev pub decreases-loop-to : goal.decreases-loop-to
decreases-loop-to l = length l.runs - l.to
