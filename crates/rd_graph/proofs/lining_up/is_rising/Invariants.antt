use Rattle.std.proofs.Common.{drop}
use Rattle.rd_graph.specs.Runs.{RunsRise}
use Rattle.rd_graph.proofs.lining_up.is_rising.Given as goal

abbrev pub invariant-loop-run : goal.invariant-loop-run
invariant-loop-run l = record {
  so_far : RunsRise l.old l.made l.next_old l.next_made (drop l.run-index l.runs) → RunsRise l.old l.made 0 0 l.runs;
}
