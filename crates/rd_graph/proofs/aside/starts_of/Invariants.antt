use Rattle.std.proofs.Common.{length, ◌≡◌}
use Rattle.rd_graph.proofs.aside.starts_of.Given as goal

abbrev pub invariant-loop-run : goal.invariant-loop-run
invariant-loop-run l = record { len : length l.starts.items ≡ l.run-index }
