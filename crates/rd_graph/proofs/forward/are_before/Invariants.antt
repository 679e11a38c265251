use Rattle.std.proofs.Common.{ℕ, ◌<◌, get_or}
use Rattle.rd_graph.specs.Orders.{Before}
use Rattle.rd_graph.proofs.forward.are_before.Given as goal

abbrev pub invariant-loop-a : goal.invariant-loop-a
invariant-loop-a l = record { so_far : (k : ℕ) → k < l.a-index → Before l.line (get_or l.names k l.b) l.b }
