use Rattle.rd_graph.specs.Orders.{Once}
use Rattle.rd_low_tests.proofs.graph.checked.distinct.Given as goal

abbrev pub invariant-loop-name : goal.invariant-loop-name
invariant-loop-name l = record { once : Once l.all.items }
