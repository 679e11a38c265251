use Rattle.std.proofs.Common.{◌≡◌, drop}
use Rattle.std.specs.Vec.Iter.{into_iter_items}
use Rattle.rd_graph.proofs.lining_up.pass_over.Given as goal

abbrev pub invariant-loop : goal.invariant-loop
invariant-loop g l = record { left : into_iter_items l.rest ≡ drop l.counter (into_iter_items l.fn.rest) }
