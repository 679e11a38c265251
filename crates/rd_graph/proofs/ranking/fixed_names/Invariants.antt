use Rattle.std.proofs.Common.{◌≡◌, ◌++◌, drop}
use Rattle.rd_graph.specs.Internal.Ranks.{fixed}
use Rattle.rd_graph.proofs.ranking.fixed_names.Given as goal

abbrev pub invariant-loop-i : goal.invariant-loop-i
invariant-loop-i l = record { names : l.names.items ++ fixed l.stays (drop l.i l.places) (drop l.i l.chain) ≡ fixed l.stays l.places l.chain }
