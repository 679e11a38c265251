use Rattle.std.proofs.Common.{take}
use Rattle.rd_graph.specs.Internal.Thinning.{Leaves}
use Rattle.rd_graph.proofs.thinning.without.Given as goal

abbrev pub invariant-loop-key : goal.invariant-loop-key
invariant-loop-key l = record { leaves : Leaves l.names (take l.key-index l.list) l.left.items }
