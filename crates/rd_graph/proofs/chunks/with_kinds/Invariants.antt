use Rattle.std.proofs.Common.{take}
use Rattle.rd_graph.specs.Internal.Chunks.{HasKinds, KeepsKinds}
use Rattle.rd_graph.proofs.chunks.with_kinds.Given as goal

abbrev pub invariant-loop-name : goal.invariant-loop-name
invariant-loop-name l = record {
  has : HasKinds l.all (take l.name-index l.names);
  keeps : KeepsKinds l.kinds l.all;
}
