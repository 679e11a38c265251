use Rattle.rd_graph.specs.Internal.Chunks.{HasAlong}
use Rattle.rd_graph.specs.Internal.Seen.{seen}
use Rattle.rd_graph.proofs.chunks.kinds_along.Given as goal

abbrev pub invariant-loop-place : goal.invariant-loop-place
invariant-loop-place l = record { has : HasAlong l.kinds (seen l.nodes) l.from l.place }
