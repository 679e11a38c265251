use Rattle.std.proofs.Common.{◌≡◌, take}
use Rattle.rd_graph.specs.Graphs.{nodes}
use Rattle.rd_graph.specs.Internal.Seen.{seen}
use Rattle.rd_graph.proofs.thinning.places_of.Given as goal

abbrev pub invariant-loop-node : goal.invariant-loop-node
invariant-loop-node l = record { names : l.names.items ≡ nodes (seen (take l.node-index l.nodes)) }
