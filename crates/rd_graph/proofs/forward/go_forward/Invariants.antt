use Rattle.std.proofs.Common.{take}
use Rattle.rd_graph.specs.declared.graph.Node.{Node}
use Rattle.rd_graph.proofs.Reaching.Forward.{IsAfter}
use Rattle.rd_graph.proofs.Lists.Listing.{Has}
use Rattle.rd_graph.proofs.forward.go_forward.Given as goal

abbrev pub invariant-loop-node : goal.invariant-loop-node
invariant-loop-node l = record { so_far : (m : Node) → Has (take l.node-index l.nodes) m → IsAfter l.line m }
