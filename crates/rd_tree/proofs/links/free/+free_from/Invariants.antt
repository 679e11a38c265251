use Rattle.rd_tree.specs.Forest.{size}
use Rattle.rd_tree.specs.Internal.Linked.{seen_from}
use Rattle.rd_tree.proofs.Nodes.Freeing.{Freed}
use Rattle.rd_tree.proofs.links.free.+free_from.Given as goal

abbrev pub decreases-free_from : goal.decreases-free_from
decreases-free_from l = size (seen_from l.nodes.now l.first)

abbrev pub invariant-loop-at : goal.invariant-loop-at
invariant-loop-at l = Freed l.fn.nodes l.fn.first l.fn.ids l.nodes l.ids l.at

abbrev pub decreases-loop-at : goal.decreases-loop-at
decreases-loop-at l = size (seen_from l.nodes l.at)
