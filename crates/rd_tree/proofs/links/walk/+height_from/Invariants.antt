use Rattle.rd_tree.specs.Forest.{size}
use Rattle.rd_tree.specs.Internal.Linked.{seen_from}
use Rattle.rd_tree.proofs.Nodes.Works.{RowParts}
use Rattle.rd_tree.proofs.links.walk.+height_from.Given as goal

abbrev pub decreases-height_from : goal.decreases-height_from
decreases-height_from l = size (seen_from l.nodes.now l.first)

abbrev pub invariant-loop-at : goal.invariant-loop-at
invariant-loop-at l = RowParts l.nodes l.fn.first l.at l.most

abbrev pub decreases-loop-at : goal.decreases-loop-at
decreases-loop-at l = size (seen_from l.nodes l.at)
