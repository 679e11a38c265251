use Rattle.rd_tree.specs.Forest.{size}
use Rattle.rd_tree.specs.Internal.Linked.{seen_from}
use Rattle.rd_tree.proofs.Nodes.Works.{Walked}
use Rattle.rd_tree.proofs.links.walk.+work_from.Given as goal

abbrev pub decreases-work_from : goal.decreases-work_from
decreases-work_from l = size (seen_from l.nodes.now l.first)

abbrev pub invariant-loop-at : goal.invariant-loop-at
invariant-loop-at l = Walked l.fn.nodes l.fn.first l.work l.nodes l.at

abbrev pub decreases-loop-at : goal.decreases-loop-at
decreases-loop-at l = size (seen_from l.nodes l.at)
