use Rattle.rd_tree.specs.Forest.{size}
use Rattle.rd_tree.specs.Internal.Linked.{seen_from}
use Rattle.rd_tree.proofs.Contexts.Blends.{Sought}
use Rattle.rd_tree.proofs.drawn_tree.contexts.+any_blended_from.Given as goal

abbrev pub decreases-any_blended_from : goal.decreases-any_blended_from
decreases-any_blended_from l = size (seen_from l.nodes.now l.first)

abbrev pub invariant-loop-at : goal.invariant-loop-at
invariant-loop-at l = Sought l.nodes l.fn.first l.at

abbrev pub decreases-loop-at : goal.decreases-loop-at
decreases-loop-at l = size (seen_from l.nodes l.at)
