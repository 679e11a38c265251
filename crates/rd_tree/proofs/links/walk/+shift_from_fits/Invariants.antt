use Rattle.rd_style.specs.Limits.{FitsRect}
use Rattle.rd_tree.specs.Forest.{size}
use Rattle.rd_tree.specs.Internal.Linked.{seen_from}
use Rattle.rd_tree.specs.Changes.{shifted}
use Rattle.rd_tree.proofs.Nodes.Works.{Fitted}
use Rattle.rd_tree.proofs.links.walk.+shift_from_fits.Given as goal

abbrev pub decreases-shift_from_fits : goal.decreases-shift_from_fits
decreases-shift_from_fits l = size (seen_from l.nodes.now l.first)

abbrev pub invariant-loop-at : goal.invariant-loop-at
invariant-loop-at l = Fitted (λ d. FitsRect (shifted l.by.dx l.by.dy d.rect)) l.rows l.nodes l.fn.first l.at

abbrev pub decreases-loop-at : goal.decreases-loop-at
decreases-loop-at l = size (seen_from l.nodes l.at)
