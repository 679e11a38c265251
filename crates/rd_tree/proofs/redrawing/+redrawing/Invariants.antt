use Rattle.std.proofs.Common.{◌+◌, ◌*◌}
use Rattle.rd_tree.specs.Forest.{size}
use Rattle.rd_tree.specs.Internal.Linked.{seen_from}
use Rattle.rd_tree.proofs.Redrawn.{Redrawing}
use Rattle.rd_tree.proofs.redrawing.+redrawing.Given as goal

abbrev pub decreases-redraw_below : goal.decreases-redraw_below
decreases-redraw_below l = 2 * size (seen_from l.nodes.now l.first) + 1

abbrev pub decreases-redraw : goal.decreases-redraw
decreases-redraw l = 2 * size (seen_from l.nodes.now l.first)

abbrev pub invariant-redraw-loop-at : goal.invariant-redraw-loop-at
invariant-redraw-loop-at l = Redrawing l.fn.asked l.fn.nodes l.fn.rows.items l.fn.handed l.fn.first l.nodes l.rows.items l.at

abbrev pub decreases-redraw-loop-at : goal.decreases-redraw-loop-at
decreases-redraw-loop-at l = size (seen_from l.nodes l.at)
