use Rattle.std.proofs.Common.{◌≡◌, ◌+◌, ◌*◌}
use Rattle.rd_tree.specs.Forest.{size}
use Rattle.rd_tree.specs.Internal.Linked.{seen_from}
use Rattle.rd_tree.specs.Hulls.{touched_in}
use Rattle.rd_tree.proofs.Tables.Settling.{Settling}
use Rattle.rd_tree.proofs.table.settle.+settling.Given as goal

abbrev pub decreases-settle_below : goal.decreases-settle_below
decreases-settle_below l = 2 * size (seen_from l.nodes.now l.first) + 1

abbrev pub decreases-settle_from : goal.decreases-settle_from
decreases-settle_from l = 2 * size (seen_from l.nodes.now l.first)

abbrev pub invariant-settle_from-loop-at : goal.invariant-settle_from-loop-at
invariant-settle_from-loop-at l =
    Settling l.fn.nodes l.nodes l.fn.table.rows l.table.rows l.fn.first l.at × (l.left ≡ touched_in (seen_from l.nodes l.at))

abbrev pub decreases-settle_from-loop-at : goal.decreases-settle_from-loop-at
decreases-settle_from-loop-at l = size (seen_from l.nodes l.at)
