use Rattle.std.proofs.Common.{◌+◌, ◌*◌}
use Rattle.rd_tree.specs.Forest.{size}
use Rattle.rd_tree.specs.Internal.Linked.{seen_from}
use Rattle.rd_tree.proofs.Tables.Filling.{Filled}
use Rattle.rd_tree.proofs.table.fill.+gathering.Given as goal

abbrev pub decreases-gather_below : goal.decreases-gather_below
decreases-gather_below l = 2 * size (seen_from l.nodes.now l.first) + 1

abbrev pub decreases-gather : goal.decreases-gather
decreases-gather l = 2 * size (seen_from l.nodes.now l.first)

abbrev pub invariant-gather-loop-at : goal.invariant-gather-loop-at
invariant-gather-loop-at l = Filled l.nodes l.fn.table.rows l.table.rows l.fn.first l.at l.all

abbrev pub decreases-gather-loop-at : goal.decreases-gather-loop-at
decreases-gather-loop-at l = size (seen_from l.nodes l.at)
