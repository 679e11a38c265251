use Rattle.rd_tree.specs.Internal.Linked.{linked}
use Rattle.rd_tree.proofs.Tables.Above.{from_up}
use Rattle.rd_tree.proofs.Tables.Marking.{Marking}
use Rattle.rd_tree.proofs.table.climb.mark_up.Given as goal

abbrev pub invariant-loop-at : goal.invariant-loop-at
invariant-loop-at l = Marking l.nodes l.fn.table.rows l.table.rows l.fn.from l.at l.less l.more

abbrev pub decreases-loop-at : goal.decreases-loop-at
decreases-loop-at l = from_up l.nodes.limit (linked l.nodes) l.at
