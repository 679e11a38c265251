use Rattle.rd_tree.specs.Internal.Linked.{linked}
use Rattle.rd_tree.proofs.Tables.Above.{from_up}
use Rattle.rd_tree.proofs.Tables.Hulling.{Hulling}
use Rattle.rd_tree.proofs.table.climb.move_hulls.Given as goal

abbrev pub invariant-loop-at : goal.invariant-loop-at
invariant-loop-at l = Hulling l.nodes l.fn.table.rows l.table.rows l.fn.from l.at l.lost l.gained

abbrev pub decreases-loop-at : goal.decreases-loop-at
decreases-loop-at l = from_up l.nodes.limit (linked l.nodes) l.at
