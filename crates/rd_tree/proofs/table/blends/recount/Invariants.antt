use Rattle.rd_tree.specs.Internal.Linked.{linked}
use Rattle.rd_tree.proofs.Tables.Above.{from_up}
use Rattle.rd_tree.proofs.Blending.Climbing.{Recounting}
use Rattle.rd_tree.proofs.table.blends.recount.Given as goal

abbrev pub invariant-loop-at : goal.invariant-loop-at
invariant-loop-at l = Recounting l.nodes l.fn.counts.items l.counts.items l.fn.from l.at l.less l.more

abbrev pub decreases-loop-at : goal.decreases-loop-at
decreases-loop-at l = from_up l.nodes.limit (linked l.nodes) l.at
