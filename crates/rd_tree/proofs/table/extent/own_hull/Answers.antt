use Rattle.rd_tree.proofs.Summaries.Extents.{extent_is_placed}
use Rattle.rd_tree.proofs.table.extent.own_hull.Goals as goal

pub outset-requires : goal.outset-requires
outset-requires c = extent_is_placed c.args.rect c.args.style.now c.requires.rect c.requires.style
