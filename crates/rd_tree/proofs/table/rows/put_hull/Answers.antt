use Rattle.rd_tree.proofs.Tables.Cells.{others_kept}
use Rattle.rd_tree.proofs.table.rows.put_hull.Goals as goal

pub returns-clause-others : goal.returns-clause-others
returns-clause-others c = others_kept c.args.cells.now.items c.args.slot c.index_mut.result.now c.put.new.self c.requires c.index_mut.ensures.value c.put.ensures.others
