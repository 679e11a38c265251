use Rattle.std.proofs.Common.{◌/◌, IsTrue, arith, subst, sym}
use Rattle.rd_tree.specs.Internal.Cells.{IsReach, cells_at}
use Rattle.rd_tree.proofs.Tables.Cells.{others_kept, same_cells}
use Rattle.rd_tree.proofs.table.rows.move_hull.Goals as goal

pub returns-then-not-is_same-clause-others : goal.returns-then-not-is_same-clause-others
returns-then-not-is_same-clause-others c = others_kept c.args.cells.now.items c.args.slot c.index_mut.result.now c.move_row.new.cells c.requires c.index_mut.ensures.value c.move_row.ensures.others

pub returns-else-not-is_same-clause-here : goal.returns-else-not-is_same-clause-here
returns-else-not-is_same-clause-here c =
    let t : IsTrue c.is_same.result = grind arith in
    same_cells (cells_at c.args.cells.now.items (c.args.slot / 64)) c.args.slot c.reach_of-was.result c.args.was.now c.args.is.now c.reach_of-was.ensures.reach
    (subst (λ w. IsReach w c.args.is.now) (sym (c.is_same.ensures t)) c.reach_of-is.ensures.reach)
