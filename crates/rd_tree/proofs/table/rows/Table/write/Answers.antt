use Rattle.std.proofs.Common.{◌<◌, length, subst, sym}
use Rattle.rd_tree.proofs.Tables.Cells.{reached_written, told_here}
use Rattle.rd_tree.proofs.table.rows.Table.write.Goals as goal

pub invariant_of-self : goal.invariant_of-self
invariant_of-self c =
    let l = subst (λ t. c.args.slot < length t.rows) (sym c.self.view_is) c.requires in
    reached_written c.self.inside.rows.items c.self.inside.cells.items c.move_hull.new.cells.items c.args.slot c.args.row c.self.invariant l c.move_hull.ensures.len
    (c.move_hull.ensures.here (told_here c.self.inside.rows.items c.self.inside.cells.items c.args.slot c.index.result.now c.self.invariant l c.index.ensures)) c.move_hull.ensures.others
