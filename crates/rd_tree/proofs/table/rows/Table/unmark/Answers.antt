use Rattle.std.proofs.Common.{◌<◌, length, refl, subst, sym}
use Rattle.rd_tree.proofs.Tables.Cells.{same_hull}
use Rattle.rd_tree.proofs.table.rows.Table.unmark.Goals as goal

pub invariant_of-self : goal.invariant_of-self
invariant_of-self c = same_hull c.self.inside.rows.items c.self.inside.cells.items c.args.slot c.index_mut.result.now _ c.self.invariant (subst (λ t. c.args.slot < length t.rows) (sym c.self.view_is) c.requires) c.index_mut.ensures.value refl
