use Rattle.std.proofs.Common.{FitsSigned, w32, rules}
use Rattle.std.proofs.lemmas.Int.{to_z-of_z}
use Rattle.rd_paint.specs.Internal.Picks.{picked}
use Rattle.rd_paint.proofs.Picking.{entry_at-leaf}
use Rattle.rd_paint.proofs.chosen.begin_entry.Goals as goal

pub returns-in-Leaf : goal.returns-in-Leaf
returns-in-Leaf g c = λ t own.
    let fx : FitsSigned w32 c.args.x0 = search rules in
    let fy : FitsSigned w32 c.args.y = search rules in
    let begun = simp to_z-of_z at c.begin_item.ensures in
    rw (c.in-Leaf.is, entry_at-leaf (picked own) c.in-Leaf.item.leaf) (begun t)
