use Rattle.std.proofs.Common.{◌+ℤ◌, pos, FitsSigned, w32, rules}
use Rattle.std.proofs.lemmas.Int.{to_z-of_z}
use Rattle.rd_paint.proofs.Shown.Hiding.{leaf_hides}
use Rattle.rd_paint.proofs.covering.item_hides.Goals as goal

pub returns-then-color : goal.returns-then-color
returns-then-color g c = λ t k y d e h a b.
    let fx : FitsSigned w32 c.args.x0 = search rules in
    let f0 : FitsSigned w32 c.args.y0 = search rules in
    let f1 : FitsSigned w32 c.args.y1 = search rules in
    let fills = simp to_z-of_z at c.fills.ensures in
    leaf_hides c.args.item.now.leaf (c.args.x0 +ℤ pos k) y d e (rw c.color-color.ensures at c.if-color.true) (fills t k y h a b)
