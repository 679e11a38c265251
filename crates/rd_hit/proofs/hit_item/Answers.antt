use Rattle.std.proofs.Common.{◌∙◌, sym, ap, Some, FitsSigned, w32, rules}
use Rattle.std.proofs.lemmas.Int.{to_z-of_z}
use Rattle.rd_hit.proofs.Downward.{leaf_hit, leaf_missed}
use Rattle.rd_hit.proofs.hit_item.Goals as goal

pub returns-then-is_hit : goal.returns-then-is_hit
returns-then-is_hit g c =
    let fx : FitsSigned w32 c.args.x = search rules in
    let fy : FitsSigned w32 c.args.y = search rules in
    let e = simp to_z-of_z at c.is_hit.ensures in
    ap Some c.owner.ensures ∙ leaf_hit c.args.x c.args.y c.args.item.now.leaf (sym e ∙ c.if-is_hit.true)

pub returns-else-is_hit : goal.returns-else-is_hit
returns-else-is_hit g c =
    let fx : FitsSigned w32 c.args.x = search rules in
    let fy : FitsSigned w32 c.args.y = search rules in
    let e = simp to_z-of_z at c.is_hit.ensures in
    leaf_missed c.args.x c.args.y c.args.item.now.leaf (sym e ∙ c.if-is_hit.false)
