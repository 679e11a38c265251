use Rattle.std.proofs.Common.{FitsSigned, w32, rules}
use Rattle.std.proofs.lemmas.Int.{to_z-of_z}
use Rattle.rd_paint.proofs.Pieces.{part_laid}
use Rattle.rd_paint.proofs.runs.lay_columns.Goals as goal

pub returns : goal.returns
returns c =
    let f : FitsSigned w32 c.args.x0 = search rules in
    let at = simp to_z-of_z at c.clipped-from.ensures.places in
    part_laid c.args.span c.args.px c.args.x0 c.args.out.now c.lay_px.new.out _ _ c.clipped-from.ensures.order c.clipped-from.ensures.within at c.lay_px.ensures
