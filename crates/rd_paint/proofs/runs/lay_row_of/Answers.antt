use Rattle.std.proofs.Common.{◌∙◌, sym, FitsSigned, w32, rules}
use Rattle.std.proofs.lemmas.Int.{to_z-of_z}
use Rattle.rd_paint.proofs.Pieces.{hole_met, hole_missed}
use Rattle.rd_paint.proofs.runs.lay_row_of.Goals as goal

pub returns-then-has_row : goal.returns-then-has_row
returns-then-has_row c =
    let fx : FitsSigned w32 c.args.x0 = search rules in
    let fy : FitsSigned w32 c.args.y = search rules in
    let row = simp to_z-of_z at c.has_row.ensures in
    let laid = simp to_z-of_z at c.lay_round.ensures in
    laid ∙ hole_met c.args.span c.args.hole c.args.px c.args.y c.args.x0 c.args.out.now (sym row ∙ c.if-has_row.true)

pub returns-else-has_row : goal.returns-else-has_row
returns-else-has_row c =
    let fx : FitsSigned w32 c.args.x0 = search rules in
    let fy : FitsSigned w32 c.args.y = search rules in
    let row = simp to_z-of_z at c.has_row.ensures in
    let laid = simp to_z-of_z at c.lay_columns.ensures in
    laid ∙ hole_missed c.args.span c.args.hole c.args.px c.args.y c.args.x0 c.args.out.now (sym row ∙ c.if-has_row.false)
