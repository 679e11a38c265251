use Rattle.std.proofs.Common.{◌∙◌, sym, FitsSigned, w32, rules}
use Rattle.std.proofs.lemmas.Int.{to_z-of_z}
use Rattle.rd_paint.proofs.Pieces.{around_met, around_missed}
use Rattle.rd_paint.proofs.runs.lay_around.Goals as goal

pub returns-then-has_row : goal.returns-then-has_row
returns-then-has_row c =
    let fx : FitsSigned w32 c.args.x0 = search rules in
    let fy : FitsSigned w32 c.args.y = search rules in
    let row = simp to_z-of_z at c.has_row.ensures in
    let run = simp to_z-of_z at c.run_of.ensures in
    let laid = simp to_z-of_z at c.lay_round.ensures in
    laid ∙ around_met c.run_of.result c.args.hole c.args.px c.args.y c.args.x0 c.args.out.now run (sym row ∙ c.if-has_row.true)

pub returns-else-has_row : goal.returns-else-has_row
returns-else-has_row c =
    let fy : FitsSigned w32 c.args.y = search rules in
    let row = simp to_z-of_z at c.has_row.ensures in
    c.lay_px.ensures ∙ around_missed c.args.hole c.args.px c.args.y c.args.x0 c.args.out.now (sym row ∙ c.if-has_row.false)
