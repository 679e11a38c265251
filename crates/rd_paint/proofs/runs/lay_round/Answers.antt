use Rattle.std.proofs.Common.{◌∙◌, ap, FitsSigned, w32, rules, List}
use Rattle.std.proofs.lemmas.Int.{to_z-of_z}
use Rattle.rd_geom.specs.Colors.{Premultiplied}
use Rattle.rd_paint.specs.Internal.Runs.{piece_laid}
use Rattle.rd_paint.proofs.Pieces.{round_pieces, hole_order}
use Rattle.rd_paint.proofs.runs.lay_round.Goals as goal

pub returns : goal.returns
returns c =
    let fx : FitsSigned w32 c.args.x0 = search rules in
    let f0 : FitsSigned w32 c.x.result = search rules in
    let f1 : FitsSigned w32 c.right.result = search rules in
    let first = simp to_z-of_z at c.lay_columns.ensures in
    let second = simp to_z-of_z at c.lay_columns-2.ensures in
    let before = rw c.x.ensures.value at (simp to_z-of_z at c.left_of-before.ensures) in
    let after = rw c.right.ensures.value at (simp to_z-of_z at c.right_from-after.ensures) in
    second ∙ ap (λ (ps : List Premultiplied). piece_laid c.right_from-after.result c.args.px c.args.x0 ps) first
    ∙ round_pieces c.args.span c.left_of-before.result c.right_from-after.result c.args.hole c.args.px c.args.x0 c.args.out.now (hole_order c.args.hole c.x.ensures.placed) before after
