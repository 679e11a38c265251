use Rattle.std.proofs.Common.{◌≡◌, ◌≤◌, ◌+◌, ◌∙◌, ◌+ℤ◌, pos, cond, not, ap, arith, FitsSigned, w32, to_z, rules}
use Rattle.std.specs.Prelude.{unsigned_abs}
use Rattle.std.proofs.lemmas.Int.{to_z-of_z, ints}
use Rattle.rd_geom.specs.Colors.{laid_over}
use Rattle.rd_geom.specs.Plane.{holds_pixel}
use Rattle.rd_paint.specs.Internal.Rects.{over_around}
use Rattle.rd_paint.proofs.Changing.{row_by}
use Rattle.rd_paint.proofs.rects.lay_one_row.Goals as goal

pub returns : goal.returns
returns c =
    let above : c.args.rect.strip.corner.top ≤ c.args.row = omega (arith, c.requires.rect.strip.above, c.requires.from) in
    let ey : to_z w32 c.args.row ≡ pos c.args.row = omega (arith, ints) in
    let f0 : FitsSigned w32 c.args.rect.span.x0 = search rules in
    let laid = simp to_z-of_z at (rw ey at c.lay_around.ensures) in
    row_by c.args.rect.strip.corner (over_around c.args.px c.args.hole) c.args.rect.span c.args.row (unsigned_abs c.args.rect.span.x0) (unsigned_abs c.args.rect.span.x1) (λ k p. cond (not (holds_pixel c.args.hole (c.args.rect.span.x0 +ℤ pos k) (pos c.args.row))) (laid_over c.args.px p) p) c.part_mut-out.result.now c.lay_around.new.out c.args.canvas.now _
    (omega (arith, ints)) (omega (arith, ints)) (omega (arith, ints)) (omega (arith, ints)) above c.part_mut-out.ensures.value c.part_mut-out.ensures.len
    laid (λ k p l. let e : c.args.rect.span.x0 +ℤ pos k ≡ pos (unsigned_abs c.args.rect.span.x0 + k) = omega (arith, ints) in
    ap (λ z. cond (not (holds_pixel c.args.hole z (pos c.args.row))) (laid_over c.args.px p) p) e) (c.part_mut-out.ensures.exact c.lay_around.new.out (c.lay_around.auto.out ∙ c.part_mut-out.ensures.len))
