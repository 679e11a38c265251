use Rattle.std.proofs.Common.{◌∙◌, ◌≤◌, refl, arith}
use Rattle.std.specs.Prelude.{unsigned_abs}
use Rattle.std.proofs.lemmas.Int.{ints}
use Rattle.rd_geom.specs.Colors.{white}
use Rattle.rd_paint.proofs.Changing.{Change, row_by, replicate_each}
use Rattle.rd_paint.proofs.rects.whiten_row.Goals as goal

abbrev made : Change
made x y p = white

pub returns : goal.returns
returns c =
    let above : c.args.rect.strip.corner.top ≤ c.args.row = omega (arith, c.requires.rect.strip.above, c.requires.from) in
    row_by c.args.rect.strip.corner made c.args.rect.span c.args.row (unsigned_abs c.args.rect.span.x0) (unsigned_abs c.args.rect.span.x1) (λ k p. white) c.part_mut-out.result.now c.fill.new.out c.args.canvas.now _
    (omega (arith, ints)) (omega (arith, ints)) (omega (arith, ints)) (omega (arith, ints)) above c.part_mut-out.ensures.value c.part_mut-out.ensures.len
    (c.fill.ensures ∙ replicate_each white 0 c.part_mut-out.result.now) (λ k p l. refl) (c.part_mut-out.ensures.exact c.fill.new.out (c.fill.auto.out ∙ c.part_mut-out.ensures.len))
