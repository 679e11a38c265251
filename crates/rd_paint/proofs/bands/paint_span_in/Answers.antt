use Rattle.std.proofs.Common.{pos, inr, ap, arith}
use Rattle.std.proofs.lemmas.Int.{ints, clamps}
use Rattle.rd_geom.specs.declared.rect.Size.{Size}
use Rattle.rd_geom.specs.declared.span.Span.{Span}
use Rattle.rd_list.specs.Displayed.{shown}
use Rattle.rd_list.specs.Lists.{pixel}
use Rattle.rd_paint.specs.Internal.Picks.{picked}
use Rattle.rd_paint.proofs.Changing.{rect_cut, rect_off, columns_cut}
use Rattle.rd_paint.proofs.bands.paint_span_in.Goals as goal

pub paint_rect-requires-clause-on : goal.paint_rect-requires-clause-on
paint_rect-requires-clause-on g c =
    let w = ap (λ (s : Size). s.w) c.size-width.ensures.value in
    let x0 = ap (λ (s : Span). s.x0) c.cut-part.ensures in
    let x1 = ap (λ (s : Span). s.x1) c.cut-part.ensures in
    let left = ap (λ (s : Span). s.x0) c.columns.ensures in
    let right = ap (λ (s : Span). s.x1) c.columns.ensures in
    record {
      strip = c.requires.on;
      from = omega (arith, ints, clamps, x0, left);
      order = omega (arith, ints);
      within = omega (arith, ints, clamps, x1, right, w);
    }

pub returns-then-part : goal.returns-then-part
returns-then-part g c =
    let w = ap (λ (s : Size). s.w) c.size-width.ensures.value in
    rect_cut c.args.rect.strip.corner (λ x y p. pixel (picked c.args.picks.now (shown c.args.entries.now)) (pos x) (pos y)) c.args.rect.span c.cut-part.result c.args.rect.strip.y0 c.args.rect.strip.y1 c.args.canvas.now c.paint_rect.new.canvas
    (columns_cut c.args.rect.strip.corner c.args.rect.span c.cut-part.result c.columns.result c.args.canvas.now.width _ c.cut-part.ensures c.columns.ensures (omega (arith, ints, w))) c.paint_rect.ensures

pub returns-else-part : goal.returns-else-part
returns-else-part g c =
    let w = ap (λ (s : Size). s.w) c.size-width.ensures.value in
    rect_cut c.args.rect.strip.corner (λ x y p. pixel (picked c.args.picks.now (shown c.args.entries.now)) (pos x) (pos y)) c.args.rect.span c.cut-part.result c.args.rect.strip.y0 c.args.rect.strip.y1 c.args.canvas.now c.args.canvas.now
    (columns_cut c.args.rect.strip.corner c.args.rect.span c.cut-part.result c.columns.result c.args.canvas.now.width _ c.cut-part.ensures c.columns.ensures (omega (arith, ints, w)))
    (rect_off c.args.rect.strip.corner (λ x y p. pixel (picked c.args.picks.now (shown c.args.entries.now)) (pos x) (pos y)) c.cut-part.result c.args.rect.strip.y0 c.args.rect.strip.y1 c.args.canvas.now (inr (omega (arith, ints))))
