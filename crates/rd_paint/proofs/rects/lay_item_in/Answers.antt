use Rattle.std.proofs.Common.{◌≡◌, ◌+◌, ◌∙◌, inl, inr, ◌+ℤ◌, pos, refl, ap, subst, arith, FitsSigned, w32, to_z, rules}
use Rattle.std.specs.Prelude.{unsigned_abs}
use Rattle.std.proofs.lemmas.Int.{to_z-of_z, ints}
use Rattle.rd_geom.specs.Areas.{in_span}
use Rattle.rd_geom.specs.Plane.{Rectangle, right, bottom}
use Rattle.rd_geom.specs.declared.span.Span.{Span}
use Rattle.rd_item.specs.declared.leaf.Shape.{Shape}
use Rattle.rd_paint.specs.Internal.Rects.{IsRectChanged, over_around}
use Rattle.rd_paint.proofs.Changing.{leaf_laid, rect_off}
use Rattle.rd_paint.proofs.Strips.{strip_part}
use Rattle.rd_paint.proofs.rects.lay_item_in.Goals as goal
use Rattle.rd_paint.proofs.rects.lay_item_in.Goals.{else-left-right-via-then-left-right+else-top-bottom, else-left-right-via-else-left-right}

abbrev columns_of : Rectangle → Span
columns_of r = record { x0 = r.x; x1 = right r }

abbrev rows_of : Rectangle → Span
rows_of r = record { x0 = r.y; x1 = bottom r }

pub lay_rows-requires : goal.lay_rows-requires
lay_rows-requires g c =
    let e = ap (λ (s : Span). s.x0) c.part_of-part.ensures in
    let f = ap (λ (s : Span). s.x1) c.part_of-part.ensures in
    let w = c.clipped-left.ensures.within in
    let h = c.clipped-top.ensures.within in
    let on = c.requires in
    record {
      strip = strip_part c.args.canvas.now c.args.rect.strip _ _ (omega arith) (omega arith) (omega (arith, h)) on.strip;
      from = omega (arith, ints, e, on.from);
      order = omega (arith, ints, e, f);
      within = omega (arith, ints, f, w, on.within, on.order);
    }

pub returns-then-top-bottom : goal.returns-then-top-bottom
returns-then-top-bottom g c =
    let ey : to_z w32 c.args.rect.strip.y0 ≡ pos c.args.rect.strip.y0 = omega (arith, ints) in
    let f0 : FitsSigned w32 c.args.rect.span.x0 = search rules in
    let f1 : FitsSigned w32 c.args.rect.span.x1 = search rules in
    let across = simp to_z-of_z at c.clipped-left.ensures.places in
    let down = rw ey at c.clipped-top.ensures.places in
    let part = c.part_of-part.ensures in
    leaf_laid c.args.rect.strip.corner c.args.item.now.leaf c.args.px c.args.rect.span c.part_of-part.result c.columns.result c.rows_of.result c.args.rect.strip.y0 c.args.rect.strip.y1 (unsigned_abs c.args.rect.span.x0) (unsigned_abs c.args.rect.span.x1) c.clipped-left.result.0 c.clipped-left.result.1 c.clipped-top.result.0 c.clipped-top.result.1 c.args.canvas.now c.lay_rows.new.canvas
    (rw c.visible-seen.ensures.value at c.visible-seen.ensures.within)
    (omega (arith, ints)) (omega (arith, ints)) (ap (λ (s : Span). s.x0) part ∙ omega (arith, ints)) (ap (λ (s : Span). s.x1) part ∙ omega (arith, ints))
    (let w = c.clipped-left.ensures.within in omega (arith, ints, w)) (c.clipped-top.ensures.within)
    (c.columns.ensures ∙ ap columns_of c.visible-seen.ensures.value) (c.rows_of.ensures ∙ ap rows_of c.visible-seen.ensures.value)
    (λ k l. let e : pos (unsigned_abs c.args.rect.span.x0 + k) ≡ c.args.rect.span.x0 +ℤ pos k = omega (arith, ints) in ap (in_span c.columns.result) e ∙ across k (omega (arith, ints, l)))
    (λ k l. down k l)
    (subst (λ (s : Shape). IsRectChanged c.args.rect.strip.corner (over_around c.args.px s.inner) c.part_of-part.result (c.args.rect.strip.y0 + c.clipped-top.result.0) (c.args.rect.strip.y0 + c.clipped-top.result.1) c.args.canvas.now c.lay_rows.new.canvas) c.shape.ensures c.lay_rows.ensures)

pub returns-else-left-right : goal.returns-else-left-right
returns-else-left-right g c =
    let ey : to_z w32 c.args.rect.strip.y0 ≡ pos c.args.rect.strip.y0 = omega (arith, ints) in
    let f0 : FitsSigned w32 c.args.rect.span.x0 = search rules in
    let f1 : FitsSigned w32 c.args.rect.span.x1 = search rules in
    let across = simp to_z-of_z at c.clipped-left.ensures.places in
    let down = rw ey at c.clipped-top.ensures.places in
    let a = unsigned_abs c.args.rect.span.x0 in
    leaf_laid c.args.rect.strip.corner c.args.item.now.leaf c.args.px c.args.rect.span (record { x0 = pos (a + c.clipped-left.result.0); x1 = pos (a + c.clipped-left.result.1) }) c.columns.result c.rows_of.result c.args.rect.strip.y0 c.args.rect.strip.y1 (unsigned_abs c.args.rect.span.x0) (unsigned_abs c.args.rect.span.x1) c.clipped-left.result.0 c.clipped-left.result.1 c.clipped-top.result.0 c.clipped-top.result.1 c.args.canvas.now c.args.canvas.now
    (rw c.visible-seen.ensures.value at c.visible-seen.ensures.within)
    (omega (arith, ints)) (omega (arith, ints)) refl refl
    (let w = c.clipped-left.ensures.within in omega (arith, ints, w)) (c.clipped-top.ensures.within)
    (c.columns.ensures ∙ ap columns_of c.visible-seen.ensures.value) (c.rows_of.ensures ∙ ap rows_of c.visible-seen.ensures.value)
    (λ k l. let e : pos (unsigned_abs c.args.rect.span.x0 + k) ≡ c.args.rect.span.x0 +ℤ pos k = omega (arith, ints) in ap (in_span c.columns.result) e ∙ across k (omega (arith, ints, l)))
    (λ k l. down k l)
    (rect_off c.args.rect.strip.corner (over_around c.args.px c.args.item.now.leaf.shape.inner) (record { x0 = pos (a + c.clipped-left.result.0); x1 = pos (a + c.clipped-left.result.1) }) (c.args.rect.strip.y0 + c.clipped-top.result.0) (c.args.rect.strip.y0 + c.clipped-top.result.1) c.args.canvas.now
    (elim c.else-left-right.branch [ else-left-right-via-then-left-right+else-top-bottom w ↦ inl (let h = w.if-top-bottom.false in omega (arith, h)) | else-left-right-via-else-left-right w ↦ inr (let h = w.if-left-right.false in omega (arith, ints, h)) ]))
