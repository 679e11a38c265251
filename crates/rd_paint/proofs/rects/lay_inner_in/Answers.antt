use Rattle.std.proofs.Common.{◌∙◌, ap, refl, arith}
use Rattle.std.specs.Prelude.{unsigned_abs}
use Rattle.std.proofs.lemmas.Int.{ints}
use Rattle.rd_geom.specs.Colors.{premultiplied, scaled, Premultiplied}
use Rattle.rd_list.specs.EntryNames.{kept_leaves}
use Rattle.rd_paint.specs.Internal.Picks.{picked}
use Rattle.rd_paint.proofs.Shown.Beside.{leaf_alone, uncovered}
use Rattle.rd_paint.proofs.rects.lay_inner_in.Goals as goal

pub returns-then-not-is_off : goal.returns-then-not-is_off
returns-then-not-is_off g c =
    rw c.in-Some.ensures.normal
    (leaf_alone c.args.rect.strip.corner c.in-Some.item.now.leaf c.scale-px.result (premultiplied c.in-Some.item.now.leaf.color) c.args.group.now.opacity (picked c.args.own.now (kept_leaves c.args.group.now.inner.entries)) c.args.rect.span c.args.rect.strip.y0 c.args.rect.strip.y1 c.args.canvas.now c.lay_item_in.new.canvas
    c.in-Some.ensures.leaf (c.scale-px.ensures.value ∙ ap (λ (q : Premultiplied). scaled q c.args.group.now.opacity) (c.px_of.ensures.value ∙ ap premultiplied c.color.ensures)) (λ x y d. refl) c.lay_item_in.ensures)

pub returns-else-not-is_off : goal.returns-else-not-is_off
returns-else-not-is_off g c =
    let z = premultiplied c.in-Some.item.now.leaf.color in
    rw c.in-Some.ensures.normal
    (leaf_alone c.args.rect.strip.corner c.in-Some.item.now.leaf (scaled z c.args.group.now.opacity) z c.args.group.now.opacity (picked c.args.own.now (kept_leaves c.args.group.now.inner.entries)) c.args.rect.span c.args.rect.strip.y0 c.args.rect.strip.y1 c.args.canvas.now c.args.canvas.now
    c.in-Some.ensures.leaf refl (λ x y d. refl)
    (uncovered c.args.rect.strip.corner (scaled z c.args.group.now.opacity) c.in-Some.item.now.leaf c.args.rect.span c.args.rect.strip.y0 c.args.rect.strip.y1 (unsigned_abs c.args.rect.span.x0) (unsigned_abs c.args.rect.span.x1) c.args.canvas.now (omega (arith, ints)) (omega (arith, ints)) (c.is_off.ensures c.if-not-is_off.false)))
