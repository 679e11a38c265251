use Rattle.std.proofs.Common.{arith}
use Rattle.std.specs.Prelude.{unsigned_abs}
use Rattle.std.proofs.lemmas.Int.{ints}
use Rattle.rd_geom.specs.Colors.{premultiplied}
use Rattle.rd_paint.proofs.Shown.Beside.{uncovered}
use Rattle.rd_paint.proofs.rects.lay_leaf_in.Goals as goal

pub returns-then-not-is_off : goal.returns-then-not-is_off
returns-then-not-is_off g c = rw (c.px_of.ensures.value, c.color.ensures) at c.lay_item_in.ensures

pub returns-else-not-is_off : goal.returns-else-not-is_off
returns-else-not-is_off g c =
    uncovered c.args.rect.strip.corner (premultiplied c.args.item.now.leaf.color) c.args.item.now.leaf c.args.rect.span c.args.rect.strip.y0 c.args.rect.strip.y1 (unsigned_abs c.args.rect.span.x0) (unsigned_abs c.args.rect.span.x1) c.args.canvas.now (omega (arith, ints)) (omega (arith, ints)) (c.is_off.ensures c.if-not-is_off.false)
