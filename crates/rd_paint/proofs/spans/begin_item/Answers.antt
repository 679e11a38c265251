use Rattle.std.proofs.Common.{◌∙◌, sym, ap, length, replicate, FitsSigned, w32, rules}
use Rattle.std.proofs.lemmas.Int.{to_z-of_z}
use Rattle.rd_geom.specs.Colors.{premultiplied, clear}
use Rattle.rd_geom.specs.Plane.{Rectangle, right}
use Rattle.rd_geom.specs.declared.span.Span.{Span}
use Rattle.rd_paint.proofs.Pieces.{hole_missed, row_shown}
use Rattle.rd_paint.proofs.spans.begin_item.Goals as goal

abbrev columns_of : Rectangle → Span
columns_of r = record { x0 = r.x; x1 = right r }

pub returns : goal.returns
returns g c = λ t.
    let fx : FitsSigned w32 c.args.x0 = search rules in
    let fy : FitsSigned w32 c.args.y = search rules in
    let row = simp to_z-of_z at c.has_row.ensures in
    let hole = simp to_z-of_z at c.has_row-2.ensures in
    let begun = simp to_z-of_z at c.begin_columns.ensures in
    begun
    ∙ hole_missed c.columns.result c.args.item.now.leaf.shape.inner c.px_of.result c.args.y c.args.x0 (replicate (length c.args.out.now) clear) (rw c.shape-shape.ensures at (sym hole ∙ c.if-has_row.false))
    ∙ row_shown c.args.item.now.leaf c.columns.result c.px_of.result c.args.y c.args.x0 (replicate (length c.args.out.now) clear) (rw c.visible-seen.ensures.value at c.visible-seen.ensures.within)
    (rw c.visible-seen.ensures.value at (sym row ∙ c.if-not-has_row.false)) (c.columns.ensures ∙ ap columns_of c.visible-seen.ensures.value) (c.px_of.ensures.value ∙ ap premultiplied c.color.ensures)
