use Rattle.std.proofs.Common.{◌∙◌, sym, ap, FitsSigned, w32, rules}
use Rattle.std.proofs.lemmas.Int.{to_z-of_z}
use Rattle.rd_geom.specs.Colors.{premultiplied}
use Rattle.rd_geom.specs.Plane.{Rectangle, is_among, right}
use Rattle.rd_geom.specs.declared.span.Span.{Span}
use Rattle.rd_item.specs.declared.leaf.Shape.{Shape}
use Rattle.rd_paint.specs.Internal.Runs.{holed_laid}
use Rattle.rd_paint.proofs.Pieces.{row_missed, row_shown}
use Rattle.rd_paint.proofs.spans.lay_item.Goals as goal

abbrev columns_of : Rectangle → Span
columns_of r = record { x0 = r.x; x1 = right r }

pub returns-then-has_row : goal.returns-then-has_row
returns-then-has_row g c =
    let fx : FitsSigned w32 c.args.x0 = search rules in
    let fy : FitsSigned w32 c.args.y = search rules in
    let row = simp to_z-of_z at c.has_row.ensures in
    let laid = simp to_z-of_z at c.lay_row_of.ensures in
    laid ∙ ap (λ (s : Shape). holed_laid c.columns.result s.inner c.px_of.result c.args.y c.args.x0 c.args.out.now) c.shape.ensures
    ∙ row_shown c.args.item.now.leaf c.columns.result c.px_of.result c.args.y c.args.x0 c.args.out.now (rw c.visible-seen.ensures.value at c.visible-seen.ensures.within)
    (rw c.visible-seen.ensures.value at (sym row ∙ c.if-has_row.true)) (c.columns.ensures ∙ ap columns_of c.visible-seen.ensures.value) (c.px_of.ensures.value ∙ ap premultiplied c.color.ensures)

pub returns-else-has_row : goal.returns-else-has_row
returns-else-has_row g c =
    let fx : FitsSigned w32 c.args.x0 = search rules in
    let fy : FitsSigned w32 c.args.y = search rules in
    let row = simp to_z-of_z at c.has_row.ensures in
    row_missed c.args.item.now.leaf c.args.y c.args.x0 c.args.out.now (ap (λ (r : Rectangle). is_among r.y r.h c.args.y) (sym c.visible-seen.ensures.value) ∙ sym row ∙ c.if-has_row.false)
