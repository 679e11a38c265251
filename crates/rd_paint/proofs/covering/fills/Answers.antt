use Rattle.std.proofs.Common.{◌∙◌, ap, ◌+ℤ◌, pos, FitsSigned, w32, rules}
use Rattle.std.proofs.lemmas.Int.{to_z-of_z}
use Rattle.rd_geom.specs.Plane.{Rectangle, right}
use Rattle.rd_geom.specs.declared.span.Span.{Span}
use Rattle.rd_paint.proofs.Shown.Hiding.{shown_fills, no_row, no_column}
use Rattle.rd_paint.proofs.covering.fills.Goals as goal

abbrev columns_of : Rectangle → Span
columns_of r = record { x0 = r.x; x1 = right r }

pub returns-then-not-has_rows : goal.returns-then-not-has_rows
returns-then-not-has_rows g c = λ t k y h a b.
    let fx : FitsSigned w32 c.args.x0 = search rules in
    let f0 : FitsSigned w32 c.args.y0 = search rules in
    let f1 : FitsSigned w32 c.args.y1 = search rules in
    let row = simp to_z-of_z at c.has_all.ensures in
    let whole = simp to_z-of_z at c.is_whole.ensures in
    let hole = simp to_z-of_z at c.has_rows.ensures in
    shown_fills c.args.item.now.leaf c.columns.result (c.args.x0 +ℤ pos k) y (rw c.visible-seen.ensures.value at c.visible-seen.ensures.within)
    (rw c.visible-seen.ensures.value at (row c.if-not-has_all.false y a b)) (c.columns.ensures ∙ ap columns_of c.visible-seen.ensures.value)
    (whole c.if-not-is_whole.false k h) (no_row _ _ (rw c.shape-hole.ensures at (hole c.if-not-has_rows.true y a b)))

pub returns-else-not-has_rows : goal.returns-else-not-has_rows
returns-else-not-has_rows g c = λ t k y h a b.
    let fx : FitsSigned w32 c.args.x0 = search rules in
    let f0 : FitsSigned w32 c.args.y0 = search rules in
    let f1 : FitsSigned w32 c.args.y1 = search rules in
    let row = simp to_z-of_z at c.has_all.ensures in
    let whole = simp to_z-of_z at c.is_whole.ensures in
    let beside = simp to_z-of_z at c.is_beside.ensures in
    shown_fills c.args.item.now.leaf c.columns.result (c.args.x0 +ℤ pos k) y (rw c.visible-seen.ensures.value at c.visible-seen.ensures.within)
    (rw c.visible-seen.ensures.value at (row c.if-not-has_all.false y a b)) (c.columns.ensures ∙ ap columns_of c.visible-seen.ensures.value)
    (whole c.if-not-is_whole.false k h) (no_column _ _ (rw (c.columns-else-not-has_rows.ensures, c.shape-hole.ensures) at (beside t k h)))
