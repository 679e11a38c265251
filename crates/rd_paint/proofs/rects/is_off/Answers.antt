use Rattle.std.proofs.Common.{◌≡◌, ◌+◌, ◌∙◌, ◌+ℤ◌, pos, sym, ap, arith, FitsSigned, w32, to_z, rules}
use Rattle.std.specs.Prelude.{unsigned_abs}
use Rattle.std.proofs.lemmas.Int.{to_z-of_z, ints}
use Rattle.rd_geom.specs.Areas.{in_span}
use Rattle.rd_geom.specs.Plane.{Rectangle, right}
use Rattle.rd_geom.specs.declared.span.Span.{Span}
use Rattle.rd_paint.proofs.Pieces.{unshown}
use Rattle.rd_paint.proofs.Shown.Seen.{columns_uncovered}
use Rattle.rd_paint.proofs.rects.is_off.Goals as goal

abbrev columns_of : Rectangle → Span
columns_of r = record { x0 = r.x; x1 = right r }

pub returns-then-has_rows : goal.returns-then-has_rows
returns-then-has_rows g c = λ t k row l v u.
    let f0 : FitsSigned w32 c.args.span.x0 = search rules in
    let beside = simp to_z-of_z at c.is_beside.ensures in
    let a = unsigned_abs c.args.span.x0 in
    let e : pos (a + k) ≡ c.args.span.x0 +ℤ pos k = omega (arith, ints) in
    columns_uncovered c.args.item.now.leaf (pos (a + k)) (pos row)
    (ap (λ s. in_span s (pos (a + k))) (sym (c.columns.ensures ∙ ap columns_of c.visible-seen.ensures.value)) ∙ ap (in_span c.columns.result) e ∙ beside t k (omega (arith, ints, l)))

pub returns : goal.returns
returns g c = λ t k row l v u.
    let e0 : to_z w32 c.args.y0 ≡ pos c.args.y0 = omega (arith, ints) in
    let e1 : to_z w32 c.args.y1 ≡ pos c.args.y1 = omega (arith, ints) in
    let off = rw (e0, e1) at c.has_rows.ensures in
    unshown c.args.item.now.leaf (pos row)
    (rw c.visible-seen.ensures.value at (off c.if-has_rows.false (pos row) (omega (arith, ints, v)) (omega (arith, ints, u)))) (pos (unsigned_abs c.args.span.x0 + k))
