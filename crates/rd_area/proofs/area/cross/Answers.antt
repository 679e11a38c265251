use Rattle.std.proofs.Common.{◌≡◌, false, refl, subst, ◌∙◌, ◌&&◌}
use Rattle.rd_geom.specs.Plane.{right, bottom, has_none}
use Rattle.rd_area.specs.Internal.Crossing.{crosses, overlap}
use Rattle.rd_area.proofs.Crossing.{both_tell}
use Rattle.rd_area.proofs.area.cross.Goals as goal

-- where the columns overlap, the rows tell
pub returns-then-columns_overlap : goal.returns-then-columns_overlap
returns-then-columns_overlap c =
    let a = c.args.a.now in
    let b = c.args.b.now in
    let e : has_none a ≡ false = c.requires.some in
    let f : has_none b ≡ false = rw (← c.is_empty.ensures) c.if-is_empty.false in
    let cols : c.columns_overlap.result ≡ overlap a.x (right a) b.x (right b) =
    c.columns_overlap.ensures in
    let rows : c.rows_overlap.result ≡ overlap a.y (bottom a) b.y (bottom b) =
    c.rows_overlap.ensures in
    subst (λ k. (k && c.rows_overlap.result) ≡ crosses a b) c.if-columns_overlap.true
    (both_tell a b c.columns_overlap.result c.rows_overlap.result e f cols rows)

-- where they do not, there is no common pixel
pub returns-else-columns_overlap : goal.returns-else-columns_overlap
returns-else-columns_overlap c =
    let a = c.args.a.now in
    let b = c.args.b.now in
    let e : has_none a ≡ false = c.requires.some in
    let f : has_none b ≡ false = rw (← c.is_empty.ensures) c.if-is_empty.false in
    let cols : c.columns_overlap.result ≡ overlap a.x (right a) b.x (right b) =
    c.columns_overlap.ensures in
    c.if-columns_overlap.false ∙ subst (λ k. (k && overlap a.y (bottom a) b.y (bottom b)) ≡ crosses a b) c.if-columns_overlap.false
    (both_tell a b c.columns_overlap.result (overlap a.y (bottom a) b.y (bottom b)) e f cols refl)
