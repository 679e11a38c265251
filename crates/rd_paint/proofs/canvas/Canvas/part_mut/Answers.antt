use Rattle.std.proofs.Common.{◌≡◌, ℕ, ◌*◌, ◌+◌, ◌-◌, ◌<◌, ◌≤◌, List, length, take, drop, arith, rules, FitsSigned, w32, refl, ◌∙◌, ap}
use Rattle.std.specs.Prelude.{unsigned_abs}
use Rattle.std.proofs.lemmas.Int.{to_z-of_z, ints}
use Rattle.rd_geom.specs.Colors.{Premultiplied}
use Rattle.rd_paint.specs.Pictures.{Picture}
use Rattle.rd_paint.proofs.Written.{over_at-refill, spans_apart, rows_apart}
use Rattle.rd_paint.proofs.canvas.Canvas.part_mut.Goals as goal

same_span : (xs : List Premultiplied) (a x0 x1 : ℕ) → take (a + x1 - (a + x0)) (drop (a + x0) xs) ≡ take (x1 - x0) (drop (a + x0) xs)
same_span xs a x0 x1 = ap (λ k. take k (drop (a + x0) xs)) (omega arith)

pub returns : goal.returns
returns c =
    let f0 : FitsSigned w32 c.args.span.x0 = search rules in
    let f1 : FitsSigned w32 c.args.span.x1 = search rules in
    let row = c.args.row - c.args.corner.top in
    let x0 = unsigned_abs c.args.span.x0 - c.args.corner.left in
    let x1 = unsigned_abs c.args.span.x1 - c.args.corner.left in
    let eh = ap (λ (p : Picture). p.height) c.self.view_is in
    let ew = ap (λ (p : Picture). p.width) c.self.view_is in
    let on : c.args.row - c.args.corner.top < c.self.inside.height = omega (arith, eh, c.requires.on, c.requires.row) in
    let left : c.args.corner.left ≤ unsigned_abs c.args.span.x0 = omega (arith, ints, c.requires.from) in
    let order : unsigned_abs c.args.span.x0 ≤ unsigned_abs c.args.span.x1 = omega (arith, ints, c.requires.from, c.requires.order) in
    let within : unsigned_abs c.args.span.x1 - c.args.corner.left ≤ c.self.inside.width = omega (arith, ints, ew, c.requires.within) in
    let m = rows_apart c.self.inside.width row c.self.inside.height on in
    let short : row * c.self.inside.width + x0 ≤ length c.self.inside.pixels.items = omega (arith, m, within, order, c.self.invariant.count) in
    let value = simp to_z-of_z at c.slice_mut.ensures.value in
    let long = simp to_z-of_z at c.slice_mut.ensures.len in
    rw (← c.self.view_is) (
      (refl, λ w. simp to_z-of_z (ap (λ (ps : List Premultiplied). let p : Picture = record { width = c.self.inside.width; height = c.self.inside.height; pixels = ps } in p) (over_at-refill c.self.inside.pixels.items w _ _ short c.self.inside.pixels.ok.0))),
      record {
        writes_back = tt;
        value = value ∙ same_span c.self.inside.pixels.items (row * c.self.inside.width) x0 x1;
        len = long ∙ omega (arith, left, order);
        exact = λ ps e. spans_apart _ _ _ ps c.self.invariant.count on (omega (arith, e, left, order, within));
      },
    )
