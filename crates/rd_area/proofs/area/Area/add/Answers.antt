use Rattle.std.proofs.Common.{◌≡◌, ◌||◌, ℤ, refl, ap, subst, ◌∙◌, arith}
use Rattle.std.specs.Prelude.{unsigned_abs, OnOk}
use Rattle.rd_geom.specs.Plane.{Rectangle, meet, right, holds_pixel}
use Rattle.rd_geom.specs.Areas.{in_area}
use Rattle.rd_geom.specs.Canvas.{canvas_of}
use Rattle.rd_area.specs.Internal.Bands.{rows_of}
use Rattle.rd_area.specs.Internal.Normal.{IsOn, spans_of}
use Rattle.rd_area.proofs.Pixels.{IsBand, canvas_on, common_on_right, band_top, had_pixels, held_pixels}
use Rattle.rd_area.proofs.area.Area.add.Goals as goal

pub returns-then-is_within-clause-pixels : goal.returns-then-is_within-clause-pixels
returns-then-is_within-clause-pixels c =
    let e : c.meet-seen.result ≡ meet c.args.r (canvas_of c.self.inside.size) = c.meet-seen.ensures.value ∙ ap (λ s. meet c.args.r s) c.rect.ensures in
    rw (← c.self.view_is, ← e) (held_pixels c.self.inside.size c.meet-seen.result c.self.inside.full (rows_of (unsigned_abs c.self.inside.size.h) c.self.inside.ends.items (spans_of c.self.inside.bands.items))
    c.self.invariant.3 c.self.invariant.4 (c.is_within.ensures.within c.if-is_within.true))

pub returns-then-have-clause-pixels : goal.returns-then-have-clause-pixels
returns-then-have-clause-pixels c =
    let o : IsOn c.meet-seen.result c.self.inside.size =
    rw (c.meet-seen.ensures.value, c.rect.ensures) (common_on_right c.args.r (canvas_of c.self.inside.size) c.self.inside.size c.self.invariant.0.canvas
    (canvas_on c.self.inside.size)) in
    let k : IsBand c.meet-seen.result c.rows_of-from.result.0 c.rows_of-from.result.1 c.columns.result =
    record { first = c.rows_of-from.ensures.first; last = c.rows_of-from.ensures.last; columns = c.columns.ensures } in
    let top = band_top c.meet-seen.result c.rows_of-from.result.0 c.rows_of-from.result.1 c.columns.result c.self.inside.size k c.self.invariant.0.canvas o in
    let b = rw c.deref.ensures.value at c.between-first.ensures.bands in
    let e : c.meet-seen.result ≡ meet c.args.r (canvas_of c.self.inside.size) = c.meet-seen.ensures.value ∙ ap (λ s. meet c.args.r s) c.rect.ensures in
    rw (← c.self.view_is, ← e) (had_pixels c.meet-seen.result (unsigned_abs c.self.inside.size.h) c.rows_of-from.result.0 c.rows_of-from.result.1
    c.between-first.result.0 c.between-first.result.1 c.columns.result c.self.inside.ends.items (spans_of c.self.inside.bands.items) k top b
    (c.have.ensures c.if-have.true))

pub join-requires-clause-on : goal.join-requires-clause-on
join-requires-clause-on c =
    rw (← c.self.view_is) (rw (c.meet-seen.ensures.value, c.rect.ensures) (common_on_right c.args.r (canvas_of c.self.inside.size) c.self.inside.size c.self.invariant.0.canvas
    (canvas_on c.self.inside.size)))

pub between-first-requires-clause-rising : goal.between-first-requires-clause-rising
between-first-requires-clause-rising c = rw c.deref.ensures.value c.self.invariant.1.rising

pub between-first-requires-clause-all : goal.between-first-requires-clause-all
between-first-requires-clause-all c = λ z l.
    let o : IsOn c.meet-seen.result c.self.inside.size =
    rw (c.meet-seen.ensures.value, c.rect.ensures) (common_on_right c.args.r (canvas_of c.self.inside.size) c.self.inside.size c.self.invariant.0.canvas
    (canvas_on c.self.inside.size)) in
    let k : IsBand c.meet-seen.result c.rows_of-from.result.0 c.rows_of-from.result.1 (record { x0 = c.meet-seen.result.x; x1 = right c.meet-seen.result }) =
    record { first = c.rows_of-from.ensures.first; last = c.rows_of-from.ensures.last; columns = refl } in
    let top = band_top c.meet-seen.result c.rows_of-from.result.0 c.rows_of-from.result.1 _ c.self.inside.size k c.self.invariant.0.canvas o in
    rw c.deref.ensures.value (c.self.invariant.1.all z (omega (arith, l, top)))

pub returns-clause-pixels : goal.returns-clause-pixels
returns-clause-pixels c =
    let e : c.meet-seen.result ≡ meet c.args.r (canvas_of c.args.self.now.size) = rw (← c.self.view_is) (c.meet-seen.ensures.value ∙ ap (λ s. meet c.args.r s) c.rect.ensures) in
    subst (λ (s : Rectangle). OnOk c.join.result ((x y : ℤ) → in_area c.join.new.self x y ≡ (holds_pixel s x y || in_area c.args.self.now x y))) e c.join.ensures.pixels
