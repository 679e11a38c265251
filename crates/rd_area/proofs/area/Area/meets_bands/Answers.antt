use Rattle.std.proofs.Common.{◌≡◌, ◌≤◌, true, false, arith, refl}
use Rattle.rd_geom.specs.Plane.{meet, meets, has_none, right}
use Rattle.rd_geom.proofs.Areas.{meets_area-shares, shares-meets_area}
use Rattle.rd_geom.proofs.Pixels.{same_test}
use Rattle.rd_area.specs.Internal.Normal.{IsOn, spans_of}
use Rattle.std.specs.Prelude.{unsigned_abs, IsTrue}
use Rattle.rd_area.specs.Internal.Bands.{row_at, rows_of, HasRow}
use Rattle.rd_area.proofs.Banded.{table_at}
use Rattle.rd_area.proofs.Pixels.{IsBand, common_on_left, apart_shares, filled_shares, some_there, band_top, row_of_band, found_shares, none_shares, true_unless}
use Rattle.rd_area.proofs.area.Area.meets_bands.Goals as goal

pub rows_of-from-requires : goal.rows_of-from-requires
rows_of-from-requires c =
    rw c.meet-seen.ensures.value (common_on_left c.self.inside.used c.args.r c.self.inside.size c.self.invariant.0.canvas c.self.invariant.0.on).top

pub meets-requires-2-clause-all : goal.meets-requires-2-clause-all
meets-requires-2-clause-all c = λ z l.
    let o : IsOn c.meet-seen.result c.self.inside.size =
    rw c.meet-seen.ensures.value (common_on_left c.self.inside.used c.args.r c.self.inside.size c.self.invariant.0.canvas c.self.invariant.0.on) in
    let k : IsBand c.meet-seen.result c.rows_of-from.result.0 c.rows_of-from.result.1 (record { x0 = c.meet-seen.result.x; x1 = right c.meet-seen.result }) =
    record { first = c.rows_of-from.ensures.first; last = c.rows_of-from.ensures.last; columns = refl } in
    let top = band_top c.meet-seen.result c.rows_of-from.result.0 c.rows_of-from.result.1 _ c.self.inside.size k c.self.invariant.0.canvas o in
    rw c.deref.ensures.value (c.self.invariant.1.all z (omega (arith, l, top)))

-- where the rectangle lies off what is in use
pub returns-then-is_empty : goal.returns-then-is_empty
returns-then-is_empty c =
    let e : has_none (meet c.self.inside.used c.args.r) ≡ true = rw (← c.meet-seen.ensures.value, ← c.is_empty.ensures) c.if-is_empty.true in
    rw (← c.self.view_is) (same_test false _ (λ h. cc)
    (λ h. absurd (apart_shares c.self.inside.size c.self.inside.used c.args.r
    (rows_of (unsigned_abs c.self.inside.size.h) c.self.inside.ends.items (spans_of c.self.inside.bands.items)) c.self.invariant.0 e
    (meets_area-shares _ c.args.r h))))

-- where it meets the largest rectangle that joined
pub returns-then-meets : goal.returns-then-meets
returns-then-meets c =
    let full = c.self.inside.full in
    let r = c.args.r in
    let m : IsTrue (meets full r) = rw (← c.meets.ensures.value) c.if-meets.true in
    rw (← c.self.view_is) (same_test true _
    (λ h. shares-meets_area _ r (filled_shares c.self.inside.size full r
    (rows_of (unsigned_abs c.self.inside.size.h) c.self.inside.ends.items (spans_of c.self.inside.bands.items)) c.self.invariant.4
    (common_on_left full r c.self.inside.size c.self.invariant.0.canvas c.self.invariant.3) (some_there full r m)))
    (λ h. cc))

pub returns : goal.returns
returns c =
    let height = unsigned_abs c.self.inside.size.h in
    let ends = c.self.inside.ends.items in
    let bands = spans_of c.self.inside.bands.items in
    let rows = rows_of height ends bands in
    let from = c.rows_of-from.result.0 in
    let to = c.rows_of-from.result.1 in
    let o : IsOn (meet c.self.inside.used c.args.r) c.self.inside.size =
    common_on_left c.self.inside.used c.args.r c.self.inside.size c.self.invariant.0.canvas c.self.invariant.0.on in
    let k : IsBand (meet c.self.inside.used c.args.r) from to c.columns.result =
    rw (← c.meet-seen.ensures.value) (record { first = c.rows_of-from.ensures.first; last = c.rows_of-from.ensures.last; columns = c.columns.ensures }) in
    let top : to ≤ height = band_top (meet c.self.inside.used c.args.r) from to c.columns.result c.self.inside.size k c.self.invariant.0.canvas o in
    let found = rw c.deref.ensures.value at c.meets-2.ensures.found in
    let none = rw c.deref.ensures.value at c.meets-2.ensures.none in
    rw (← c.self.view_is) (same_test c.meets-2.result _
    (λ h. let f = found h in
    let r : HasRow ends from to f.0 = f.1 in
    shares-meets_area _ c.args.r (found_shares c.self.inside.size c.self.inside.used c.args.r rows from to c.columns.result r.y k r.first r.last
    (rw (row_of_band height ends bands from to f.0 r top) f.2)))
    (λ h. true_unless c.meets-2.result (λ no_row.
    none_shares c.self.inside.size c.self.inside.used c.args.r rows from to c.columns.result c.self.invariant.0 k
    (λ n a l. rw (table_at height (row_at ends bands) n (omega (arith, l, top))) (none no_row n a l))
    (meets_area-shares _ c.args.r h))))

pub meets-requires-2-clause-rising : goal.meets-requires-2-clause-rising
meets-requires-2-clause-rising c = rw c.deref.ensures.value c.self.invariant.1.rising
