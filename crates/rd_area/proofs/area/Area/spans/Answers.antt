use Rattle.std.proofs.Common.{◌≡◌, pos, rules, to_z, of_z, w32}
use Rattle.std.specs.Prelude.{unsigned_abs, vec_len, nat_abs}
use Rattle.rd_geom.specs.Areas.{spans_at}
use Rattle.rd_area.specs.Internal.Bands.{band_of, rows_of}
use Rattle.rd_area.specs.Internal.Normal.{spans_of}
use Rattle.rd_area.proofs.Pixels.{band_spans, spans_rise}
use Rattle.rd_area.proofs.area.Area.spans.Goals as goal

pub returns-in-Some-clause-value : goal.returns-in-Some-clause-value
returns-in-Some-clause-value c =
    let n = nat_abs (to_z w32 (of_z w32 c.args.y)) in
    let e = rw c.deref.ensures.value at c.in-Some.ensures.lookup in
    let b : c.band_of.result ≡ band_of c.self.inside.ends.items n = rw c.deref-2.ensures.value at c.band_of.ensures in
    let at : c.args.y ≡ pos n = search rules in
    rw (c.deref-in-Some.ensures.value, ← c.self.view_is)
    (band_spans (unsigned_abs c.self.inside.size.h) c.self.inside.ends.items c.self.inside.bands.items (vec_len c.self.inside.bands) n c.args.y c.in-Some.row.now
    c.self.invariant.1 (search rules) at (rw (← b) e.3.0) (rw (← b) e.1))

pub returns-in-Some-clause-rising : goal.returns-in-Some-clause-rising
returns-in-Some-clause-rising c =
    let n = nat_abs (to_z w32 (of_z w32 c.args.y)) in
    let e = rw c.deref.ensures.value at c.in-Some.ensures.lookup in
    let b : c.band_of.result ≡ band_of c.self.inside.ends.items n = rw c.deref-2.ensures.value at c.band_of.ensures in
    let at : c.args.y ≡ pos n = search rules in
    let v : c.in-Some.row.now.items ≡ spans_at (rows_of (unsigned_abs c.self.inside.size.h) c.self.inside.ends.items (spans_of c.self.inside.bands.items)) c.args.y =
    band_spans (unsigned_abs c.self.inside.size.h) c.self.inside.ends.items c.self.inside.bands.items (vec_len c.self.inside.bands) n c.args.y c.in-Some.row.now
    c.self.invariant.1 (search rules) at (rw (← b) e.3.0) (rw (← b) e.1) in
    rw (c.deref-in-Some.ensures.value, ← c.self.view_is, v) (spans_rise c.self.inside.size c.self.inside.used _ c.args.y c.self.invariant.0)
