use Rattle.std.proofs.Common.{◌≡◌, true, arith}
use Rattle.rd_geom.specs.Plane.{Rectangle, meet, meets, has_none}
use Rattle.rd_geom.proofs.Areas.{meets_area-shares, shares-meets_area}
use Rattle.rd_geom.proofs.Pixels.{same_test}
use Rattle.rd_area.specs.Internal.Normal.{IsOn, spans_of}
use Rattle.std.specs.Prelude.{unsigned_abs, IsFalse}
use Rattle.rd_area.specs.Internal.Bands.{rows_of}
use Rattle.rd_area.proofs.Pixels.{common_on_left, apart_shares, filled_shares, some_there, true_unless}
use Rattle.rd_area.proofs.Crossing.{crosses_meets}
use Rattle.rd_area.proofs.area.Area.meets.Goals as goal

none_there : (a b : Rectangle) → IsFalse (meets a b) → has_none (meet a b) ≡ true
none_there a b h = grind arith

-- where each pixel of what is in use is in the area
pub returns-then-self : goal.returns-then-self
returns-then-self c =
    let used = c.self.inside.used in
    let r = c.args.r in
    let rows = rows_of (unsigned_abs c.self.inside.size.h) c.self.inside.ends.items (spans_of c.self.inside.bands.items) in
    let o : IsOn (meet used r) c.self.inside.size =
    common_on_left used r c.self.inside.size c.self.invariant.0.canvas c.self.invariant.0.on in
    rw (← c.self.view_is, c.cross.ensures, crosses_meets used r) (same_test (meets used r) _
    (λ h. shares-meets_area _ r (filled_shares c.self.inside.size used r rows (c.self.invariant.2 c.if-self.true).1 o (some_there used r h)))
    (λ h. true_unless (meets used r) (λ apart.
    apart_shares c.self.inside.size used r rows c.self.invariant.0 (none_there used r apart) (meets_area-shares _ r h))))
