use Rattle.std.proofs.Common.{◌≡◌, refl, not}
use Rattle.rd_geom.specs.Plane.{meets}
use Rattle.rd_geom.proofs.Pixels.{meets_shares, shares_meets}
use Rattle.rd_geom.proofs.rect.meets.Goals as goal

pub returns-clause-pixel : goal.returns-clause-pixel
returns-clause-pixel c =
    let e : not c.is_empty.result ≡ meets c.args.a c.args.b = rw (c.is_empty.ensures, c.meet.ensures.value) refl in
    rw e (meets_shares c.args.a c.args.b, shares_meets c.args.a c.args.b)
