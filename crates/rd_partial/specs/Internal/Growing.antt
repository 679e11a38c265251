-- What holds a rectangle that has a pixel in common with another has one too.
use Rattle.std.specs.Prelude.{◌≡◌, true}
use Rattle.rd_geom.specs.Plane.{Rectangle, IsWithin, meets}
use Rattle.rd_geom.proofs.Pixels.{meets_shares, shares_meets}

pub meets_grows : (s a b : Rectangle) → IsWithin a b → meets s a ≡ true → meets s b ≡ true
meets_grows s a b w h =
    let p = meets_shares s a h in
    shares_meets s b (record { x = p.x; y = p.y; first = p.first; second = w p.x p.y p.second })
