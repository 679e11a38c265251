-- Round a box within the limits there is room for its outline.
use Rattle.std.proofs.Common.{ℕ, ◌≤◌, arith}
use Rattle.std.proofs.lemmas.Int.{ints}
use Rattle.rd_geom.specs.Plane.{Rectangle, IsPlaced, outset}
use Rattle.rd_style.specs.Limits.{FitsRect}
use Rattle.rd_style.proofs.Bounds.{RectBounds, fits_rect-open}

pub outset_is_placed : (r : Rectangle) (n : ℕ) → FitsRect r → n ≤ 1000 → IsPlaced (outset r n)
outset_is_placed r n f small =
    let b : RectBounds r = fits_rect-open r f in
    record {
      wide = omega (arith, ints);
      high = omega (arith, ints);
      from_left = omega (arith, ints);
      from_top = omega (arith, ints);
      to_right = omega (arith, ints);
      to_bottom = omega (arith, ints);
    }
