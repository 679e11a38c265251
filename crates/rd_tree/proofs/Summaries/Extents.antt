-- Round a box that is near there is room for its outline.
use Rattle.std.proofs.Common.{ℕ, ◌≤◌, arith}
use Rattle.std.proofs.lemmas.Int.{ints}
use Rattle.rd_geom.specs.Plane.{Rectangle, IsPlaced, outset}
use Rattle.rd_style.specs.declared.styles.Style.{Style}
use Rattle.rd_style.specs.Limits.{Fits}
use Rattle.rd_style.proofs.Bounds.{fits-open}
use Rattle.rd_tree.specs.Limits.{IsNear}

outset_near : (r : Rectangle) (n : ℕ) → IsNear r → n ≤ 1000 → IsPlaced (outset r n)
outset_near r n f small = record {
  wide = omega (arith, ints);
  high = omega (arith, ints);
  from_left = omega (arith, ints);
  from_top = omega (arith, ints);
  to_right = omega (arith, ints);
  to_bottom = omega (arith, ints);
}

pub extent_is_placed : (r : Rectangle) (s : Style) → IsNear r → Fits s → IsPlaced (outset r s.outline_width)
extent_is_placed r s f g = outset_near r s.outline_width f (fits-open s g).outline
