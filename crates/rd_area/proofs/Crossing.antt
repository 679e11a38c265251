-- Rectangles have a common pixel exactly where their edges say so.
use Rattle.std.proofs.Common.{◌≡◌, refl, true, false, arith, not, ◌&&◌, ◌||◌, Bool}
use Rattle.std.specs.Prelude.{IsTrue, int_lt}
use Rattle.std.specs.Int.{int_max}
use Rattle.std.proofs.lemmas.Int.{ints, clamps}
use Rattle.rd_geom.specs.Plane.{Rectangle, SharesPixel, right, bottom, has_none, meets}
use Rattle.rd_geom.proofs.Pixels.{At, holds_at, same_test, meets_shares, shares_meets}
use Rattle.rd_area.specs.Internal.Crossing.{crosses, overlap}

-- the first column and the first row that both have
first_common : (a b : Rectangle) → IsTrue (crosses a b) → SharesPixel a b
first_common a b h =
    let x = int_max a.x b.x in
    let y = int_max a.y b.y in
    record { x = x; y = y; first = grind (arith, ints, clamps); second = grind (arith, ints, clamps) }

common_crosses : (a b : Rectangle) → SharesPixel a b → IsTrue (crosses a b)
common_crosses a b s =
    let p : At a s.x s.y = holds_at a s.x s.y s.first in
    let q : At b s.x s.y = holds_at b s.x s.y s.second in
    let e1 : int_lt a.x (right b) ≡ true = grind (arith, ints) in
    let e2 : int_lt b.x (right a) ≡ true = grind (arith, ints) in
    let e3 : int_lt a.y (bottom b) ≡ true = grind (arith, ints) in
    let e4 : int_lt b.y (bottom a) ≡ true = grind (arith, ints) in
    let some : not (has_none a || has_none b) ≡ true = grind (arith, ints) in
    rw (some, e1, e2, e3, e4) refl

pub crosses_meets : (a b : Rectangle) → crosses a b ≡ meets a b
crosses_meets a b = same_test (crosses a b) (meets a b)
    (λ h. shares_meets a b (first_common a b h))
    (λ h. common_crosses a b (meets_shares a b h))

-- where neither is empty, their columns and their rows tell
pub both_tell : (a b : Rectangle) (cols rows : Bool) → has_none a ≡ false → has_none b ≡ false
    → cols ≡ overlap a.x (right a) b.x (right b) → rows ≡ overlap a.y (bottom a) b.y (bottom b) → (cols && rows) ≡ crosses a b
both_tell a b cols rows e f g h = rw (e, f, g, h) refl
