-- Rectangles with a common pixel reach into each other.
use Rattle.std.proofs.Common.{◌≡◌, refl, true, ℤ, arith}
use Rattle.std.specs.Prelude.{IsTrue, int_lt}
use Rattle.std.proofs.lemmas.Int.{ints}
use Rattle.rd_geom.specs.Plane.{Rectangle, right, bottom, holds_pixel}
use Rattle.rd_geom.proofs.Pixels.{At, holds_at}
use Rattle.rd_tree.specs.Seeking.{reaches}

pub share_reaches : (a b : Rectangle) (x y : ℤ) → IsTrue (holds_pixel a x y) → IsTrue (holds_pixel b x y) → reaches a b ≡ true
share_reaches a b x y h k =
    let p : At a x y = holds_at a x y h in
    let q : At b x y = holds_at b x y k in
    let e1 : int_lt b.x (right a) ≡ true = grind (arith, ints) in
    let e2 : int_lt a.x (right b) ≡ true = grind (arith, ints) in
    let e3 : int_lt b.y (bottom a) ≡ true = grind (arith, ints) in
    let e4 : int_lt a.y (bottom b) ≡ true = grind (arith, ints) in
    rw (e1, e2, e3, e4) refl
