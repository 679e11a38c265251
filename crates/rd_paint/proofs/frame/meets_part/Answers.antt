use Rattle.std.proofs.Common.{◌≡◌, ◌-◌, pos, to_z, w32, arith}
use Rattle.std.proofs.lemmas.Int.{ints}
use Rattle.rd_paint.proofs.Banding.{no_share, holds_part}
use Rattle.rd_paint.proofs.frame.meets_part.Goals as goal

pub returns-in-Some : goal.returns-in-Some
returns-in-Some c = λ f x y u p q s.
    let ex : to_z w32 c.args.left ≡ pos c.args.left = omega (arith, ints) in
    let ey : to_z w32 c.args.top ≡ pos c.args.top = omega (arith, ints) in
    let ew : to_z w32 (c.args.right - c.args.left) ≡ pos (c.args.right - c.args.left) = omega (arith, ints) in
    let eh : to_z w32 (c.args.bottom - c.args.top) ≡ pos (c.args.bottom - c.args.top) = omega (arith, ints) in
    let made = rw (ex, ey, ew, eh) at c.in-Some.ensures.made in
    no_share c.args.area.now c.in-Some.part c.meets.result (pos x) (pos y) c.meets.ensures f
    (holds_part c.in-Some.part c.args.left (c.args.right - c.args.left) c.args.top (c.args.bottom - c.args.top) x y made u (omega arith) q (omega arith))
