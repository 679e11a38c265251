use Rattle.std.proofs.Common.{◌≡◌, ◌+ℤ◌, arith, FitsSigned, w32, to_z, of_z, rules}
use Rattle.std.proofs.lemmas.Int.{to_z-of_z, ints}
use Rattle.rd_paint.proofs.Shown.Showing.{below_rows}
use Rattle.rd_paint.proofs.narrowing.has_rows.Goals as goal

pub returns-then-top-y1 : goal.returns-then-top-y1
returns-then-top-y1 c = λ f y a b.
    let fy : FitsSigned w32 c.args.y0 = search rules in
    let ey : to_z w32 (of_z w32 c.args.y0) ≡ c.args.y0 = to_z-of_z w32 c.args.y0 fy in
    let eb : to_z w32 (of_z w32 (to_z w32 (of_z w32 c.y-top.result) +ℤ to_z w32 (of_z w32 c.h.result))) ≡ c.args.r.y +ℤ c.args.r.h = omega (arith, ints) in
    below_rows c.args.r.y c.args.r.h c.args.y0 y (rw (ey, eb) at f) a
