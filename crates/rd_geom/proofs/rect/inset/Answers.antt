use Rattle.std.proofs.Common.{◌≡◌, arith, pos, ◌+ℤ◌, ◌-ℤ◌, FitsSigned, w32, to_z, ◌∙◌, refl}
use Rattle.std.proofs.lemmas.Int.{ints, to_z-of_z}
use Rattle.rd_geom.specs.Plane.{inset}
use Rattle.rd_geom.proofs.Pixels.{inset_pixels}
use Rattle.rd_geom.proofs.rect.inset.Goals as goal

pub returns-clause-value : goal.returns-clause-value
returns-clause-value c =
    let fx : FitsSigned w32 c.x.result = omega (arith, ints) in
    let fy : FitsSigned w32 c.y.result = omega (arith, ints) in
    let fr : FitsSigned w32 c.right.result = omega (arith, ints) in
    let fb : FitsSigned w32 c.bottom.result = omega (arith, ints) in
    let l : to_z w32 c.args.s.left ≡ pos c.args.s.left = omega (arith, ints) in
    let t : to_z w32 c.args.s.top ≡ pos c.args.s.top = omega (arith, ints) in
    let r : to_z w32 c.args.s.right ≡ pos c.args.s.right = omega (arith, ints) in
    let b : to_z w32 c.args.s.bottom ≡ pos c.args.s.bottom = omega (arith, ints) in
    let sl : FitsSigned w32 (c.x.result +ℤ pos c.args.s.left) = omega (arith, ints) in
    let st : FitsSigned w32 (c.y.result +ℤ pos c.args.s.top) = omega (arith, ints) in
    let sr : FitsSigned w32 (c.right.result -ℤ pos c.args.s.right) = omega (arith, ints) in
    let sb : FitsSigned w32 (c.bottom.result -ℤ pos c.args.s.bottom) = omega (arith, ints) in
    let e = simp (to_z-of_z, l, t, r, b) at c.spanning.ensures in
    e ∙ rw (c.x.ensures.value, c.y.ensures.value, c.right.ensures.value, c.bottom.ensures.value) refl

pub returns-clause-pixels : goal.returns-clause-pixels
returns-clause-pixels c =
    let e : c.spanning.result ≡ inset c.args.r c.args.s.top c.args.s.right c.args.s.bottom c.args.s.left = returns-clause-value c in
    rw e (inset_pixels c.args.r c.args.s.top c.args.s.right c.args.s.bottom c.args.s.left)
