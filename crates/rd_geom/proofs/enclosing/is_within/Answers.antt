use Rattle.std.proofs.Common.{arith, FitsSigned, w32, rules}
use Rattle.std.proofs.lemmas.Int.{ints, to_z-of_z}
use Rattle.rd_geom.proofs.Pixels.{edges_within}
use Rattle.rd_geom.proofs.Hulls.{Holds, within_holds}
use Rattle.rd_geom.proofs.enclosing.is_within.Goals as goal

pub returns-then-x-clause-outside : goal.returns-then-x-clause-outside
returns-then-x-clause-outside c = λ u e w.
    let fx : FitsSigned w32 c.x.result = search rules in
    let fx2 : FitsSigned w32 c.x-2.result = search rules in
    let s : Holds c.args.b c.args.a = within_holds c.args.a c.args.b e w in
    let l = simp to_z-of_z at c.if-x.true in
    absurd (omega (arith, ints, l, s.left, c.x.ensures.value, c.x-2.ensures.value))

pub returns-then-y-clause-outside : goal.returns-then-y-clause-outside
returns-then-y-clause-outside c = λ u e w.
    let fy : FitsSigned w32 c.y.result = search rules in
    let fy2 : FitsSigned w32 c.y-2.result = search rules in
    let s : Holds c.args.b c.args.a = within_holds c.args.a c.args.b e w in
    let t = simp to_z-of_z at c.if-y.true in
    absurd (omega (arith, ints, t, s.top, c.y.ensures.value, c.y-2.ensures.value))

pub returns-then-right-clause-outside : goal.returns-then-right-clause-outside
returns-then-right-clause-outside c = λ u e w.
    let fr : FitsSigned w32 c.right.result = search rules in
    let fr2 : FitsSigned w32 c.right-2.result = search rules in
    let s : Holds c.args.b c.args.a = within_holds c.args.a c.args.b e w in
    let r = simp to_z-of_z at c.if-right.true in
    absurd (omega (arith, ints, r, s.right, c.right.ensures.value, c.right-2.ensures.value))

pub returns-clause-within : goal.returns-clause-within
returns-clause-within c = λ h.
    let fx : FitsSigned w32 c.x.result = search rules in
    let fx2 : FitsSigned w32 c.x-2.result = search rules in
    let fy : FitsSigned w32 c.y.result = search rules in
    let fy2 : FitsSigned w32 c.y-2.result = search rules in
    let fr : FitsSigned w32 c.right.result = search rules in
    let fr2 : FitsSigned w32 c.right-2.result = search rules in
    let fb : FitsSigned w32 c.bottom.result = search rules in
    let fb2 : FitsSigned w32 c.bottom-2.result = search rules in
    let l = simp to_z-of_z at c.if-x.false in
    let t = simp to_z-of_z at c.if-y.false in
    let r = simp to_z-of_z at c.if-right.false in
    let b = simp to_z-of_z at h in
    edges_within c.args.a c.args.b (omega (arith, ints, l, c.x.ensures.value, c.x-2.ensures.value)) (omega (arith, ints, t, c.y.ensures.value, c.y-2.ensures.value))
    (omega (arith, ints, r, c.right.ensures.value, c.right-2.ensures.value)) (omega (arith, ints, b, c.bottom.ensures.value, c.bottom-2.ensures.value))

pub returns-clause-outside : goal.returns-clause-outside
returns-clause-outside c = λ u e w.
    let fb : FitsSigned w32 c.bottom.result = search rules in
    let fb2 : FitsSigned w32 c.bottom-2.result = search rules in
    let s : Holds c.args.b c.args.a = within_holds c.args.a c.args.b e w in
    let b = simp to_z-of_z at u in
    absurd (omega (arith, ints, b, s.bottom, c.bottom.ensures.value, c.bottom-2.ensures.value))
