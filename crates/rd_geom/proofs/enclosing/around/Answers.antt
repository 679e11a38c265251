use Rattle.std.proofs.Common.{arith, FitsSigned, w32, ◌∙◌, refl}
use Rattle.std.proofs.lemmas.Int.{ints, clamps, to_z-of_z}
use Rattle.rd_geom.proofs.enclosing.around.Goals as goal

pub spanning-requires-clause-from_left : goal.spanning-requires-clause-from_left
spanning-requires-clause-from_left c = omega (arith, ints, clamps, c.min-left.ensures.value)

pub spanning-requires-clause-from_top : goal.spanning-requires-clause-from_top
spanning-requires-clause-from_top c = omega (arith, ints, clamps, c.min-top.ensures.value)

pub spanning-requires-clause-to_right : goal.spanning-requires-clause-to_right
spanning-requires-clause-to_right c = omega (arith, ints, clamps, c.max-right.ensures.value)

pub spanning-requires-clause-to_bottom : goal.spanning-requires-clause-to_bottom
spanning-requires-clause-to_bottom c = omega (arith, ints, clamps, c.max-bottom.ensures.value)

pub returns : goal.returns
returns c =
    let fax : FitsSigned w32 c.x.result = omega (arith, ints) in
    let fbx : FitsSigned w32 c.x-2.result = omega (arith, ints) in
    let fay : FitsSigned w32 c.y.result = omega (arith, ints) in
    let fby : FitsSigned w32 c.y-2.result = omega (arith, ints) in
    let far : FitsSigned w32 c.right.result = omega (arith, ints) in
    let fbr : FitsSigned w32 c.right-2.result = omega (arith, ints) in
    let fab : FitsSigned w32 c.bottom.result = omega (arith, ints) in
    let fbb : FitsSigned w32 c.bottom-2.result = omega (arith, ints) in
    let fl : FitsSigned w32 c.min-left.result = omega (arith, ints, clamps, c.min-left.ensures.value) in
    let ft : FitsSigned w32 c.min-top.result = omega (arith, ints, clamps, c.min-top.ensures.value) in
    let fr : FitsSigned w32 c.max-right.result = omega (arith, ints, clamps, c.max-right.ensures.value) in
    let fb : FitsSigned w32 c.max-bottom.result = omega (arith, ints, clamps, c.max-bottom.ensures.value) in
    let e = simp to_z-of_z at c.spanning.ensures in
    let el = simp to_z-of_z at c.min-left.ensures.value in
    let et = simp to_z-of_z at c.min-top.ensures.value in
    let er = simp to_z-of_z at c.max-right.ensures.value in
    let eb = simp to_z-of_z at c.max-bottom.ensures.value in
    e ∙ rw (
      el,
      et,
      er,
      eb,
      c.x.ensures.value,
      c.x-2.ensures.value,
      c.y.ensures.value,
      c.y-2.ensures.value,
      c.right.ensures.value,
      c.right-2.ensures.value,
      c.bottom.ensures.value,
      c.bottom-2.ensures.value,
    ) refl
