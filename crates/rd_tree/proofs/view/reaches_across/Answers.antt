use Rattle.std.proofs.Common.{◌≡◌, sym, ◌∙◌, refl, true, FitsSigned, w32, rules}
use Rattle.std.specs.Prelude.{int_lt}
use Rattle.std.proofs.lemmas.Int.{to_z-of_z}
use Rattle.rd_geom.specs.Plane.{right}
use Rattle.rd_tree.proofs.view.reaches_across.Goals as goal

pub returns-then-is_before : goal.returns-then-is_before
returns-then-is_before c =
    let f1 : FitsSigned w32 c.x.result = search rules in
    let f2 : FitsSigned w32 c.right.result = search rules in
    let f3 : FitsSigned w32 c.x-then-is_before.result = search rules in
    let f4 : FitsSigned w32 c.right-then-is_before.result = search rules in
    let one = simp to_z-of_z at c.is_before.ensures in
    let other = simp to_z-of_z at c.is_before-then-is_before.ensures in
    let on : int_lt c.args.hull.now.x (right c.args.r.now) ≡ true = rw (← c.right.ensures.value, ← c.x.ensures.value) (sym one ∙ c.if-is_before.true) in
    rw on (other ∙ rw (c.x-then-is_before.ensures.value, c.right-then-is_before.ensures.value) refl)
