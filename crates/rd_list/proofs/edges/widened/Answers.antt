use Rattle.std.proofs.Common.{arith, ap, refl, subst, ◌≡◌, FitsSigned, w32, rules, to_z, of_z}
use Rattle.std.proofs.lemmas.Int.{ints, clamps, to_z-of_z}
use Rattle.rd_geom.specs.Plane.{Rectangle, right, bottom}
use Rattle.rd_keys.specs.Ranges.{IsAmong}
use Rattle.rd_list.proofs.Edging.{inside_leaf}
use Rattle.rd_list.proofs.edges.widened.Goals as goal

pub returns-clause-before : goal.returns-clause-before
returns-clause-before g c =
    let f : FitsSigned w32 c.min.result = search rules in
    let f2 : FitsSigned w32 c.min-2.result = search rules in
    let h : FitsSigned w32 c.max.result = search rules in
    let h2 : FitsSigned w32 c.max-2.result = search rules in
    let l : to_z w32 (of_z w32 c.min.result) ≡ c.min.result = simp to_z-of_z refl in
    let t : to_z w32 (of_z w32 c.min-2.result) ≡ c.min-2.result = simp to_z-of_z refl in
    let r : to_z w32 (of_z w32 c.max.result) ≡ c.max.result = simp to_z-of_z refl in
    let b : to_z w32 (of_z w32 c.max-2.result) ≡ c.max-2.result = simp to_z-of_z refl in
    record {
      left = omega (arith, ints, clamps, l, c.min.ensures.value);
      top = omega (arith, ints, clamps, t, c.min-2.ensures.value);
      right = omega (arith, ints, clamps, r, c.max.ensures.value);
      bottom = omega (arith, ints, clamps, b, c.max-2.ensures.value);
      keys = c.joined.ensures.first;
      newest = omega (arith, c.max-3.ensures);
    }

pub returns-clause-leaf : goal.returns-clause-leaf
returns-clause-leaf g c = λ e is.
    let f : FitsSigned w32 c.min.result = search rules in
    let f2 : FitsSigned w32 c.min-2.result = search rules in
    let h : FitsSigned w32 c.max.result = search rules in
    let h2 : FitsSigned w32 c.max-2.result = search rules in
    let l : to_z w32 (of_z w32 c.min.result) ≡ c.min.result = simp to_z-of_z refl in
    let t : to_z w32 (of_z w32 c.min-2.result) ≡ c.min-2.result = simp to_z-of_z refl in
    let r : to_z w32 (of_z w32 c.max.result) ≡ c.max.result = simp to_z-of_z refl in
    let b : to_z w32 (of_z w32 c.max-2.result) ≡ c.max-2.result = simp to_z-of_z refl in
    inside_leaf _ e c.args.item.now is (record {
      from_left = omega (arith, ints, clamps, l, c.min.ensures.value, c.x.ensures.value, ap (λ (s : Rectangle). s.x) c.visible-seen.ensures.value);
      from_top = omega (arith, ints, clamps, t, c.min-2.ensures.value, c.y.ensures.value, ap (λ (s : Rectangle). s.y) c.visible-seen.ensures.value);
      to_right = omega (arith, ints, clamps, r, c.max.ensures.value, c.right.ensures.value, ap right c.visible-seen.ensures.value);
      to_bottom = omega (arith, ints, clamps, b, c.max-2.ensures.value, c.bottom.ensures.value, ap bottom c.visible-seen.ensures.value);
    }) (c.joined.ensures.second c.args.item.now.leaf.owner (subst (IsAmong c.one.result) c.owner.ensures c.one.ensures)) (omega (arith, c.max-3.ensures, c.made_at.ensures))
