use Rattle.std.proofs.Common.{◌≡◌, ◌≤◌, ◌+◌, ◌-◌, ◌∙◌, ◌+ℤ◌, pos, length, ap, arith, FitsSigned, w32, to_z, rules}
use Rattle.std.specs.Prelude.{unsigned_abs}
use Rattle.std.proofs.lemmas.Int.{to_z-of_z, ints}
use Rattle.rd_geom.specs.Blends.{blended}
use Rattle.rd_geom.specs.Colors.{scaled, clear}
use Rattle.rd_list.specs.EntryNames.{kept_leaves}
use Rattle.rd_list.specs.Lists.{composed}
use Rattle.rd_list.specs.Views.{levels, deeper}
use Rattle.rd_paint.specs.Internal.Rects.{group_over}
use Rattle.rd_paint.specs.Internal.Picks.{picked}
use Rattle.std.proofs.Math.Nat.{mul-le-mul_right}
use Rattle.rd_paint.proofs.Changing.{row_by}
use Rattle.rd_paint.proofs.rects.lay_group_row.Goals as goal

pub lay_own-requires-clause-rows : goal.lay_own-requires-clause-rows
lay_own-requires-clause-rows g c =
    let short : length c.part_mut-out.result.now ≤ c.args.canvas.now.width = omega (arith, ints, c.part_mut-out.ensures.len, c.requires.on.rect.from, c.requires.on.rect.within) in
    let p = mul-le-mul_right (deeper (levels (picked c.args.own.now (kept_leaves c.args.group.now.inner.entries))) - 1) short in
    omega (arith, p, c.requires.rows)

pub returns : goal.returns
returns g c =
    let above : c.args.rect.strip.corner.top ≤ c.args.row = omega (arith, c.requires.on.rect.strip.above, c.requires.on.from) in
    let ey : to_z w32 c.args.row ≡ pos c.args.row = omega (arith, ints) in
    let f0 : FitsSigned w32 c.args.rect.span.x0 = search rules in
    let laid = simp to_z-of_z at (rw ey at c.lay_own.ensures) in
    row_by c.args.rect.strip.corner (group_over c.args.group.now.blend c.args.group.now.opacity (picked c.args.own.now (kept_leaves c.args.group.now.inner.entries))) c.args.rect.span c.args.row (unsigned_abs c.args.rect.span.x0) (unsigned_abs c.args.rect.span.x1) (λ k p. blended c.args.group.now.blend (scaled (composed (c.args.rect.span.x0 +ℤ pos k) (pos c.args.row) clear (picked c.args.own.now (kept_leaves c.args.group.now.inner.entries))) c.args.group.now.opacity) p) c.part_mut-out.result.now c.lay_own.new.out c.args.canvas.now _
    (omega (arith, ints)) (omega (arith, ints)) (omega (arith, ints)) (omega (arith, ints)) above c.part_mut-out.ensures.value c.part_mut-out.ensures.len
    laid (λ k p l. let e : c.args.rect.span.x0 +ℤ pos k ≡ pos (unsigned_abs c.args.rect.span.x0 + k) = omega (arith, ints) in
    ap (λ z. blended c.args.group.now.blend (scaled (composed z (pos c.args.row) clear (picked c.args.own.now (kept_leaves c.args.group.now.inner.entries))) c.args.group.now.opacity) p) e) (c.part_mut-out.ensures.exact c.lay_own.new.out (c.lay_own.auto.out ∙ c.part_mut-out.ensures.len))
