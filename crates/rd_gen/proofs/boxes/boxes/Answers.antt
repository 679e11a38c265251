use Rattle.std.proofs.Common.{◌≡◌, ◌<◌, ◌≤◌, ◌^◌, length, ◌∷◌, [], refl, sym, ap, subst, ◌∙◌, arith}
use Rattle.rd_gen.specs.Boxes as spec
use Rattle.rd_gen.specs.Boxes.{root}
use Rattle.rd_gen.specs.Internal.Depths.{HasDepths}
use Rattle.rd_gen.proofs.Growth.{grown_first, grown_more, parent_at, box_below_id, box_below_parent, depth_read, depths_first, depths_more}
use Rattle.rd_gen.proofs.Turns.{first_box, box_more}
use Rattle.rd_gen.proofs.boxes.boxes.Goals as goal

pub loop-i-init : goal.loop-i-init
loop-i-init c =
    let is : c.push.new.self.items ≡ root ∷ [] = rw (c.in_ok-push.ensures.items, c.new-boxes.ensures.items, c.in_ok-root.ensures) refl in
    let one : c.push-2.new.self.items ≡ 1 ∷ [] = rw (c.in_ok-push-2.ensures.items, c.new-depths.ensures.items) refl in
    record {
      drawn = first_box c.args.draw.now ∙ ap (λ l. (l, c.args.draw.now)) (sym is);
      grown = rw is grown_first;
      len = omega (arith, c.in_ok-push-2.ensures.len, c.new-depths.ensures.len);
      depths = depths_first _ _ is one;
    }

pub overflow_add-depth : goal.overflow_add-depth
overflow_add-depth c =
    let has = subst (HasDepths c.loop-i.boxes.items) (sym c.deref.ensures.value) c.loop-i.invariant.depths in
    let under = c.parent_by-parent.ensures.parent c.loop-i.boxes.items has in
    let (d, at, shallow) = parent_at c.loop-i.i c.below.result c.parent_by-parent.result c.loop-i.boxes.items c.loop-i.invariant.grown c.below.ensures.under under in
    let read : c.index.result.now ≡ d = depth_read c.loop-i.i c.parent_by-parent.result d c.index.result.now c.loop-i.boxes.items c.loop-i.depths.items
    c.loop-i.invariant.depths (rw c.deref.ensures.value at c.parent_by-parent.ensures.before) at c.index.ensures in
    omega (arith, read, shallow)

pub loop-i-preserved : goal.loop-i-preserved
loop-i-preserved c =
    let xs = c.loop-i.boxes.items in
    let q = c.parent_by-parent.result in
    let has = subst (HasDepths xs) (sym c.deref.ensures.value) c.loop-i.invariant.depths in
    let under : q ≡ spec.parent_by xs c.below.result = c.parent_by-parent.ensures.parent xs has in
    let (d, at, shallow) = parent_at c.loop-i.i c.below.result q xs c.loop-i.invariant.grown c.below.ensures.under under in
    let read : c.index.result.now ≡ d = depth_read c.loop-i.i q d c.index.result.now xs c.loop-i.depths.items
    c.loop-i.invariant.depths (rw c.deref.ensures.value at c.parent_by-parent.ensures.before) at c.index.ensures in
    let len : length c.loop-i.depths.items ≡ c.loop-i.i = ap length (sym c.deref.ensures.value) ∙ c.deref.ensures.len ∙ c.loop-i.invariant.len in
    let named = box_below_id _ _ _ _ _ c.in_ok-b.ensures in
    let parent = box_below_parent _ _ _ _ _ c.in_ok-b.ensures in
    let few : c.loop-i.i < 2 ^ 31 = omega arith in
    let some : 1 ≤ c.loop-i.i = omega arith in
    record {
      drawn = rw c.in_ok-push-3.ensures.items (box_more _ _ _ _ _ _ _ _ _ some c.loop-i.invariant.drawn c.below.ensures.drawn under c.in_ok-b.ensures);
      grown = rw c.in_ok-push-3.ensures.items (grown_more c.loop-i.i xs _ q few c.loop-i.invariant.grown some d at shallow named parent);
      len = omega (arith, c.in_ok-push-4.ensures.len, c.loop-i.invariant.len);
      depths = rw (c.in_ok-push-3.ensures.items, c.in_ok-push-4.ensures.items, read)
          (depths_more c.loop-i.i xs c.loop-i.depths.items _ q d few len named parent at c.loop-i.invariant.depths);
    }
