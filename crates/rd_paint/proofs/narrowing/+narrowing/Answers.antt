use Rattle.std.proofs.Common.{◌≡◌, ◌≤◌, ◌+◌, ◌-◌, length, take, drop, arith, refl, sym, ap, subst, ◌∙◌, FitsSigned, w32, rules, length-take, length-drop}
use Rattle.std.proofs.lemmas.Int.{to_z-of_z}
use Rattle.std.proofs.lemmas.List.{length-take-le}
use Rattle.rd_item.specs.declared.leaf.Leaf as item
use Rattle.rd_list.specs.Displayed.{shown}
use Rattle.rd_list.specs.Entries.{Entries, group, nil, ◌▷◌}
use Rattle.rd_list.specs.EntryNames.{kept_leaves}
use Rattle.rd_list.specs.Wrappers.{Wrapper}
use Rattle.rd_list.proofs.Viewing.{size_at}
use Rattle.rd_paint.specs.Internal.Picks.{InRows, ServesWhere, picked, chosen}
use Rattle.rd_paint.proofs.Picking.{closed_none, closed_by, put_first, picked-none, entry_at-shown, entry_at-past, entry_at-leaf, entry_at-group}
use Rattle.rd_paint.proofs.Shown.Showing.{serves_by, same_last, written_more, none_named, group_named, group_unseen, nothing_inside, some_inside}
use Rattle.rd_paint.proofs.narrowing.+narrowing.Goals as goal

pub narrow-loop-i-init : goal.narrow-loop-i-init
narrow-loop-i-init g t c = record {
  at = omega arith;
  within = omega arith;
  closed = closed_none;
  same = serves_by (InRows _ _) (picked (take 0 c.args.room.now) (shown c.args.entries.now) ▷ picked c.args.picks.now (shown c.args.entries.now)) (picked c.args.picks.now (shown c.args.entries.now)) (ap (λ (xs : Entries Wrapper item.Leaf). xs ▷ picked c.args.picks.now (shown c.args.entries.now)) (picked-none (shown c.args.entries.now)));
}

pub narrow-loop-i-preserved : goal.narrow-loop-i-preserved
narrow-loop-i-preserved g t c =
    let f0 : FitsSigned w32 c.args.y0 = search rules in
    let f1 : FitsSigned w32 c.args.y1 = search rules in
    let before = simp to_z-of_z at c.loop-i.invariant.same in
    let one = simp to_z-of_z at c.narrow_at-more.ensures.same in
    let len = simp (length-take, length-drop) at c.narrow_at-more.auto.room in
    let fits : c.narrow_at-more.result ≤ length c.narrow_at-more.new.room = omega (arith, len, c.narrow_at-more.ensures.within, c.pick_at-place.ensures.within, c.loop-i.auto.room, c.loop-i.invariant.within, c.requires.room) in
    let written = written_more (InRows c.args.y0 c.args.y1) (shown c.args.entries.now) (picked c.args.picks.now (shown c.args.entries.now)) (chosen c.pick_at-place.result.1.now c.pick_at-place.result.0 (shown c.args.entries.now))
    (picked (drop (c.loop-i.i + 1 + length c.pick_at-place.result.1.now) c.args.picks.now) (shown c.args.entries.now)) (picked (drop c.loop-i.i c.args.picks.now) (shown c.args.entries.now)) c.loop-i.room c.narrow_at-more.new.room c.loop-i.count c.narrow_at-more.result (length c.loop-i.room - c.loop-i.count)
    (omega (arith, c.loop-i.auto.room, c.loop-i.invariant.at, c.loop-i.invariant.within, c.requires.room)) fits (c.pick_at-place.ensures.parts (shown c.args.entries.now)) c.loop-i.invariant.closed c.narrow_at-more.ensures.closed before one in
    record {
      at = c.pick_at-place.ensures.within;
      within = omega (arith, c.narrow_at-more.ensures.within, c.loop-i.invariant.within);
      closed = written.0;
      same = simp to_z-of_z written.1;
    }

pub narrow-returns-clause-same : goal.narrow-returns-clause-same
narrow-returns-clause-same g t c =
    let f0 : FitsSigned w32 c.args.y0 = search rules in
    let f1 : FitsSigned w32 c.args.y1 = search rules in
    let before = simp to_z-of_z at c.loop-i.invariant.same in
    (same_last (InRows c.args.y0 c.args.y1) (shown c.args.entries.now) (picked c.args.picks.now (shown c.args.entries.now)) (take c.loop-i.count c.loop-i.room) c.args.picks.now c.loop-i.i c.loop-i-test.false before).0

pub narrow-returns-clause-levels : goal.narrow-returns-clause-levels
narrow-returns-clause-levels g t c =
    let f0 : FitsSigned w32 c.args.y0 = search rules in
    let f1 : FitsSigned w32 c.args.y1 = search rules in
    let before = simp to_z-of_z at c.loop-i.invariant.same in
    (same_last (InRows c.args.y0 c.args.y1) (shown c.args.entries.now) (picked c.args.picks.now (shown c.args.entries.now)) (take c.loop-i.count c.loop-i.room) c.args.picks.now c.loop-i.i c.loop-i-test.false before).1

pub narrow_at-narrow_pick-requires : goal.narrow_at-narrow_pick-requires
narrow_at-narrow_pick-requires g t c κs within =
    let s = size_at c.args.entries.now c.args.place c.index-entries-index.result c.if-index-entries.true c.index-entries-index.is in
    (omega (arith, s, c.decreases), (within, (c.requires.few, c.requires.room)))

pub narrow_at-returns-then-index-entries-clause-same : goal.narrow_at-returns-then-index-entries-clause-same
narrow_at-returns-then-index-entries-clause-same g t c =
    let f0 : FitsSigned w32 c.args.y0 = search rules in
    let f1 : FitsSigned w32 c.args.y1 = search rules in
    let s = simp to_z-of_z at c.narrow_pick.ensures.same in
    let at = λ (f : Entries Wrapper item.Leaf → Entries Wrapper item.Leaf). entry_at-shown f c.args.entries.now c.args.place c.index-entries-index.result c.if-index-entries.true c.index-entries-index.is in
    let whole = s (shown c.args.entries.now) at in
    let back = sym (at (picked c.args.own.now)) in
    subst (λ (xs : Entries Wrapper item.Leaf). ServesWhere (InRows c.args.y0 c.args.y1) (picked (take c.narrow_pick.result c.narrow_pick.new.room) (shown c.args.entries.now)) xs) back whole

pub narrow_at-returns-clause-closed : goal.narrow_at-returns-clause-closed
narrow_at-returns-clause-closed g t c = closed_none

pub narrow_at-returns-clause-same : goal.narrow_at-returns-clause-same
narrow_at-returns-clause-same g t c = serves_by (InRows c.args.y0 c.args.y1) _ _ (picked-none (shown c.args.entries.now) ∙ sym (entry_at-past (picked c.args.own.now) c.args.entries.now c.args.place c.if-index-entries.false))

pub narrow_group-returns-then-inside-eq0-clause-closed : goal.narrow_group-returns-then-inside-eq0-clause-closed
narrow_group-returns-then-inside-eq0-clause-closed g t c = closed_none

pub narrow_group-returns-then-inside-eq0-clause-same : goal.narrow_group-returns-then-inside-eq0-clause-same
narrow_group-returns-then-inside-eq0-clause-same g t c = λ w.
    let f0 : FitsSigned w32 c.args.y0 = search rules in
    let f1 : FitsSigned w32 c.args.y1 = search rules in
    let s = simp to_z-of_z at c.narrow-inside.ensures.same in
    let e : shown c.entries.result.now ≡ kept_leaves c.args.inner.now.entries = ap kept_leaves (c.entries.ensures) in
    none_named (InRows c.args.y0 c.args.y1) c.args.place (group w (kept_leaves c.args.inner.now.entries) nil) (group w (picked c.args.own.now (kept_leaves c.args.inner.now.entries)) nil)
    (group_unseen (InRows c.args.y0 c.args.y1) w (picked c.args.own.now (kept_leaves c.args.inner.now.entries)) (nothing_inside (InRows c.args.y0 c.args.y1) c.narrow-inside.result _ c.args.own.now (shown c.entries.result.now) (kept_leaves c.args.inner.now.entries) c.if-inside-eq0.true e s))

pub narrow_group-returns-clause-closed : goal.narrow_group-returns-clause-closed
narrow_group-returns-clause-closed g t c =
    let len = simp (length-take, length-drop) at c.narrow-inside.auto.room in
    let fits : c.narrow-inside.result ≤ length c.narrow-inside.new.room = omega (arith, len, c.narrow-inside.ensures.within, c.requires.room) in
    let w = put_first c.args.place c.narrow-inside.result _ c.args.room.now c.narrow-inside.new.room _ (omega (arith, c.requires.room)) fits c.put.ensures.written in
    closed_by c.args.place c.narrow-inside.result c.narrow-inside.new.room _ fits w

pub narrow_group-returns-clause-same : goal.narrow_group-returns-clause-same
narrow_group-returns-clause-same g t c = λ w.
    let f0 : FitsSigned w32 c.args.y0 = search rules in
    let f1 : FitsSigned w32 c.args.y1 = search rules in
    let s = simp to_z-of_z at c.narrow-inside.ensures.same in
    let e : shown c.entries.result.now ≡ kept_leaves c.args.inner.now.entries = ap kept_leaves (c.entries.ensures) in
    let len = simp (length-take, length-drop) at c.narrow-inside.auto.room in
    let fits : c.narrow-inside.result ≤ length c.narrow-inside.new.room = omega (arith, len, c.narrow-inside.ensures.within, c.requires.room) in
    let q = put_first c.args.place c.narrow-inside.result _ c.args.room.now c.narrow-inside.new.room _ (omega (arith, c.requires.room)) fits c.put.ensures.written in
    group_named (InRows c.args.y0 c.args.y1) c.args.place w (kept_leaves c.args.inner.now.entries) (picked c.args.own.now (kept_leaves c.args.inner.now.entries)) c.narrow-inside.result (take c.narrow-inside.result c.narrow-inside.new.room) _ (length-take-le c.narrow-inside.result c.narrow-inside.new.room fits) q
    (some_inside (InRows c.args.y0 c.args.y1) (take c.narrow-inside.result c.narrow-inside.new.room) (take c.narrow-inside.result c.narrow-inside.new.room) c.args.own.now (shown c.entries.result.now) (kept_leaves c.args.inner.now.entries) refl e (s, c.narrow-inside.ensures.levels))

pub narrow_pick-returns-in-Leaf-clause-same : goal.narrow_pick-returns-in-Leaf-clause-same
narrow_pick-returns-in-Leaf-clause-same g t c =
    let f0 : FitsSigned w32 c.args.y0 = search rules in
    let f1 : FitsSigned w32 c.args.y1 = search rules in
    let s = simp to_z-of_z at c.narrow_item.ensures.same in
    rw (c.in-Leaf.is, entry_at-leaf (picked c.args.own.now) c.in-Leaf.item.leaf) s

pub narrow_pick-returns-in-Group-clause-same : goal.narrow_pick-returns-in-Group-clause-same
narrow_pick-returns-in-Group-clause-same g t c =
    let f0 : FitsSigned w32 c.args.y0 = search rules in
    let f1 : FitsSigned w32 c.args.y1 = search rules in
    let s = simp to_z-of_z at c.narrow_group.ensures.same in
    rw (c.in-Group.is, entry_at-group (picked c.args.own.now) (record { key = c.in-Group.group.key; opacity = c.in-Group.group.opacity; blend = c.in-Group.group.blend }) (kept_leaves c.in-Group.group.inner.entries)) (s (record { key = c.in-Group.group.key; opacity = c.in-Group.group.opacity; blend = c.in-Group.group.blend }))
