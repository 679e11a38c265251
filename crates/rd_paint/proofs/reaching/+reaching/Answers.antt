use Rattle.std.proofs.Common.{◌≡◌, ◌+◌, length, drop, arith, refl, sym, ap, ◌∙◌, FitsSigned, w32, rules}
use Rattle.std.proofs.lemmas.Int.{to_z-of_z}
use Rattle.rd_item.specs.declared.leaf.Leaf as item
use Rattle.rd_item.specs.Items.{Made}
use Rattle.rd_keys.specs.declared.entry.EntryKey.{EntryKey}
use Rattle.rd_list.specs.Displayed.{shown}
use Rattle.rd_list.specs.Entries.{Entries, list_size}
use Rattle.rd_list.specs.EntryNames.{kept_leaves}
use Rattle.rd_list.specs.Kept.{Ordered}
use Rattle.rd_list.specs.KeptView.{kept_entries}
use Rattle.rd_list.specs.Lists.{composed}
use Rattle.rd_list.specs.Wrappers.{Wrapper}
use Rattle.rd_list.proofs.Viewing.{size_at}
use Rattle.rd_paint.specs.Internal.Picks.{OffSpan, picked, chosen}
use Rattle.rd_paint.proofs.Picking.{entry_at-shown, entry_at-past, entry_at-leaf, entry_at-group}
use Rattle.rd_paint.proofs.Shown.Seen.{unseen_more, unseen_last, where_found}
use Rattle.rd_paint.proofs.Shown.Showing.{same_by, group_unseen}
use Rattle.rd_paint.proofs.reaching.+reaching.Goals as goal

pub reach-loop-i-init : goal.reach-loop-i-init
reach-loop-i-init g t c = record { at = omega arith; same = λ x y d h. refl }

pub reach-loop-i-preserved : goal.reach-loop-i-preserved
reach-loop-i-preserved g t c =
    let fy : FitsSigned w32 c.args.y = search rules in
    let before = simp to_z-of_z at c.loop-i.invariant.same in
    let one = simp to_z-of_z at c.in_ok-more.ensures in
    record {
      at = c.pick_at-place.ensures.within;
      same = simp to_z-of_z (unseen_more c.loop-i.span c.in_ok-more.more c.together-span.result c.args.y (picked (drop c.loop-i.i c.args.picks.now) (shown c.args.entries.now)) (chosen c.pick_at-place.result.1.now c.pick_at-place.result.0 (shown c.args.entries.now)) (picked (drop (c.loop-i.i + 1 + length c.pick_at-place.result.1.now) c.args.picks.now) (shown c.args.entries.now)) (picked c.args.picks.now (shown c.args.entries.now)) c.together-span.ensures.first c.together-span.ensures.second (c.pick_at-place.ensures.parts (shown c.args.entries.now)) before one);
    }

pub reach-returns : goal.reach-returns
reach-returns g t c =
    let fy : FitsSigned w32 c.args.y = search rules in
    let before = simp to_z-of_z at c.loop-i.invariant.same in
    unseen_last c.loop-i.span c.args.y c.args.picks.now c.loop-i.i (shown c.args.entries.now) (picked c.args.picks.now (shown c.args.entries.now)) c.loop-i-test.false before

pub reach_at-reach_pick-requires : goal.reach_at-reach_pick-requires
reach_at-reach_pick-requires g t c κs within =
    let s = size_at c.args.entries.now c.args.place c.index-entries-index.result c.if-index-entries.true c.index-entries-index.is in
    (omega (arith, s, c.decreases), within)

pub reach_at-returns-then-index-entries : goal.reach_at-returns-then-index-entries
reach_at-returns-then-index-entries g t c =
    let fy : FitsSigned w32 c.args.y = search rules in
    let s = simp to_z-of_z at c.reach_pick.ensures in
    where_found _ _ c.reach_pick.result
    (λ found u x y d h. u x y d h ∙ ap (λ (xs : Entries Wrapper item.Leaf). composed x y d xs) (sym (entry_at-shown (picked c.args.own.now) c.args.entries.now c.args.place c.index-entries-index.result c.if-index-entries.true c.index-entries-index.is))) s

pub reach_at-returns : goal.reach_at-returns
reach_at-returns g t c = same_by (OffSpan c.nothing.result c.args.y) _ _ (sym (entry_at-past (picked c.args.own.now) c.args.entries.now c.args.place c.if-index-entries.false))

pub reach_group-reach-requires : goal.reach_group-reach-requires
reach_group-reach-requires g t c κs within =
    let e : kept_entries c.entries.result.now ≡ c.args.inner.now.entries = c.entries.ensures in
    let n = ap (λ (es : Entries (Ordered EntryKey Wrapper) Made). list_size es) e in
    (omega (arith, n, c.decreases), within)

pub reach_group-returns : goal.reach_group-returns
reach_group-returns g t c =
    let fy : FitsSigned w32 c.args.y = search rules in
    let s = simp to_z-of_z at c.reach.ensures in
    let e : shown c.entries.result.now ≡ kept_leaves c.args.inner.now.entries = ap kept_leaves (c.entries.ensures) in
    where_found _ _ c.reach.result
    (λ found u w. group_unseen (OffSpan found c.args.y) w (picked c.args.own.now (kept_leaves c.args.inner.now.entries)) (λ x y d h. u x y d h ∙ ap (λ (xs : Entries Wrapper item.Leaf). composed x y d (picked c.args.own.now xs)) e)) s

pub reach_pick-returns-in-Leaf : goal.reach_pick-returns-in-Leaf
reach_pick-returns-in-Leaf g t c =
    let fy : FitsSigned w32 c.args.y = search rules in
    let s = simp to_z-of_z at c.reach_item.ensures in
    rw (c.in-Leaf.is, entry_at-leaf (picked c.args.own.now) c.in-Leaf.item.leaf) s

pub reach_pick-returns-in-Group : goal.reach_pick-returns-in-Group
reach_pick-returns-in-Group g t c =
    let fy : FitsSigned w32 c.args.y = search rules in
    let s = simp to_z-of_z at c.reach_group.ensures in
    rw (c.in-Group.is, entry_at-group (picked c.args.own.now) (record { key = c.in-Group.group.key; opacity = c.in-Group.group.opacity; blend = c.in-Group.group.blend }) (kept_leaves c.in-Group.group.inner.entries))
    (where_found _ _ c.reach_group.result (λ found u. u (record { key = c.in-Group.group.key; opacity = c.in-Group.group.opacity; blend = c.in-Group.group.blend })) s)
