use Rattle.std.proofs.Common.{◌≡◌, ◌≤◌, ◌+◌, ◌-◌, ◌∷◌, [], List, length, take, drop, arith, rules, sym, ap, subst, ◌∙◌, length-take, length-drop}
use Rattle.std.proofs.lemmas.List.{length-take-le, drop_all}
use Rattle.rd_item.specs.declared.leaf.Leaf as item
use Rattle.rd_list.specs.Displayed.{shown}
use Rattle.rd_list.specs.Entries.{Entries, group, nil, ◌▷◌}
use Rattle.rd_list.specs.EntryNames.{kept_leaves}
use Rattle.rd_list.specs.Lists.{composed}
use Rattle.rd_list.specs.Wrappers.{Wrapper}
use Rattle.rd_list.proofs.Displaying.{shown_from}
use Rattle.rd_list.specs.declared.kept.Entry.{Entry}
use Rattle.rd_list.proofs.Joins.{join-nil}
use Rattle.rd_list.proofs.Viewing.{size_at}
use Rattle.rd_paint.specs.Internal.Picks.{InAreaWithin, ServesWhere, picked}
use Rattle.rd_paint.proofs.Picking.{closed_none, closed_by, put_first, put_fits, picked-none, entry_at-shown}
use Rattle.rd_paint.proofs.Shown.Older.{since_at}
use Rattle.rd_paint.proofs.Shown.Showing.{serves_by, serves_less, written_past, none_named, group_named, group_unseen, nothing_left, some_group}
use Rattle.rd_paint.proofs.Depths.{join_has}
use Rattle.rd_paint.proofs.gathering.+gathering.Goals as goal

pub gather-loop-i-init : goal.gather-loop-i-init
gather-loop-i-init g t c =
    let past = c.next_within-i.ensures.same in
    record {
      at = c.next_within-i.ensures.within;
      chunk = c.next_within-i.ensures.at;
      within = omega arith;
      closed = closed_none;
      same =
          serves_less (InAreaWithin c.args.sight.area.now c.args.sight.columns c.args.sight.rows) (picked (take 0 c.args.room.now) (shown c.args.level.entries.now)) (shown (drop c.next_within-i.result c.args.level.entries.now)) (shown c.args.level.entries.now) (shown c.args.level.entries.now)
          past
          (serves_by (InAreaWithin c.args.sight.area.now c.args.sight.columns c.args.sight.rows) _ _ (ap (λ (xs : Entries Wrapper item.Leaf). xs ▷ shown c.args.level.entries.now) (picked-none (shown c.args.level.entries.now))));
    }

pub gather-gather_one-requires : goal.gather-gather_one-requires
gather-gather_one-requires g t c κs within =
    let s = size_at c.args.level.entries.now c.loop-i.i c.index-entries-i.result c.loop-i-test.true c.index-entries-i.is in
    let n = length-take (length c.loop-i.room - c.loop-i.count) (drop c.loop-i.count c.loop-i.room) in
    let d = length-drop c.loop-i.count c.loop-i.room in
    (omega (arith, s, c.decreases), (within, (omega (arith, n, d, c.loop-i.auto.room, c.requires.few), since_at c.args.sight.area.now c.args.sight.since c.args.level.entries.now c.loop-i.i c.index-entries-i.result c.loop-i-test.true c.index-entries-i.is c.requires.since)))

pub gather-loop-i-preserved : goal.gather-loop-i-preserved
gather-loop-i-preserved g t c =
    let fits : c.in_ok-more.more ≤ length c.gather_one.new.room = omega (arith, c.in_ok-more.ensures.within, c.gather_one.auto.room) in
    let at = λ (f : Entries Wrapper item.Leaf → Entries Wrapper item.Leaf). entry_at-shown f c.args.level.entries.now c.loop-i.i c.index-entries-i.result c.loop-i-test.true c.index-entries-i.is in
    let past = c.next_within-i-in-loop-i.ensures.same in
    let written = written_past (InAreaWithin c.args.sight.area.now c.args.sight.columns c.args.sight.rows) (shown c.args.level.entries.now) (shown c.args.level.entries.now) (shown (c.index-entries-i.result ∷ [])) (shown (drop (c.loop-i.i + 1) c.args.level.entries.now)) (shown (drop c.loop-i.i c.args.level.entries.now)) (shown (drop c.next_within-i-in-loop-i.result c.args.level.entries.now))
    c.loop-i.room c.gather_one.new.room c.loop-i.count c.in_ok-more.more (length c.loop-i.room - c.loop-i.count) c.loop-i.invariant.within fits (shown_from c.args.level.entries.now c.loop-i.i c.index-entries-i.result c.loop-i-test.true c.index-entries-i.is)
    c.loop-i.invariant.closed c.in_ok-more.ensures.closed c.loop-i.invariant.same (c.in_ok-more.ensures.same (shown c.args.level.entries.now) at) past in
    record {
      at = c.next_within-i-in-loop-i.ensures.within;
      chunk = c.next_within-i-in-loop-i.ensures.at;
      within = put_fits c.loop-i.count (length c.loop-i.room - c.loop-i.count) c.in_ok-more.more c.loop-i.room c.gather_one.new.room c.loop-i.invariant.within fits;
      closed = written.0;
      same = written.1;
    }

pub gather-returns-clause-same : goal.gather-returns-clause-same
gather-returns-clause-same g t c = λ x y d h.
    sym (ap (λ (ts : List (Entry g.row.A.Denot)). composed x y d (picked (take c.loop-i.count c.loop-i.room) (shown c.args.level.entries.now) ▷ shown ts)) (drop_all c.loop-i.i c.args.level.entries.now c.loop-i-test.false)
    ∙ ap (λ (xs : Entries Wrapper item.Leaf). composed x y d xs) (join-nil (picked (take c.loop-i.count c.loop-i.room) (shown c.args.level.entries.now)))) ∙ c.loop-i.invariant.same.0 x y d h

pub gather-returns-clause-levels : goal.gather-returns-clause-levels
gather-returns-clause-levels g t c =
    let a = (join_has (picked (take c.loop-i.count c.loop-i.room) (shown c.args.level.entries.now)) (shown (drop c.loop-i.i c.args.level.entries.now))).0 in
    let b = c.loop-i.invariant.same.1 in
    omega (arith, a, b)

pub gather_group-returns-then-inside-eq0-clause-closed : goal.gather_group-returns-then-inside-eq0-clause-closed
gather_group-returns-then-inside-eq0-clause-closed g t c = closed_none

pub gather_group-returns-then-inside-eq0-clause-same : goal.gather_group-returns-then-inside-eq0-clause-same
gather_group-returns-then-inside-eq0-clause-same g t c = λ w.
    let e : shown c.blocked.result.entries.now ≡ kept_leaves c.args.inner.now.entries = ap kept_leaves (c.blocked.ensures.entries) in
    none_named (InAreaWithin c.args.sight.area.now c.args.sight.columns c.args.sight.rows) c.args.place (group w (kept_leaves c.args.inner.now.entries) nil) (group w (kept_leaves c.args.inner.now.entries) nil)
    (group_unseen (InAreaWithin c.args.sight.area.now c.args.sight.columns c.args.sight.rows) w (kept_leaves c.args.inner.now.entries) (nothing_left (InAreaWithin c.args.sight.area.now c.args.sight.columns c.args.sight.rows) c.in_ok-inside.inside c.gather.new.room (shown c.blocked.result.entries.now) (shown c.blocked.result.entries.now) (kept_leaves c.args.inner.now.entries) c.if-inside-eq0.true e c.in_ok-inside.ensures.same))

pub gather_group-returns-clause-closed : goal.gather_group-returns-clause-closed
gather_group-returns-clause-closed g t c =
    let fits : c.in_ok-inside.inside ≤ length c.gather.new.room = omega (arith, c.in_ok-inside.ensures.within, c.gather.auto.room) in
    let some : 1 ≤ length c.args.room.now = search rules in
    let w = put_first c.args.place c.in_ok-inside.inside _ c.args.room.now c.gather.new.room _ some fits c.put.ensures.written in
    closed_by c.args.place c.in_ok-inside.inside c.gather.new.room _ fits w

pub gather_group-returns-clause-same : goal.gather_group-returns-clause-same
gather_group-returns-clause-same g t c = λ w.
    let e : shown c.blocked.result.entries.now ≡ kept_leaves c.args.inner.now.entries = ap kept_leaves (c.blocked.ensures.entries) in
    let fits : c.in_ok-inside.inside ≤ length c.gather.new.room = omega (arith, c.in_ok-inside.ensures.within, c.gather.auto.room) in
    let some : 1 ≤ length c.args.room.now = search rules in
    let q = put_first c.args.place c.in_ok-inside.inside _ c.args.room.now c.gather.new.room _ some fits c.put.ensures.written in
    group_named (InAreaWithin c.args.sight.area.now c.args.sight.columns c.args.sight.rows) c.args.place w (kept_leaves c.args.inner.now.entries) (kept_leaves c.args.inner.now.entries) c.in_ok-inside.inside (take c.in_ok-inside.inside c.gather.new.room) _ (length-take-le c.in_ok-inside.inside c.gather.new.room fits) q
    (subst (λ (xs : Entries Wrapper item.Leaf). ServesWhere (InAreaWithin c.args.sight.area.now c.args.sight.columns c.args.sight.rows) (picked (take c.in_ok-inside.inside c.gather.new.room) xs) xs) e (c.in_ok-inside.ensures.same, c.in_ok-inside.ensures.levels))

pub gather_one-returns-in-Group-clause-same : goal.gather_one-returns-in-Group-clause-same
gather_one-returns-in-Group-clause-same g t c =
    rw c.in-Group.is
    (some_group (InAreaWithin c.args.sight.area.now c.args.sight.columns c.args.sight.rows) c.args.place (kept_leaves c.in-Group.group.inner.entries) (λ n. take n c.gather_group.new.room) c.gather_group.result c.gather_group.ensures.same (record { key = c.in-Group.group.key; opacity = c.in-Group.group.opacity; blend = c.in-Group.group.blend }))
