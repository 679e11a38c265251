use Rattle.std.proofs.Common.{refl, ℕ, List, take, ◌≡◌, ◌≤◌, ◌+◌, ◌-◌, ◌∷◌, [], suc, min, length, length-take, length-drop, drop, arith, sym, ap, ◌∙◌, FitsSigned, w32, rules}
use Rattle.std.proofs.lemmas.Int.{to_z-of_z, ints}
use Rattle.std.proofs.lemmas.List.{take_all}
use Rattle.rd_geom.specs.Colors.{clear}
use Rattle.rd_item.specs.declared.leaf.Leaf as item
use Rattle.rd_item.specs.Items.{Made}
use Rattle.rd_keys.specs.declared.entry.EntryKey.{EntryKey}
use Rattle.rd_list.specs.Displayed.{shown}
use Rattle.rd_list.specs.Entries.{Entries, list_size}
use Rattle.rd_list.specs.EntryNames.{kept_leaves}
use Rattle.rd_list.specs.Kept.{Ordered}
use Rattle.rd_list.specs.KeptView.{kept_entries}
use Rattle.rd_list.specs.Views.{levels, deeper}
use Rattle.rd_list.specs.Wrappers.{Wrapper}
use Rattle.rd_list.proofs.Viewing.{size_at}
use Rattle.rd_paint.specs.Internal.Picks.{picked, chosen}
use Rattle.rd_paint.specs.Internal.Runs.{laid_along}
use Rattle.rd_paint.specs.declared.picks.Pick.{Pick}
use Rattle.rd_paint.proofs.Choosing.{laid_on, laid_off}
use Rattle.rd_paint.proofs.Depths.{group_levels, join_has, levels_by, rows_levels, rows_by, rows_same, rows_left, rows_within, no_rows, nothing_shown}
use Rattle.rd_paint.proofs.Laying.{laid_along-nil, laid_none, group_from}
use Rattle.rd_paint.proofs.Picking.{entry_at-shown, entry_at-past, entry_at-leaf, entry_at-group}
use Rattle.rd_paint.proofs.Shown.Seen.{seen_laid, unseen_laid}
use Rattle.rd_paint.proofs.chosen.+choosing.Goals as goal

all_behind : (i : ℕ) (ps : List Pick) → i ≤ length ps → take (length ps - i) (drop i ps) ≡ drop i ps
all_behind i ps h = take_all (length ps - i) (drop i ps) (let n = length-drop i ps in omega (arith, n))

pub lay_at-lay_pick-requires : goal.lay_at-lay_pick-requires
lay_at-lay_pick-requires g t c κs within =
    let s = size_at c.args.entries.now c.args.pick.0 c.index-entries-index.result c.if-index-entries.true c.index-entries-index.is in
    let e = entry_at-shown (picked c.args.pick.1.now) c.args.entries.now c.args.pick.0 c.index-entries-index.result c.if-index-entries.true c.index-entries-index.is in
    let r = rows_same (length c.args.out.now) (length c.args.rows.now) _ _ e c.requires.rows in
    (omega (arith, s, c.decreases), (within, (r, (omega (arith, ints), omega (arith, ints)))))

pub lay_at-returns-then-index-entries : goal.lay_at-returns-then-index-entries
lay_at-returns-then-index-entries g t c =
    let fx : FitsSigned w32 c.args.x0 = search rules in
    let fy : FitsSigned w32 c.args.y = search rules in
    let laid = simp to_z-of_z at c.lay_pick.ensures in
    laid ∙ ap (λ (es : Entries Wrapper item.Leaf). laid_along c.args.y c.args.x0 es c.args.out.now) (sym (entry_at-shown (picked c.args.pick.1.now) c.args.entries.now c.args.pick.0 c.index-entries-index.result c.if-index-entries.true c.index-entries-index.is))

pub lay_at-returns-else-index-entries : goal.lay_at-returns-else-index-entries
lay_at-returns-else-index-entries g t c =
    sym (laid_along-nil c.args.y c.args.x0 c.args.out.now)
    ∙ ap (λ (es : Entries Wrapper item.Leaf). laid_along c.args.y c.args.x0 es c.args.out.now) (sym (entry_at-past (picked c.args.pick.1.now) c.args.entries.now c.args.pick.0 c.if-index-entries.false))

pub lay_own-lay_seen-requires : goal.lay_own-lay_seen-requires
lay_own-lay_seen-requires g t c κs within =
    let short : min (c.places-from.result.1 - c.places-from.result.0) (length c.args.out.now - c.places-from.result.0) ≤ length c.args.out.now = omega arith in
    (omega (arith, c.decreases), (within, (rows_within _ (length c.args.out.now) (deeper (levels (picked c.args.own.now (kept_leaves c.args.group.now.inner.entries))) - 1) (length c.args.rows.now) (simp (length-take, length-drop) short) c.requires.rows, (omega (arith, ints), simp (length-take, length-drop) (omega (arith, ints))))))

pub lay_own-returns-then-from-to : goal.lay_own-returns-then-from-to
lay_own-returns-then-from-to g t c =
    let fx : FitsSigned w32 c.args.x0 = search rules in
    let fy : FitsSigned w32 c.args.y = search rules in
    let unseen = simp to_z-of_z at c.places-from.ensures.unseen in
    let laid = simp to_z-of_z at c.lay_seen.ensures in
    seen_laid c.args.y c.args.x0 _ c.args.group.now.blend c.args.group.now.opacity (picked c.args.own.now (kept_leaves c.args.group.now.inner.entries)) c.args.out.now c.lay_seen.new.out c.places-from.result.0 c.places-from.result.1 c.places-from.ensures.order c.places-from.ensures.within
    (omega (arith, ints)) unseen laid

pub lay_own-returns-else-from-to : goal.lay_own-returns-else-from-to
lay_own-returns-else-from-to g t c =
    let fx : FitsSigned w32 c.args.x0 = search rules in
    let fy : FitsSigned w32 c.args.y = search rules in
    let unseen = simp to_z-of_z at c.places-from.ensures.unseen in
    unseen_laid c.args.y c.args.x0 c.args.group.now.blend c.args.group.now.opacity (picked c.args.own.now (kept_leaves c.args.group.now.inner.entries)) c.args.out.now c.places-from.result.0 c.places-from.result.1 c.if-from-to.false unseen

pub lay_seen-returns-then-rows-n : goal.lay_seen-returns-then-rows-n
lay_seen-returns-then-rows-n g t c =
    let none = no_rows (length c.args.out.now) (length c.args.rows.now) (levels (picked c.args.own.now (kept_leaves c.args.group.now.inner.entries))) (omega arith) c.requires.rows in
    sym (laid_none c.args.y c.args.x0 c.args.group.now.blend c.args.group.now.opacity (picked c.args.own.now (kept_leaves c.args.group.now.inner.entries)) c.args.out.now
    (λ x y. nothing_shown x y clear (picked c.args.own.now (kept_leaves c.args.group.now.inner.entries)) none))

pub lay_seen-lay_picks-requires : goal.lay_seen-lay_picks-requires
lay_seen-lay_picks-requires g t c κs within =
    let e : kept_entries c.entries-entries.result.now ≡ c.args.group.now.inner.entries = c.entries-entries.ensures in
    let n = ap (λ (es : Entries (Ordered EntryKey Wrapper) Made). list_size es) e in
    let l = ap (λ (es : Entries (Ordered EntryKey Wrapper) Made). levels (picked c.args.own.now (kept_leaves es))) e in
    let tail = all_behind c.begin_row-laid.result c.args.own.now c.begin_row-laid.ensures.within in
    let b = levels_by _ _ (ap (λ (ps : List Pick). picked ps (shown c.entries-entries.result.now)) tail) in
    let more : levels (picked (take (length c.args.own.now - c.begin_row-laid.result) (drop c.begin_row-laid.result c.args.own.now)) (shown c.entries-entries.result.now)) ≤ levels (picked c.args.own.now (shown c.entries-entries.result.now)) =
    omega (arith, b, c.begin_row-laid.ensures.levels) in (
      omega (arith, n, c.decreases),
      (
        within,
        (
          rows_by (length c.begin_row-laid.new.row) _ (picked (take (length c.args.own.now - c.begin_row-laid.result) (drop c.begin_row-laid.result c.args.own.now)) (shown c.entries-entries.result.now)) (picked c.args.own.now (shown c.entries-entries.result.now)) more
              (rows_left (length c.args.out.now) (length c.args.rows.now) (levels (picked c.args.own.now (kept_leaves c.args.group.now.inner.entries))) _ _ _ (omega arith) c.requires.rows (c.begin_row-laid.auto.row ∙ c.split_at_mut-row.ensures.front_len) (omega (arith, c.split_at_mut-row.ensures.back_len)) l),
          (omega (arith, ints), omega (arith, ints, c.begin_row-laid.auto.row, c.split_at_mut-row.ensures.front_len)),
        ),
      ),
    )

pub lay_seen-returns : goal.lay_seen-returns
lay_seen-returns g t c =
    let fx : FitsSigned w32 c.args.x0 = search rules in
    let fy : FitsSigned w32 c.args.y = search rules in
    let e : kept_entries c.entries-entries.result.now ≡ c.args.group.now.inner.entries = c.entries-entries.ensures in
    let begun = simp to_z-of_z at c.begin_row-laid.ensures.laid in
    let tail = all_behind c.begin_row-laid.result c.args.own.now c.begin_row-laid.ensures.within in
    let row = simp to_z-of_z at c.lay_picks.ensures in
    group_from c.args.y c.args.x0 c.args.group.now.blend c.args.group.now.opacity _ (picked c.args.own.now (kept_leaves c.args.group.now.inner.entries)) (picked c.args.own.now (shown c.entries-entries.result.now)) c.args.out.now _ _ _
    (ap (λ (es : Entries (Ordered EntryKey Wrapper) Made). picked c.args.own.now (kept_leaves es)) e) (c.split_at_mut-row.ensures.front_len) refl (row ∙ ap (λ (ps : List Pick). laid_along c.args.y c.args.x0 (picked ps (shown c.entries-entries.result.now)) c.begin_row-laid.new.row) tail ∙ begun) c.lay_row.ensures

pub lay_pick-returns-in-Leaf : goal.lay_pick-returns-in-Leaf
lay_pick-returns-in-Leaf g t c =
    let fx : FitsSigned w32 c.args.x0 = search rules in
    let fy : FitsSigned w32 c.args.y = search rules in
    let laid = simp to_z-of_z at c.lay_item.ensures in
    rw (c.in-Leaf.is, entry_at-leaf (picked c.args.own.now) c.in-Leaf.item.leaf) laid

pub lay_pick-returns-in-Group : goal.lay_pick-returns-in-Group
lay_pick-returns-in-Group g t c =
    let fx : FitsSigned w32 c.args.x0 = search rules in
    let fy : FitsSigned w32 c.args.y = search rules in
    let laid = simp to_z-of_z at c.lay_own.ensures in
    rw (c.in-Group.is, entry_at-group (picked c.args.own.now) (record { key = c.in-Group.group.key; opacity = c.in-Group.group.opacity; blend = c.in-Group.group.blend }) (kept_leaves c.in-Group.group.inner.entries)) laid

pub lay_picks-loop-i-preserved : goal.lay_picks-loop-i-preserved
lay_picks-loop-i-preserved g t c =
    let fx : FitsSigned w32 c.args.x0 = search rules in
    let fy : FitsSigned w32 c.args.y = search rules in
    let before = simp to_z-of_z at c.loop-i.invariant.laid in
    let one = simp to_z-of_z at c.lay_at.ensures in
    record {
      within = omega (arith, c.pick_at-chosen.ensures.within);
      levels =
          let h = join_has (chosen c.pick_at-chosen.result.1.now c.pick_at-chosen.result.0 (shown c.args.entries.now)) (picked (drop (c.loop-i.i + 1 + length c.pick_at-chosen.result.1.now) c.args.picks.now) (shown c.args.entries.now)) in
          let a = h.1 in
          let b = levels_by _ _ (sym (c.pick_at-chosen.ensures.parts (shown c.args.entries.now))) in
          omega (arith, a, b, c.loop-i.invariant.levels);
      laid = simp to_z-of_z (laid_on c.args.y c.args.x0 (picked (drop c.loop-i.i c.args.picks.now) (shown c.args.entries.now)) (chosen c.pick_at-chosen.result.1.now c.pick_at-chosen.result.0 (shown c.args.entries.now)) (picked (drop (c.loop-i.i + 1 + length c.pick_at-chosen.result.1.now) c.args.picks.now) (shown c.args.entries.now)) _ _ _ (c.pick_at-chosen.ensures.parts (shown c.args.entries.now)) one before);
    }

pub lay_picks-returns : goal.lay_picks-returns
lay_picks-returns g t c =
    let fx : FitsSigned w32 c.args.x0 = search rules in
    let fy : FitsSigned w32 c.args.y = search rules in
    let before = simp to_z-of_z at c.loop-i.invariant.laid in
    laid_off c.args.y c.args.x0 c.args.picks.now c.loop-i.i (shown c.args.entries.now) c.loop-i.out _ c.loop-i-test.false before

pub lay_picks-lay_at-requires : goal.lay_picks-lay_at-requires
lay_picks-lay_at-requires g t c κs within =
    let h = join_has (chosen c.pick_at-chosen.result.1.now c.pick_at-chosen.result.0 (shown c.args.entries.now)) (picked (drop (c.loop-i.i + 1 + length c.pick_at-chosen.result.1.now) c.args.picks.now) (shown c.args.entries.now)) in
    let a = h.0 in
    let b = levels_by _ _ (sym (c.pick_at-chosen.ensures.parts (shown c.args.entries.now))) in
    let l : levels (chosen c.pick_at-chosen.result.1.now c.pick_at-chosen.result.0 (shown c.args.entries.now)) ≤ levels (picked c.args.picks.now (shown c.args.entries.now)) = omega (arith, a, b, c.loop-i.invariant.levels) in
    let r = rows_by (length c.args.out.now) (length c.args.rows.now) (chosen c.pick_at-chosen.result.1.now c.pick_at-chosen.result.0 (shown c.args.entries.now)) (picked c.args.picks.now (shown c.args.entries.now)) l c.requires.rows in
    (omega (arith, c.decreases), (within, (rw (c.loop-i.auto.out, c.loop-i.auto.rows) r, (omega (arith, ints), omega (arith, ints)))))

pub lay_pick-lay_own-requires : goal.lay_pick-lay_own-requires
lay_pick-lay_own-requires g t c κs within =
    let w : Wrapper = record { key = c.in-Group.group.key; opacity = c.in-Group.group.opacity; blend = c.in-Group.group.blend } in
    let size : list_size (kept_entries (c.args.entry.now ∷ [])) ≡ suc (list_size c.in-Group.group.inner.entries) = rw c.in-Group.is (omega arith) in
    let e : levels (chosen c.args.own.now 0 (shown (c.args.entry.now ∷ []))) ≡ deeper (levels (picked c.args.own.now (kept_leaves c.in-Group.group.inner.entries))) =
    rw (c.in-Group.is, entry_at-group (picked c.args.own.now) w (kept_leaves c.in-Group.group.inner.entries)) (group_levels w (picked c.args.own.now (kept_leaves c.in-Group.group.inner.entries))) in
    let r = rows_levels (length c.args.out.now) (length c.args.rows.now) _ _ e c.requires.rows in
    (omega (arith, size, c.decreases), (within, (r, (omega (arith, ints), omega (arith, ints)))))
