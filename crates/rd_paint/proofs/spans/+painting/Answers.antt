use Rattle.std.proofs.Common.{length, ◌≡◌, arith, sym, ap, ◌∙◌, FitsSigned, w32, to_z, of_z, rules}
use Rattle.std.proofs.lemmas.Int.{to_z-of_z, ints}
use Rattle.rd_geom.specs.Colors.{clear}
use Rattle.rd_list.specs.Displayed.{shown}
use Rattle.rd_item.specs.Items.{Made}
use Rattle.rd_keys.specs.declared.entry.EntryKey.{EntryKey}
use Rattle.rd_list.specs.Entries.{Entries, list_size}
use Rattle.rd_list.specs.EntryNames.{kept_leaves}
use Rattle.rd_list.specs.Kept.{Ordered}
use Rattle.rd_list.specs.KeptView.{kept_entries}
use Rattle.rd_list.specs.Wrappers.{Wrapper}
use Rattle.rd_list.specs.Views.{levels}
use Rattle.rd_list.proofs.Viewing.{size_at}
use Rattle.rd_paint.proofs.Depths.{rows_at, rows_left, no_rows, leafless}
use Rattle.rd_paint.proofs.Laying.{laid_along-nil, laid_more, laid_none, group_from}
use Rattle.rd_paint.proofs.spans.+painting.Goals as goal

pub lay_all-loop-entry-init : goal.lay_all-loop-entry-init
lay_all-loop-entry-init g t c = sym (laid_along-nil (to_z w32 (of_z w32 c.args.y)) (to_z w32 (of_z w32 c.args.x0)) c.args.out.now)

pub lay_all-lay_one-requires : goal.lay_all-lay_one-requires
lay_all-lay_one-requires g t c κs within =
    let s = size_at c.args.entries.now c.loop-entry.entry-index c.entry-item.result c.loop-entry-test.true c.entry-item.is in
    let r = rows_at (length c.args.out.now) (length c.args.rows.now) c.args.entries.now c.loop-entry.entry-index c.entry-item.result c.loop-entry-test.true c.entry-item.is c.requires.rows in
    (omega (arith, s, c.decreases), (within, (rw (c.loop-entry.auto.out, c.loop-entry.auto.rows) r, (omega (arith, ints), omega (arith, ints)))))

pub lay_all-loop-entry-preserved : goal.lay_all-loop-entry-preserved
lay_all-loop-entry-preserved g t c =
    let fx : FitsSigned w32 c.args.x0 = search rules in
    let fy : FitsSigned w32 c.args.y = search rules in
    let before = simp to_z-of_z at c.loop-entry.invariant in
    let after = simp to_z-of_z at c.lay_one.ensures in
    simp to_z-of_z (laid_more c.args.y c.args.x0 c.args.entries.now c.loop-entry.entry-index c.entry-item.result _ _ _ c.loop-entry-test.true c.entry-item.is before after)

pub lay_group-returns-then-rows-n : goal.lay_group-returns-then-rows-n
lay_group-returns-then-rows-n g t c =
    let none = no_rows (length c.args.out.now) (length c.args.rows.now) (levels c.args.group.now.inner.entries) (omega arith) c.requires.rows in
    sym (laid_none c.args.y c.args.x0 c.args.group.now.blend c.args.group.now.opacity (kept_leaves c.args.group.now.inner.entries) c.args.out.now (λ x y. leafless x y clear c.args.group.now.inner.entries none))

pub lay_group-lay_all-requires : goal.lay_group-lay_all-requires
lay_group-lay_all-requires g t c κs within =
    let e : kept_entries c.entries.result.now ≡ c.args.group.now.inner.entries = c.entries.ensures in
    let n = ap (λ (es : Entries (Ordered EntryKey Wrapper) Made). list_size es) e in
    let l = ap (λ (es : Entries (Ordered EntryKey Wrapper) Made). levels es) e in (
      omega (arith, n, c.decreases),
      (
        within,
        (
          rows_left (length c.args.out.now) (length c.args.rows.now) (levels c.args.group.now.inner.entries) _ _ _ (omega arith) c.requires.rows (c.fill.auto.out ∙ c.split_at_mut-row.ensures.front_len) (omega (arith, c.split_at_mut-row.ensures.back_len)) l,
          (omega (arith, ints), omega (arith, ints, c.fill.auto.out, c.split_at_mut-row.ensures.front_len)),
        ),
      ),
    )

pub lay_group-returns : goal.lay_group-returns
lay_group-returns g t c =
    let fx : FitsSigned w32 c.args.x0 = search rules in
    let fy : FitsSigned w32 c.args.y = search rules in
    let e : kept_entries c.entries.result.now ≡ c.args.group.now.inner.entries = c.entries.ensures in
    let row = simp to_z-of_z at c.lay_all.ensures in
    group_from c.args.y c.args.x0 c.args.group.now.blend c.args.group.now.opacity _ (kept_leaves c.args.group.now.inner.entries) (shown c.entries.result.now) c.args.out.now _ _ _ (ap kept_leaves e) (c.split_at_mut-row.ensures.front_len) c.fill.ensures row c.lay_row.ensures
