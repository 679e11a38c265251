use Rattle.std.proofs.Common.{◌≡◌, ◌∷◌, []}
use Rattle.rd_list.specs.Displayed.{shown}
use Rattle.rd_list.specs.EntryNames.{kept_leaves}
use Rattle.rd_list.specs.Views.{levels, deeper}
use Rattle.rd_list.specs.Wrappers.{Wrapper}
use Rattle.rd_paint.specs.Internal.Picks.{picked, chosen}
use Rattle.rd_paint.proofs.Depths.{group_levels, rows_levels}
use Rattle.rd_paint.proofs.Picking.{entry_at-leaf, entry_at-group}
use Rattle.rd_paint.proofs.rects.lay_pick_in.Goals as goal

pub lay_inner_in-requires-clause-rows : goal.lay_inner_in-requires-clause-rows
lay_inner_in-requires-clause-rows g c =
    let w : Wrapper = record { key = c.in-Group.group.key; opacity = c.in-Group.group.opacity; blend = c.in-Group.group.blend } in
    let e : levels (chosen c.args.own.now 0 (shown (c.args.entry.now ∷ []))) ≡ deeper (levels (picked c.args.own.now (kept_leaves c.in-Group.group.inner.entries))) =
    rw (c.in-Group.is, entry_at-group (picked c.args.own.now) w (kept_leaves c.in-Group.group.inner.entries)) (group_levels w (picked c.args.own.now (kept_leaves c.in-Group.group.inner.entries))) in
    rows_levels c.args.canvas.now.width _ _ _ e c.requires.rows

pub returns-in-Leaf : goal.returns-in-Leaf
returns-in-Leaf g c = rw (c.in-Leaf.is, entry_at-leaf (picked c.args.own.now) c.in-Leaf.item.leaf) c.lay_leaf_in.ensures

pub returns-in-Group : goal.returns-in-Group
returns-in-Group g c = rw (c.in-Group.is, entry_at-group (picked c.args.own.now) (record { key = c.in-Group.group.key; opacity = c.in-Group.group.opacity; blend = c.in-Group.group.blend }) (kept_leaves c.in-Group.group.inner.entries)) c.lay_inner_in.ensures
