use Rattle.rd_list.specs.EntryNames.{kept_leaves}
use Rattle.rd_paint.specs.Internal.Picks.{InSpans}
use Rattle.rd_paint.proofs.Shown.Transparent.{group_clear}
use Rattle.rd_paint.proofs.skipping.is_unseen.Goals as goal

pub returns-in-Leaf : goal.returns-in-Leaf
returns-in-Leaf g c = rw c.in-Leaf.is c.is_item_unseen.ensures

pub returns-in-Group : goal.returns-in-Group
returns-in-Group g c = λ t. rw c.in-Group.is (group_clear (InSpans c.args.columns c.args.rows) (record { key = c.in-Group.group.key; opacity = c.in-Group.group.opacity; blend = c.in-Group.group.blend }) (kept_leaves c.in-Group.group.inner.entries) t)
