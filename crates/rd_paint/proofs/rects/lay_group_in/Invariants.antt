use Rattle.rd_list.specs.EntryNames.{kept_leaves}
use Rattle.rd_paint.specs.Internal.Picks.{picked}
use Rattle.rd_paint.specs.Internal.Rects.{IsRectChanged, group_over}
use Rattle.rd_paint.proofs.rects.lay_group_in.Given as goal

abbrev pub invariant-loop-row : goal.invariant-loop-row
invariant-loop-row g l = IsRectChanged l.rect.strip.corner (group_over l.group.blend l.group.opacity (picked l.own (kept_leaves l.group.inner.entries))) l.rect.span l.rect.strip.y0 l.row l.initial.canvas l.canvas
