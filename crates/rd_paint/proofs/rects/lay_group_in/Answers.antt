use Rattle.std.proofs.Common.{◌+◌, inl, arith}
use Rattle.rd_list.specs.EntryNames.{kept_leaves}
use Rattle.rd_paint.specs.Internal.Rects.{group_over}
use Rattle.rd_paint.specs.Internal.Picks.{picked}
use Rattle.rd_paint.proofs.Changing.{rect_off, rect_more}
use Rattle.rd_paint.proofs.Strips.{rect_still}
use Rattle.rd_paint.proofs.rects.lay_group_in.Goals as goal

pub lay_group_row-requires-clause-on : goal.lay_group_row-requires-clause-on
lay_group_row-requires-clause-on g c = record {
  rect = rect_still c.args.canvas.now c.loop-row.canvas c.args.rect c.loop-row.invariant.width c.loop-row.invariant.height c.requires.on;
  from = omega arith;
  to = omega arith;
}

pub loop-row-init : goal.loop-row-init
loop-row-init g c = rect_off c.args.rect.strip.corner (group_over c.args.group.now.blend c.args.group.now.opacity (picked c.args.own.now (kept_leaves c.args.group.now.inner.entries))) c.args.rect.span c.args.rect.strip.y0 c.args.rect.strip.y0 c.args.canvas.now (inl (omega arith))

pub loop-row-preserved : goal.loop-row-preserved
loop-row-preserved g c = rect_more c.args.rect.strip.corner (group_over c.args.group.now.blend c.args.group.now.opacity (picked c.args.own.now (kept_leaves c.args.group.now.inner.entries))) c.args.rect.span c.args.rect.strip.y0 c.loop-row.row (c.loop-row.row + 1) c.args.canvas.now c.loop-row.canvas c.lay_group_row.new.canvas (omega arith) (omega arith) c.loop-row.invariant c.lay_group_row.ensures
