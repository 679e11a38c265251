use Rattle.std.proofs.Common.{◌+◌, inl, arith}
use Rattle.rd_geom.specs.Colors.{white}
use Rattle.rd_paint.proofs.Changing.{Change, rect_off, rect_more}
use Rattle.rd_paint.proofs.Strips.{rect_still}
use Rattle.rd_paint.proofs.rects.whiten.Goals as goal

abbrev made : Change
made x y p = white

pub whiten_row-requires : goal.whiten_row-requires
whiten_row-requires c = record {
  rect = rect_still c.args.canvas.now c.loop-row.canvas c.args.rect c.loop-row.invariant.width c.loop-row.invariant.height c.requires;
  from = omega arith;
  to = omega arith;
}

pub loop-row-init : goal.loop-row-init
loop-row-init c = rect_off c.args.rect.strip.corner made c.args.rect.span c.args.rect.strip.y0 c.args.rect.strip.y0 c.args.canvas.now (inl (omega arith))

pub loop-row-preserved : goal.loop-row-preserved
loop-row-preserved c = rect_more c.args.rect.strip.corner made c.args.rect.span c.args.rect.strip.y0 c.loop-row.row (c.loop-row.row + 1) c.args.canvas.now c.loop-row.canvas c.whiten_row.new.canvas (omega arith) (omega arith) c.loop-row.invariant c.whiten_row.ensures
