use Rattle.std.proofs.Common.{rules}
use Rattle.rd_list.specs.EntryNames.{new_leaves}
use Rattle.rd_list.specs.Lists.{pixel}
use Rattle.rd_report.specs.Pictures.{rgb}
use Rattle.rd_run.proofs.PictureRows.{row_step}
use Rattle.rd_run.proofs.composing.push_row.Goals as goal

pub loop-x-init : goal.loop-x-init
unfolding rgb
loop-x-init c = search rules

pub loop-x-preserved : goal.loop-x-preserved
loop-x-preserved c =
    row_step (pixel (new_leaves c.args.wire.now.list)) c.args.y c.loop-x.x c.pixel_on.result _ _ _ c.pixel_on.ensures c.loop-x.invariant c.in_ok-push_px.ensures
