use Rattle.std.proofs.Common.{rules, unsigned_abs}
use Rattle.rd_list.specs.EntryNames.{new_leaves}
use Rattle.rd_list.specs.Lists.{pixel}
use Rattle.rd_report.specs.Pictures.{rgb}
use Rattle.rd_run.proofs.PictureRows.{rows_step}
use Rattle.rd_run.proofs.composing.picture_of.Goals as goal

pub loop-y-init : goal.loop-y-init
unfolding rgb
loop-y-init c = search rules

pub loop-y-preserved : goal.loop-y-preserved
loop-y-preserved c =
    rows_step (pixel (new_leaves c.args.wire.now.list)) (unsigned_abs c.args.wire.now.size.w) c.loop-y.y _ _ _ c.loop-y.invariant c.in_ok-push_row.ensures
