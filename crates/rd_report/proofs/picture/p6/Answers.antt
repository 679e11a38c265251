use Rattle.std.proofs.Common.{rules}
use Rattle.rd_report.specs.Pictures.{rgb}
use Rattle.rd_report.proofs.Painted.{rgb_more}
use Rattle.rd_report.proofs.picture.p6.Goals as goal

pub loop-px-init : goal.loop-px-init
unfolding rgb
loop-px-init c = search rules

pub loop-px-preserved : goal.loop-px-preserved
loop-px-preserved c =
    rgb_more c.pixels-pixels.result.now c.loop-px.px-index c.px-item.result _ _ _ c.loop-px-test.true c.px-item.is
    c.loop-px.invariant c.in_ok-push_px.ensures
