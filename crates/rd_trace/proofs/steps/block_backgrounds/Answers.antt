use Rattle.std.proofs.Common.{sym}
use Rattle.std.proofs.lemmas.List.{append-nil}
use Rattle.rd_style.specs.declared.kinds.Class.TheVariants as classes
use Rattle.rd_stack.specs.Paths.{is_local, has_class}
use Rattle.rd_trace.specs.declared.placing.PaintStep.TheVariants as at
use Rattle.rd_trace.specs.Ways.{place}
use Rattle.rd_trace.specs.Steps as spec
use Rattle.rd_trace.proofs.Passing.{each_kind}
use Rattle.rd_trace.proofs.steps.block_backgrounds.Goals as goal

pub loop-x-init : goal.loop-x-init
loop-x-init c = sym (append-nil _)

pub loop-x-preserved : goal.loop-x-preserved
loop-x-preserved c =
    each_kind (λ x. spec.back_border c.args.s.now (place at.BlockBackgrounds c.args.e.now x.at) x.at) (λ x. is_local c.args.e.now x.at) (λ x. has_class classes.Block x.at) c.args.below.now c.loop-x.x-index c.x-item.result _ _ _
    c.loop-x-test.true c.x-item.is c.loop-x.invariant c.in_ok-block_background.ensures
