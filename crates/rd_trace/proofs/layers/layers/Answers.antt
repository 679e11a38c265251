use Rattle.std.proofs.Common.{sym}
use Rattle.std.proofs.lemmas.List.{append-nil}
use Rattle.rd_trace.specs.Steps as spec
use Rattle.rd_trace.specs.Internal.Pieces.{now, step_of}
use Rattle.rd_trace.proofs.Passing.{all_passed}
use Rattle.rd_trace.proofs.layers.layers.Goals as goal

pub loop-x-init : goal.loop-x-init
loop-x-init c = sym (append-nil _)

pub loop-x-preserved : goal.loop-x-preserved
loop-x-preserved c =
    all_passed now (spec.layer (step_of c.args.sign) c.args.e.now) c.args.xs.now c.loop-x.x-index c.x-item.result _ _ _
    c.loop-x-test.true c.x-item.is c.loop-x.invariant c.in_ok-layer.ensures
