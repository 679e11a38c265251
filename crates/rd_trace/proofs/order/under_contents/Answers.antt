use Rattle.rd_trace.specs.Steps as spec
use Rattle.rd_trace.specs.Internal.Pieces as pieces
use Rattle.rd_trace.proofs.Passing.{three}
use Rattle.rd_trace.proofs.order.under_contents.Goals as goal

pub returns : goal.returns
unfolding pieces.under_contents
returns c =
    three (spec.negative_layers c.args.e.now c.args.below.now) (spec.block_backgrounds c.args.s.now c.args.e.now c.args.below.now) (spec.floats c.args.e.now c.args.below.now) _ _ _ _
    c.in_ok-negative_layers.ensures c.in_ok-block_backgrounds.ensures c.in_ok-floats.ensures
