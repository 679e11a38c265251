use Rattle.rd_trace.specs.Steps as spec
use Rattle.rd_trace.specs.Internal.Pieces as pieces
use Rattle.rd_trace.proofs.Passing.{three}
use Rattle.rd_trace.proofs.order.over_contents.Goals as goal

pub returns : goal.returns
unfolding pieces.over_contents
returns c =
    three (spec.zero_layers c.args.e.now c.args.below.now) (spec.positive_layers c.args.e.now c.args.below.now) (spec.outlines c.args.s.now c.args.e.now c.args.below.now) _ _ _ _
    c.in_ok-zero_layers.ensures c.in_ok-positive_layers.ensures c.in_ok-outlines.ensures
