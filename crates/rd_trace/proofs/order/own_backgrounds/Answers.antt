use Rattle.rd_trace.specs.Steps as spec
use Rattle.rd_trace.specs.Internal.Pieces as pieces
use Rattle.rd_trace.proofs.Passing.{two}
use Rattle.rd_trace.proofs.order.own_backgrounds.Goals as goal

pub returns : goal.returns
unfolding pieces.own_backgrounds
returns c =
    two (spec.root_background c.args.s.now c.args.e.now) (spec.own_background_and_border c.args.s.now c.args.e.now) _ _ _
    c.in_ok-root_background.ensures c.in_ok-own_background_and_border.ensures
