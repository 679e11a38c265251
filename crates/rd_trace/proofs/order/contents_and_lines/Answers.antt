use Rattle.rd_trace.specs.Steps as spec
use Rattle.rd_trace.specs.Internal.Pieces as pieces
use Rattle.rd_trace.proofs.Passing.{two}
use Rattle.rd_trace.proofs.order.contents_and_lines.Goals as goal

pub returns : goal.returns
unfolding pieces.contents_and_lines
returns c =
    two (spec.inline_context c.args.s.now c.args.e.now c.args.below.now) (spec.block_contents c.args.s.now c.args.e.now c.args.below.now) _ _ _
    c.in_ok-inline_context.ensures c.in_ok-block_contents.ensures
