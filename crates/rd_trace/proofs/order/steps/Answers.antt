use Rattle.std.proofs.Common.{◌∙◌, ap, ◌++◌}
use Rattle.rd_trace.specs.Internal.Pieces as pieces
use Rattle.rd_trace.proofs.Passing.{four}
use Rattle.rd_trace.proofs.Ordering.{in_four}
use Rattle.rd_trace.proofs.order.steps.Goals as goal

pub returns : goal.returns
returns c =
    four
    (pieces.own_backgrounds c.args.s.now c.args.e.now)
    (pieces.under_contents c.args.s.now c.args.e.now c.args.below.now)
    (pieces.contents_and_lines c.args.s.now c.args.e.now c.args.below.now)
    (pieces.over_contents c.args.s.now c.args.e.now c.args.below.now)
    _ _ _ _
    (c.in_ok-own_backgrounds.ensures ∙ ap (λ o. o ++ pieces.own_backgrounds c.args.s.now c.args.e.now) c.new-out.ensures.items)
    c.in_ok-under_contents.ensures
    c.in_ok-contents_and_lines.ensures
    c.in_ok-over_contents.ensures
    ∙ in_four c.args.s.now c.args.e.now c.args.below.now
