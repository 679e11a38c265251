use Rattle.std.proofs.Common.{◌∙◌, ap}
use Rattle.rd_list.specs.Entries.{◌▷◌}
use Rattle.rd_stack.specs.Painting as painting
use Rattle.rd_stack.proofs.Walk.Ten.{ten}
use Rattle.rd_stack.proofs.steps.steps.Goals as goal

pub returns : goal.returns
unfolding painting.steps
returns c =
    ten
    (painting.root_background c.args.canvas.now c.args.e.now)
    (painting.own_background_and_border c.args.canvas.now c.args.e.now)
    (painting.negative_layers c.args.e.now c.args.below.now)
    (painting.block_backgrounds c.args.canvas.now c.args.e.now c.args.below.now)
    (painting.floats c.args.e.now c.args.below.now)
    (painting.inline_context c.args.canvas.now c.args.e.now c.args.below.now)
    (painting.block_contents c.args.canvas.now c.args.e.now c.args.below.now)
    (painting.zero_layers c.args.e.now c.args.below.now)
    (painting.positive_layers c.args.e.now c.args.below.now)
    (painting.outlines c.args.canvas.now c.args.e.now c.args.below.now)
    _ _ _ _ _ _ _ _ _ _
    (c.in_ok-root_background.ensures ∙ ap (λ o. o ▷ painting.root_background c.args.canvas.now c.args.e.now) c.new-out.ensures)
    c.in_ok-own_background_and_border.ensures
    c.in_ok-negative_layers.ensures
    c.in_ok-block_backgrounds.ensures
    c.in_ok-floats.ensures
    c.in_ok-inline_context.ensures
    c.in_ok-block_contents.ensures
    c.in_ok-zero_layers.ensures
    c.in_ok-positive_layers.ensures
    c.in_ok-outlines.ensures
