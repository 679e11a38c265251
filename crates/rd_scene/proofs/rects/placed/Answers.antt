use Rattle.std.proofs.Common.{rules, ◌∙◌}
use Rattle.rd_scene.proofs.Limits.{fits_four_at, placed_is}
use Rattle.rd_scene.proofs.rects.placed.Goals as goal

pub made-requires : goal.made-requires
made-requires c =
    fits_four_at c.in_ok-x.x c.in_ok-y.y c.in_ok-w.w c.in_ok-h.h _ (search rules) c.in_ok-x.ensures.range c.in_ok-y.ensures.range c.in_ok-w.ensures.range c.in_ok-h.ensures.range

pub returns-clause-fits : goal.returns-clause-fits
returns-clause-fits c =
    rw c.made.ensures (fits_four_at c.in_ok-x.x c.in_ok-y.y c.in_ok-w.w c.in_ok-h.h _ (search rules)
    c.in_ok-x.ensures.range c.in_ok-y.ensures.range c.in_ok-w.ensures.range c.in_ok-h.ensures.range)

pub returns-clause-value : goal.returns-clause-value
returns-clause-value c =
    c.made.ensures ∙ placed_is c.args.n c.in_ok-x.x c.in_ok-y.y c.in_ok-w.w c.in_ok-h.h _ (search rules) (search (rules, c.in_ok-x.ensures.value)) (search (rules, c.in_ok-y.ensures.value)) (search (rules, c.in_ok-w.ensures.value)) (search (rules, c.in_ok-h.ensures.value))
