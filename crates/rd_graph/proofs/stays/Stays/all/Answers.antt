use Rattle.std.proofs.Common.{◌∙◌, ◌+◌, ◌/◌, ◌<◌, ap, arith, get_or}
use Rattle.std.proofs.lemmas.List.{get_or-replicate}
use Rattle.rd_graph.proofs.LinedUp.StayBits.{clear_word, stay_count, stays_by}
use Rattle.rd_graph.proofs.stays.Stays.all.Goals as goal

pub returns-clause-count : goal.returns-clause-count
returns-clause-count c = stay_count c.in_ok-gone.gone.items 0 c.args.count

pub returns-clause-stay : goal.returns-clause-stay
returns-clause-stay c = λ p l.
    let within : p / 64 < c.args.count / 64 + 1 = omega (arith, l) in
    stays_by c.in_ok-gone.gone.items c.args.count p l
    ∙ clear_word c.in_ok-gone.gone.items p (ap (λ ws. get_or ws (p / 64) 0) (c.in_ok-gone.ensures.items_if_clones_equal (λ y h. h)) ∙ get_or-replicate (c.args.count / 64 + 1) (p / 64) 0 0 within)
