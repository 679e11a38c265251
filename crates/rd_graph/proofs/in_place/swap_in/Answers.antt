use Rattle.std.proofs.Common.{◌≡◌, ◌∙◌, ap, arith, length, sym}
use Rattle.rd_graph.proofs.LinedUp.InPlace.{none_swapped, written_back}
use Rattle.rd_graph.proofs.in_place.swap_in.Goals as goal

pub swap-requires-clause-other : goal.swap-requires-clause-other
swap-requires-clause-other g c = let len = c.deref_mut.ensures.len in let within = c.requires.other in omega (arith, len, within)

pub returns-clause-swapped : goal.returns-clause-swapped
returns-clause-swapped g c = λ us xs vs ys zs w a b d e.
    let was = c.args.elements.now.items in
    let value = c.deref_mut.ensures.value in
    let long : length was ≡ c.args.elements.now.len = sym c.args.elements.now.ok.0 in
    written_back c.args.elements.now.len c.swap.new.elements was (c.swap.ensures.len ∙ ap length value) long
    ∙ c.swap.ensures.swapped us xs vs ys zs (value ∙ w) a b d e

pub returns-then-count-eq0-clause-swapped : goal.returns-then-count-eq0-clause-swapped
returns-then-count-eq0-clause-swapped g c = λ us xs vs ys zs w a b d e.
    none_swapped us xs vs ys zs c.args.elements.now.items c.args.count c.if-count-eq0.true w b e
