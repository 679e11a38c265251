use Rattle.std.proofs.Common.{◌≡◌, ◌∙◌, ap, arith, length, sym}
use Rattle.rd_graph.proofs.LinedUp.InPlace.{parts_turned, written_back}
use Rattle.rd_graph.proofs.in_place.turn_in.Goals as goal

pub turn-requires-clause-within : goal.turn-requires-clause-within
turn-requires-clause-within g c = let len = c.deref_mut.ensures.len in let within = c.requires.within in omega (arith, len, within)

pub returns-clause-turned : goal.returns-clause-turned
returns-clause-turned g c = λ ws xs ys zs w a b d.
    let was = c.args.elements.now.items in
    let value = c.deref_mut.ensures.value in
    let long : length was ≡ c.args.elements.now.len = sym c.args.elements.now.ok.0 in
    written_back c.args.elements.now.len c.turn.new.elements was (c.turn.ensures.len ∙ ap length value) long
    ∙ parts_turned ws xs ys zs c.deref_mut.result.now c.turn.new.elements c.args.place c.args.middle c.args.end c.turn.ensures.turned (value ∙ w) a b d
