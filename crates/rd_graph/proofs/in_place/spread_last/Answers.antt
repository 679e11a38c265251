use Rattle.std.proofs.Common.{◌≡◌, ◌∙◌, ◌-◌, arith}
use Rattle.rd_graph.specs.Internal.InPlace.{count_coming}
use Rattle.rd_graph.proofs.LinedUp.Windows.{spread_end}
use Rattle.rd_graph.proofs.in_place.spread_last.Goals as goal

pub returns : goal.returns
returns g c = λ part xs ys gone w a b is.
    let n = c.args.old in
    let rs = c.args.runs.now in
    let end = c.len-end.result in
    let e = c.len-end.ensures ∙ c.requires.come in
    let come : end - c.args.next ≡ count_coming n rs = omega (arith, e) in
    spread_end n rs part xs ys gone c.args.elements.now.items c.turn_in.new.elements.items c.spread_out.new.elements.items c.truncate.new.self.items c.args.stay c.args.next end (end - c.args.next)
    w a b e come is c.turn_in.ensures.turned c.spread_out.ensures.spread c.truncate.ensures.items
