use Rattle.std.proofs.Common.{◌≡◌, ◌<◌, [], get_or, length, arith, rules, sym, ◌∙◌, ap}
use Rattle.std.specs.List.{insert}
use Rattle.std.proofs.lemmas.List.Elements.{same_from_all_zip}
use Rattle.rd_area.specs.Internal.Normal.{spans_of}
use Rattle.rd_area.proofs.Spans.{at_place, spans_inserted}
use Rattle.rd_area.proofs.bands.part.Goals as goal

pub returns-clause-bands : goal.returns-clause-bands
returns-clause-bands c =
    let h : c.args.i < length c.args.bands.now.items = search rules in
    let e : c.insert-second.new.self.items ≡ insert c.args.bands.now.items c.args.i c.in_ok-upper.upper = search rules in
    let s : c.in_ok-upper.upper.items ≡ c.index.result.now.items =
    same_from_all_zip _ c.index.result.now.items c.in_ok-upper.upper.items c.in_ok-upper.ensures.cases.0 (λ x y h. h) in
    let p : get_or (spans_of c.args.bands.now.items) c.args.i [] ≡ c.index.result.now.items =
    at_place (λ r. r.items) [] c.args.bands.now.items c.args.i c.index.result.now h c.index.ensures in
    ap (λ vs. spans_of vs) e
    ∙ (spans_inserted c.args.bands.now.items c.args.i c.in_ok-upper.upper (omega (arith, h))
    ∙ ap (λ ss. insert (spans_of c.args.bands.now.items) c.args.i ss) (s ∙ sym p))
