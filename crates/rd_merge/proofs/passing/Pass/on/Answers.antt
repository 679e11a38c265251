use Rattle.std.proofs.Common.{◌<◌, ◌∙◌, ap, length, get_or, arith}
use Rattle.std.proofs.lemmas.List.{length-map}
use Rattle.rd_merge.proofs.Looks.{gone_next, inner_next, looked_on, named_next}
use Rattle.rd_merge.proofs.passing.Pass.on.Goals as goal

pub at-requires-clause-found : goal.at-requires-clause-found
at-requires-clause-found g c = ap length c.requires.noted.looked.found_are ∙ length-map _ _

pub returns-clause-noted : goal.returns-clause-noted
returns-clause-noted g c =
    let p = c.args.self.now in
    let t = g.T.Touches.is_touched p.tree.now in
    let es = p.entries.now in
    let ns = p.names.now in
    let i = c.next_before-place.result in
    let x = get_or es i c.index-self-place.result in
    let is = ap (λ z. get_or es i z) c.index-self-place.is in
    let end = c.next_before-place.ensures.end in
    let within : i < length es = omega (arith, c.if-place-end.false, end, c.requires.end) in
    let was = looked_on t es ns c.args.from i _ _ _ c.requires.noted.looked c.next_before-place.ensures.nothing in
    record {
      looked = record {
        gone_are = gone_next t es i x _ _ within is was.gone_are c.in_ok-at.ensures.gone;
        found_are = named_next es ns i x _ _ c.requires.pass.names_once c.requires.pass.entries_once within is was.found_are c.in_ok-at.ensures.found;
        inner_are = inner_next t ns es i x _ _ within is was.inner_are c.in_ok-at.ensures.inner;
      };
      chained = c.in_ok-at.ensures.finder;
    }
