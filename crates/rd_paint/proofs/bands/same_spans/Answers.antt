use Rattle.std.proofs.Common.{◌∙◌, sym, arith}
use Rattle.std.proofs.lemmas.List.{same_lists, get_or_default}
use Rattle.rd_geom.specs.declared.span.Span.{Span}
use Rattle.std.proofs.Common.{pos}
use Rattle.rd_paint.proofs.bands.same_spans.Goals as goal

abbrev none : Span
none = record { x0 = pos 0; x1 = pos 0 }

pub returns : goal.returns
returns c = λ t.
    let n = c.if-a-b.false in
    same_lists c.args.a.now c.args.b.now (omega (arith, n))
    (λ k e l. get_or_default c.args.a.now k e none l ∙ c.loop-i.invariant k (omega arith) ∙ sym (get_or_default c.args.b.now k e none (omega (arith, n))))
