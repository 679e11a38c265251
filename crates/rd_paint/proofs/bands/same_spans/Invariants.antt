use Rattle.std.proofs.Common.{◌≡◌, ℕ, pos, ◌<◌, get_or}
use Rattle.rd_geom.specs.declared.span.Span.{Span}
use Rattle.rd_paint.proofs.bands.same_spans.Given as goal

abbrev none : Span
none = record { x0 = pos 0; x1 = pos 0 }

abbrev pub invariant-loop-i : goal.invariant-loop-i
invariant-loop-i l = (k : ℕ) → k < l.i → get_or l.a k none ≡ get_or l.b k none
