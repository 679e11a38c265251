-- The pixels of an area as C is told them: the spans of each row. The form is this project's own choice.
use Rattle.std.specs.Prelude.{ℕ, zero, suc, pos, List, [], ◌++◌, map, IsSomeAnd}
use Rattle.rd_geom.specs.Areas.{Region, spans_at}
use Rattle.rd_geom.specs.declared.span.Span.{Span}
use Rattle.rd_c.specs.Memory.{IsWritten}
use Rattle.rd_c.specs.declared.painter.Painter.{Painter}
use Rattle.rd_c.specs.declared.painting.RdSpan.{RdSpan}

-- a span of row y
abbrev pub told_span : ℕ → Span → RdSpan
told_span y s = record { y = pos y; x0 = s.x0; x1 = s.x1 }

-- the spans of the first rows, so many of them, from the top
abbrev pub told_rows : Region → ℕ → List RdSpan
told_rows a zero = []
told_rows a (suc n) = told_rows a n ++ map (told_span n) (spans_at a.rows (pos n))

-- The spans of the area of the last paint were written at the front of memory.
abbrev pub AreSpans : Painter → List RdSpan → List RdSpan → ℕ → Type 0
AreSpans p old new n = IsSomeAnd p.engine.area (λ a. IsWritten (told_rows a p.engine.canvas.height) old new n)
