-- How a span joins a row, and which spans a row meets.
use Rattle.std.specs.Prelude.{◌≡◌, ℤ, ◌≤ℤ◌, Bool, false, ◌&&◌, ◌||◌, if◌then◌else◌, int_lt, int_le, List, [], ◌∷◌}
use Rattle.std.specs.Int.{int_max, int_min}
use Rattle.rd_geom.specs.Areas.{in_span, in_spans}
use Rattle.rd_geom.specs.declared.span.Span.{Span}
use Rattle.rd_area.specs.Rows.{IsRising}

-- a row after a span has joined it
pub record Joins (old new : List Span) (span : Span) : Type 0 where
  pub pixels : (low high : ℤ) → IsRising low high old → (x : ℤ) → in_spans new x
      ≡ (in_span span x || in_spans old x)
  pub rising : (low high : ℤ) → low ≤ℤ span.x0 → span.x1 ≤ℤ high → IsRising low high old
      → IsRising low high new

-- have two spans a common column?
abbrev pub overlaps : Span → Span → Bool
overlaps s t = int_lt (int_max s.x0 t.x0) (int_min s.x1 t.x1)

-- has a row a common column with a span?
abbrev pub row_meets : List Span → Span → Bool
row_meets [] t = false
row_meets (s ∷ ss) t = overlaps s t || row_meets ss t

-- has one of a row's spans all columns of a span?
abbrev pub row_has : List Span → Span → Bool
row_has [] t = false
row_has (s ∷ ss) t = (int_le s.x0 t.x0 && int_le t.x1 s.x1) || row_has ss t

-- a span with the first spans of a row, as far as these touch it, and then the rest
abbrev pub absorbing : Span → List Span → List Span
absorbing t [] = t ∷ []
absorbing t (s ∷ ss) = if int_lt t.x1 s.x0 then t ∷ s ∷ ss
    else absorbing (record { x0 = int_min t.x0 s.x0; x1 = int_max t.x1 s.x1 }) ss

-- a row with a span put where it belongs
abbrev pub with_span : Span → List Span → List Span
with_span t [] = t ∷ []
with_span t (s ∷ ss) = if int_le t.x0 s.x1 then absorbing t (s ∷ ss) else s ∷ with_span t ss
