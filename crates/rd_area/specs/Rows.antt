-- The spans of a row. The form is this project's own choice.
use Rattle.std.specs.Prelude.{ℤ, pos, ◌+ℤ◌, ◌≤ℤ◌, ◌<ℤ◌, List, [], ◌∷◌}
use Rattle.rd_geom.specs.declared.span.Span.{Span}

-- spans from column low on and up to column high, in rising order, neither empty nor touching
abbrev pub IsRising : ℤ → ℤ → List Span → Type 0
IsRising low high [] = Unit {0}
IsRising low high (s ∷ ss) = (low ≤ℤ s.x0) × (s.x0 <ℤ s.x1) × (s.x1 ≤ℤ high)
    × IsRising (s.x1 +ℤ pos 1) high ss
