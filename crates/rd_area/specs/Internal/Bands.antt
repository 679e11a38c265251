-- Bands of rows that have the same spans.
use Rattle.std.specs.Prelude.{◌≡◌, ℕ, zero, suc, ◌<◌, ◌≤◌, ◌⊎◌, if◌then◌else◌, leb, List, [], ◌∷◌, get_or, length}
use Rattle.rd_geom.specs.declared.span.Span.{Span}

-- the band of a row: how many bands end before it
abbrev pub band_of : List ℕ → ℕ → ℕ
band_of [] y = 0
band_of (e ∷ es) y = if leb e y then suc (band_of es y) else 0

-- the spans of a row, by the ends of bands and the spans of each
abbrev pub row_at : List ℕ → List (List Span) → ℕ → List Span
row_at ends bands y = get_or bands (band_of ends y) []

-- so many rows, as a function tells them
abbrev pub table : ℕ → (ℕ → List Span) → List (List Span)
table zero f = []
table (suc n) f = f 0 ∷ table n (λ y. f (suc y))

-- so many rows, each with the spans of its band
abbrev pub rows_of : ℕ → List ℕ → List (List Span) → List (List Span)
rows_of n ends bands = table n (row_at ends bands)

-- no band is empty but maybe the first
abbrev pub AreRising : List ℕ → Type 0
AreRising ends = (i j : ℕ) → i < j → j < length ends → get_or ends i 0 < get_or ends j 0

-- each row before row y has a band
abbrev pub CoverRows : ℕ → List ℕ → Type 0
CoverRows y ends = (z : ℕ) → z < y → band_of ends z < length ends

-- a row from one row up to another that is in band k
pub record HasRow (ends : List ℕ) (from to k : ℕ) : Type 0 where
  pub y : ℕ
  pub first : from ≤ y
  pub last : y < to
  pub band : band_of ends y ≡ k

-- a row begins a band
pub record BeginsBand (ends : List ℕ) (y k : ℕ) : Type 0 where
  pub within : k ≤ length ends
  pub before : (z : ℕ) → z < y → band_of ends z < k
  pub after : (z : ℕ) → y ≤ z → k ≤ band_of ends z

-- the rows from one up to another are those of the bands from first up to last
pub record AreBetween (ends : List ℕ) (from to first last : ℕ) : Type 0 where
  pub inside : (z : ℕ) → from ≤ z → z < to → (first ≤ band_of ends z) × (band_of ends z < last)
  pub outside : (z : ℕ) → (z < from) ⊎ (to ≤ z) → (band_of ends z < first) ⊎ (last ≤ band_of ends z)

-- bands that together are so many rows
pub record IsBanded (height : ℕ) (ends : List ℕ) (bands : ℕ) : Type 0 where
  pub count : length ends ≡ bands
  pub some : (i : ℕ) → i < length ends → 0 < get_or ends i 0
  pub rising : AreRising ends
  pub within : (i : ℕ) → i < length ends → get_or ends i 0 ≤ height
  pub all : CoverRows height ends
