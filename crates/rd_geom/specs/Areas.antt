-- Areas: sets of pixels of a canvas, as spans of columns for each row. The form is this project's own choice.
use Rattle.std.specs.Prelude.{ℕ, zero, suc, ℤ, pos, negsuc, ◌+◌, Bool, false, ◌&&◌, ◌||◌, if◌then◌else◌, int_le, int_lt, List, [], ◌∷◌, get_or, sum_by, replicate, unsigned_abs}
use Rattle.std.specs.List.{list_any}
use Rattle.std.specs.Int.{int_max, int_min}
use Rattle.rd_geom.specs.Plane.{Rectangle, right, is_among}
use Rattle.rd_geom.specs.declared.rect.Size.{Size}
use Rattle.rd_geom.specs.declared.span.Span.{Span}

-- an area is the size of its canvas and, for each row of it, spans of columns
pub record Region : Type 0 where
  pub size : Size
  pub rows : List (List Span)

-- is column x in a span?
abbrev pub in_span : Span → ℤ → Bool
in_span s x = int_le s.x0 x && int_lt x s.x1

-- is column x in one of the spans?
abbrev pub in_spans : List Span → ℤ → Bool
in_spans [] x = false
in_spans (s ∷ ss) x = in_span s x || in_spans ss x

-- the spans of row y; none above or below the canvas
abbrev pub spans_at : List (List Span) → ℤ → List Span
spans_at rows (pos y) = get_or rows y []
spans_at rows (negsuc y) = []

-- is the pixel in column x and row y in the area?
abbrev pub in_area : Region → ℤ → ℤ → Bool
in_area a x y = in_spans (spans_at a.rows y) x

-- how many of the first n columns are in the spans
unfoldable pub columns_in : List Span → ℕ → ℕ
columns_in ss zero = 0
columns_in ss (suc n) = (if in_spans ss (pos n) then 1 else 0) + columns_in ss n

-- how many pixels of the canvas are in the area
abbrev pub count_of : Region → ℕ
count_of a = sum_by (λ ss. columns_in ss (unsigned_abs a.size.w)) a.rows

-- has a span a common column with a rectangle?
abbrev pub meets_span : Rectangle → Span → Bool
meets_span r s = int_lt (int_max s.x0 r.x) (int_min s.x1 (right r))

-- has one of these rows, of which the first is row y, a common pixel with a rectangle?
abbrev pub meets_rows : ℕ → List (List Span) → Rectangle → Bool
meets_rows y [] r = false
meets_rows y (row ∷ rows) r = (is_among r.y r.h (pos y) && list_any (meets_span r) row)
    || meets_rows (y + 1) rows r

-- has an area a common pixel with a rectangle?
abbrev pub meets_area : Region → Rectangle → Bool
meets_area a r = meets_rows 0 a.rows r

-- the whole of a canvas
abbrev pub whole_area : Size → Region
whole_area s = record {
  size = s;
  rows = replicate (unsigned_abs s.h) (record { x0 = pos 0; x1 = s.w } ∷ []);
}
