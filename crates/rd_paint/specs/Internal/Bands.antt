-- Rows and bands of rows before and after painting.
-- Columns and rows are those of a list; the first pixel of a canvas is that of a corner, or the first of a rectangle.
use Rattle.std.specs.Prelude.{◌≡◌, ℕ, pos, ◌+◌, ◌<◌, ◌+ℤ◌, Bool, ◌&&◌, nat_eq, nat_le, nat_lt, if◌then◌else◌, List, Some}
use Rattle.rd_geom.specs.Areas.{Region, in_area, in_spans}
use Rattle.rd_geom.specs.Colors.{Premultiplied}
use Rattle.rd_geom.specs.Plane.{Rectangle}
use Rattle.rd_geom.specs.declared.span.Span.{Span}
use Rattle.rd_item.specs.declared.leaf.Leaf.{Leaf}
use Rattle.rd_list.specs.Wrappers.{Wrapper}
use Rattle.rd_list.specs.Entries.{Entries}
use Rattle.rd_list.specs.Lists.{pixel}
use Rattle.rd_paint.specs.Changed.{IsChanged}
use Rattle.rd_paint.specs.Pictures.{Picture, pixel_at}
use Rattle.rd_paint.specs.declared.corner.Corner.{Corner}

-- from row y0 up to row y1 the pixels of an area became those of a list, and no other pixel changed
pub record IsBandPainted (o : Corner) (list : Entries Wrapper Leaf) (area : Region) (y0 y1 : ℕ) (old new : Picture) : Type 0 where
  pub width : new.width ≡ old.width
  pub height : new.height ≡ old.height
  pub pixels : (x y : ℕ) → x < old.width → y < old.height
      → pixel_at new (pos x) (pos y)
      ≡ (if nat_le y0 (o.top + y) && nat_lt (o.top + y) y1 && in_area area (pos (o.left + x)) (pos (o.top + y)) then
      Some (pixel list (pos (o.left + x)) (pos (o.top + y))) else pixel_at old (pos x) (pos y))

-- the pixel of a list in column x and row y from a corner on
abbrev pub list_from : Entries Wrapper Leaf → Corner → ℕ → ℕ → Premultiplied
list_from list o x y = pixel list (pos (o.left + x)) (pos (o.top + y))

-- is it in the area?
abbrev pub in_area_from : Corner → Region → ℕ → ℕ → Bool
in_area_from o area x y = in_area area (pos (o.left + x)) (pos (o.top + y))

-- the pixels of an area became those of a list, and no other pixel changed
abbrev pub IsPainted : Corner → Entries Wrapper Leaf → Region → Picture → Picture → Type 0
IsPainted o list area old new = IsChanged (list_from list o) (in_area_from o area) old new

-- is it in a row of a rectangle, and in one of the spans?
abbrev pub in_row : Rectangle → List Span → ℕ → ℕ → ℕ → Bool
in_row r spans row x y = nat_eq y row && in_spans spans (r.x +ℤ pos x)

-- is it in the first n rows of a rectangle, and in the area?
abbrev pub in_rows : Rectangle → Region → ℕ → ℕ → ℕ → Bool
in_rows r area n x y = nat_lt y n && in_area area (r.x +ℤ pos x) (r.y +ℤ pos y)
