-- Rectangles of pixels, which are the columns of a span in some rows, before and after painting.
-- Columns and rows are those of a list; the first pixel of a canvas is that of a corner.
use Rattle.std.specs.Prelude.{◌≡◌, ℕ, pos, ◌+◌, ◌*◌, ◌<◌, Bool, ◌&&◌, not, nat_le, nat_lt, if◌then◌else◌, List, get_or}
use Rattle.rd_geom.specs.Areas.{in_span, in_spans}
use Rattle.rd_geom.specs.Blends.{blended}
use Rattle.rd_geom.specs.Colors.{Premultiplied, clear, laid_over, scaled}
use Rattle.rd_geom.specs.Plane.{Rectangle, holds_pixel}
use Rattle.rd_geom.specs.declared.blend.Blend.{Blend}
use Rattle.rd_geom.specs.declared.span.Span.{Span}
use Rattle.rd_item.specs.declared.leaf.Leaf.{Leaf}
use Rattle.rd_item.specs.Leaves.{covers}
use Rattle.rd_list.specs.Wrappers.{Wrapper}
use Rattle.rd_list.specs.Entries.{Entries}
use Rattle.rd_list.specs.Lists.{composed, pixel}
use Rattle.rd_paint.specs.Pictures.{Picture}
use Rattle.rd_paint.specs.declared.corner.Corner.{Corner}

-- is column x of a row in a rectangle?
abbrev pub in_rect : Span → ℕ → ℕ → ℕ → ℕ → Bool
in_rect s y0 y1 x row = (nat_le y0 row && nat_lt row y1) && in_span s (pos x)

-- the pixel in a column and a row of the canvas
abbrev pub on_canvas : Picture → ℕ → ℕ → Premultiplied
on_canvas c x row = get_or c.pixels (row * c.width + x) clear

-- the pixels of a rectangle were changed by their places, and no other pixel changed
pub record IsRectChanged (o : Corner) (f : ℕ → ℕ → Premultiplied → Premultiplied) (s : Span) (y0 y1 : ℕ) (old new : Picture) : Type 0 where
  pub width : new.width ≡ old.width
  pub height : new.height ≡ old.height
  pub pixels : (x row : ℕ) → x < old.width → row < old.height
      → on_canvas new x row ≡ (if in_rect s y0 y1 (o.left + x) (o.top + row) then
      f (o.left + x) (o.top + row) (on_canvas old x row) else on_canvas old x row)

-- a list was laid over the pixels of a rectangle, and no other pixel changed
abbrev pub IsRectLaid : Corner → Entries Wrapper Leaf → Span → ℕ → ℕ → Picture → Picture → Type 0
IsRectLaid o es s y0 y1 old new = IsRectChanged o (λ x y p. composed (pos x) (pos y) p es) s y0 y1 old new

-- a group of a list put onto a pixel by a blend mode
abbrev pub group_over : Blend → ℕ → Entries Wrapper Leaf → ℕ → ℕ → Premultiplied → Premultiplied
group_over blend opacity inner x y p = blended blend (scaled (composed (pos x) (pos y) clear inner) opacity) p

-- one pixel laid over another where there is no hole
abbrev pub over_around : Premultiplied → Rectangle → ℕ → ℕ → Premultiplied → Premultiplied
over_around q h x y p = if not (holds_pixel h (pos x) (pos y)) then laid_over q p else p

-- one pixel laid over another where a leaf covers it
abbrev pub over_leaf : Premultiplied → Leaf → ℕ → ℕ → Premultiplied → Premultiplied
over_leaf q l x y p = if covers l (pos x) (pos y) then laid_over q p else p

-- from row y0 up to row y1 the pixels in some spans became those of a list, and no other pixel changed
pub record IsRunPainted (o : Corner) (list : Entries Wrapper Leaf) (spans : List Span) (y0 y1 : ℕ) (old new : Picture) : Type 0 where
  pub width : new.width ≡ old.width
  pub height : new.height ≡ old.height
  pub pixels : (x row : ℕ) → x < old.width → row < old.height
      → on_canvas new x row
      ≡ (if (nat_le y0 (o.top + row) && nat_lt (o.top + row) y1) && in_spans spans (pos (o.left + x)) then
      pixel list (pos (o.left + x)) (pos (o.top + row)) else on_canvas old x row)
