-- What an `Area` keeps of its fields.
use Rattle.std.specs.Prelude.{◌≡◌, ℕ, ℤ, pos, ◌≤ℤ◌, List, [], get_or, length, map, Vec, IsTrue}
use Rattle.std.specs.declared.alloc.Global.{Global}
use Rattle.rd_geom.specs.Plane.{Rectangle, right, bottom, holds_pixel}
use Rattle.rd_geom.specs.Canvas.{IsCanvas}
use Rattle.rd_geom.specs.Areas.{in_spans}
use Rattle.rd_geom.specs.declared.rect.Size.{Size}
use Rattle.rd_geom.specs.declared.span.Span.{Span}
use Rattle.rd_area.specs.Rows.{IsRising}

-- the spans of each row
abbrev pub spans_of : List (Vec Span Global) → List (List Span)
spans_of rows = map (λ r. r.items) rows

-- a rectangle within a canvas
pub record IsOn (r : Rectangle) (size : Size) : Type 0 where
  pub left : pos 0 ≤ℤ r.x
  pub top : pos 0 ≤ℤ r.y
  pub right : right r ≤ℤ size.w
  pub bottom : bottom r ≤ℤ size.h

-- as many rows as the canvas has, each of rising spans on the canvas, and no pixel outside the rectangle in use
pub record IsNormalized (size : Size) (used : Rectangle) (rows : List (List Span)) : Type 0 where
  pub canvas : IsCanvas size
  pub height : pos (length rows) ≡ size.h
  pub rising : (y : ℕ) → IsRising (pos 0) size.w (get_or rows y [])
  pub on : IsOn used size
  pub within : (x : ℤ) (y : ℕ) → IsTrue (in_spans (get_or rows y []) x)
      → IsTrue (holds_pixel used x (pos y))

-- each pixel of the rectangle is in the rows
abbrev pub IsFilled : Rectangle → List (List Span) → Type 0
IsFilled used rows = (x : ℤ) (y : ℕ) → IsTrue (holds_pixel used x (pos y)) → IsTrue (in_spans (get_or rows y []) x)
