-- The limits of scroll offsets, and of where boxes are drawn. They are this project's own choice.
use Rattle.std.specs.Prelude.{pos, ◌-ℤ◌, ◌≤ℤ◌, Bool, ◌&&◌, IsTrue}
use Rattle.rd_geom.specs.Plane.{Rectangle}
use Rattle.rd_style.specs.Limits.{is_between}
use Rattle.rd_tree.specs.declared.scroll.Scroll.{Scroll}
use Rattle.rd_tree.specs.Figures.{max_scroll}

-- May a box have this scroll offset? Each way it is at most a million pixels.
unfoldable pub fits_scroll : Scroll → Bool
fits_scroll s =
    is_between (pos 0 -ℤ max_scroll) s.x max_scroll && is_between (pos 0 -ℤ max_scroll) s.y max_scroll

abbrev pub FitsScroll : Scroll → Type 0
FitsScroll s = IsTrue (fits_scroll s)

-- Where a box within the limits is drawn: at most 256 boxes are scrolled above it, each by at most a million pixels.
pub record IsNear (r : Rectangle) : Type 0 where
  pub left : (pos 0 -ℤ pos 257000000) ≤ℤ r.x
  pub right : r.x ≤ℤ pos 257000000
  pub up : (pos 0 -ℤ pos 257000000) ≤ℤ r.y
  pub down : r.y ≤ℤ pos 257000000
  pub wide : pos 0 ≤ℤ r.w
  pub broad : r.w ≤ℤ pos 1000000
  pub high : pos 0 ≤ℤ r.h
  pub tall : r.h ≤ℤ pos 1000000
