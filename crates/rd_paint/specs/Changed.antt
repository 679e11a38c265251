-- Canvases before and after a change of some of their pixels, and canvases that show a rectangle of a list.
-- All of it is this project's own choice.
use Rattle.std.specs.Prelude.{◌≡◌, ℕ, ℤ, pos, ◌<◌, ◌+ℤ◌, ◌≤ℤ◌, Bool, if◌then◌else◌, Some, IsTrue}
use Rattle.rd_geom.specs.Areas.{Region, in_area}
use Rattle.rd_geom.specs.Colors.{Premultiplied, white}
use Rattle.rd_geom.specs.Plane.{Rectangle, holds_pixel, right, bottom}
use Rattle.rd_geom.specs.declared.rect.Size.{Size}
use Rattle.rd_item.specs.declared.leaf.Leaf.{Leaf}
use Rattle.rd_list.specs.Wrappers.{Wrapper}
use Rattle.rd_list.specs.Entries.{Entries}
use Rattle.rd_list.specs.Lists.{composed, pixel}
use Rattle.rd_paint.specs.Parts.{entries_from}
use Rattle.rd_paint.specs.Pictures.{Picture, pixel_at}

-- the pixels that pass a test became others by their places, and no other pixel changed
pub record IsChanged (f : ℕ → ℕ → Premultiplied) (test : ℕ → ℕ → Bool) (old new : Picture) : Type 0 where
  pub width : new.width ≡ old.width
  pub height : new.height ≡ old.height
  pub pixels : (x y : ℕ) → x < old.width → y < old.height
      → pixel_at new (pos x) (pos y) ≡ (if test x y then Some (f x y) else pixel_at old (pos x) (pos y))

-- the pixel of a list in column x and row y of a rectangle
abbrev pub list_at : Entries Wrapper Leaf → Rectangle → ℕ → ℕ → Premultiplied
list_at list r x y = pixel list (r.x +ℤ pos x) (r.y +ℤ pos y)

-- is it in the area?
abbrev pub in_part : Rectangle → Region → ℕ → ℕ → Bool
in_part r area x y = in_area area (r.x +ℤ pos x) (r.y +ℤ pos y)

-- the entries from a place on show in a rectangle what the whole list shows
abbrev pub ShowsFrom : Entries Wrapper Leaf → ℕ → Rectangle → Type 0
ShowsFrom list n r = (x y : ℤ) → IsTrue (holds_pixel r x y)
    → composed x y white (entries_from n list) ≡ pixel list x y

-- a rectangle lies on a canvas of some size
pub record IsOn (size : Size) (r : Rectangle) : Type 0 where
  pub left : pos 0 ≤ℤ r.x
  pub top : pos 0 ≤ℤ r.y
  pub some_wide : pos 1 ≤ℤ r.w
  pub some_high : pos 1 ≤ℤ r.h
  pub right : right r ≤ℤ size.w
  pub bottom : bottom r ≤ℤ size.h

-- a picture is as wide and high as a rectangle
pub record Fits (r : Rectangle) (c : Picture) : Type 0 where
  pub width : pos c.width ≡ r.w
  pub height : pos c.height ≡ r.h
