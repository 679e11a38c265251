-- Canvases as plain data.
use Rattle.std.specs.Prelude.{◌≡◌, ℕ, ℤ, pos, negsuc, ◌+◌, ◌-◌, ◌*◌, ◌≤◌, ◌&&◌, nat_lt, if◌then◌else◌, List, take, drop, length, get_or, ◌++◌, Option, Some, None}
use Rattle.rd_geom.specs.Colors.{Premultiplied, clear}
use Rattle.rd_geom.specs.declared.rect.Size.{Size}

-- this project's own choice: the pixels of a canvas, row by row from the top
pub record Picture : Type 0 where
  pub width : ℕ
  pub height : ℕ
  pub pixels : List Premultiplied

-- this project's own choice: from 1 to 4,096 pixels wide and high, and as many pixels as that
pub record IsPicture (c : Picture) : Type 0 where
  pub some_wide : 1 ≤ c.width
  pub wide : c.width ≤ 4096
  pub some_high : 1 ≤ c.height
  pub high : c.height ≤ 4096
  pub count : length c.pixels ≡ c.height * c.width

-- this project's own choice: its size in pixels
abbrev pub size_of : Picture → Size
size_of c = record { w = pos c.width; h = pos c.height }

-- this project's own choice: the pixel in column x of row y of a canvas
abbrev pub pixel_at : Picture → ℤ → ℤ → Option Premultiplied
pixel_at c (pos x) (pos y) =
    if nat_lt x c.width && nat_lt y c.height then Some (get_or c.pixels (y * c.width + x) clear) else None
pixel_at c (pos x) (negsuc y) = None
pixel_at c (negsuc x) y = None

-- this project's own choice: the pixels x0 up to but not including x1 of row y
abbrev pub span_of : Picture → ℕ → ℕ → ℕ → List Premultiplied
span_of c y x0 x1 = take (x1 - x0) (drop (y * c.width + x0) c.pixels)

-- this project's own choice: the canvas with other pixels from column x0 of row y on, but in all as many as it had
abbrev pub with_span : Picture → ℕ → ℕ → List Premultiplied → Picture
with_span c y x0 ps = record c {
  pixels =
      take (length c.pixels) (take (y * c.width + x0) c.pixels
      ++ (ps ++ drop (length ps) (drop (y * c.width + x0) c.pixels)));
}
