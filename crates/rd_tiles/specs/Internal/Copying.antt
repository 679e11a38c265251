-- Tiles that are copied to a canvas.
use Rattle.std.specs.Prelude.{ℕ, pos, ◌+◌, ◌-◌, ◌*◌, ◌/◌, ◌+ℤ◌, Bool, ◌&&◌, nat_lt, List, get_or, Option, Some, None, unsigned_abs}
use Rattle.rd_geom.specs.Colors.{Premultiplied, clear}
use Rattle.rd_geom.specs.Plane.{Rectangle, holds_pixel, is_among}
use Rattle.rd_geom.specs.declared.rect.Size.{Size}
use Rattle.rd_tiles.specs.Tiling.{pixel_in, columns_of}
use Rattle.rd_tiles.specs.declared.tile.Tile.{Tile}

-- the pixel of a tile that is in column x and row y of the canvas
abbrev pub tile_color : Tile → ℕ → ℕ → Premultiplied
tile_color t x y = get_or t.canvas.pixels ((y - unsigned_abs t.place.y) * t.canvas.width + (x - unsigned_abs t.place.x)) clear

-- is column x of row y of the canvas in this row of a rectangle?
abbrev pub in_line : Rectangle → ℕ → ℕ → ℕ → Bool
in_line r row x y = is_among r.x r.w (pos x) && is_among (r.y +ℤ pos row) (pos 1) (pos y)

-- is it in one of the first rows of a rectangle?
abbrev pub in_first_rows : Rectangle → ℕ → ℕ → ℕ → Bool
in_first_rows r n x y = is_among r.x r.w (pos x) && is_among r.y (pos n) (pos y)

-- is it in the rectangle?
abbrev pub in_tile : Rectangle → ℕ → ℕ → Bool
in_tile r x y = holds_pixel r (pos x) (pos y)

-- the number of the tile that has column x of row y of the canvas
abbrev pub number_at : Size → ℕ → ℕ → ℕ
number_at s x y = y / 64 * columns_of s + x / 64

-- is it in one of the first n tiles?
abbrev pub in_first_tiles : Size → ℕ → ℕ → ℕ → Bool
in_first_tiles s n x y = nat_lt (number_at s x y) n

-- a pixel, where there is one
abbrev pub px_of : Option Premultiplied → Premultiplied
px_of None = clear
px_of (Some p) = p

-- the pixel of some tiles that is in column x and row y of the canvas
abbrev pub tiles_color : Size → List Tile → ℕ → ℕ → Premultiplied
tiles_color s ts x y = px_of (pixel_in (record { size = s; tiles = ts }) (pos x) (pos y))
