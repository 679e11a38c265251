-- A canvas that is kept as tiles.
-- All of it is this project's own choice.
use Rattle.std.specs.Prelude.{◌≡◌, ℕ, zero, suc, ℤ, pos, negsuc, ◌+◌, ◌-◌, ◌*◌, ◌/◌, ◌%◌, Bool, ◌&&◌, nat_lt, if◌then◌else◌, List, slice_get, Option, Some, None, option_map, unsigned_abs, IsTrue}
use Rattle.rd_geom.specs.Areas.{Region, in_area, meets_area}
use Rattle.rd_geom.specs.Canvas.{canvas_of}
use Rattle.rd_geom.specs.Colors.{Premultiplied}
use Rattle.rd_geom.specs.Plane.{Rectangle, holds_pixel}
use Rattle.rd_geom.specs.declared.rect.Size.{Size}
use Rattle.rd_item.specs.declared.leaf.Leaf.{Leaf}
use Rattle.rd_list.specs.Wrappers.{Wrapper}
use Rattle.rd_list.specs.Entries.{Entries}
use Rattle.rd_list.specs.Lists.{pixel}
use Rattle.rd_paint.specs.Pictures.{pixel_at}
use Rattle.rd_tiles.specs.declared.tile.Tile.{Tile}

-- the size of the canvas, and its tiles row by row
pub record Tiling : Type 0 where
  pub size : Size
  pub tiles : List Tile

-- how many tiles lie along so many pixels, each of 64 but for the last
abbrev pub tiles_along : ℕ → ℕ
tiles_along n = (n + 63) / 64

-- how many tiles lie side by side
abbrev pub columns_of : Size → ℕ
columns_of s = tiles_along (unsigned_abs s.w)

-- how many lie one below another
abbrev pub rows_of : Size → ℕ
rows_of s = tiles_along (unsigned_abs s.h)

-- is there a tile in this column and row?
abbrev pub is_tile : Size → ℕ → ℕ → Bool
is_tile s column row = nat_lt column (columns_of s) && nat_lt row (rows_of s)

-- how many of n pixels the tile at a place along them has: 64, or what is left
abbrev pub side_of : ℕ → ℕ → ℕ
side_of n place = if nat_lt (n - 64 * place) 64 then n - 64 * place else 64

-- the pixels of the tile in a column and a row: 64 by 64, cut at the right and lower edges of the canvas
abbrev pub tile_of : Size → ℕ → ℕ → Rectangle
tile_of s column row = record {
  x = pos (64 * column);
  y = pos (64 * row);
  w = pos (side_of (unsigned_abs s.w) column);
  h = pos (side_of (unsigned_abs s.h) row);
}

-- the tile in a column and a row, where there is one
abbrev pub tile_at : Tiling → ℕ → ℕ → Option Tile
tile_at t column row =
    if is_tile t.size column row then slice_get t.tiles (row * columns_of t.size + column) else None

-- the stamp of the tile in a column and a row, where there is one
abbrev pub stamp_of : Tiling → ℕ → ℕ → Option ℕ
stamp_of t column row = option_map (λ tile. tile.stamp) (tile_at t column row)

-- the pixel in column x and row y of a tile, if there is such a tile
abbrev pub tile_pixel : Option Tile → ℕ → ℕ → Option Premultiplied
tile_pixel None x y = None
tile_pixel (Some tile) x y = pixel_at tile.canvas (pos x) (pos y)

-- the pixel in column x and row y of the canvas
abbrev pub pixel_in : Tiling → ℤ → ℤ → Option Premultiplied
pixel_in t (pos x) (pos y) = tile_pixel (tile_at t (x / 64) (y / 64)) (x % 64) (y % 64)
pixel_in t (pos x) (negsuc y) = None
pixel_in t (negsuc x) y = None

-- how many of the first n tiles have a pixel in an area
abbrev pub met_among : Region → Size → ℕ → ℕ
met_among a s zero = 0
met_among a s (suc n) =
    met_among a s n + (if meets_area a (tile_of s (n % columns_of s) (n / columns_of s)) then 1 else 0)

-- how many tiles have a pixel in an area
abbrev pub tiles_met : Region → ℕ
tiles_met a = met_among a a.size (columns_of a.size * rows_of a.size)

-- the pixels of an area became those of a list and no other pixel changed,
-- and the tiles that have a pixel in the area have the stamp n and no other stamp changed
pub record IsRetiled (list : Entries Wrapper Leaf) (area : Region) (n : ℕ) (old new : Tiling) : Type 0 where
  pub size : new.size ≡ old.size
  pub pixels : (x y : ℤ) → IsTrue (holds_pixel (canvas_of old.size) x y)
      → pixel_in new x y ≡ (if in_area area x y then Some (pixel list x y) else pixel_in old x y)
  pub stamps : (column row : ℕ) → IsTrue (is_tile old.size column row)
      → stamp_of new column row
      ≡ (if meets_area area (tile_of old.size column row) then Some n else stamp_of old column row)
