-- Tiles that are painted.
use Rattle.std.specs.Prelude.{◌≡◌, ℕ, ◌*◌, ◌/◌, ◌%◌, ◌<◌, if◌then◌else◌, List, length, get_or}
use Rattle.rd_geom.specs.Areas.{Region, meets_area}
use Rattle.rd_geom.specs.Canvas.{IsCanvas}
use Rattle.rd_geom.specs.Plane.{Rectangle}
use Rattle.rd_geom.specs.declared.rect.Size.{Size}
use Rattle.rd_item.specs.declared.leaf.Leaf.{Leaf}
use Rattle.rd_list.specs.Wrappers.{Wrapper}
use Rattle.rd_list.specs.Entries.{Entries}
use Rattle.rd_paint.specs.Changed.{Fits, IsChanged, in_part, list_at}
use Rattle.rd_tiles.specs.Tiling.{Tiling, tile_of, columns_of, rows_of}
use Rattle.rd_tiles.specs.declared.tile.Tile.{Tile}

-- the place of the tile with number i
abbrev pub place_at : Size → ℕ → Rectangle
place_at s i = tile_of s (i % columns_of s) (i / columns_of s)

-- a tile is that with number i of a canvas
pub record IsTileAt (size : Size) (i : ℕ) (t : Tile) : Type 0 where
  pub place : t.place ≡ place_at size i
  pub fits : Fits t.place t.canvas

-- these are tiles of a canvas, from the first on
abbrev pub AreTiles : Size → List Tile → Type 0
AreTiles size ts = (i : ℕ) → i < length ts → (d : Tile) → IsTileAt size i (get_or ts i d)

-- a tile became that of a list in an area, and has the stamp n if it has a pixel in it
pub record IsTileRepainted (list : Entries Wrapper Leaf) (area : Region) (n : ℕ) (old new : Tile) : Type 0 where
  pub place : new.place ≡ old.place
  pub stamp : new.stamp ≡ (if meets_area area old.place then n else old.stamp)
  pub canvas : IsChanged (list_at list old.place) (in_part old.place area) old.canvas new.canvas

-- all tiles of a canvas
pub record IsTiled (t : Tiling) : Type 0 where
  pub canvas : IsCanvas t.size
  pub count : length t.tiles ≡ columns_of t.size * rows_of t.size
  pub tiles : AreTiles t.size t.tiles
