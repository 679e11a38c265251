-- Tiles that were never painted.
use Rattle.std.specs.Prelude.{◌≡◌, ℕ, ◌*◌, ◌<◌, List, length, get_or, replicate}
use Rattle.rd_geom.specs.Colors.{white}
use Rattle.rd_geom.specs.Plane.{Rectangle}
use Rattle.rd_geom.specs.declared.rect.Size.{Size}
use Rattle.rd_paint.specs.Changed.{Fits}
use Rattle.rd_tiles.specs.Internal.Changing.{place_at}
use Rattle.rd_tiles.specs.Tiling.{columns_of, rows_of}
use Rattle.rd_tiles.specs.declared.tile.Tile.{Tile}

-- a white tile at a place
pub record IsBlank (r : Rectangle) (t : Tile) : Type 0 where
  pub place : t.place ≡ r
  pub stamp : t.stamp ≡ 0
  pub fits : Fits r t.canvas
  pub pixels : t.canvas.pixels ≡ replicate (t.canvas.height * t.canvas.width) white

-- the tiles of a canvas from the first on, white
abbrev pub AreFirstBlank : Size → List Tile → Type 0
AreFirstBlank size ts = (i : ℕ) → i < length ts → (d : Tile) → IsBlank (place_at size i) (get_or ts i d)

-- all tiles of a canvas, white
pub record AreBlank (size : Size) (ts : List Tile) : Type 0 where
  pub count : length ts ≡ columns_of size * rows_of size
  pub tiles : AreFirstBlank size ts
