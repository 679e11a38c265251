-- The tiles of a canvas as C is told them. The form is this project's own choice.
use Rattle.std.specs.Prelude.{ℕ, zero, suc, pos, ◌+◌, ◌-◌, ◌*◌, ◌/◌, ◌&&◌, nat_lt, int_le, if◌then◌else◌, Bool, List, [], ◌∷◌, ◌++◌, length, map, filter, Option, Some, None, IsSomeAnd, unsigned_abs}
use Rattle.rd_geom.specs.Areas.{Region, meets_area}
use Rattle.rd_geom.specs.Canvas.{canvas_of}
use Rattle.rd_geom.specs.Figures.{max_canvas_side}
use Rattle.rd_geom.specs.Plane.{Rectangle, meet}
use Rattle.rd_geom.specs.declared.rect.Size.{Size}
use Rattle.rd_paint.specs.Pictures.{size_of}
use Rattle.rd_c.specs.Listed.{told_rect}
use Rattle.rd_c.specs.Memory.{IsWritten}
use Rattle.rd_c.specs.Numbers.{number_of}
use Rattle.rd_c.specs.Reading.{room_answer}
use Rattle.rd_c.specs.declared.painter.Painter.{Painter}
use Rattle.rd_c.specs.declared.refusal.Refusal.TheVariants.{Nothing, Value}
use Rattle.rd_c.specs.declared.values.RdRect.{RdRect}

-- may a tile have so many pixels across and down?
abbrev pub is_side : ℕ → Bool
is_side side = nat_lt 0 side && int_le (pos side) max_canvas_side

-- how many tiles lie along so many pixels, each of a side but for the last
abbrev pub tiles_along : ℕ → ℕ → ℕ
tiles_along side n = (n + (side - 1)) / side

-- the pixels of the tile in a column and a row: a square, cut at the edges of the canvas
abbrev pub tile_of : ℕ → Size → ℕ → ℕ → Rectangle
tile_of side s column row = meet (record { x = pos (side * column); y = pos (side * row); w = pos side; h = pos side }) (canvas_of s)

-- the first tiles of a row, so many of them, from the left
abbrev pub first_tiles : ℕ → Size → ℕ → ℕ → List Rectangle
first_tiles side s row zero = []
first_tiles side s row (suc n) = first_tiles side s row n ++ tile_of side s n row ∷ []

-- the tiles of the first rows of tiles, so many of them, from the top
abbrev pub first_rows : ℕ → Size → ℕ → List Rectangle
first_rows side s zero = []
first_rows side s (suc n) = first_rows side s n ++ first_tiles side s n (tiles_along side (unsigned_abs s.w))

-- the tiles of a canvas
abbrev pub tiles_of : ℕ → Size → List Rectangle
tiles_of side s = first_rows side s (tiles_along side (unsigned_abs s.h))

-- those of some tiles that have a pixel in an area
abbrev pub told_tiles : Region → List Rectangle → List RdRect
told_tiles a ts = map told_rect (filter (meets_area a) ts)

-- those of all tiles
abbrev pub tiles_met : ℕ → Size → Region → List RdRect
tiles_met side s a = told_tiles a (tiles_of side s)

-- The tiles that have a pixel in the area of the last paint were written at the front of memory.
abbrev pub AreTiles : ℕ → Painter → List RdRect → List RdRect → ℕ → Type 0
AreTiles side p old new n = IsSomeAnd p.engine.area (λ a. IsWritten (tiles_met side (size_of p.engine.canvas) a) old new n)

-- the tiles of a side that have a pixel in an area, if there is one
abbrev pub met_answer : ℕ → Option Region → Size → ℕ → ℕ
met_answer side None s room = number_of Nothing
met_answer side (Some a) s room = room_answer (length (tiles_met side s a)) room

-- the same, where there are tiles of that side
abbrev pub tiles_answer : ℕ → Option Region → Size → ℕ → ℕ
tiles_answer side area s room = if is_side side then met_answer side area s room else number_of Value
