-- Where tiles lie.
use Rattle.std.proofs.Common.{◌≡◌, ℕ, zero, suc, ℤ, pos, ◌+◌, ◌-◌, ◌*◌, ◌/◌, ◌%◌, ◌<◌, ◌≤◌, true, nat_lt, IsTrue, refl, sym, ap, ◌∙◌, subst, inl, inr, arith}
use Rattle.std.specs.Prelude.{unsigned_abs}
use Rattle.std.proofs.lemmas.Bool.{cases_lt, lt-ltb, le-ltb, ltb-true}
use Rattle.std.proofs.lemmas.Int.{ints}
use Rattle.std.proofs.Math.Nat.{mul_comm}
use Rattle.std.proofs.lemmas.Nat.{div-mul-add, div_below, mod-mul-add, mod_below, mul-add-lt, mul-le}
use Rattle.rd_geom.specs.Canvas.{IsCanvas}
use Rattle.rd_geom.specs.Plane.{IsPlaced, Rectangle}
use Rattle.rd_geom.specs.declared.rect.Size.{Size}
use Rattle.rd_paint.specs.Changed.{IsOn}
use Rattle.rd_paint.proofs.SpanTests.{and_left, and_right}
use Rattle.rd_tiles.specs.Internal.Changing.{IsTileAt, place_at}
use Rattle.rd_tiles.specs.Tiling.{tiles_along, columns_of, rows_of, is_tile, side_of, tile_of}
use Rattle.rd_tiles.specs.declared.tile.Tile.{Tile}

-- what a tile has of n pixels
pub record IsSide (n place side : ℕ) : Type 0 where
  pub some : 1 ≤ side
  pub most : side ≤ 64
  pub within : 64 * place + side ≤ n

pub side_fits : (n place : ℕ) → place < tiles_along n → IsSide n place (side_of n place)
side_fits n place h = elim (cases_lt (n - 64 * place) 64) [
  | inl l ↦ rw (lt-ltb (n - 64 * place) 64 l) (record { some = omega arith; most = omega arith; within = omega arith })
  | inr l ↦ rw (le-ltb (n - 64 * place) 64 l) (record { some = omega arith; most = omega arith; within = omega arith })
]

-- a pixel is in the tile that it should be in
pub tile_along : (n x : ℕ) → x < n → x / 64 < tiles_along n
tile_along n x h = omega arith

pub past_along : (n x : ℕ) → x / 64 < tiles_along n → n ≤ x → side_of n (x / 64) ≤ x % 64
past_along n x h k = elim (cases_lt (n - 64 * (x / 64)) 64) [
  | inl l ↦ rw (lt-ltb (n - 64 * (x / 64)) 64 l) (omega arith)
  | inr l ↦ rw (le-ltb (n - 64 * (x / 64)) 64 l) (omega arith)
]

pub in_side : (n x : ℕ) → x < n → x % 64 < side_of n (x / 64)
in_side n x h = elim (cases_lt (n - 64 * (x / 64)) 64) [
  | inl l ↦ rw (lt-ltb (n - 64 * (x / 64)) 64 l) (omega arith)
  | inr l ↦ rw (le-ltb (n - 64 * (x / 64)) 64 l) (omega arith)
]

pub split_at : (x : ℕ) → 64 * (x / 64) + x % 64 ≡ x
split_at x = omega arith

-- a column and a row of tiles
pub record IsPlace (size : Size) (c r : ℕ) : Type 0 where
  pub column : c < columns_of size
  pub row : r < rows_of size

pub tile_is : (size : Size) (column row : ℕ) → IsTrue (is_tile size column row) → IsPlace size column row
tile_is size column row h = record {
  column = ltb-true column (columns_of size) (and_left (nat_lt column (columns_of size)) (nat_lt row (rows_of size)) h);
  row = ltb-true row (rows_of size) (and_right (nat_lt column (columns_of size)) (nat_lt row (rows_of size)) h);
}

pub is_there : (size : Size) (column row : ℕ) → IsPlace size column row → is_tile size column row ≡ true
is_there size column row p = rw (lt-ltb column (columns_of size) p.column, lt-ltb row (rows_of size) p.row) refl

-- a tile lies on its canvas
pub place_on : (size : Size) (column row : ℕ) → IsCanvas size → IsPlace size column row → IsOn size (tile_of size column row)
place_on size column row c p =
    let a = side_fits (unsigned_abs size.w) column p.column in
    let b = side_fits (unsigned_abs size.h) row p.row in
    let w : pos (unsigned_abs size.w) ≡ size.w = omega (arith, ints, c.some_wide) in
    let h : pos (unsigned_abs size.h) ≡ size.h = omega (arith, ints, c.some_high) in
    record {
      left = omega (arith, ints);
      top = omega (arith, ints);
      some_wide = omega (arith, ints, a.some);
      some_high = omega (arith, ints, b.some);
      right = omega (arith, ints, a.within, w);
      bottom = omega (arith, ints, b.within, h);
    }

-- the tile with a number
pub number_place : (size : Size) (i : ℕ) → i < columns_of size * rows_of size → IsPlace size (i % columns_of size) (i / columns_of size)
number_place size i h =
    let some : 0 < columns_of size = pos_left (columns_of size) (rows_of size) i h in
    record {
      column = mod_below i (columns_of size) some;
      row = div_below i (columns_of size) (rows_of size) some (subst (λ n. i < n) (mul_comm (columns_of size) (rows_of size)) h);
    }
  where
    pos_left : (a b i : ℕ) → i < a * b → 0 < a
    pos_left zero b i k = absurd (omega (arith, k))
    pos_left (suc a) b i k = omega arith

pub place_number : (size : Size) (column row : ℕ) → IsPlace size column row → place_at size (row * columns_of size + column) ≡ tile_of size column row
place_number size column row p =
    ap (λ c. tile_of size c ((row * columns_of size + column) / columns_of size)) (mod-mul-add row (columns_of size) column p.column)
    ∙ ap (tile_of size column) (div-mul-add row (columns_of size) column p.column)

pub number_below : (size : Size) (column row : ℕ) → IsPlace size column row → row * columns_of size + column < columns_of size * rows_of size
number_below size column row p = mul-add-lt row (columns_of size) column (rows_of size) p.row p.column

pub tile_lies : (size : Size) (i : ℕ) (t : Tile) → IsCanvas size → i < columns_of size * rows_of size → IsTileAt size i t → IsOn size t.place
tile_lies size i t c h d =
    subst (λ (r : Rectangle). IsOn size r) (sym d.place) (place_on size (i % columns_of size) (i / columns_of size) c (number_place size i h))

-- the rectangle of a tile, by its parts
pub place_made : (size : Size) (column row : ℕ) (x y w h : ℤ) (r : Rectangle) → r ≡ record { x = x; y = y; w = w; h = h }
    → x ≡ pos (64 * column) → y ≡ pos (64 * row) → w ≡ pos (side_of (unsigned_abs size.w) column) → h ≡ pos (side_of (unsigned_abs size.h) row) → r ≡ tile_of size column row
place_made size column row x y w h r e ex ey ew eh = e ∙ rw (ex, ey, ew, eh) refl

pub place_placed : (size : Size) (column row : ℕ) (x y w h : ℤ) → IsCanvas size → IsPlace size column row
    → x ≡ pos (64 * column) → y ≡ pos (64 * row) → w ≡ pos (side_of (unsigned_abs size.w) column) → h ≡ pos (side_of (unsigned_abs size.h) row) → IsPlaced (record { x = x; y = y; w = w; h = h })
place_placed size column row x y w h c p ex ey ew eh =
    let o = place_on size column row c p in
    rw (ex, ey, ew, eh) (record {
      wide = omega (arith, ints);
      high = omega (arith, ints);
      from_left = omega (arith, ints);
      from_top = omega (arith, ints);
      to_right = omega (arith, ints, o.right, c.wide);
      to_bottom = omega (arith, ints, o.bottom, c.high);
    })

-- there are few tiles
few_along : (n : ℕ) → n ≤ 4096 → tiles_along n ≤ 64
few_along n h = omega arith

pub few_tiles : (size : Size) → IsCanvas size → columns_of size * rows_of size ≤ 4096
few_tiles size c =
    let w : unsigned_abs size.w ≤ 4096 = omega (arith, ints, c.wide, c.some_wide) in
    let h : unsigned_abs size.h ≤ 4096 = omega (arith, ints, c.high, c.some_high) in
    let m = mul-le (columns_of size) (rows_of size) 64 64 (few_along (unsigned_abs size.w) w) (few_along (unsigned_abs size.h) h) in
    omega (arith, m)

pub on_most : (size : Size) (r : Rectangle) → IsCanvas size → IsOn size r → IsOn (record { w = pos 4096; h = pos 4096 }) r
on_most size r c o =
    let a = o.right in
    let b = o.bottom in
    let w = c.wide in
    let h = c.high in
    record { left = o.left; top = o.top; some_wide = o.some_wide; some_high = o.some_high; right = omega (arith, ints, a, w); bottom = omega (arith, ints, b, h) }
