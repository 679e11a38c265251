-- Rows of a tile on the canvas.
use Rattle.std.proofs.Common.{◌≡◌, ℕ, pos, ◌+◌, ◌*◌, ◌<◌, ◌+ℤ◌, Bool, true, false, ◌&&◌, ◌||◌, nat_eq, nat_le, nat_lt, List, length, get_or, refl, sym, ap, ◌∙◌, arith}
use Rattle.std.specs.Prelude.{unsigned_abs}
use Rattle.std.proofs.lemmas.Bool.{eqb-true}
use Rattle.std.proofs.lemmas.Int.{ints}
use Rattle.rd_geom.specs.Plane.{Rectangle, is_among}
use Rattle.rd_geom.specs.declared.rect.Size.{Size}
use Rattle.rd_paint.specs.Pictures.{Picture}
use Rattle.rd_paint.specs.Changed.{IsChanged}
use Rattle.rd_paint.proofs.SpanTests.{and_assoc}
use Rattle.rd_paint.proofs.Changes.{changed_as, changed_then}
use Rattle.rd_tiles.specs.Internal.Changing.{IsTiled, place_at}
use Rattle.rd_tiles.specs.Internal.Copying.{in_first_rows, in_first_tiles, in_line, in_tile, number_at, tile_color, tiles_color}
use Rattle.rd_tiles.specs.Tiling.{columns_of, rows_of}
use Rattle.rd_tiles.specs.declared.tile.Tile.{Tile}
use Rattle.rd_tiles.proofs.Copies.{color_is, first_more, in_tile_number}
use Rattle.rd_tiles.proofs.Tilings.{no_tile}

and_turned : (a b : Bool) → (a && b) ≡ (b && a)
and_turned true true = refl
and_turned true false = refl
and_turned false true = refl
and_turned false false = refl

columns_test : (r : Rectangle) (x a n : ℕ) → pos a ≡ r.x → pos n ≡ r.w → (nat_le a x && nat_lt x (a + n)) ≡ is_among r.x r.w (pos x)
columns_test r x a n ea en = grind (arith, ints)

row_test : (r : Rectangle) (row z y : ℕ) → pos y ≡ (r.y +ℤ pos row) → nat_eq z y ≡ is_among (r.y +ℤ pos row) (pos 1) (pos z)
row_test r row z y e = grind (arith, ints)

-- a row of a tile, as a span of the canvas
pub line_test : (r : Rectangle) (row x z y a n : ℕ) → pos y ≡ (r.y +ℤ pos row) → pos a ≡ r.x → pos n ≡ r.w
    → (nat_eq z y && nat_le a x && nat_lt x (a + n)) ≡ in_line r row x z
line_test r row x z y a n ey ea en =
    sym (and_assoc (nat_eq z y) (nat_le a x) (nat_lt x (a + n)))
    ∙ and_turned (nat_eq z y) (nat_le a x && nat_lt x (a + n))
    ∙ ap (λ t. t && nat_eq z y) (columns_test r x a n ea en)
    ∙ ap (λ t. is_among r.x r.w (pos x) && t) (row_test r row z y ey)

-- no row
pub lines_none : (r : Rectangle) (x y : ℕ) → in_first_rows r 0 x y ≡ false
lines_none r x y = ap (λ t. is_among r.x r.w (pos x) && t) (none r y) ∙ and_turned (is_among r.x r.w (pos x)) false
  where
    none : (r : Rectangle) (y : ℕ) → is_among r.y (pos 0) (pos y) ≡ false
    none r y = grind (arith, ints)

-- one row more
pub lines_more : (r : Rectangle) (n x y : ℕ) → in_first_rows r (n + 1) x y ≡ (in_first_rows r n x y || in_line r n x y)
lines_more r n x y = ap (λ t. is_among r.x r.w (pos x) && t) (one r n y) ∙ apart (is_among r.x r.w (pos x)) (is_among r.y (pos n) (pos y)) (is_among (r.y +ℤ pos n) (pos 1) (pos y))
  where
    one : (r : Rectangle) (n y : ℕ) → is_among r.y (pos (n + 1)) (pos y) ≡ (is_among r.y (pos n) (pos y) || is_among (r.y +ℤ pos n) (pos 1) (pos y))
    one r n y = grind (arith, ints)

    apart : (a b c : Bool) → (a && (b || c)) ≡ ((a && b) || (a && c))
    apart true b c = refl
    apart false b c = refl

-- all rows
pub lines_all : (r : Rectangle) (n x y : ℕ) → pos n ≡ r.h → in_first_rows r n x y ≡ in_tile r x y
lines_all r n x y e = ap (λ h. is_among r.x r.w (pos x) && is_among r.y h (pos y)) e

-- one tile more
pub tile_more : (size : Size) (ts : List Tile) (i : ℕ) (u : Tile) (old mid new : Picture) → IsTiled (record { size = size; tiles = ts }) → i < length ts
    → u.place ≡ place_at size i → unsigned_abs size.w ≡ old.width → unsigned_abs size.h ≡ old.height → get_or ts i no_tile ≡ u
    → IsChanged (tiles_color size ts) (in_first_tiles size i) old mid → IsChanged (tile_color u) (in_tile u.place) mid new
    → IsChanged (tiles_color size ts) (in_first_tiles size (i + 1)) old new
tile_more size ts i u old mid new h k place ew eh same a b =
    changed_then (tiles_color size ts) (in_first_tiles size i) (in_tile (place_at size i)) (in_first_tiles size (i + 1)) old mid new
    (λ x y p q. first_more size i x y below (omega (arith, ew, p)) (omega (arith, eh, q)))
    a
    (changed_as (tile_color u) (tiles_color size ts) (in_tile u.place) (in_tile (place_at size i)) mid new
    (λ x y p q. ap (λ (r : Rectangle). in_tile r x y) place)
    (λ x y p q t.
    let p' : x < unsigned_abs size.w = omega (arith, p, ew, a.width) in
    let q' : y < unsigned_abs size.h = omega (arith, q, eh, a.height) in
    ap (λ (t : Tile). tile_color t x y) (sym same)
    ∙ color_is size ts i x y h p' q' (eqb-true (number_at size x y) i (sym (in_tile_number size i x y below p' q') ∙ t)))
    b)
  where
    below : i < columns_of size * rows_of size
    below = omega (arith, k, h.count)
