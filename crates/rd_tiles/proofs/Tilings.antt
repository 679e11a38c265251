-- The pixels and stamps of a canvas that is kept as tiles.
use Rattle.std.proofs.Common.{◌≡◌, ℕ, zero, suc, ℤ, pos, negsuc, ◌+◌, ◌*◌, ◌/◌, ◌%◌, ◌<◌, ◌≤◌, ◌+ℤ◌, Bool, true, false, cond, IsTrue, List, [], length, get_or, Some, None, refl, sym, ap, ◌∙◌, subst, inl, inr, arith, add-one}
use Rattle.std.proofs.Math.ListN.{set}
use Rattle.std.specs.Prelude.{unsigned_abs, slice_get, option_map}
use Rattle.std.proofs.lemmas.Bool.{cases_lt}
use Rattle.std.proofs.lemmas.Int.{ints}
use Rattle.std.proofs.lemmas.List.{get_or_default, get_or-set_other, get_or-set_same}
use Rattle.std.proofs.lemmas.Option.{slice_get-get_or}
use Rattle.rd_geom.specs.Areas.{Region, in_area, meets_area}
use Rattle.rd_geom.specs.Canvas.{canvas_of}
use Rattle.rd_geom.specs.Plane.{Rectangle, holds_pixel}
use Rattle.rd_geom.specs.declared.rect.Size.{Size}
use Rattle.rd_geom.proofs.Pixels.{At, holds_at}
use Rattle.rd_item.specs.declared.leaf.Leaf.{Leaf}
use Rattle.rd_list.specs.Wrappers.{Wrapper}
use Rattle.rd_list.specs.Entries.{Entries}
use Rattle.rd_list.specs.Lists.{pixel}
use Rattle.rd_paint.specs.Pictures.{pixel_at}
use Rattle.rd_tiles.specs.Internal.Changing.{AreTiles, IsTileAt, IsTileRepainted, IsTiled, place_at}
use Rattle.rd_tiles.specs.Tiling.{Tiling, IsRetiled, columns_of, is_tile, met_among, pixel_in, rows_of, side_of, stamp_of, tile_at, tile_of, tile_pixel}
use Rattle.rd_tiles.specs.declared.tile.Tile.{Tile}
use Rattle.rd_tiles.proofs.Placing.{IsPlace, in_side, is_there, number_below, place_number, split_at, tile_along, tile_is}

-- any tile
abbrev pub no_tile : Tile
no_tile = record {
  place = record { x = pos 0; y = pos 0; w = pos 0; h = pos 0 };
  stamp = 0;
  canvas = record { width = 0; height = 0; pixels = [] };
}

-- the tile in a column and a row
abbrev pub tile_in : Tiling → ℕ → ℕ → Tile
tile_in t column row = get_or t.tiles (row * columns_of t.size + column) no_tile

pub tile_there : (t : Tiling) (column row : ℕ) → length t.tiles ≡ columns_of t.size * rows_of t.size → IsPlace t.size column row
    → tile_at t column row ≡ Some (tile_in t column row)
tile_there t column row n p =
    let b = number_below t.size column row p in
    rw (is_there t.size column row p) (slice_get-get_or t.tiles (row * columns_of t.size + column) no_tile (omega (arith, n, b)))

-- a pixel of the canvas, by its tile
pub record IsIn (size : Size) (x y : ℕ) : Type 0 where
  pub place : IsPlace size (x / 64) (y / 64)
  pub column : x % 64 < side_of (unsigned_abs size.w) (x / 64)
  pub row : y % 64 < side_of (unsigned_abs size.h) (y / 64)

pub is_in : (size : Size) (x y : ℕ) → x < unsigned_abs size.w → y < unsigned_abs size.h → IsIn size x y
is_in size x y a b = record {
  place = record { column = tile_along (unsigned_abs size.w) x a; row = tile_along (unsigned_abs size.h) y b };
  column = in_side (unsigned_abs size.w) x a;
  row = in_side (unsigned_abs size.h) y b;
}

-- what is known of the tile of a pixel
pub record HasTile (t : Tiling) (x y : ℕ) : Type 0 where
  pub below : y / 64 * columns_of t.size + x / 64 < length t.tiles
  pub at : tile_at t (x / 64) (y / 64) ≡ Some (tile_in t (x / 64) (y / 64))
  pub place : (tile_in t (x / 64) (y / 64)).place ≡ tile_of t.size (x / 64) (y / 64)
  pub wide : x % 64 < (tile_in t (x / 64) (y / 64)).canvas.width
  pub high : y % 64 < (tile_in t (x / 64) (y / 64)).canvas.height
  pub left : ((tile_in t (x / 64) (y / 64)).place.x +ℤ pos (x % 64)) ≡ pos x
  pub top : ((tile_in t (x / 64) (y / 64)).place.y +ℤ pos (y % 64)) ≡ pos y

pub has_tile : (t : Tiling) (x y : ℕ) → IsTiled t → x < unsigned_abs t.size.w → y < unsigned_abs t.size.h → HasTile t x y
has_tile t x y h a b =
    let i = is_in t.size x y a b in
    let n = number_below t.size (x / 64) (y / 64) i.place in
    let k : y / 64 * columns_of t.size + x / 64 < length t.tiles = omega (arith, n, h.count) in
    let d : IsTileAt t.size (y / 64 * columns_of t.size + x / 64) (tile_in t (x / 64) (y / 64)) = h.tiles (y / 64 * columns_of t.size + x / 64) k no_tile in
    let place : (tile_in t (x / 64) (y / 64)).place ≡ tile_of t.size (x / 64) (y / 64) = d.place ∙ place_number t.size (x / 64) (y / 64) i.place in
    let w : pos (tile_in t (x / 64) (y / 64)).canvas.width ≡ pos (side_of (unsigned_abs t.size.w) (x / 64)) = d.fits.width ∙ ap (λ (r : Rectangle). r.w) place in
    let e : pos (tile_in t (x / 64) (y / 64)).canvas.height ≡ pos (side_of (unsigned_abs t.size.h) (y / 64)) = d.fits.height ∙ ap (λ (r : Rectangle). r.h) place in
    let column = i.column in
    let row = i.row in
    record {
      below = k;
      at = tile_there t (x / 64) (y / 64) h.count i.place;
      place = place;
      wide = omega (arith, ints, w, column);
      high = omega (arith, ints, e, row);
      left = ap (λ (r : Rectangle). r.x +ℤ pos (x % 64)) place ∙ joined x;
      top = ap (λ (r : Rectangle). r.y +ℤ pos (y % 64)) place ∙ joined y;
    }
  where
    joined : (x : ℕ) → (pos (64 * (x / 64)) +ℤ pos (x % 64)) ≡ pos x
    joined x = let s = split_at x in omega (arith, ints, s)

-- a pixel of the canvas is one of its tile
pub pixel_there : (t : Tiling) (x y : ℕ) → HasTile t x y → pixel_in t (pos x) (pos y) ≡ pixel_at (tile_in t (x / 64) (y / 64)).canvas (pos (x % 64)) (pos (y % 64))
pixel_there t x y h = rw h.at refl

-- all tiles repainted
pub retiled : (list : Entries Wrapper Leaf) (area : Region) (n : ℕ) (old new : Tiling) → IsTiled old → new.size ≡ old.size → length new.tiles ≡ length old.tiles
    → ((i : ℕ) → i < length old.tiles → (d : Tile) → IsTileRepainted list area n (get_or old.tiles i d) (get_or new.tiles i d)) → IsRetiled list area n old new
retiled list area n old new h e l each = record { size = e; pixels = pixels; stamps = stamps }
  where
    same : (column row : ℕ) → get_or new.tiles (row * columns_of new.size + column) no_tile ≡ get_or new.tiles (row * columns_of old.size + column) no_tile
    same column row = ap (λ (s : Size). get_or new.tiles (row * columns_of s + column) no_tile) e

    there : (column row : ℕ) → IsPlace old.size column row → tile_at new column row ≡ Some (get_or new.tiles (row * columns_of old.size + column) no_tile)
    there column row p =
        let b = number_below old.size column row p in
        let k : row * columns_of old.size + column < length new.tiles = omega (arith, b, l, h.count) in
        ap (λ (s : Size). cond (is_tile s column row) (slice_get new.tiles (row * columns_of s + column)) None) e
        ∙ rw (is_there old.size column row p) (slice_get-get_or new.tiles (row * columns_of old.size + column) no_tile k)

    at : (x y : ℕ) → x < unsigned_abs old.size.w → y < unsigned_abs old.size.h
        → pixel_in new (pos x) (pos y) ≡ cond (in_area area (pos x) (pos y)) (Some (pixel list (pos x) (pos y))) (pixel_in old (pos x) (pos y))
    at x y a b =
        let i = is_in old.size x y a b in
        let g = has_tile old x y h a b in
        let r : IsTileRepainted list area n (tile_in old (x / 64) (y / 64)) (get_or new.tiles (y / 64 * columns_of old.size + x / 64) no_tile) = each (y / 64 * columns_of old.size + x / 64) g.below no_tile in
        let p = rw (g.left, g.top) at (r.canvas.pixels (x % 64) (y % 64) g.wide g.high) in
        ap (λ o. tile_pixel o (x % 64) (y % 64)) (there (x / 64) (y / 64) i.place)
        ∙ p
        ∙ ap (cond (in_area area (pos x) (pos y)) (Some (pixel list (pos x) (pos y)))) (sym (pixel_there old x y g))

    pixels : (x y : ℤ) → IsTrue (holds_pixel (canvas_of old.size) x y) → pixel_in new x y ≡ cond (in_area area x y) (Some (pixel list x y)) (pixel_in old x y)
    pixels (pos x) (pos y) k = let a : At (canvas_of old.size) (pos x) (pos y) = holds_at (canvas_of old.size) (pos x) (pos y) k in at x y (omega (arith, ints, a)) (omega (arith, ints, a))
    pixels (pos x) (negsuc y) k = let a : At (canvas_of old.size) (pos x) (negsuc y) = holds_at (canvas_of old.size) (pos x) (negsuc y) k in absurd (omega (arith, ints, a))
    pixels (negsuc x) y k = let a : At (canvas_of old.size) (negsuc x) y = holds_at (canvas_of old.size) (negsuc x) y k in absurd (omega (arith, ints, a))

    either : (b : Bool) (m k : ℕ) → Some (cond b m k) ≡ cond b (Some m) (Some k)
    either true m k = refl
    either false m k = refl

    stamps : (column row : ℕ) → IsTrue (is_tile old.size column row) → stamp_of new column row ≡ cond (meets_area area (tile_of old.size column row)) (Some n) (stamp_of old column row)
    stamps column row k =
        let p = tile_is old.size column row k in
        let b = number_below old.size column row p in
        let j : row * columns_of old.size + column < length old.tiles = omega (arith, b, h.count) in
        let r : IsTileRepainted list area n (tile_in old column row) (get_or new.tiles (row * columns_of old.size + column) no_tile) = each (row * columns_of old.size + column) j no_tile in
        let place : (tile_in old column row).place ≡ tile_of old.size column row = (h.tiles (row * columns_of old.size + column) j no_tile).place ∙ place_number old.size column row p in
        let o : stamp_of old column row ≡ Some (tile_in old column row).stamp = ap (option_map (λ (t : Tile). t.stamp)) (tile_there old column row h.count p) in
        ap (option_map (λ (t : Tile). t.stamp)) (there column row p)
        ∙ ap Some r.stamp
        ∙ either (meets_area area (tile_in old column row).place) n (tile_in old column row).stamp
        ∙ ap (λ q. cond (meets_area area q) (Some n) (Some (tile_in old column row).stamp)) place
        ∙ ap (cond (meets_area area (tile_of old.size column row)) (Some n)) (sym o)

-- repainted tiles are tiles
pub still_tiles : (list : Entries Wrapper Leaf) (area : Region) (n : ℕ) (size : Size) (old new : List Tile) → length new ≡ length old
    → ((i : ℕ) → i < length old → (d : Tile) → IsTileRepainted list area n (get_or old i d) (get_or new i d)) → AreTiles size old → AreTiles size new
still_tiles list area n size old new l each h i k d =
    let k' : i < length old = omega (arith, k, l) in
    let r = each i k' d in
    let t = h i k' d in
    record {
      place = r.place ∙ t.place;
      fits = record {
        width = ap pos r.canvas.width ∙ t.fits.width ∙ ap (λ (p : Rectangle). p.w) (sym r.place);
        height = ap pos r.canvas.height ∙ t.fits.height ∙ ap (λ (p : Rectangle). p.h) (sym r.place);
      };
    }

-- one tile more that may meet an area
pub met_more : (a : Region) (s : Size) (n : ℕ) → met_among a s (n + 1) ≡ met_among a s n + cond (meets_area a (place_at s n)) 1 0
met_more a s n = rw add-one refl

pub met_most : (a : Region) (s : Size) (n : ℕ) → met_among a s n ≤ n
met_most a s zero = omega arith
met_most a s (suc n) = let r = met_most a s n in by (meets_area a (place_at s n)) r
  where
    by : (b : Bool) → met_among a s n ≤ n → met_among a s n + cond b 1 0 ≤ suc n
    by true r = omega (arith, r)
    by false r = omega (arith, r)

pub count_met : (a : Region) (s : Size) (n c : ℕ) → meets_area a (place_at s n) ≡ true → c ≡ met_among a s n → c + 1 ≡ met_among a s (n + 1)
count_met a s n c m e = ap (λ k. k + 1) e ∙ ap (λ b. met_among a s n + cond b 1 0) (sym m) ∙ sym (met_more a s n)

pub count_unmet : (a : Region) (s : Size) (n c : ℕ) → meets_area a (place_at s n) ≡ false → c ≡ met_among a s n → c ≡ met_among a s (n + 1)
count_unmet a s n c m e = e ∙ none (met_among a s n) ∙ ap (λ b. met_among a s n + cond b 1 0) (sym m) ∙ sym (met_more a s n)
  where
    none : (k : ℕ) → k ≡ k + 0
    none k = omega arith

-- one tile more is repainted
pub repaint_more : (list : Entries Wrapper Leaf) (area : Region) (n : ℕ) (old now : List Tile) (i : ℕ) (e u : Tile) → length now ≡ length old → i < length old
    → ((k : ℕ) → k < i → (d : Tile) → IsTileRepainted list area n (get_or old k d) (get_or now k d)) → ((k : ℕ) → i ≤ k → (d : Tile) → get_or now k d ≡ get_or old k d)
    → IsTileRepainted list area n (get_or now i e) u → (k : ℕ) → k < i + 1 → (d : Tile) → IsTileRepainted list area n (get_or old k d) (get_or (set now i u) k d)
repaint_more list area n old now i e u l h painted left r k b d = elim (cases_lt k i) [
  | inl j ↦
      subst (λ (t : Tile). IsTileRepainted list area n (get_or old k d) t) (sym (get_or-set_other now i k u d (λ s. omega (arith, s, j)))) (painted k j d)
  | inr j ↦
      let s : i ≡ k = omega (arith, b, j) in
      subst (λ z. IsTileRepainted list area n (get_or old z d) (get_or (set now i u) z d)) s
      (subst (λ (t : Tile). IsTileRepainted list area n (get_or old i d) t) (sym (get_or-set_same now i u d (omega (arith, l, h))))
      (subst (λ (t : Tile). IsTileRepainted list area n t u) (get_or_default now i e d (omega (arith, l, h)) ∙ left i (omega arith) d) r))
]

pub left_more : (old now : List Tile) (i : ℕ) (u : Tile) → ((k : ℕ) → i ≤ k → (d : Tile) → get_or now k d ≡ get_or old k d) → (k : ℕ) → i + 1 ≤ k → (d : Tile) → get_or (set now i u) k d ≡ get_or old k d
left_more old now i u left k h d = get_or-set_other now i k u d (λ s. omega (arith, s, h)) ∙ left k (omega (arith, h)) d
