-- Tiles that are copied to a canvas, one after another.
use Rattle.std.proofs.Common.{◌≡◌, ℕ, ℤ, pos, negsuc, ◌+◌, ◌-◌, ◌*◌, ◌/◌, ◌%◌, ◌<◌, ◌≤◌, ◌+ℤ◌, ◌≤ℤ◌, ◌<ℤ◌, Bool, true, false, ◌&&◌, ◌||◌, cond, nat_eq, nat_lt, IsTrue, List, length, get_or, Option, Some, None, refl, sym, ap, ◌∙◌, subst, inl, inr, ◌⊎◌, arith}
use Rattle.std.specs.Prelude.{unsigned_abs, is_some}
use Rattle.std.proofs.lemmas.Bool.{cases_lt, cases_order, eq-eqb, ne_eqb, eqb-true, lt-ltb, le-ltb}
use Rattle.std.proofs.lemmas.Int.{ints}
use Rattle.std.proofs.lemmas.Nat.{div-add-mod'}
use Rattle.rd_geom.specs.Canvas.{IsCanvas, canvas_of}
use Rattle.rd_geom.specs.Colors.{Premultiplied, clear}
use Rattle.rd_geom.specs.Plane.{Rectangle, holds_pixel}
use Rattle.rd_geom.specs.declared.rect.Size.{Size}
use Rattle.rd_geom.proofs.Pixels.{At, at_holds, holds_at, same_test}
use Rattle.rd_paint.specs.Pictures.{Picture, pixel_at, size_of}
use Rattle.rd_paint.specs.Changed.{IsChanged}
use Rattle.rd_tiles.specs.Internal.Changing.{IsTileAt, IsTiled, place_at}
use Rattle.rd_tiles.specs.Internal.Copying.{in_first_tiles, in_tile, number_at, px_of, tile_color, tiles_color}
use Rattle.rd_tiles.specs.Tiling.{Tiling, columns_of, is_tile, pixel_in, rows_of, side_of, tile_of, tile_pixel}
use Rattle.rd_tiles.specs.declared.tile.Tile.{Tile}
use Rattle.rd_tiles.proofs.Placing.{IsPlace, number_below, number_place, past_along, place_number, side_fits, split_at, tile_is}
use Rattle.rd_tiles.proofs.Tilings.{HasTile, has_tile, is_in, no_tile, pixel_there, tile_in, tile_there}

-- a pixel of the canvas is in the tile with its number, and in no other
pub in_tile_number : (size : Size) (i x y : ℕ) → i < columns_of size * rows_of size → x < unsigned_abs size.w → y < unsigned_abs size.h
    → in_tile (place_at size i) x y ≡ nat_eq (number_at size x y) i
in_tile_number size i x y h a b = same_test (in_tile (place_at size i) x y) (nat_eq (number_at size x y) i) there back
  where
    there : IsTrue (in_tile (place_at size i) x y) → IsTrue (nat_eq (number_at size x y) i)
    there k =
        let p = number_place size i h in
        let at : At (place_at size i) (pos x) (pos y) = holds_at (place_at size i) (pos x) (pos y) k in
        let w = side_fits (unsigned_abs size.w) (i % columns_of size) p.column in
        let e = side_fits (unsigned_abs size.h) (i / columns_of size) p.row in
        let c : x / 64 ≡ i % columns_of size = column x (i % columns_of size) (side_of (unsigned_abs size.w) (i % columns_of size)) w.most at.left at.right in
        let r : y / 64 ≡ i / columns_of size = column y (i / columns_of size) (side_of (unsigned_abs size.h) (i / columns_of size)) e.most at.top at.bottom in
        eq-eqb (number_at size x y) i (ap (λ n. n * columns_of size + x / 64) r ∙ ap (λ n. i / columns_of size * columns_of size + n) c ∙ div-add-mod' i (columns_of size))
      where
        column : (x c side : ℕ) → side ≤ 64 → pos (64 * c) ≤ℤ pos x → pos x <ℤ (pos (64 * c) +ℤ pos side) → x / 64 ≡ c
        column x c side s l r = omega (arith, ints, s, l, r)

    back : IsTrue (nat_eq (number_at size x y) i) → IsTrue (in_tile (place_at size i) x y)
    back k =
        let g = is_in size x y a b in
        let e : place_at size i ≡ tile_of size (x / 64) (y / 64) = ap (place_at size) (sym (eqb-true (number_at size x y) i k)) ∙ place_number size (x / 64) (y / 64) g.place in
        subst (λ (r : Rectangle). IsTrue (holds_pixel r (pos x) (pos y))) (sym e) (at_holds (tile_of size (x / 64) (y / 64)) (pos x) (pos y) (inside g.column g.row))
      where
        inside : x % 64 < side_of (unsigned_abs size.w) (x / 64) → y % 64 < side_of (unsigned_abs size.h) (y / 64) → At (tile_of size (x / 64) (y / 64)) (pos x) (pos y)
        inside c r =
            let s = split_at x in
            let t = split_at y in
            record {
              left = omega (arith, ints, s);
              right = omega (arith, ints, s, c);
              top = omega (arith, ints, t);
              bottom = omega (arith, ints, t, r);
            }

-- one tile more
pub first_more : (size : Size) (i x y : ℕ) → i < columns_of size * rows_of size → x < unsigned_abs size.w → y < unsigned_abs size.h
    → in_first_tiles size (i + 1) x y ≡ (in_first_tiles size i x y || in_tile (place_at size i) x y)
first_more size i x y h a b = one_more (number_at size x y) i ∙ ap (λ t. nat_lt (number_at size x y) i || t) (sym (in_tile_number size i x y h a b))
  where
    one_more : (n i : ℕ) → nat_lt n (i + 1) ≡ (nat_lt n i || nat_eq n i)
    one_more n i = elim (cases_order n i) [
      | inl e ↦ rw (lt-ltb n (i + 1) (omega (arith, e)), le-ltb n i (omega (arith, e)), eq-eqb n i e) refl
      | inr (inl l) ↦ rw (lt-ltb n (i + 1) (omega (arith, l)), lt-ltb n i l) refl
      | inr (inr l) ↦ rw (le-ltb n (i + 1) (omega (arith, l)), le-ltb n i (omega (arith, l)), ne_eqb n i (λ e. omega (arith, e, l))) refl
    ]

-- the pixel that a tile has there
pub pixel_some : (t : Tiling) (x y : ℕ) → HasTile t x y
    → pixel_in t (pos x) (pos y) ≡ Some (get_or (tile_in t (x / 64) (y / 64)).canvas.pixels (y % 64 * (tile_in t (x / 64) (y / 64)).canvas.width + x % 64) clear)
pixel_some t x y h =
    pixel_there t x y h
    ∙ rw (lt-ltb (x % 64) (tile_in t (x / 64) (y / 64)).canvas.width h.wide, lt-ltb (y % 64) (tile_in t (x / 64) (y / 64)).canvas.height h.high) refl

-- what a tile shows is what the tiles show
pub color_is : (size : Size) (ts : List Tile) (i x y : ℕ) → IsTiled (record { size = size; tiles = ts }) → x < unsigned_abs size.w → y < unsigned_abs size.h
    → number_at size x y ≡ i → tile_color (get_or ts i no_tile) x y ≡ tiles_color size ts x y
color_is size ts i x y h a b e =
    let t : Tiling = record { size = size; tiles = ts } in
    let g = has_tile t x y h a b in
    let u : Tile = tile_in t (x / 64) (y / 64) in
    let ex : x - unsigned_abs u.place.x ≡ x % 64 = ap (λ (r : Rectangle). x - unsigned_abs r.x) g.place ∙ rest x in
    let ey : y - unsigned_abs u.place.y ≡ y % 64 = ap (λ (r : Rectangle). y - unsigned_abs r.y) g.place ∙ rest y in
    ap (λ n. tile_color (get_or ts n no_tile) x y) (sym e)
    ∙ ap (λ n. get_or u.canvas.pixels (n * u.canvas.width + (x - unsigned_abs u.place.x)) clear) ey
    ∙ ap (λ n. get_or u.canvas.pixels (y % 64 * u.canvas.width + n) clear) ex
    ∙ ap px_of (sym (pixel_some t x y g))
  where
    rest : (x : ℕ) → x - 64 * (x / 64) ≡ x % 64
    rest x = let s = split_at x in omega (arith, s)

-- off the canvas there is no pixel
pub pixel_none : (t : Tiling) (x y : ℕ) → IsTiled t → (unsigned_abs t.size.w ≤ x) ⊎ (unsigned_abs t.size.h ≤ y) → pixel_in t (pos x) (pos y) ≡ None
pixel_none t x y h o = go (is_tile t.size (x / 64) (y / 64)) refl
  where
    off : (w e lx ly : ℕ) (p : Picture) → p.width ≡ w → p.height ≡ e → (w ≤ lx) ⊎ (e ≤ ly) → pixel_at p (pos lx) (pos ly) ≡ None
    off w e lx ly p a b (inl l) = rw (le-ltb lx p.width (omega (arith, a, l))) refl
    off w e lx ly p a b (inr l) = rw (le-ltb ly p.height (omega (arith, b, l))) (none (nat_lt lx p.width) (Some (get_or p.pixels (ly * p.width + lx) clear)))
      where
        none : (b : Bool) (o : Option Premultiplied) → cond (b && false) o None ≡ None
        none true o = refl
        none false o = refl

    past : IsPlace t.size (x / 64) (y / 64) → (unsigned_abs t.size.w ≤ x) ⊎ (unsigned_abs t.size.h ≤ y)
        → (side_of (unsigned_abs t.size.w) (x / 64) ≤ x % 64) ⊎ (side_of (unsigned_abs t.size.h) (y / 64) ≤ y % 64)
    past p (inl l) = inl (past_along (unsigned_abs t.size.w) x p.column l)
    past p (inr l) = inr (past_along (unsigned_abs t.size.h) y p.row l)

    go : (b : Bool) → is_tile t.size (x / 64) (y / 64) ≡ b → pixel_in t (pos x) (pos y) ≡ None
    go false e = rw e refl
    go true e =
        let p = tile_is t.size (x / 64) (y / 64) e in
        let n = number_below t.size (x / 64) (y / 64) p in
        let u : Tile = tile_in t (x / 64) (y / 64) in
        let d : IsTileAt t.size (y / 64 * columns_of t.size + x / 64) u = h.tiles (y / 64 * columns_of t.size + x / 64) (omega (arith, n, h.count)) no_tile in
        let place : u.place ≡ tile_of t.size (x / 64) (y / 64) = d.place ∙ place_number t.size (x / 64) (y / 64) p in
        let w : pos u.canvas.width ≡ pos (side_of (unsigned_abs t.size.w) (x / 64)) = d.fits.width ∙ ap (λ (r : Rectangle). r.w) place in
        let v : pos u.canvas.height ≡ pos (side_of (unsigned_abs t.size.h) (y / 64)) = d.fits.height ∙ ap (λ (r : Rectangle). r.h) place in
        ap (λ o. tile_pixel o (x % 64) (y % 64)) (tile_there t (x / 64) (y / 64) h.count p)
        ∙ off (side_of (unsigned_abs t.size.w) (x / 64)) (side_of (unsigned_abs t.size.h) (y / 64)) (x % 64) (y % 64) u.canvas (omega (arith, ints, w)) (omega (arith, ints, v)) (past p o)

-- a pixel is there exactly on the canvas
pub pixel_where : (t : Tiling) (x y : ℤ) → IsTiled t → is_some (pixel_in t x y) ≡ holds_pixel (canvas_of t.size) x y
pixel_where t (pos x) (pos y) h = elim (cases_lt x (unsigned_abs t.size.w)) [
  | inl a ↦ elim (cases_lt y (unsigned_abs t.size.h)) [
    | inl b ↦ ap is_some (pixel_some t x y (has_tile t x y h a b)) ∙ sym (on t.size x y h.canvas a b)
    | inr b ↦ ap is_some (pixel_none t x y h (inr b)) ∙ sym (below t.size x y h.canvas b)
  ]
  | inr a ↦ ap is_some (pixel_none t x y h (inl a)) ∙ sym (beside t.size x y h.canvas a)
]
  where
    on : (s : Size) (x y : ℕ) → IsCanvas s → x < unsigned_abs s.w → y < unsigned_abs s.h → holds_pixel (canvas_of s) (pos x) (pos y) ≡ true
    on s x y c a b = grind (arith, ints, c.some_wide, c.some_high)

    below : (s : Size) (x y : ℕ) → IsCanvas s → unsigned_abs s.h ≤ y → holds_pixel (canvas_of s) (pos x) (pos y) ≡ false
    below s x y c b = grind (arith, ints, c.some_wide, c.some_high)

    beside : (s : Size) (x y : ℕ) → IsCanvas s → unsigned_abs s.w ≤ x → holds_pixel (canvas_of s) (pos x) (pos y) ≡ false
    beside s x y c b = grind (arith, ints, c.some_wide, c.some_high)
pixel_where t (pos x) (negsuc y) h = above t.size x y h.canvas
  where
    above : (s : Size) (x y : ℕ) → IsCanvas s → false ≡ holds_pixel (canvas_of s) (pos x) (negsuc y)
    above s x y c = grind (arith, ints, c.some_wide, c.some_high)
pixel_where t (negsuc x) y h = left t.size x y h.canvas
  where
    left : (s : Size) (x : ℕ) (y : ℤ) → IsCanvas s → false ≡ holds_pixel (canvas_of s) (negsuc x) y
    left s x y c = grind (arith, ints, c.some_wide, c.some_high)

-- the copy of all tiles
pub copied : (t : Tiling) (old new : Picture) → IsTiled t → size_of old ≡ t.size → IsChanged (tiles_color t.size t.tiles) (in_first_tiles t.size (length t.tiles)) old new
    → (x y : ℤ) → pixel_at new x y ≡ pixel_in t x y
copied t old new h s k (pos x) (pos y) =
    let w : pos old.width ≡ t.size.w = ap (λ (z : Size). z.w) s in
    let e : pos old.height ≡ t.size.h = ap (λ (z : Size). z.h) s in
    elim (cases_lt x (unsigned_abs t.size.w)) [
      | inl a ↦ elim (cases_lt y (unsigned_abs t.size.h)) [
        | inl b ↦
            let g = has_tile t x y h a b in
            k.pixels x y (omega (arith, ints, w)) (omega (arith, ints, e))
            ∙ rw (lt-ltb (number_at t.size x y) (length t.tiles) g.below) (back (pixel_in t (pos x) (pos y)) _ (pixel_some t x y g))
        | inr b ↦ off x y (inr (omega (arith, ints, e, k.height))) ∙ sym (pixel_none t x y h (inr b))
      ]
      | inr a ↦ off x y (inl (omega (arith, ints, w, k.width))) ∙ sym (pixel_none t x y h (inl a))
    ]
  where
    back : (o : Option Premultiplied) (p : Premultiplied) → o ≡ Some p → Some (px_of o) ≡ o
    back o p e = ap (λ q. Some (px_of q)) e ∙ sym e

    off : (x y : ℕ) → (new.width ≤ x) ⊎ (new.height ≤ y) → pixel_at new (pos x) (pos y) ≡ None
    off x y (inl l) = rw (le-ltb x new.width l) refl
    off x y (inr l) = rw (le-ltb y new.height l) (none (nat_lt x new.width) (Some (get_or new.pixels (y * new.width + x) clear)))
      where
        none : (b : Bool) (o : Option Premultiplied) → cond (b && false) o None ≡ None
        none true o = refl
        none false o = refl
copied t old new h s k (pos x) (negsuc y) = refl
copied t old new h s k (negsuc x) y = refl

-- the same of tiles that are those of a canvas
pub copied_of : (t : Tiling) (ts : List Tile) (old new : Picture) → IsTiled t → size_of old ≡ t.size → ts ≡ t.tiles
    → IsChanged (tiles_color (size_of old) ts) (in_first_tiles (size_of old) (length ts)) old new → (x y : ℤ) → pixel_at new x y ≡ pixel_in t x y
copied_of t ts old new h s e k =
    copied t old new h s
    (subst (λ (z : Size). IsChanged (tiles_color z t.tiles) (in_first_tiles z (length t.tiles)) old new) s
    (subst (λ (us : List Tile). IsChanged (tiles_color (size_of old) us) (in_first_tiles (size_of old) (length us)) old new) e k))
