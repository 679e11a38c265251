-- Tiles that were never painted.
use Rattle.std.proofs.Common.{◌≡◌, ℕ, ℤ, pos, negsuc, ◌+◌, ◌*◌, ◌/◌, ◌%◌, ◌<◌, IsTrue, List, [], ◌∷◌, ◌++◌, length, get_or, Some, refl, sym, ap, subst, ◌∙◌, inl, inr, arith, length-append}
use Rattle.std.specs.Prelude.{option_map, unsigned_abs}
use Rattle.std.proofs.lemmas.Bool.{cases_lt}
use Rattle.std.proofs.lemmas.Int.{ints}
use Rattle.std.proofs.lemmas.List.{get_or-replicate, get_or_append_left, get_or_at}
use Rattle.rd_geom.specs.Canvas.{IsCanvas, canvas_of}
use Rattle.rd_geom.specs.Colors.{Premultiplied, clear, white}
use Rattle.rd_geom.specs.Plane.{Rectangle, holds_pixel}
use Rattle.rd_geom.specs.declared.rect.Size.{Size}
use Rattle.rd_geom.proofs.Pixels.{At, holds_at}
use Rattle.rd_paint.proofs.Written.{on_canvas}
use Rattle.rd_tiles.specs.Internal.Blank.{AreBlank, AreFirstBlank, IsBlank}
use Rattle.rd_tiles.specs.Internal.Changing.{IsTiled, place_at}
use Rattle.rd_tiles.specs.Tiling.{Tiling, columns_of, is_tile, pixel_in, stamp_of}
use Rattle.rd_tiles.specs.declared.tile.Tile.{Tile}
use Rattle.rd_tiles.proofs.Copies.{pixel_some}
use Rattle.rd_tiles.proofs.Placing.{number_below, tile_is}
use Rattle.rd_tiles.proofs.Tilings.{has_tile, no_tile, tile_in, tile_there}

-- one tile more
pub blank_more : (size : Size) (ts : List Tile) (t : Tile) (i : ℕ) → length ts ≡ i → AreFirstBlank size ts → IsBlank (place_at size i) t → AreFirstBlank size (ts ++ t ∷ [])
blank_more size ts t i n h b k l d = elim (cases_lt k (length ts)) [
  | inl j ↦ subst (IsBlank (place_at size k)) (sym (get_or_append_left ts (t ∷ []) d k j)) (h k j d)
  | inr j ↦
      let e : k ≡ i = let m = length-append ts (t ∷ []) in omega (arith, l, m, n, j) in
      subst (λ z. IsBlank (place_at size z) (get_or (ts ++ t ∷ []) z d)) (sym e) (subst (IsBlank (place_at size i)) (sym (get_or_at ts t [] d i n)) b)
]

module _ (size : Size) (ts : List Tile) (canvas : IsCanvas size) (b : AreBlank size ts) where
  abbrev all : Tiling
  all = record { size = size; tiles = ts }

  pub blank_tiled : IsTiled all
  blank_tiled = record {
    canvas = canvas;
    count = b.count;
    tiles = λ i h d.
        let t = b.tiles i h d in
        record {
          place = t.place;
          fits = record {
            width = t.fits.width ∙ ap (λ (r : Rectangle). r.w) (sym t.place);
            height = t.fits.height ∙ ap (λ (r : Rectangle). r.h) (sym t.place);
          };
        };
  }

  blank_at : (x y : ℕ) → x < unsigned_abs size.w → y < unsigned_abs size.h → pixel_in all (pos x) (pos y) ≡ Some white
  blank_at x y h k =
      let g = has_tile all x y blank_tiled h k in
      let t : IsBlank (place_at size (y / 64 * columns_of size + x / 64)) (tile_in all (x / 64) (y / 64)) = b.tiles (y / 64 * columns_of size + x / 64) g.below no_tile in
      let u : Tile = tile_in all (x / 64) (y / 64) in
      pixel_some all x y g
      ∙ ap (λ (ps : List Premultiplied). Some (get_or ps (y % 64 * u.canvas.width + x % 64) clear)) t.pixels
      ∙ ap Some (get_or-replicate (u.canvas.height * u.canvas.width) (y % 64 * u.canvas.width + x % 64) white clear
      (on_canvas u.canvas.width u.canvas.height (u.canvas.height * u.canvas.width) (y % 64) (x % 64) refl g.high g.wide))

  -- each pixel is white
  pub blank_pixels : (x y : ℤ) → IsTrue (holds_pixel (canvas_of size) x y) → pixel_in all x y ≡ Some white
  blank_pixels (pos x) (pos y) k = let a : At (canvas_of size) (pos x) (pos y) = holds_at (canvas_of size) (pos x) (pos y) k in blank_at x y (omega (arith, ints, a)) (omega (arith, ints, a))
  blank_pixels (pos x) (negsuc y) k = let a : At (canvas_of size) (pos x) (negsuc y) = holds_at (canvas_of size) (pos x) (negsuc y) k in absurd (omega (arith, ints, a))
  blank_pixels (negsuc x) y k = let a : At (canvas_of size) (negsuc x) y = holds_at (canvas_of size) (negsuc x) y k in absurd (omega (arith, ints, a))

  -- each stamp is 0
  pub blank_stamps : (column row : ℕ) → IsTrue (is_tile size column row) → stamp_of all column row ≡ Some 0
  blank_stamps column row k =
      let p = tile_is size column row k in
      let n = number_below size column row p in
      let h : row * columns_of size + column < length ts = omega (arith, n, b.count) in
      let t : IsBlank (place_at size (row * columns_of size + column)) (tile_in all column row) = b.tiles (row * columns_of size + column) h no_tile in
      ap (option_map (λ (t : Tile). t.stamp)) (tile_there all column row b.count p) ∙ ap Some t.stamp
