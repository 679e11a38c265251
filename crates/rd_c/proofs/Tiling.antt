-- Tiles that are told one after another, and what a call that tells them answers. Assumes nothing.
use Rattle.std.proofs.Common.{◌≡◌, ◌∙◌, ℕ, suc, ℤ, pos, ◌+◌, ◌-◌, ◌*◌, ◌<◌, ◌≤◌, ◌≤ℤ◌, true, false, List, [], ◌∷◌, ◌++◌, length, map, refl, sym, subst, ap, append-nil, append_assoc, inr, arith}
use Rattle.std.specs.Prelude.{Option, Some, None, IfSome, IsSomeAnd, filter, unsigned_abs}
use Rattle.std.proofs.lemmas.Int.{ints}
use Rattle.std.proofs.lemmas.List.{map-append}
use Rattle.std.proofs.lemmas.List.Elements.{filter-append}
use Rattle.std.proofs.Math.Nat.{le-div_iff_mul-le, mul_comm}
use Rattle.rd_geom.specs.Areas.{Region, meets_area}
use Rattle.rd_geom.specs.Canvas.{IsCanvas, canvas_of}
use Rattle.rd_geom.specs.Figures.{max_canvas_side}
use Rattle.rd_geom.specs.Plane.{IsPlaced, Rectangle, meet}
use Rattle.rd_geom.specs.declared.rect.Size.{Size}
use Rattle.rd_c.specs.Listed.{told_rect}
use Rattle.rd_c.specs.Memory.{IsWritten}
use Rattle.rd_c.specs.Reading.{room_answer, IsAnswer}
use Rattle.rd_c.specs.Tiles.{is_side, tiles_along, tile_of, first_tiles, first_rows, told_tiles, tiles_met, tiles_answer}
use Rattle.rd_c.specs.declared.values.RdRect.{RdRect}
use Rattle.rd_c.proofs.Answering.{room_fits, room_short, no_memory}

-- a tile begins before the end
pub begins : (side n place : ℕ) → 0 < side → place < tiles_along side n → side * place < n
begins side n place some h =
    let m : suc place * side ≤ n + (side - 1) = (le-div_iff_mul-le some).0 h in
    let c : place * side ≡ side * place = mul_comm place side in
    omega (arith, some, m, c)

-- the square of a tile, by its parts, and cut
pub square_placed : (side : ℕ) (s : Size) (column row : ℕ) (x y w h : ℤ) → IsCanvas s → pos side ≤ℤ max_canvas_side → side * column < unsigned_abs s.w → side * row < unsigned_abs s.h
    → x ≡ pos (side * column) → y ≡ pos (side * row) → w ≡ pos side → h ≡ pos side → IsPlaced (record { x = x; y = y; w = w; h = h })
square_placed side s column row x y w h c most a b ex ey ew eh =
    let wide = c.wide in let high = c.high in
    rw (ex, ey, ew, eh) (record {
      wide = omega (arith, ints);
      high = omega (arith, ints);
      from_left = omega (arith, ints);
      from_top = omega (arith, ints);
      to_right = omega (arith, ints, a, wide, most);
      to_bottom = omega (arith, ints, b, high, most);
    })

pub tile_made : (side : ℕ) (s : Size) (column row : ℕ) (x y w h : ℤ) (r k t : Rectangle) → r ≡ record { x = x; y = y; w = w; h = h }
    → x ≡ pos (side * column) → y ≡ pos (side * row) → w ≡ pos side → h ≡ pos side → k ≡ canvas_of s → t ≡ meet r k → t ≡ tile_of side s column row
tile_made side s column row x y w h r k t made ex ey ew eh canvas is =
    let square : Rectangle = record { x = pos (side * column); y = pos (side * row); w = pos side; h = pos side } in
    let e : r ≡ square = made ∙ rw (ex, ey, ew, eh) refl in
    is ∙ ap (λ (z : Rectangle). meet z k) e ∙ ap (meet square) canvas

module _ (a : Region) where
  -- one tile
  pub met_one : (t : Rectangle) → meets_area a t ≡ true → told_tiles a (t ∷ []) ≡ told_rect t ∷ []
  met_one t h = rw h refl

  pub met_none : (t : Rectangle) → meets_area a t ≡ false → told_tiles a (t ∷ []) ≡ []
  met_none t h = rw h refl

  -- tiles behind others
  told-join : (xs ys : List Rectangle) → told_tiles a (xs ++ ys) ≡ told_tiles a xs ++ told_tiles a ys
  told-join xs ys = ap (map told_rect) (filter-append (meets_area a) xs ys) ∙ map-append told_rect (filter (meets_area a) xs) (filter (meets_area a) ys)

  -- one more tile of a row
  pub row_more : (side : ℕ) (s : Size) (row n : ℕ) (begun now then : List RdRect) → now ≡ begun ++ told_tiles a (first_tiles side s row n)
      → then ≡ now ++ told_tiles a (tile_of side s n row ∷ []) → then ≡ begun ++ told_tiles a (first_tiles side s row (n + 1))
  row_more side s row n begun now then was is =
      let e : n + 1 ≡ suc n = omega arith in
      let front = first_tiles side s row n in let one = tile_of side s n row ∷ [] in
      is ∙ ap (λ z. z ++ told_tiles a one) was ∙ append_assoc begun (told_tiles a front) (told_tiles a one)
      ∙ ap (λ z. begun ++ z) (sym (told-join front one) ∙ sym (ap (λ k. told_tiles a (first_tiles side s row k)) e))

  -- one more row
  pub rows_more : (side : ℕ) (s : Size) (n : ℕ) (now then : List RdRect) → now ≡ told_tiles a (first_rows side s n)
      → then ≡ now ++ told_tiles a (first_tiles side s n (tiles_along side (unsigned_abs s.w))) → then ≡ told_tiles a (first_rows side s (n + 1))
  rows_more side s n now then was is =
      let e : n + 1 ≡ suc n = omega arith in
      let front = first_rows side s n in let row = first_tiles side s n (tiles_along side (unsigned_abs s.w)) in
      is ∙ ap (λ z. z ++ told_tiles a row) was ∙ sym (told-join front row) ∙ sym (ap (λ k. told_tiles a (first_rows side s k)) e)

module _ (side : ℕ) (o : Option Region) (s : Size) (room : ℕ) where
  pub side_wrong : is_side side ≡ false → IsAnswer (tiles_answer side o s room) 12
  side_wrong h = inr (rw h refl)

  pub tiles_none : is_side side ≡ true → o ≡ None → IsAnswer (tiles_answer side o s room) 16
  tiles_none h q = inr (rw (h, q) refl)

  pub tiles_some : (a : Region) (n : ℕ) → is_side side ≡ true → o ≡ Some a → n ≡ room_answer (length (tiles_met side s a)) room → IsAnswer (tiles_answer side o s room) n
  tiles_some a n h q r = inr (rw (h, q) r)

  pub tiles_count : (a : Region) (n : ℕ) → o ≡ Some a → n ≡ length (tiles_met side s a) → IfSome o (λ a. n ≡ length (tiles_met side s a))
  tiles_count a n q r = subst (λ (z : Option Region). IfSome z (λ a. n ≡ length (tiles_met side s a))) (sym q) r

  pub tiles_written : (a : Region) (old new : List RdRect) (n : ℕ) → o ≡ Some a → IsWritten (tiles_met side s a) old new n → IsSomeAnd o (λ a. IsWritten (tiles_met side s a) old new n)
  tiles_written a old new n q r = subst (λ (z : Option Region). IsSomeAnd z (λ a. IsWritten (tiles_met side s a) old new n)) (sym q) r

pub ruleset one = (met_one, met_none, append-nil)

pub ruleset met = (room_fits, room_short, no_memory, side_wrong, tiles_none, tiles_some, tiles_count, tiles_written)
