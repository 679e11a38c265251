-- What has a common pixel with an area has one still where it is larger.
use Rattle.std.proofs.Common.{◌≡◌, refl, Bool, true, false, ◌&&◌, List, [], ◌∷◌, ℕ, ◌+◌, ℤ, pos, ◌≤ℤ◌, ◌<ℤ◌, arith, inl, inr}
use Rattle.std.proofs.lemmas.Int.{ints, clamps}
use Rattle.std.specs.List.{list_any}
use Rattle.std.specs.Int.{int_max, int_min}
use Rattle.rd_geom.specs.Plane.{Rectangle, right, bottom, is_among, IsWithin}
use Rattle.rd_geom.specs.Areas.{Region, meets_span, meets_rows, meets_area}
use Rattle.rd_geom.specs.declared.span.Span.{Span}
use Rattle.rd_geom.proofs.Pixels.{At, at_holds, holds_at}
use Rattle.rd_tree.proofs.Linking.Standing.{from_left, from_right}
use Rattle.rd_tree.proofs.Forests.Under.{which}
use Rattle.rd_stack.specs.Reached.{Grows}

both : (a b : Bool) → a ≡ true → b ≡ true → (a && b) ≡ true
both true b h k = k
both false b h k = absurd (let n : false ≡ true = h in cc)

first_true : (a b : Bool) → (a && b) ≡ true → a ≡ true
first_true true b h = refl
first_true false b h = absurd (let n : false ≡ true = h in cc)

second_true : (a b : Bool) → (a && b) ≡ true → b ≡ true
second_true true b h = h
second_true false b h = absurd (let n : false ≡ true = h in cc)

-- a span that meets a rectangle in row y
record Meets (r : Rectangle) (s : Span) (y : ℤ) : Type 0 where
  row : is_among r.y r.h y ≡ true
  span : meets_span r s ≡ true

grown : (r q : Rectangle) (s : Span) (y : ℤ) → IsWithin r q → Meets r s y → Meets q s y
grown r q s y w m =
    let x : ℤ = int_max s.x0 r.x in
    let top : r.y ≤ℤ y = grind (arith, ints, m.row) in
    let low : y <ℤ bottom r = grind (arith, ints, m.row) in
    let span : int_max s.x0 r.x <ℤ int_min s.x1 (right r) = grind (arith, ints, m.span) in
    let at : At r x y = record { left = omega (arith, ints, clamps); right = omega (arith, ints, clamps); top = top; bottom = low } in
    let there : At q x y = holds_at q x y (w x y (at_holds r x y at)) in
    let more : int_max s.x0 q.x <ℤ int_min s.x1 (right q) = omega (arith, ints, clamps) in
    record { row = grind (arith, ints); span = grind (arith, ints) }

grown_row : (r q : Rectangle) (y : ℤ) (row : List Span) → IsWithin r q → is_among r.y r.h y ≡ true → list_any (meets_span r) row ≡ true → (is_among q.y q.h y && list_any (meets_span q) row) ≡ true
grown_row r q y [] w h k = absurd (let n : false ≡ true = k in cc)
grown_row r q y (s ∷ row) w h k =
    elim (which (meets_span r s) (list_any (meets_span r) row) k) [
      | inl u ↦ let m : Meets q s y = grown r q s y w (record { row = h; span = u }) in both _ _ m.row (from_left (meets_span q s) (list_any (meets_span q) row) m.span)
      | inr u ↦
          let rest = grown_row r q y row w h u in
          both _ _ (first_true _ _ rest) (from_right (meets_span q s) (list_any (meets_span q) row) (second_true (is_among q.y q.h y) _ rest))
    ]

grown_rows : (r q : Rectangle) (y : ℕ) (rows : List (List Span)) → IsWithin r q → meets_rows y rows r ≡ true → meets_rows y rows q ≡ true
grown_rows r q y [] w h = h
grown_rows r q y (row ∷ rows) w h =
    elim (which (is_among r.y r.h (pos y) && list_any (meets_span r) row) (meets_rows (y + 1) rows r) h) [
      | inl u ↦ from_left _ _ (grown_row r q (pos y) row w (first_true _ _ u) (second_true (is_among r.y r.h (pos y)) _ u))
      | inr u ↦ from_right (is_among q.y q.h (pos y) && list_any (meets_span q) row) (meets_rows (y + 1) rows q) (grown_rows r q (y + 1) rows w u)
    ]

pub grows_area : (area : Region) → Grows (meets_area area)
grows_area area r q w h = grown_rows r q 0 area.rows w h
