-- Pixels of areas.
use Rattle.std.proofs.Common.{◌≡◌, ◌∙◌, ℕ, zero, suc, ℤ, pos, negsuc, ◌+◌, ◌*◌, ◌≤◌, ◌<◌, ◌≤ℤ◌, Bool, true, false, ◌&&◌, ◌||◌, List, [], ◌∷◌, get_or, IsTrue, arith, refl, sym, ap, subst, ◌⊎◌, inl, inr}
use Rattle.std.specs.Prelude.{replicate, unsigned_abs}
use Rattle.std.specs.List.{list_any}
use Rattle.std.specs.Int.{int_max}
use Rattle.std.proofs.lemmas.Int.{ints, clamps}
use Rattle.std.proofs.lemmas.List.{get_or-replicate, get_or_past, length-replicate}
use Rattle.std.proofs.lemmas.List.Folds.{sum_by-replicate}
use Rattle.rd_geom.specs.Plane.{Rectangle, is_among, holds_pixel, has_none, meets, IsWithin, SharesPixel}
use Rattle.rd_geom.specs.Canvas.{IsCanvas, canvas_of}
use Rattle.rd_geom.specs.Areas.{Region, in_span, in_spans, in_area, columns_in, count_of, meets_span, meets_rows, meets_area, whole_area}
use Rattle.rd_geom.specs.declared.rect.Size.{Size}
use Rattle.rd_geom.specs.declared.span.Span.{Span}
use Rattle.rd_geom.proofs.Pixels.{At, holds_at, same_test, both_true, left_of, right_of, meets_shares, shares_meets}

-- a pixel that is in an area and in a rectangle
pub record AreaShares (a : Region) (r : Rectangle) : Type 0 where
  pub x : ℤ
  pub y : ℤ
  pub first : IsTrue (in_area a x y)
  pub second : IsTrue (holds_pixel r x y)

left_or : (a b : Bool) → IsTrue a → IsTrue (a || b)
left_or a b h = grind arith

right_or : (a b : Bool) → IsTrue b → IsTrue (a || b)
right_or a b h = grind arith

no_truth : IsTrue false → ⊥
no_truth e = cc

-- a column that a row and a rectangle share
pub record SharesColumn (row : List Span) (r : Rectangle) : Type 0 where
  pub x : ℤ
  pub first : IsTrue (in_spans row x)
  pub second : IsTrue (is_among r.x r.w x)

span_in : (r : Rectangle) (s : Span) → meets_span r s ≡ true → IsTrue (in_span s (int_max s.x0 r.x))
span_in r s e = grind (arith, ints, clamps)

span_among : (r : Rectangle) (s : Span) → meets_span r s ≡ true → IsTrue (is_among r.x r.w (int_max s.x0 r.x))
span_among r s e = grind (arith, ints, clamps)

span_meets : (r : Rectangle) (s : Span) (x : ℤ) → in_span s x ≡ true → IsTrue (is_among r.x r.w x) → IsTrue (meets_span r s)
span_meets r s x e h = grind (arith, ints, clamps)

row_shares : (r : Rectangle) (row : List Span) → IsTrue (list_any (meets_span r) row) → SharesColumn row r
row_shares r [] h = absurd (no_truth h)
row_shares r (s ∷ ss) h =
    elim (meets_span r s) as (λ b. meets_span r s ≡ b → IsTrue (b || list_any (meets_span r) ss) → SharesColumn (s ∷ ss) r) [
      | true ↦ λ e _. record { x = int_max s.x0 r.x; first = left_or _ _ (span_in r s e); second = span_among r s e }
      | false ↦ λ e k. let t : SharesColumn ss r = row_shares r ss k in record { x = t.x; first = right_or _ _ t.first; second = t.second }
    ] refl h

row_meets : (r : Rectangle) (row : List Span) (x : ℤ) → IsTrue (in_spans row x) → IsTrue (is_among r.x r.w x) → IsTrue (list_any (meets_span r) row)
row_meets r [] x h k = absurd (no_truth h)
row_meets r (s ∷ ss) x h k =
    elim (in_span s x) as (λ b. in_span s x ≡ b → IsTrue (b || in_spans ss x) → IsTrue (meets_span r s || list_any (meets_span r) ss)) [
      | true ↦ λ e _. left_or _ _ (span_meets r s x e k)
      | false ↦ λ e t. right_or _ _ (row_meets r ss x t k)
    ] refl h

-- a pixel that rows, of which the first is row y, share with a rectangle
record RowsShare (y : ℕ) (rows : List (List Span)) (r : Rectangle) : Type 0 where
  at : ℕ
  x : ℤ
  first : IsTrue (in_spans (get_or rows at []) x)
  second : IsTrue (holds_pixel r x (pos (y + at)))

rows_share : (y : ℕ) (rows : List (List Span)) (r : Rectangle) → IsTrue (meets_rows y rows r) → RowsShare y rows r
rows_share y [] r h = absurd (no_truth h)
rows_share y (row ∷ rows) r h =
    elim (is_among r.y r.h (pos y) && list_any (meets_span r) row)
    as (λ b. (is_among r.y r.h (pos y) && list_any (meets_span r) row) ≡ b → IsTrue (b || meets_rows (y + 1) rows r) → RowsShare y (row ∷ rows) r) [
      | true ↦ λ e _.
          let t : SharesColumn row r = row_shares r row (right_of _ _ e) in
          record {
            at = 0;
            x = t.x;
            first = t.first;
            second = both_true _ _ t.second (subst (λ k. IsTrue (is_among r.y r.h (pos k))) (omega arith) (left_of _ _ e));
          }
      | false ↦ λ e k.
          let t : RowsShare (y + 1) rows r = rows_share (y + 1) rows r k in
          record { at = suc t.at; x = t.x; first = t.first; second = subst (λ k. IsTrue (holds_pixel r t.x (pos k))) (omega arith) t.second }
    ] refl h

rows_meet : (y : ℕ) (rows : List (List Span)) (r : Rectangle) (at : ℕ) (x : ℤ) → IsTrue (in_spans (get_or rows at []) x)
    → IsTrue (holds_pixel r x (pos (y + at))) → IsTrue (meets_rows y rows r)
rows_meet y [] r at x h k = absurd (no_truth h)
rows_meet y (row ∷ rows) r zero x h k =
    let e : y + zero ≡ y = omega arith in
    left_or _ _ (both_true _ _ (subst (λ n. IsTrue (is_among r.y r.h (pos n))) e (right_of _ _ k)) (row_meets r row x h (left_of _ _ k)))
rows_meet y (row ∷ rows) r (suc at) x h k =
    let e : y + suc at ≡ y + 1 + at = omega arith in
    right_or _ _ (rows_meet (y + 1) rows r at x h (subst (λ n. IsTrue (holds_pixel r x (pos n))) e k))

-- an area meets a rectangle exactly where they share a pixel
pub meets_area-shares : (a : Region) (r : Rectangle) → IsTrue (meets_area a r) → AreaShares a r
meets_area-shares a r h =
    let t : RowsShare 0 a.rows r = rows_share 0 a.rows r h in
    record { x = t.x; y = pos t.at; first = t.first; second = subst (λ n. IsTrue (holds_pixel r t.x (pos n))) (omega arith) t.second }

pub shares-meets_area : (a : Region) (r : Rectangle) → AreaShares a r → IsTrue (meets_area a r)
shares-meets_area a r s = at s.y s.first s.second where
  at : (y : ℤ) → IsTrue (in_area a s.x y) → IsTrue (holds_pixel r s.x y) → IsTrue (meets_area a r)
  at (pos n) h k = let e : n ≡ 0 + n = omega arith in rows_meet 0 a.rows r n s.x h (subst (λ m. IsTrue (holds_pixel r s.x (pos m))) e k)
  at (negsuc n) h k = absurd (no_truth h)

-- what meets a rectangle meets each one that has its pixels
pub meets_area-within : (a : Region) (r s : Rectangle) → IsWithin r s → meets_area a r ≡ true → meets_area a s ≡ true
meets_area-within a r s w h =
    let t : AreaShares a r = meets_area-shares a r h in
    shares-meets_area a s (record { x = t.x; y = t.y; first = t.first; second = w t.x t.y t.second })

no_pixel_in : (r : Rectangle) (x y : ℤ) → has_none r ≡ true → IsTrue (holds_pixel r x y) → ⊥
no_pixel_in r x y e h = let p : At r x y = holds_at r x y h in grind (arith, ints)

false_unless : (b : Bool) → (IsTrue b → ⊥) → b ≡ false
false_unless true f = absurd (f refl)
false_unless false f = refl

-- nothing meets a rectangle without a pixel
pub meets_area-none : (a : Region) (r : Rectangle) → has_none r ≡ true → meets_area a r ≡ false
meets_area-none a r e =
    false_unless (meets_area a r) (λ h. let t : AreaShares a r = meets_area-shares a r h in no_pixel_in r t.x t.y e t.second)

-- areas with the same pixels meet the same rectangles
pub meets_area-same : (a b : Region) (r : Rectangle) → ((x y : ℤ) → in_area a x y ≡ in_area b x y) → meets_area a r ≡ meets_area b r
meets_area-same a b r e =
    same_test _ _
    (λ h. let t : AreaShares a r = meets_area-shares a r h in
    shares-meets_area b r (record { x = t.x; y = t.y; first = sym (e t.x t.y) ∙ t.first; second = t.second }))
    (λ h. let t : AreaShares b r = meets_area-shares b r h in
    shares-meets_area a r (record { x = t.x; y = t.y; first = e t.x t.y ∙ t.first; second = t.second }))

-- the one span of each row of the whole of a canvas
abbrev across : Size → List Span
across s = record { x0 = pos 0; x1 = s.w } ∷ []

in_across : (s : Size) (x : ℤ) → in_spans (across s) x ≡ is_among (pos 0) s.w x
in_across s x = grind (arith, ints)

before : (b : Bool) (c : Bool) → c ≡ true → b ≡ (b && c)
before b c e = grind arith

nowhere : (b : Bool) (c : Bool) → c ≡ false → false ≡ (b && c)
nowhere b c e = grind arith

-- the whole of a canvas has the pixels of the canvas,
pub whole_area-pixels : (s : Size) → IsCanvas s → (x y : ℤ) → in_area (whole_area s) x y ≡ holds_pixel (canvas_of s) x y
whole_area-pixels s c x (negsuc n) = nowhere (is_among (pos 0) s.w x) (is_among (pos 0) s.h (negsuc n)) (grind (arith, ints))
whole_area-pixels s c x (pos n) = elim (below n (unsigned_abs s.h)) [
  | inl h ↦
      ap (λ row. in_spans row x) (get_or-replicate (unsigned_abs s.h) n (across s) [] h) ∙ in_across s x
      ∙ before (is_among (pos 0) s.w x) (is_among (pos 0) s.h (pos n)) (low n h)
  | inr h ↦
      ap (λ row. in_spans row x) (get_or_past (replicate (unsigned_abs s.h) (across s)) n [] (rw length-replicate h))
      ∙ nowhere (is_among (pos 0) s.w x) (is_among (pos 0) s.h (pos n)) (high n h)
] where
  below : (a b : ℕ) → (a < b) ⊎ (b ≤ a)
  below a b = grind arith

  low : (n : ℕ) → n < unsigned_abs s.h → is_among (pos 0) s.h (pos n) ≡ true
  low n h = grind (arith, ints, c.some_high)

  high : (n : ℕ) → unsigned_abs s.h ≤ n → is_among (pos 0) s.h (pos n) ≡ false
  high n h = grind (arith, ints, c.some_high)

-- so it meets what the canvas meets,
pub whole_area-meets : (s : Size) → IsCanvas s → (r : Rectangle) → meets_area (whole_area s) r ≡ meets (canvas_of s) r
whole_area-meets s c r =
    same_test _ _
    (λ h. let t : AreaShares (whole_area s) r = meets_area-shares (whole_area s) r h in
    shares_meets (canvas_of s) r (record { x = t.x; y = t.y; first = sym (whole_area-pixels s c t.x t.y) ∙ t.first; second = t.second }))
    (λ h. let t : SharesPixel (canvas_of s) r = meets_shares (canvas_of s) r h in
    shares-meets_area (whole_area s) r (record { x = t.x; y = t.y; first = whole_area-pixels s c t.x t.y ∙ t.first; second = t.second }))

columns_across : (s : Size) (n : ℕ) → pos n ≤ℤ s.w → columns_in (across s) n ≡ n
unfolding columns_in
columns_across s zero h = refl
columns_across s (suc n) h =
    let k : columns_in (across s) n ≡ n = columns_across s n (omega (arith, ints)) in
    let e : in_spans (across s) (pos n) ≡ true = in_across s (pos n) ∙ inside in
    rw e (omega arith)
  where
    inside : is_among (pos 0) s.w (pos n) ≡ true
    inside = grind (arith, ints)

-- and has as many pixels as the canvas is wide and high
pub whole_area-count : (s : Size) → IsCanvas s → count_of (whole_area s) ≡ unsigned_abs s.w * unsigned_abs s.h
whole_area-count s c =
    let k : columns_in (across s) (unsigned_abs s.w) ≡ unsigned_abs s.w = columns_across s (unsigned_abs s.w) (omega (arith, ints, c.some_wide)) in
    sum_by-replicate (λ ss. columns_in ss (unsigned_abs s.w)) (unsigned_abs s.h) (across s) ∙ rw k (omega arith)
