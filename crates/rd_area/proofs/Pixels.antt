use Rattle.std.proofs.Common.{◌≡◌, ℕ, ℤ, pos, negsuc, ◌-ℤ◌, ◌≤ℤ◌, ◌<◌, ◌≤◌, ◌⊎◌, inl, inr, Bool, true, false, int_eq, ◌&&◌, ◌||◌, IsTrue, IsFalse, List, [], ◌∷◌, get_or, length, arith, refl, sym, ◌∙◌, ap, subst, ⊎_elim}
use Rattle.std.specs.Prelude.{int_le, int_lt, unsigned_abs, if◌then◌else◌}
use Rattle.std.specs.Int.{int_max, int_min}
use Rattle.std.proofs.lemmas.Int.{ints, clamps}
use Rattle.rd_geom.specs.Plane.{Rectangle, right, bottom, holds_pixel, is_among, has_none, spanning, meet, meets, no_pixels, hull_of, around, IsWithin}
use Rattle.rd_geom.specs.Canvas.{IsCanvas, canvas_of}
use Rattle.rd_geom.specs.Areas.{in_span, in_spans, spans_at}
use Rattle.rd_geom.specs.declared.rect.Size.{Size}
use Rattle.rd_geom.specs.declared.span.Span.{Span}
use Rattle.rd_geom.proofs.Areas.{AreaShares}
use Rattle.rd_geom.proofs.Pixels.{At, common_pixels, both_true, left_of, right_of, at_holds, holds_at, first_at, some_of}
use Rattle.rd_area.specs.Internal.Joining.{Joins, row_has, row_meets}
use Rattle.rd_area.specs.Internal.Bands.{band_of, row_at, rows_of, AreBetween, HasRow, IsBanded}
use Rattle.rd_area.proofs.Banded.{order, table_length, table_at, table_past, band_row, row_in}
use Rattle.rd_area.proofs.Spans.{Row, at_place}
use Rattle.std.proofs.lemmas.List.{length-map, get_or_past}
use Rattle.rd_area.specs.Rows.{IsRising}
use Rattle.rd_area.proofs.Merging.{SharesColumn}
use Rattle.rd_area.specs.Internal.Normal.{IsFilled, IsOn, IsNormalized, spans_of}
use Rattle.rd_area.proofs.Merging.{meets_shares, shares_meets}

and_true : (a : Bool) → (a && true) ≡ a
and_true true = refl
and_true false = refl

and_false : (a : Bool) → (a && false) ≡ false
and_false true = refl
and_false false = refl

clash : (b : Bool) → IsTrue b → IsFalse b → ⊥
clash b t f = grind arith

no_pixel_in : (s : Rectangle) (x y : ℤ) → has_none s ≡ true → IsTrue (holds_pixel s x y) → ⊥
no_pixel_in s x y e h = grind (arith, ints)

none_or : (a b : Bool) → (IsTrue a → ⊥) → b ≡ (a || b)
none_or true b f = absurd (f (grind arith))
none_or false b f = refl

-- what lies spanning edges on the canvas is on it
between_on : (l t r b : ℤ) (size : Size) → IsCanvas size → pos 0 ≤ℤ l → pos 0 ≤ℤ t → r ≤ℤ size.w → b ≤ℤ size.h → IsOn (spanning l t r b) size
between_on l t r b size c left top right bottom =
    elim (int_lt l r && int_lt t b) as (λ v. IsOn (if v then record { x = l; y = t; w = r -ℤ l; h = b -ℤ t } else no_pixels) size) [
      | true ↦ record { left = omega (arith, ints); top = omega (arith, ints); right = omega (arith, ints); bottom = omega (arith, ints) }
      | false ↦ record { left = omega (arith, ints); top = omega (arith, ints); right = omega (arith, ints); bottom = omega (arith, ints) }
    ]

pub common_on_left : (a b : Rectangle) (size : Size) → IsCanvas size → IsOn a size → IsOn (meet a b) size
common_on_left a b size c o =
    between_on (int_max a.x b.x) (int_max a.y b.y) (int_min (right a) (right b)) (int_min (bottom a) (bottom b)) size c
    (omega (arith, ints, clamps)) (omega (arith, ints, clamps)) (omega (arith, ints, clamps)) (omega (arith, ints, clamps))

pub canvas_on : (size : Size) → IsOn (canvas_of size) size
canvas_on size = record { left = omega (arith, ints); top = omega (arith, ints); right = omega (arith, ints); bottom = omega (arith, ints) }

pub common_on_right : (a b : Rectangle) (size : Size) → IsCanvas size → IsOn b size → IsOn (meet a b) size
common_on_right a b size c o =
    between_on (int_max a.x b.x) (int_max a.y b.y) (int_min (right a) (right b)) (int_min (bottom a) (bottom b)) size c
    (omega (arith, ints, clamps)) (omega (arith, ints, clamps)) (omega (arith, ints, clamps)) (omega (arith, ints, clamps))

pub none_on : (size : Size) → IsCanvas size → IsOn no_pixels size
none_on size c = record { left = omega (arith, ints); top = omega (arith, ints); right = omega (arith, ints); bottom = omega (arith, ints) }

around_on : (a b : Rectangle) (size : Size) → IsCanvas size → IsOn a size → IsOn b size → IsOn (around a b) size
around_on a b size c o p =
    between_on (int_min a.x b.x) (int_min a.y b.y) (int_max (right a) (right b)) (int_max (bottom a) (bottom b)) size c
    (omega (arith, ints, clamps)) (omega (arith, ints, clamps)) (omega (arith, ints, clamps)) (omega (arith, ints, clamps))

pub hull_on : (a b : Rectangle) (size : Size) → IsCanvas size → IsOn a size → IsOn b size → IsOn (hull_of a b) size
hull_on a b size c o p =
    elim (has_none a) as (λ u. IsOn (if u then (if has_none b then no_pixels else b) else (if has_none b then a else around a b)) size) [
      | true ↦ elim (has_none b) as (λ v. IsOn (if v then no_pixels else b) size) [ true ↦ none_on size c | false ↦ p ]
      | false ↦ elim (has_none b) as (λ v. IsOn (if v then a else around a b) size) [ true ↦ o | false ↦ around_on a b size c o p ]
    ]

-- the rows and columns of a rectangle on the canvas
pub record IsBand (s : Rectangle) (from to : ℕ) (span : Span) : Type 0 where
  pub first : pos from ≡ s.y
  pub last : pos to ≡ bottom s
  pub columns : span ≡ record { x0 = s.x; x1 = right s }

in_band : (s : Rectangle) (from to : ℕ) (span : Span) (x : ℤ) (n : ℕ) → IsBand s from to span → from ≤ n → n < to → holds_pixel s x (pos n) ≡ in_span span x
in_band s from to span x n k f t =
    let row : is_among s.y s.h (pos n) ≡ true = grind (arith, ints, k.first, k.last) in
    rw (k.columns, row) (and_true (is_among s.x s.w x))

outside_band : (s : Rectangle) (from to : ℕ) (span : Span) (x : ℤ) (n : ℕ) → IsBand s from to span → (n < from) ⊎ (to ≤ n) → holds_pixel s x (pos n) ≡ false
outside_band s from to span x n k (inl a) =
    let row : is_among s.y s.h (pos n) ≡ false = grind (arith, ints, k.first, k.last) in
    rw row (and_false (is_among s.x s.w x))
outside_band s from to span x n k (inr a) =
    let row : is_among s.y s.h (pos n) ≡ false = grind (arith, ints, k.first, k.last) in
    rw row (and_false (is_among s.x s.w x))

above_band : (s : Rectangle) (from to : ℕ) (span : Span) (x : ℤ) (n : ℕ) → IsBand s from to span → holds_pixel s x (negsuc n) ≡ false
above_band s from to span x n k =
    let row : is_among s.y s.h (negsuc n) ≡ false = grind (arith, ints, k.first, k.last) in
    rw row (and_false (is_among s.x s.w x))

split : (from to n : ℕ) → ((from ≤ n) × (n < to)) ⊎ ((n < from) ⊎ (to ≤ n))
split from to n = ⊎_elim (λ a. inr (inl a)) (λ b. ⊎_elim (λ c. inl (b, c)) (λ d. inr (inr d)) (order n to)) (order n from)

-- the rows of an area after the columns of a rectangle on its canvas joined each of its rows
pub record IsGrown (s : Rectangle) (from to : ℕ) (span : Span) (old new : List (List Span)) : Type 0 where
  pub band : IsBand s from to span
  pub count : length new ≡ length old
  pub joined : (y : ℕ) → from ≤ y → y < to → Joins (get_or old y []) (get_or new y []) span
  pub others : (y : ℕ) → (y < from) ⊎ (to ≤ y) → get_or new y [] ≡ get_or old y []

row_grown : (s : Rectangle) (from to : ℕ) (span : Span) (old new : List (List Span)) (w : ℤ) (n : ℕ) (x : ℤ) → IsGrown s from to span old new
    → IsRising (pos 0) w (get_or old n []) → in_spans (get_or new n []) x ≡ (holds_pixel s x (pos n) || in_spans (get_or old n []) x)
row_grown s from to span old new w n x g r =
    ⊎_elim
    (λ i. (g.joined n i.0 i.1).pixels (pos 0) w r x ∙ ap (λ b. b || in_spans (get_or old n []) x) (sym (in_band s from to span x n g.band i.0 i.1)))
    (λ o. rw (outside_band s from to span x n g.band o) (ap (λ ss. in_spans ss x) (g.others n o)))
    (split from to n)

pub grown_pixels : (s : Rectangle) (from to : ℕ) (span : Span) (old new : List (List Span)) (w : ℤ) → IsGrown s from to span old new
    → ((y : ℕ) → IsRising (pos 0) w (get_or old y [])) → (x y : ℤ) → in_spans (spans_at new y) x ≡ (holds_pixel s x y || in_spans (spans_at old y) x)
grown_pixels s from to span old new w g r x (pos n) = row_grown s from to span old new w n x g (r n)
grown_pixels s from to span old new w g r x (negsuc n) = rw (above_band s from to span x n g.band) refl

row_rising : (s : Rectangle) (from to : ℕ) (span : Span) (old new : List (List Span)) (size : Size) (n : ℕ) → IsGrown s from to span old new → IsOn s size
    → IsRising (pos 0) size.w (get_or old n []) → IsRising (pos 0) size.w (get_or new n [])
row_rising s from to span old new size n g o r =
    let left : pos 0 ≤ℤ span.x0 = rw g.band.columns o.left in
    let right : span.x1 ≤ℤ size.w = rw g.band.columns o.right in
    ⊎_elim
    (λ i. (g.joined n i.0 i.1).rising (pos 0) size.w left right r)
    (λ out. rw (g.others n out) r)
    (split from to n)

either : (a b : Bool) {P : Type 0} → IsTrue (a || b) → (IsTrue a → P) → (IsTrue b → P) → P
either true b h f g = f h
either false b h f g = g h

pub grown_sound : (s used used' : Rectangle) (from to : ℕ) (span : Span) (old new : List (List Span)) (size : Size) → IsGrown s from to span old new
    → IsOn s size
    → IsNormalized size used old → used' ≡ hull_of used s → IsWithin used used' → IsWithin s used' → IsNormalized size used' new
grown_sound s used used' from to span old new size g o i e first second = record {
  canvas = i.canvas;
  height = ap (λ n. pos n) g.count ∙ i.height;
  rising = λ y. row_rising s from to span old new size y g o (i.rising y);
  on = rw e (hull_on used s size i.canvas i.on o);
  within = λ x y h.
      let k : IsTrue (holds_pixel s x (pos y) || in_spans (get_or old y []) x) =
      subst (λ b. IsTrue b) (row_grown s from to span old new size.w y x g (i.rising y)) h in
      either (holds_pixel s x (pos y)) (in_spans (get_or old y []) x) k (λ p. second x (pos y) p) (λ p. first x (pos y) (i.within x y p));
}

-- a row that has a column of the span has a pixel of the area in the rectangle
pub found_shares : (size : Size) (used r : Rectangle) (rows : List (List Span)) (from to : ℕ) (span : Span) (n : ℕ)
    → IsBand (meet used r) from to span → from ≤ n → n < to → IsTrue (row_meets (get_or rows n []) span)
    → AreaShares (record { size = size; rows = rows }) r
found_shares size used r rows from to span n k f t h =
    let m : SharesColumn (get_or rows n []) span = meets_shares (get_or rows n []) span h in
    let c : IsTrue (holds_pixel (meet used r) m.x (pos n)) = subst (λ b. IsTrue b) (sym (in_band (meet used r) from to span m.x n k f t)) m.second in
    let both : IsTrue (holds_pixel used m.x (pos n) && holds_pixel r m.x (pos n)) = subst (λ b. IsTrue b) (common_pixels used r m.x (pos n)) c in
    record { x = m.x; y = pos n; first = m.first; second = right_of (holds_pixel used m.x (pos n)) (holds_pixel r m.x (pos n)) both }

shares_in : (size : Size) (used r : Rectangle) (rows : List (List Span)) → IsNormalized size used rows → (x y : ℤ) → IsTrue (in_spans (spans_at rows y) x)
    → IsTrue (holds_pixel r x y)
    → IsTrue (holds_pixel (meet used r) x y)
shares_in size used r rows i x (pos n) h k =
    subst (λ b. IsTrue b) (sym (common_pixels used r x (pos n))) (both_true (holds_pixel used x (pos n)) (holds_pixel r x (pos n)) (i.within x n h) k)
shares_in size used r rows i x (negsuc n) h k = absurd (grind arith)

-- and where no row of the band has one, the area has no pixel in the rectangle
not_shared : (size : Size) (used r : Rectangle) (rows : List (List Span)) (from to : ℕ) (span : Span) → IsNormalized size used rows
    → IsBand (meet used r) from to span
    → ((n : ℕ) → from ≤ n → n < to → IsFalse (row_meets (get_or rows n []) span)) → (x y : ℤ) → IsTrue (in_spans (spans_at rows y) x)
    → IsTrue (holds_pixel r x y) → ⊥
not_shared size used r rows from to span i k none x (negsuc n) h p = absurd (grind arith)
not_shared size used r rows from to span i k none x (pos n) h p =
    let c : IsTrue (holds_pixel (meet used r) x (pos n)) = shares_in size used r rows i x (pos n) h p in
    ⊎_elim
    (λ w. let s : IsTrue (in_span span x) = subst (λ b. IsTrue b) (in_band (meet used r) from to span x n k w.0 w.1) c in
    let m : row_meets (get_or rows n []) span ≡ true = shares_meets (get_or rows n []) span x h s in
    clash (row_meets (get_or rows n []) span) m (none n w.0 w.1))
    (λ o. clash (holds_pixel (meet used r) x (pos n)) c (outside_band (meet used r) from to span x n k o))
    (split from to n)

pub none_shares : (size : Size) (used r : Rectangle) (rows : List (List Span)) (from to : ℕ) (span : Span) → IsNormalized size used rows
    → IsBand (meet used r) from to span
    → ((n : ℕ) → from ≤ n → n < to → IsFalse (row_meets (get_or rows n []) span)) → AreaShares (record { size = size; rows = rows }) r → ⊥
none_shares size used r rows from to span i k none s = not_shared size used r rows from to span i k none s.x s.y s.first s.second

-- nor where the rectangle lies off what is in use
pub apart_shares : (size : Size) (used r : Rectangle) (rows : List (List Span)) → IsNormalized size used rows → has_none (meet used r) ≡ true
    → AreaShares (record { size = size; rows = rows }) r → ⊥
apart_shares size used r rows i e s =
    let c : IsTrue (holds_pixel (meet used r) s.x s.y) = shares_in size used r rows i s.x s.y s.first s.second in
    no_pixel_in (meet used r) s.x s.y e c

-- where each pixel of what is in use is in the area, so is that of a rectangle
filled_at : (used : Rectangle) (rows : List (List Span)) (x y : ℤ) → IsFilled used rows → pos 0 ≤ℤ y → IsTrue (holds_pixel used x y)
    → IsTrue (in_spans (spans_at rows y) x)
filled_at used rows x (pos n) f h p = f x n p
filled_at used rows x (negsuc n) f h p = absurd (omega (arith, ints, h))

pub some_there : (a b : Rectangle) → IsTrue (meets a b) → has_none (meet a b) ≡ false
some_there a b h = grind arith

pub filled_shares : (size : Size) (used r : Rectangle) (rows : List (List Span)) → IsFilled used rows → IsOn (meet used r) size
    → has_none (meet used r) ≡ false → AreaShares (record { size = size; rows = rows }) r
filled_shares size used r rows f o e =
    let m : Rectangle = meet used r in
    let h : IsTrue (holds_pixel m m.x m.y) = at_holds m m.x m.y (first_at m (some_of m e)) in
    let both : IsTrue (holds_pixel used m.x m.y && holds_pixel r m.x m.y) = subst (λ b. IsTrue b) (common_pixels used r m.x m.y) h in
    record {
      x = m.x;
      y = m.y;
      first = filled_at used rows m.x m.y f o.top (left_of (holds_pixel used m.x m.y) (holds_pixel r m.x m.y) both);
      second = right_of (holds_pixel used m.x m.y) (holds_pixel r m.x m.y) both;
    }

-- each pixel of a rectangle that joined is in the area
left_true : (a b : Bool) → IsTrue a → IsTrue (a || b)
left_true a b h = grind arith

-- rectangles of which a test says that they are the same
pub record HasEdges (a b : Rectangle) : Type 0 where
  pub left : a.x ≡ b.x
  pub top : a.y ≡ b.y
  pub wide : a.w ≡ b.w
  pub high : a.h ≡ b.h

pub same_edges : (a b : Rectangle) → (int_eq a.x b.x && (int_eq a.y b.y && (int_eq a.w b.w && int_eq a.h b.h))) ≡ true → HasEdges a b
same_edges a b e = record { left = grind (arith, ints); top = grind (arith, ints); wide = grind (arith, ints); high = grind (arith, ints) }

pub grown_filled : (s used : Rectangle) (from to : ℕ) (span : Span) (old new : List (List Span)) (w : ℤ) → IsGrown s from to span old new
    → ((y : ℕ) → IsRising (pos 0) w (get_or old y [])) → HasEdges used s → IsFilled used new
grown_filled s used from to span old new w g r e x y h =
    let k : IsTrue (holds_pixel s x (pos y)) = rw (← e.left, ← e.top, ← e.wide, ← e.high) h in
    subst (λ b. IsTrue b) (sym (row_grown s from to span old new w y x g (r y)))
    (left_true (holds_pixel s x (pos y)) (in_spans (get_or old y []) x) k)

right_true : (a b : Bool) → IsTrue b → IsTrue (a || b)
right_true a b h = grind arith

-- a rectangle that was filled before another joined, or the other one, is filled
pub larger_filled : (s full which : Rectangle) (from to : ℕ) (span : Span) (old new : List (List Span)) (size : Size) → IsGrown s from to span old new
    → ((y : ℕ) → IsRising (pos 0) size.w (get_or old y [])) → IsOn s size → IsOn full size → IsFilled full old → (which ≡ full) ⊎ (which ≡ s)
    → IsOn which size × IsFilled which new
larger_filled s full which from to span old new size g r o p f (inl e) =
    rw e (
      p,
      λ x y h. subst (λ b. IsTrue b) (sym (row_grown s from to span old new size.w y x g (r y)))
          (right_true (holds_pixel s x (pos y)) (in_spans (get_or old y []) x) (f x y h)),
    )
larger_filled s full which from to span old new size g r o p f (inr e) =
    rw e (o, grown_filled s s from to span old new size.w g r (record { left = refl; top = refl; wide = refl; high = refl }))

-- what has the edges of a rectangle with a pixel is not empty
pub some_edges : (a b : Rectangle) → HasEdges a b → has_none b ≡ false → has_none a ≡ false
some_edges a b e h = rw (e.wide, e.high) h

-- an empty rectangle adds no pixel
pub none_added : (s : Rectangle) (x y : ℤ) (b : Bool) → has_none s ≡ true → b ≡ (holds_pixel s x y || b)
none_added s x y b e = none_or (holds_pixel s x y) b (no_pixel_in s x y e)

pub grown_from : (s : Rectangle) (from to : ℕ) (span : Span) (old mid new : List (List Span)) → mid ≡ old → IsGrown s from to span mid new
    → IsGrown s from to span old new
grown_from s from to span old mid new e g = subst (λ m. IsGrown s from to span m new) e g

pub true_unless : (b : Bool) → (IsFalse b → ⊥) → IsTrue b
true_unless true f = grind arith
true_unless false f = absurd (f (grind arith))

-- the rows of bands before and after a span joined those between two rows
pub grown_rows : (s : Rectangle) (height from to first last : ℕ) (span : Span) (old new : List ℕ) (before parted after : List (List Span))
    → IsBand s from to span → to ≤ height → ((z : ℕ) → row_at new parted z ≡ row_at old before z) → AreBetween new from to first last
    → ((k : ℕ) → first ≤ k → k < last → Joins (get_or parted k []) (get_or after k []) span)
    → ((k : ℕ) → (k < first) ⊎ (last ≤ k) → get_or after k [] ≡ get_or parted k [])
    → IsGrown s from to span (rows_of height old before) (rows_of height new after)
grown_rows s height from to first last span old new before parted after band top same between joined others = record {
  band = band;
  count = table_length height (row_at new after) ∙ sym (table_length height (row_at old before));
  joined = λ y f l.
      let i = between.inside y f l in
      let a : get_or (rows_of height old before) y [] ≡ get_or parted (band_of new y) [] = table_at height (row_at old before) y (omega (arith, l, top)) ∙ sym (same y) in
      let b : get_or (rows_of height new after) y [] ≡ get_or after (band_of new y) [] = table_at height (row_at new after) y (omega (arith, l, top)) in
      rw (a, b) (joined (band_of new y) i.0 i.1);
  others = λ y o. ⊎_elim
      (λ l.
      let a : get_or (rows_of height old before) y [] ≡ get_or parted (band_of new y) [] = table_at height (row_at old before) y l ∙ sym (same y) in
      let b : get_or (rows_of height new after) y [] ≡ get_or after (band_of new y) [] = table_at height (row_at new after) y l in
      b ∙ (others (band_of new y) (between.outside y o) ∙ sym a))
      (λ l. table_past height (row_at new after) y l ∙ sym (table_past height (row_at old before) y l))
      (order y height);
}

-- a band has a row, and none of them below the canvas
pub band_order : (s : Rectangle) (from to : ℕ) (span : Span) → IsBand s from to span → has_none s ≡ false → from < to
band_order s from to span k e = grind (arith, ints, k.first, k.last)

pub band_top : (s : Rectangle) (from to : ℕ) (span : Span) (size : Size) → IsBand s from to span → IsCanvas size → IsOn s size → to ≤ unsigned_abs size.h
band_top s from to span size k c o = omega (arith, ints, k.last, o.bottom, c.some_high)

-- a span of a row that has it is in the row
has_columns : (ss : List Span) (t : Span) (x : ℤ) → row_has ss t ≡ true → in_span t x ≡ true → in_spans ss x ≡ true
has_columns [] t x e i = absurd (grind arith)
has_columns (s ∷ ss) t x e i =
    elim (int_le s.x0 t.x0 && int_le t.x1 s.x1) as (λ b. (int_le s.x0 t.x0 && int_le t.x1 s.x1) ≡ b → (b || row_has ss t) ≡ true → (in_span s x || in_spans ss x) ≡ true) [
      | true ↦ λ h u. let w : in_span s x ≡ true = within_span s t x h i in rw w refl
      | false ↦ λ h u. let w : in_spans ss x ≡ true = has_columns ss t x u i in or_true (in_span s x) (in_spans ss x) w
    ] refl e
  where
    within_span : (s t : Span) (x : ℤ) → (int_le s.x0 t.x0 && int_le t.x1 s.x1) ≡ true → in_span t x ≡ true → in_span s x ≡ true
    within_span s t x h i = grind (arith, ints)

    or_true : (a b : Bool) → b ≡ true → (a || b) ≡ true
    or_true a b h = grind arith

absorbs : (a b : Bool) → (a ≡ true → b ≡ true) → b ≡ (a || b)
absorbs true b f = f refl
absorbs false b f = refl

-- nothing joins where all of a rectangle is in one whose pixels are in the area
pub held_pixels : (size : Size) (s full : Rectangle) (rows : List (List Span)) → IsOn full size → IsFilled full rows → IsWithin s full → (x y : ℤ)
    → in_spans (spans_at rows y) x ≡ (holds_pixel s x y || in_spans (spans_at rows y) x)
held_pixels size s full rows o f w x y =
    absorbs (holds_pixel s x y) (in_spans (spans_at rows y) x)
    (λ h. let a : At full x y = holds_at full x y (w x y h) in filled_at full rows x y f (omega (arith, ints, a.top, o.top)) (w x y h))

-- nothing joins where each band has the span
pub had_pixels : (s : Rectangle) (height from to first last : ℕ) (span : Span) (ends : List ℕ) (bands : List (List Span)) → IsBand s from to span → to ≤ height
    → ((y : ℕ) → from ≤ y → y < to → (first ≤ band_of ends y) × (band_of ends y < last))
    → ((k : ℕ) → first ≤ k → k < last → IsTrue (row_has (get_or bands k []) span)) → (x y : ℤ)
    → in_spans (spans_at (rows_of height ends bands) y) x ≡ (holds_pixel s x y || in_spans (spans_at (rows_of height ends bands) y) x)
had_pixels s height from to first last span ends bands k top between has x (negsuc n) = rw (above_band s from to span x n k) refl
had_pixels s height from to first last span ends bands k top between has x (pos n) =
    ⊎_elim
    (λ i.
    let b = between n i.0 i.1 in
    let r : get_or (rows_of height ends bands) n [] ≡ get_or bands (band_of ends n) [] = table_at height (row_at ends bands) n (omega (arith, i.1, top)) in
    let h : row_has (get_or (rows_of height ends bands) n []) span ≡ true = rw r (has (band_of ends n) b.0 b.1) in
    rw (in_band s from to span x n k i.0 i.1) (absorbs (in_span span x) (in_spans (get_or (rows_of height ends bands) n []) x) (has_columns _ span x h)))
    (λ o. rw (outside_band s from to span x n k o) refl)
    (split from to n)

-- an area without a pixel
pub none_sound : (size : Size) (rows : List (List Span)) → IsCanvas size → length rows ≡ unsigned_abs size.h → ((y : ℕ) → get_or rows y [] ≡ [])
    → IsNormalized size no_pixels rows
none_sound size rows c n e = record {
  canvas = c;
  height = omega (arith, ints, n, c.some_high);
  rising = λ y. rw (e y) tt;
  on = none_on size c;
  within = λ x y h. absurd (clash false (subst (λ ss. IsTrue (in_spans ss x)) (e y) h) (grind arith));
}

-- a rectangle without a pixel is filled
pub none_filled : (rows : List (List Span)) → IsFilled no_pixels rows
none_filled rows x y h = absurd (no_pixel_in no_pixels x (pos y) refl h)

pub none_in : (rows : List (List Span)) (x y : ℤ) → ((n : ℕ) → get_or rows n [] ≡ []) → in_spans (spans_at rows y) x ≡ false
none_in rows x (pos n) e = rw (e n) refl
none_in rows x (negsuc n) e = refl

-- rows of bands in which one has a column of a span, or none
pub row_of_band : (height : ℕ) (ends : List ℕ) (bands : List (List Span)) (from to k : ℕ) (r : HasRow ends from to k) → to ≤ height
    → get_or (rows_of height ends bands) r.y [] ≡ get_or bands k []
row_of_band height ends bands from to k r top = table_at height (row_at ends bands) r.y (omega (arith, r.last, top)) ∙ ap (λ b. get_or bands b []) r.band

-- the spans of each band rise, since those of its rows do
pub band_rising : (size : Size) (used : Rectangle) (ends : List ℕ) (bands : List Row) (m k : ℕ)
    → IsNormalized size used (rows_of (unsigned_abs size.h) ends (spans_of bands)) → IsBanded (unsigned_abs size.h) ends m → length bands ≡ m
    → IsRising (pos 0) size.w (get_or (spans_of bands) k [])
band_rising size used ends bands m k i b size_is =
    let n : length (spans_of bands) ≡ length bands = length-map _ _ in
    ⊎_elim
    (λ l. let r = band_row (unsigned_abs size.h) ends m k b l in
    rw (← row_of_band (unsigned_abs size.h) ends (spans_of bands) 0 (unsigned_abs size.h) k r (omega arith)) (i.rising r.y))
    (λ l. let e : get_or (spans_of bands) k [] ≡ [] = get_or_past (spans_of bands) k [] (omega (arith, l, n, b.count, size_is)) in rw e tt)
    (order k (length ends))

-- the spans of a row are those of its band
pub band_spans : (height : ℕ) (ends : List ℕ) (bands : List Row) (m n : ℕ) (y : ℤ) (v : Row) → IsBanded height ends m → length bands ≡ m → y ≡ pos n
    → band_of ends n < length bands → v ≡ get_or bands (band_of ends n) v → v.items ≡ spans_at (rows_of height ends (spans_of bands)) y
band_spans height ends bands m n y v b size_is e h is =
    let t = table_at height (row_at ends (spans_of bands)) n (row_in height ends m n b (omega (arith, h, size_is, b.count))) in
    rw e (sym (t ∙ at_place (λ r. r.items) [] bands (band_of ends n) v h is))

pub spans_rise : (size : Size) (used : Rectangle) (rows : List (List Span)) (y : ℤ) → IsNormalized size used rows → IsRising (pos 0) size.w (spans_at rows y)
spans_rise size used rows (pos n) i = i.rising n
spans_rise size used rows (negsuc n) i = tt

-- a rectangle that joins an area without a pixel
pub whole_pixels : (r : Rectangle) (x y : ℤ) (b c : Bool) → b ≡ (holds_pixel (meet r r) x y || c) → c ≡ false → b ≡ holds_pixel r x y
whole_pixels r x y b c e f = e ∙ rw (f, common_pixels r r x y) (both_same (holds_pixel r x y))
  where
    both_same : (a : Bool) → ((a && a) || false) ≡ a
    both_same true = refl
    both_same false = refl
