-- Pixels of regions that are made of a test, and regions of the same pixels.
use Rattle.std.proofs.Common.{◌≡◌, refl, ap, ◌∙◌, sym, subst, ℕ, zero, suc, ℤ, pos, negsuc, ◌+◌, ◌<◌, ◌≤◌, ◌<ℤ◌, ◌≤ℤ◌, Bool, true, false, cond, ◌||◌, List, [], ◌∷◌, ◌++◌, length, get_or, arith, ◌⊎◌, inl, inr}
use Rattle.std.specs.Prelude.{sum_by, unsigned_abs}
use Rattle.std.proofs.lemmas.Int.{ints}
use Rattle.std.proofs.lemmas.Bool.{cases_lt}
use Rattle.std.proofs.lemmas.List.{get_or_past}
use Rattle.std.proofs.lemmas.List.Sums.{sum_by-cons}
use Rattle.rd_geom.specs.Plane.{is_among, holds_pixel}
use Rattle.rd_geom.specs.Canvas.{IsCanvas, canvas_of}
use Rattle.rd_geom.specs.Areas.{Region, in_span, in_spans, in_area, columns_in, count_of}
use Rattle.rd_geom.specs.declared.rect.Size.{Size}
use Rattle.rd_geom.specs.declared.span.Span.{Span}
use Rattle.rd_geom.proofs.Pixels.{same_test, left_of, right_of}
use Rattle.rd_engine.specs.Invalid.{columns_where, rows_where, region_where}

left_or : (a b : Bool) → a ≡ true → (a || b) ≡ true
left_or true b h = refl
left_or false b h = absurd (let no : false ≡ true = h in cc)

right_or : (a b : Bool) → b ≡ true → (a || b) ≡ true
right_or true b h = refl
right_or false b h = h

either : (a b : Bool) → (a || b) ≡ true → (a ≡ true) ⊎ (b ≡ true)
either true b h = inl refl
either false b h = inr h

spans-join : (xs ys : List Span) (x : ℤ) → in_spans (xs ++ ys) x ≡ (in_spans xs x || in_spans ys x)
spans-join [] ys x = refl
spans-join (s ∷ xs) ys x = by (in_span s x) (spans-join xs ys x)
  where
    by : (b : Bool) → in_spans (xs ++ ys) x ≡ (in_spans xs x || in_spans ys x) → (b || in_spans (xs ++ ys) x) ≡ ((b || in_spans xs x) || in_spans ys x)
    by true h = refl
    by false h = h

module _ (q : ℤ → Bool) where
  one_column : (n : ℕ) (x : ℤ) (b : Bool) → q (pos n) ≡ b → in_spans (cond b (record { x0 = pos n; x1 = pos (suc n) } ∷ []) []) x ≡ true → q x ≡ true
  one_column n x true e h = by (either (in_span (record { x0 = pos n; x1 = pos (suc n) }) x) false h)
    where
      same : in_span (record { x0 = pos n; x1 = pos (suc n) }) x ≡ true → x ≡ pos n
      same k = let l : pos n ≤ℤ x = grind (arith, ints, k) in let r : x <ℤ pos (suc n) = grind (arith, ints, k) in omega (arith, ints, l, r)

      by : (in_span (record { x0 = pos n; x1 = pos (suc n) }) x ≡ true) ⊎ (false ≡ true) → q x ≡ true
      by (inl k) = subst (λ z. q z ≡ true) (sym (same k)) e
      by (inr k) = absurd (let no : false ≡ true = k in cc)
  one_column n x false e h = absurd (let no : false ≡ true = h in cc)

  -- each of these columns passes the test
  columns_pass : (n : ℕ) (x : ℤ) → in_spans (columns_where q n) x ≡ true → q x ≡ true
  columns_pass zero x h = absurd (let no : false ≡ true = h in cc)
  columns_pass (suc n) x h =
      let last : List Span = cond (q (pos n)) (record { x0 = pos n; x1 = pos (suc n) } ∷ []) [] in
      elim (either (in_spans (columns_where q n) x) (in_spans last x) (sym (spans-join (columns_where q n) last x) ∙ h)) [
        | inl k ↦ columns_pass n x k
        | inr k ↦ one_column n x (q (pos n)) refl k
      ]

  in_one : (n : ℕ) (b : Bool) → b ≡ true → in_spans (cond b (record { x0 = pos n; x1 = pos (suc n) } ∷ []) []) (pos n) ≡ true
  in_one n true e = left_or (in_span (record { x0 = pos n; x1 = pos (suc n) }) (pos n)) false (grind (arith, ints))
  in_one n false e = absurd (let no : false ≡ true = e in cc)

  -- and each of the first n that does is there
  columns_there : (n k : ℕ) → k < n → q (pos k) ≡ true → in_spans (columns_where q n) (pos k) ≡ true
  columns_there zero k l h = absurd (omega (arith, l))
  columns_there (suc n) k l h =
      let last : List Span = cond (q (pos n)) (record { x0 = pos n; x1 = pos (suc n) } ∷ []) [] in
      spans-join (columns_where q n) last (pos k)
      ∙ elim (cases_lt k n) [
        | inl m ↦ left_or (in_spans (columns_where q n) (pos k)) (in_spans last (pos k)) (columns_there n k m h)
        | inr m ↦
            let e : n ≡ k = omega (arith, l, m) in
            right_or (in_spans (columns_where q n) (pos k)) (in_spans last (pos k)) (subst (λ z. in_spans last (pos z) ≡ true) e (in_one n (q (pos n)) (subst (λ z. q (pos z) ≡ true) (sym e) h)))
      ]

module _ (p : ℤ → ℤ → Bool) (w : ℕ) where
  rows-length : (y n : ℕ) → length (rows_where p w y n) ≡ n
  rows-length y zero = refl
  rows-length y (suc n) = ap suc (rows-length (suc y) n)

  row_at : (y n k : ℕ) → k < n → get_or (rows_where p w y n) k [] ≡ columns_where (λ x. p x (pos (y + k))) w
  row_at y zero k l = absurd (omega (arith, l))
  row_at y (suc n) zero l = let e : y ≡ y + 0 = omega arith in ap (λ z. columns_where (λ x. p x (pos z)) w) e
  row_at y (suc n) (suc k) l = let e : suc y + k ≡ y + suc k = omega arith in row_at (suc y) n k (omega (arith, l)) ∙ ap (λ z. columns_where (λ x. p x (pos z)) w) e

-- a region made of a test that passes only on the canvas has just the pixels that pass
module _ (p : ℤ → ℤ → Bool) (s : Size) (canvas : IsCanvas s) (on : (x y : ℤ) → p x y ≡ true → holds_pixel (canvas_of s) x y ≡ true) where
  row_is : (k : ℕ) → k < unsigned_abs s.h → get_or (rows_where p (unsigned_abs s.w) 0 (unsigned_abs s.h)) k [] ≡ columns_where (λ x. p x (pos k)) (unsigned_abs s.w)
  row_is k l = let e : 0 + k ≡ k = omega arith in row_at p (unsigned_abs s.w) 0 (unsigned_abs s.h) k l ∙ ap (λ z. columns_where (λ x. p x (pos z)) (unsigned_abs s.w)) e

  no_row : (k : ℕ) → unsigned_abs s.h ≤ k → get_or (rows_where p (unsigned_abs s.w) 0 (unsigned_abs s.h)) k [] ≡ []
  no_row k l = let e = rows-length p (unsigned_abs s.w) 0 (unsigned_abs s.h) in get_or_past (rows_where p (unsigned_abs s.w) 0 (unsigned_abs s.h)) k [] (omega (arith, e, l))

  inside_row : (k : ℕ) (x : ℤ) → is_among (pos 0) s.h (pos k) ≡ true → k < unsigned_abs s.h
  inside_row k x h = grind (arith, ints, canvas.some_high, h)

  inside_column : (x : ℤ) → is_among (pos 0) s.w x ≡ true → (k : ℕ) × (x ≡ pos k) × (k < unsigned_abs s.w)
  inside_column (pos k) h = (k, refl, grind (arith, ints, canvas.some_wide, h))
  inside_column (negsuc k) h = absurd (let no : pos 0 ≤ℤ negsuc k = grind (arith, ints, h) in omega (arith, ints, no))

  none_above : (x : ℤ) (k : ℕ) → holds_pixel (canvas_of s) x (negsuc k) ≡ true → ⊥
  none_above x k h =
      let m = right_of (is_among (pos 0) s.w x) (is_among (pos 0) s.h (negsuc k)) h in
      let no : pos 0 ≤ℤ negsuc k = grind (arith, ints, m) in omega (arith, ints, no)

  there : (x y : ℤ) → p x y ≡ true → in_area (region_where p s) x y ≡ true
  there x (negsuc k) h = absurd (none_above x k (on x (negsuc k) h))
  there x (pos k) h =
      let c = on x (pos k) h in
      let row = inside_row k x (right_of (is_among (pos 0) s.w x) (is_among (pos 0) s.h (pos k)) c) in
      let col = inside_column x (left_of (is_among (pos 0) s.w x) (is_among (pos 0) s.h (pos k)) c) in
      ap (λ ss. in_spans ss x) (row_is k row)
      ∙ subst (λ z. in_spans (columns_where (λ x. p x (pos k)) (unsigned_abs s.w)) z ≡ true) (sym col.1) (columns_there (λ x. p x (pos k)) (unsigned_abs s.w) col.0 col.2 (subst (λ z. p z (pos k) ≡ true) col.1 h))

  back : (x y : ℤ) → in_area (region_where p s) x y ≡ true → p x y ≡ true
  back x (negsuc k) h = absurd (let no : false ≡ true = h in cc)
  back x (pos k) h = elim (cases_lt k (unsigned_abs s.h)) [
    | inl l ↦ columns_pass (λ x. p x (pos k)) (unsigned_abs s.w) x (sym (ap (λ ss. in_spans ss x) (row_is k l)) ∙ h)
    | inr l ↦ absurd (let no : false ≡ true = sym (ap (λ ss. in_spans ss x) (no_row k l)) ∙ h in cc)
  ]

  pub in_region : (x y : ℤ) → in_area (region_where p s) x y ≡ p x y
  in_region x y = same_test (in_area (region_where p s) x y) (p x y) (back x y) (there x y)

-- ---- regions of the same pixels have as many

columns_same : (ss ts : List Span) (n : ℕ) → ((x : ℤ) → in_spans ss x ≡ in_spans ts x) → columns_in ss n ≡ columns_in ts n
unfolding columns_in
columns_same ss ts zero h = refl
columns_same ss ts (suc n) h = rw (h (pos n), columns_same ss ts n h) refl

columns_none : (n : ℕ) → columns_in [] n ≡ 0
unfolding columns_in
columns_none zero = refl
columns_none (suc n) = let e = columns_none n in omega (arith, e)

module _ (w : ℕ) where
  abbrev total : List (List Span) → ℕ
  total rows = sum_by (λ ss. columns_in ss w) rows

  total_none : (rows : List (List Span)) → ((y : ℕ) (x : ℤ) → in_spans (get_or rows y []) x ≡ false) → total rows ≡ 0
  total_none [] h = refl
  total_none (row ∷ rows) h =
      let a = sum_by-cons (λ ss. columns_in ss w) row rows in
      let b = columns_same row [] w (h 0) in
      let c = columns_none w in
      let d = total_none rows (λ y. h (suc y)) in
      omega (arith, a, b, c, d)

  total_same : (rows others : List (List Span)) → ((y : ℕ) (x : ℤ) → in_spans (get_or rows y []) x ≡ in_spans (get_or others y []) x) → total rows ≡ total others
  total_same [] [] h = refl
  total_same [] (o ∷ others) h = sym (total_none (o ∷ others) (λ y x. sym (h y x)))
  total_same (row ∷ rows) [] h = total_none (row ∷ rows) h
  total_same (row ∷ rows) (o ∷ others) h =
      let a = sum_by-cons (λ ss. columns_in ss w) row rows in
      let b = sum_by-cons (λ ss. columns_in ss w) o others in
      let c = columns_same row o w (h 0) in
      let d = total_same rows others (λ y. h (suc y)) in
      omega (arith, a, b, c, d)

pub same_count : (a b : Region) → a.size ≡ b.size → ((x y : ℤ) → in_area a x y ≡ in_area b x y) → count_of a ≡ count_of b
same_count a b e h =
    total_same (unsigned_abs a.size.w) a.rows b.rows (λ y x. h x (pos y))
    ∙ ap (λ z. sum_by (λ ss. columns_in ss (unsigned_abs z.w)) b.rows) e
