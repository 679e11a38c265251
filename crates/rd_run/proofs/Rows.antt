-- The pixels of a canvas, row by row.
use Rattle.std.proofs.Common.{◌≡◌, ℕ, zero, suc, ◌+◌, ◌*◌, ◌<◌, ◌≤◌, pos, ℤ, List, [], ◌∷◌, ◌++◌, length, take, drop, get_or, refl, sym, ◌∙◌, ap, ap₂, arith}
use Rattle.std.proofs.lemmas.List.{take_more, take_all, get_or-drop, length-drop}
use Rattle.std.proofs.Math.Seq.{take-add}
use Rattle.rd_geom.specs.Colors.{Premultiplied}
use Rattle.rd_run.specs.Pictures.{row_of, rows_of}

suc_times : (n w : ℕ) → suc n * w ≡ n * w + w
suc_times n w = omega arith

more : (n w l : ℕ) → suc n * w ≤ l → n * w + w ≤ l
more n w l h = omega (arith, h, suc_times n w)

dropped : {A : Type 0} (xs : List A) (n : ℕ) → n ≤ length xs → length (drop n xs) + n ≡ length xs
dropped xs n h = let e = length-drop n xs in omega (arith, e, h)

next : (n : ℕ) → suc n ≡ n + 1
next n = omega arith

no_times : (w : ℕ) → 0 * w ≡ 0
no_times w = omega arith

module _ (f : ℤ → ℤ → Premultiplied) (c : Premultiplied) where
  row : (ps : List Premultiplied) (y n : ℕ) → n ≤ length ps → ((x : ℕ) → x < n → get_or ps x c ≡ f (pos x) (pos y))
      → take n ps ≡ row_of f y n
  row ps y zero h same = refl
  row ps y (suc n) h same =
      ap (λ k. take k ps) (next n) ∙ take_more ps n c (omega (arith, h))
      ∙ ap₂ (λ xs x. xs ++ x ∷ []) (row ps y n (omega (arith, h)) (λ x l. same x (omega (arith, l)))) (same n (omega arith))

  rows : (ps : List Premultiplied) (w n : ℕ) → n * w ≤ length ps
      → ((x y : ℕ) → x < w → y < n → get_or ps (y * w + x) c ≡ f (pos x) (pos y)) → take (n * w) ps ≡ rows_of f w n
  rows ps w zero h same = ap (λ k. take k ps) (no_times w)
  rows ps w (suc n) h same =
      let below : n * w + w ≤ length ps = more n w (length ps) h in
      let split : take (suc n * w) ps ≡ take (n * w + w) ps = ap (λ k. take k ps) (suc_times n w) in
      let length_back : length (drop (n * w) ps) + n * w ≡ length ps = dropped ps (n * w) (omega (arith, below)) in
      split ∙ take-add (n * w) w ps
      ∙ ap₂ (λ xs ys. xs ++ ys)
      (rows ps w n (omega (arith, below)) (λ x y l k. same x y l (omega (arith, k))))
      (row (drop (n * w) ps) n w (omega (arith, below, length_back)) (λ x l. get_or-drop (n * w) ps x c ∙ same x n l (omega arith)))

-- all pixels of a canvas of which each is known
pub all_rows : (f : ℤ → ℤ → Premultiplied) (c : Premultiplied) (ps : List Premultiplied) (w h : ℕ) → length ps ≡ h * w
    → ((x y : ℕ) → x < w → y < h → get_or ps (y * w + x) c ≡ f (pos x) (pos y)) → ps ≡ rows_of f w h
all_rows f c ps w h l same = sym (take_all (h * w) ps (omega (arith, l))) ∙ rows f c ps w h (omega (arith, l)) same
