-- The pixels of a picture, one after another.
use Rattle.std.proofs.Common.{◌≡◌, ℕ, ℤ, pos, ◌+◌, List, [], ◌∷◌, ◌++◌, ◌∙◌, sym, ap, append_assoc, add-one}
use Rattle.rd_geom.specs.Colors.{Premultiplied}
use Rattle.rd_report.specs.Pictures.{rgb}
use Rattle.rd_report.proofs.Painted.{rgb-append}
use Rattle.rd_run.specs.Pictures.{row_of, rows_of}

module _ (f : ℤ → ℤ → Premultiplied) where
  -- a row has one more pixel
  pub row_step : (y x : ℕ) (p : Premultiplied) (begun before after : List ℕ) → p ≡ f (pos x) (pos y) → before ≡ begun ++ rgb (row_of f y x) → after ≡ before ++ rgb (p ∷ [])
      → after ≡ begun ++ rgb (row_of f y (x + 1))
  row_step y x p begun before after e was is =
      is ∙ ap (λ z. z ++ rgb (p ∷ [])) was ∙ append_assoc begun (rgb (row_of f y x)) (rgb (p ∷ []))
      ∙ ap (λ z. begun ++ z) (sym (rgb-append (row_of f y x) (p ∷ [])) ∙ ap (λ (q : Premultiplied). rgb (row_of f y x ++ q ∷ [])) e)
      ∙ ap (λ (n : ℕ). begun ++ rgb (row_of f y n)) (sym (add-one x))

  -- a picture has one more row
  pub rows_step : (w y : ℕ) (begun before after : List ℕ) → before ≡ begun ++ rgb (rows_of f w y) → after ≡ before ++ rgb (row_of f y w)
      → after ≡ begun ++ rgb (rows_of f w (y + 1))
  rows_step w y begun before after was is =
      is ∙ ap (λ z. z ++ rgb (row_of f y w)) was ∙ append_assoc begun (rgb (rows_of f w y)) (rgb (row_of f y w))
      ∙ ap (λ z. begun ++ z) (sym (rgb-append (rows_of f w y) (row_of f y w)))
      ∙ ap (λ (n : ℕ). begun ++ rgb (rows_of f w n)) (sym (add-one y))
