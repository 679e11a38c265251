-- Pixels of pictures, one after another.
use Rattle.std.proofs.Common.{◌≡◌, ℕ, ◌+◌, ◌<◌, List, [], ◌∷◌, ◌++◌, length, take, get_or, refl, sym, ◌∙◌, ap, append_assoc}
use Rattle.std.proofs.lemmas.List.{take_more}
use Rattle.rd_geom.specs.Colors.{Premultiplied}
use Rattle.rd_report.specs.Pictures.{rgb}

pub rgb-append : (ps qs : List Premultiplied) → rgb (ps ++ qs) ≡ rgb ps ++ rgb qs
unfolding rgb
rgb-append [] qs = refl
rgb-append (p ∷ ps) qs = ap (λ z. p.r ∷ p.g ∷ p.b ∷ z) (rgb-append ps qs)

-- one more pixel
pub rgb_more : (ps : List Premultiplied) (i : ℕ) (x : Premultiplied) (begun before after : List ℕ)
    → i < length ps → x ≡ get_or ps i x → before ≡ begun ++ rgb (take i ps) → after ≡ before ++ rgb (x ∷ [])
    → after ≡ begun ++ rgb (take (i + 1) ps)
rgb_more ps i x begun before after h e p q =
    let more : take (i + 1) ps ≡ take i ps ++ x ∷ [] = take_more ps i x h ∙ ap (λ y. take i ps ++ y ∷ []) (sym e) in
    q ∙ ap (λ z. z ++ rgb (x ∷ [])) p ∙ append_assoc begun (rgb (take i ps)) (rgb (x ∷ []))
    ∙ ap (λ z. begun ++ z) (sym (ap rgb more ∙ rgb-append (take i ps) (x ∷ [])))
