-- Lists of lists as one.
use Rattle.std.proofs.Common.{◌≡◌, refl, ap, ◌∙◌, sym, Bool, true, false, List, [], ◌∷◌, ◌++◌, append_assoc}
use Rattle.std.proofs.lemmas.List.{append-nil}
use Rattle.rd_partial.specs.Internal.ContextLists.{list_if}

module _ {A B : Type 0} where
  -- the lists of some things, one after another
  abbrev pub joined : (A → List B) → List A → List B
  joined g [] = []
  joined g (x ∷ xs) = g x ++ joined g xs

  pub joined-append : (g : A → List B) (xs ys : List A) → joined g (xs ++ ys) ≡ joined g xs ++ joined g ys
  joined-append g [] ys = refl
  joined-append g (x ∷ xs) ys = ap (λ zs. g x ++ zs) (joined-append g xs ys) ∙ sym (append_assoc (g x) (joined g xs) (joined g ys))

  pub joined-one : (g : A → List B) (t : Bool) (x : A) → joined g (list_if t (x ∷ [])) ≡ list_if t (g x)
  joined-one g true x = append-nil (g x)
  joined-one g false x = refl

  pub joined-some : (g : A → List B) (t : Bool) (xs : List A) → joined g (list_if t xs) ≡ list_if t (joined g xs)
  joined-some g true xs = refl
  joined-some g false xs = refl
