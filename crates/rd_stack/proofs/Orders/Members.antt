-- What is left of a list by a filter.
use Rattle.std.proofs.Common.{◌≡◌, refl, ap, ◌∙◌, sym, Bool, true, false, cond, List, [], ◌∷◌, map}
use Rattle.std.specs.Prelude.{filter}

module _ {A : Type 0} where
  -- the first that is kept is the same where both begin with one that is kept
  pub first_kept : (p : A → Bool) (a b : A) (us vs : List A) → p a ≡ true → p b ≡ true → filter p (a ∷ us) ≡ filter p (b ∷ vs) → a ≡ b
  first_kept p a b us vs t u e = let h : a ∷ filter p us ≡ b ∷ filter p vs = rw (t, u) at e in cc

  pub later_kept : (p : A → Bool) (a b : A) (us vs : List A) → a ≡ b → filter p (a ∷ us) ≡ filter p (b ∷ vs) → filter p us ≡ filter p vs
  later_kept p a b us vs i e = by (p a) refl (sym (ap p i)) e
    where
      by : (c : Bool) → p a ≡ c → p b ≡ p a → cond (p a) (a ∷ filter p us) (filter p us) ≡ cond (p b) (b ∷ filter p vs) (filter p vs) → filter p us ≡ filter p vs
      by true t u e = let v : p b ≡ true = u ∙ t in let h : a ∷ filter p us ≡ b ∷ filter p vs = rw (t, v) at e in cc
      by false t u e = let v : p b ≡ false = u ∙ t in let h : filter p us ≡ filter p vs = rw (t, v) at e in h

pub filter-map : {A B : Type 0} (g : A → B) (p : B → Bool) (xs : List A) → map g (filter (λ x. p (g x)) xs) ≡ filter p (map g xs)
filter-map g p [] = refl
filter-map g p (x ∷ xs) =
    elim (p (g x)) as (λ b. map g (cond b (x ∷ filter (λ x. p (g x)) xs) (filter (λ x. p (g x)) xs)) ≡ cond b (g x ∷ filter p (map g xs)) (filter p (map g xs))) [
      | true ↦ ap (λ zs. g x ∷ zs) (filter-map g p xs)
      | false ↦ filter-map g p xs
    ]
