-- Filters of lists.
use Rattle.std.proofs.Common.{◌≡◌, refl, ap, ◌∙◌, sym, Bool, true, false, ◌&&◌, cond, List, [], ◌∷◌, ◌++◌, map, ℕ, ◌<◌, ◌+◌, length, take, get_or}
use Rattle.std.specs.Prelude.{filter}
use Rattle.std.proofs.lemmas.List.{take_more, map-append, append-nil}
use Rattle.std.proofs.lemmas.List.Elements.{filter-append}

-- two filters are one
pub filter_both : {A : Type 0} (p q : A → Bool) (xs : List A) → filter q (filter p xs) ≡ filter (λ x. p x && q x) xs
filter_both p q [] = refl
filter_both p q (x ∷ xs) = elim (p x) as (λ b. filter q (cond b (x ∷ filter p xs) (filter p xs)) ≡ cond (b && q x) (x ∷ filter (λ x. p x && q x) xs) (filter (λ x. p x && q x) xs)) [
  | true ↦ elim (q x) as (λ b. cond b (x ∷ filter q (filter p xs)) (filter q (filter p xs)) ≡ cond b (x ∷ filter (λ x. p x && q x) xs) (filter (λ x. p x && q x) xs)) [ true ↦ ap (λ zs. x ∷ zs) (filter_both p q xs) | false ↦ filter_both p q xs ]
  | false ↦ filter_both p q xs
]

-- The loop that keeps what passes goes on by one: past an element that passes, and past one that does not.
module _ {A B C : Type 0} (see : A → B) (look : C → B) (p : B → Bool) where
  pub filter_more : (xs : List A) (i : ℕ) (x : A) (y : C) (before after : List C) → i < length xs → x ≡ get_or xs i x → look y ≡ see x → p (see x) ≡ true
      → map look before ≡ filter p (map see (take i xs)) → after ≡ before ++ y ∷ [] → map look after ≡ filter p (map see (take (i + 1) xs))
  filter_more xs i x y before after h e l t a b =
      rw (b, map-append look before (y ∷ []), a, take_more xs i x h, ← e, map-append see (take i xs) (x ∷ []), filter-append p (map see (take i xs)) (see x ∷ []), l, t) refl

  pub filter_past : (xs : List A) (i : ℕ) (x : A) (before : List C) → i < length xs → x ≡ get_or xs i x → p (see x) ≡ false
      → map look before ≡ filter p (map see (take i xs)) → map look before ≡ filter p (map see (take (i + 1) xs))
  filter_past xs i x before h e t a =
      a ∙ rw (take_more xs i x h, ← e, map-append see (take i xs) (x ∷ []), filter-append p (map see (take i xs)) (see x ∷ []), t) (sym (append-nil _))
