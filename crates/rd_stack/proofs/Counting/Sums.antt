-- Sums over lists.
use Rattle.std.proofs.Common.{◌≡◌, refl, sym, Bool, true, false, cond, List, [], ◌∷◌, ◌++◌, ℕ, ◌+◌, ◌≤◌, arith}
use Rattle.std.specs.Prelude.{filter}
use Rattle.rd_stack.specs.Painting.{Painted, insert_by_level, by_level, is_lower}

module _ {A : Type 0} where
  abbrev pub total : (A → ℕ) → List A → ℕ
  total f [] = 0
  total f (x ∷ xs) = f x + total f xs

  pub total-append : (f : A → ℕ) (xs ys : List A) → total f (xs ++ ys) ≡ total f xs + total f ys
  total-append f [] ys = omega arith
  total-append f (x ∷ xs) ys = omega (arith, total-append f xs ys)

  pub total-filter : (f : A → ℕ) (p : A → Bool) (xs : List A) → total f (filter p xs) ≡ total (λ x. cond (p x) (f x) 0) xs
  total-filter f p [] = refl
  total-filter f p (x ∷ xs) =
      elim (p x) as (λ b. total f (cond b (x ∷ filter p xs) (filter p xs)) ≡ cond b (f x) 0 + total (λ x. cond (p x) (f x) 0) xs) [
        | true ↦ omega (arith, total-filter f p xs)
        | false ↦ omega (arith, total-filter f p xs)
      ]

  pub total-le : (f g : A → ℕ) (xs : List A) → ((x : A) → f x ≤ g x) → total f xs ≤ total g xs
  total-le f g [] h = omega arith
  total-le f g (x ∷ xs) h = omega (arith, h x, total-le f g xs h)

  pub total-plus : (f g : A → ℕ) (xs : List A) → total (λ x. f x + g x) xs ≡ total f xs + total g xs
  total-plus f g [] = refl
  total-plus f g (x ∷ xs) = omega (arith, total-plus f g xs)

  pub total-none : (xs : List A) → total (λ x. 0) xs ≡ 0
  total-none [] = refl
  total-none (x ∷ xs) = omega (arith, total-none xs)

  pub total-cond : (c : Bool) (f : A → ℕ) (xs : List A) → cond c (total f xs) 0 ≡ total (λ x. cond c (f x) 0) xs
  total-cond true f xs = refl
  total-cond false f xs = sym (total-none xs)

total-put : (f : Painted → ℕ) (x : Painted) (ys : List Painted) → total f (insert_by_level x ys) ≡ f x + total f ys
total-put f x [] = refl
total-put f x (y ∷ ys) =
    elim (is_lower y x) as (λ b. total f (cond b (y ∷ insert_by_level x ys) (x ∷ y ∷ ys)) ≡ f x + (f y + total f ys)) [
      | true ↦ omega (arith, total-put f x ys)
      | false ↦ refl
    ]

-- sorting keeps sums
pub total-by_level : (f : Painted → ℕ) (xs : List Painted) → total f (by_level xs) ≡ total f xs
total-by_level f [] = refl
total-by_level f (x ∷ xs) = omega (arith, total-put f x (by_level xs), total-by_level f xs)
