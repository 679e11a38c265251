-- The groups that are open, the innermost last in memory.
use Rattle.std.proofs.Common.{◌≡◌, ℕ, zero, suc, ◌+◌, ◌-◌, ◌<◌, List, [], ◌∷◌, ◌++◌, length, take, get_or, reverse, refl, sym, ap, ◌∙◌, arith}
use Rattle.std.proofs.lemmas.List.{reverse-append, length-reverse, take_more, take_all}
use Rattle.rd_check.specs.Internal.Nesting.{without_done}

pub reverse_end : (xs : List ℕ) (n : ℕ) → reverse (xs ++ n ∷ []) ≡ n ∷ reverse xs
reverse_end xs n = reverse-append xs (n ∷ [])

-- one that wants no more is closed
pub closes : (xs ys : List ℕ) (n : ℕ) → n ≡ 0 → xs ≡ ys ++ n ∷ [] → without_done (reverse xs) ≡ without_done (reverse ys)
closes xs ys n z e = ap (λ v. without_done (reverse v)) e ∙ ap without_done (reverse_end ys n) ∙ ap (λ m. without_done (m ∷ reverse ys)) z

-- where the innermost wants more, none is closed
pub stays : (xs : List ℕ) (n : ℕ) → 0 < length xs → n ≡ get_or xs (length xs - 1) n → (n ≡ 0 → ⊥) → without_done (reverse xs) ≡ reverse xs
stays xs n some is more = ends (take (length xs - 1) xs) n whole more
  where
    whole : xs ≡ take (length xs - 1) xs ++ n ∷ []
    whole = sym (take_all (length xs - 1 + 1) xs (omega (arith, some))) ∙ take_more xs (length xs - 1) n (omega (arith, some)) ∙ ap (λ z. take (length xs - 1) xs ++ z ∷ []) (sym is)

    ends : (ys : List ℕ) (m : ℕ) → xs ≡ ys ++ m ∷ [] → (m ≡ 0 → ⊥) → without_done (reverse xs) ≡ reverse xs
    ends ys zero e more = absurd (more refl)
    ends ys (suc m) e more = ap (λ v. without_done (reverse v)) e ∙ ap without_done (reverse_end ys (suc m)) ∙ sym (ap reverse e ∙ reverse_end ys (suc m))

-- the innermost is closed where it wants no more
pub closes_last : (xs : List ℕ) (n : ℕ) → 0 < length xs → n ≡ get_or xs (length xs - 1) n → n ≡ 0
    → without_done (reverse (take (length xs - 1) xs)) ≡ without_done (reverse xs)
closes_last xs n some is none = sym (closes xs (take (length xs - 1) xs) n none whole)
  where
    whole : xs ≡ take (length xs - 1) xs ++ n ∷ []
    whole = sym (take_all (length xs - 1 + 1) xs (omega (arith, some))) ∙ take_more xs (length xs - 1) n (omega (arith, some)) ∙ ap (λ z. take (length xs - 1) xs ++ z ∷ []) (sym is)

-- where none is open, none is closed
pub stays_none : (xs : List ℕ) → length xs ≡ 0 → without_done (reverse xs) ≡ reverse xs
stays_none [] h = refl
stays_none (x ∷ xs) h = absurd (omega (arith, h))

pub ruleset stacked = (reverse_end, length-reverse)
