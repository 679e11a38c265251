-- What is done of one thing after another. Assumes nothing.
use Rattle.std.proofs.Common.{◌≡◌, ℕ, ◌+◌, ◌<◌, List, [], ◌∷◌, ◌++◌, length, take, drop, get_or, refl, sym, subst}
use Rattle.std.proofs.lemmas.List.{take_more}
use Rattle.std.proofs.Math.Seq.{drop-cons}
use Rattle.rd_c.specs.Turns.{InTurn, IsFirst}

module _ {X S : Type 0} (Step : X → S → S → Type 0) where
  -- one more step
  turn-then : (xs : List X) (x : X) (a b c : S) → InTurn Step xs a b → Step x b c → InTurn Step (xs ++ x ∷ []) a c
  turn-then [] x a b c is step = (c, subst (λ z. Step x z c) is step, refl)
  turn-then (y ∷ xs) x a b c is step = (is.0, is.1, turn-then xs x is.0 b c is.2 step)

  pub turn_more : (xs : List X) (i : ℕ) (d : X) (a b c : S) → i < length xs → InTurn Step (take i xs) a b → Step (get_or xs i d) b c → InTurn Step (take (i + 1) xs) a c
  turn_more xs i d a b c h is step = subst (λ z. InTurn Step z a c) (sym (take_more xs i d h)) (turn-then (take i xs) (get_or xs i d) a b c is step)

-- the one at a place is the first of those from there on
pub first_from : {X : Type 0} (Is : X → Type 0) (xs : List X) (i : ℕ) (d : X) → i < length xs → Is (get_or xs i d) → IsFirst Is (drop i xs)
first_from Is xs i d h is = subst (IsFirst Is) (sym (drop-cons xs i d h)) is

-- the same, where it is said of a state that is the one now
pub first_now : {X S : Type 0} (Is : X → S → Type 0) (xs : List X) (i : ℕ) (d : X) (was now : S) → i < length xs → now ≡ was → Is (get_or xs i d) was → IsFirst (λ x. Is x now) (drop i xs)
first_now Is xs i d was now h e is = first_from (λ x. Is x now) xs i d h (subst (λ z. Is (get_or xs i d) z) (sym e) is)
