-- What a pattern [first, rest @ ..] says of a list.
use Rattle.std.proofs.Common.{◌≡◌, ◌-◌, ◌≤◌, length, take, drop, get_or, List, [], ◌∷◌, refl, arith}
use Rattle.std.specs.Bool.{◌==◌}
use Rattle.rd_stack.specs.Paths.{BoxData}
use Rattle.rd_stack.specs.Paths.{is_none}
use Rattle.std.proofs.lemmas.Grind.{common_steps}

module _ {A : Type 0} where
  pub take_rest : (x : A) (xs : List A) → take (length (x ∷ xs) - 1) (drop 1 (x ∷ xs)) ≡ xs
  take_rest x xs = grind (arith, common_steps)

  pub first_rest : (xs : List A) (b : A) → 1 ≤ length xs → b ≡ get_or xs 0 b → b ∷ take (length xs - 1) (drop 1 xs) ≡ xs
  first_rest [] b h e = absurd (omega arith)
  first_rest (x ∷ xs) b h e = rw (take_rest x xs, e) refl

pub none_left : (xs : List BoxData) → (length xs == 0) ≡ is_none xs
none_left [] = refl
none_left (x ∷ xs) = grind arith
