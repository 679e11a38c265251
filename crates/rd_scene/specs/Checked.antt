-- What the rules of a format say of a value. That all broken ones are told, in order, is this project's own choice.
use Rattle.std.specs.Prelude.{List, [], ◌∷◌, ◌++◌, Option, Result, Ok, Err}
use Rattle.std.specs.Result.{result_ok}

-- what is read, or the first rule that is broken; and the rules that are broken after it, in order
pub record Checked (F A : Type 0) : Type 0 where
  pub first : Result A F
  pub later : List F

-- one answer for what is read, and another for a broken rule
abbrev pub by_case : {F A B : Type 0} → (A → B) → (F → B) → Result A F → B
by_case f g (Ok a) = f a
by_case f g (Err w) = g w

-- all broken rules, in order
abbrev pub faults : {F A : Type 0} → Checked F A → List F
faults c = by_case (λ a. []) (λ w. w ∷ c.later) c.first

-- what is read, where no rule is broken
abbrev pub value : {F A : Type 0} → Checked F A → Option A
value c = result_ok c.first

-- one rule, which gives a value or is broken
abbrev pub rule : {F A : Type 0} → Result A F → Checked F A
rule r = record { first = r; later = [] }

-- a value of which nothing is asked
abbrev pub good : {F A : Type 0} → A → Checked F A
good a = rule (Ok a)

infixl 10 ◌⊛◌
-- both are asked, the left one first
abbrev pub ◌⊛◌ : {F A B : Type 0} → Checked F (A → B) → Checked F A → Checked F B
f ⊛ c = record {
  first = by_case (λ g. by_case (λ a. Ok (g a)) Err c.first) Err f.first;
  later = by_case (λ g. c.later) (λ w. f.later ++ faults c) f.first;
}

infixl 10 ◌>>=◌
-- the next rules are asked of what is read, where it is
abbrev pub ◌>>=◌ : {F A B : Type 0} → Checked F A → (A → Checked F B) → Checked F B
c >>= f = record {
  first = by_case (λ a. (f a).first) Err c.first;
  later = by_case (λ a. (f a).later) (λ w. c.later) c.first;
}
