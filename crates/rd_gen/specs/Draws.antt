-- Draws of numbers. Their sequence is this project's own choice.
use Rattle.std.specs.Prelude.{ℕ, ℤ, pos, ◌-ℤ◌, ◌+◌, ◌*◌, ◌/◌, ◌%◌, ◌^◌}

-- the state after a draw, of 64 bits
unfoldable pub next : ℕ → ℕ
next state = (state * 6364136223846793005 + 1442695040888963407) % 2 ^ 64

-- what is drawn below n, from the state after the draw
unfoldable pub drawn : ℕ → ℕ → ℕ
drawn n state = (state / 2 ^ 33) % n

-- what draws in turn give from a state, and the state after them
abbrev pub Drawing : Type 0 → Type 0
Drawing A = ℕ → A × ℕ

-- a number below n
unfoldable pub below : ℕ → Drawing ℕ
below n = λ state. (drawn n (next state), next state)

-- a value without a draw
abbrev pub give : {A : Type 0} → A → Drawing A
give a = λ state. (a, state)

infixl 10 ◌>>=◌
-- the first draws, and then those that follow of what they gave
abbrev pub ◌>>=◌ : {A B : Type 0} → Drawing A → (A → Drawing B) → Drawing B
d >>= rest = λ state. rest (d state).0 (d state).1

-- a whole number: one below n, less so many
unfoldable pub below_less : ℕ → ℕ → Drawing ℤ
below_less n less = do
  v ← below n
  give (pos v -ℤ pos less)
