-- The larger of two numbers, and what lists laid on another have of it.
use Rattle.std.proofs.Common.{ℕ, zero, suc, ◌+◌, ◌≤◌, arith, inl, inr}
use Rattle.std.proofs.lemmas.Bool.{cases_lt, lt-ltb, le-ltb}
use Rattle.rd_list.specs.Views.{larger, deeper}

pub larger_within : (a b n : ℕ) → a ≤ n → b ≤ n → larger a b ≤ n
larger_within a b n h k = elim (cases_lt a b) [
  | inl l ↦ rw (lt-ltb a b l) k
  | inr l ↦ rw (le-ltb a b l) h
]

pub left_within : (a b : ℕ) → a ≤ larger a b
left_within a b = elim (cases_lt a b) [
  | inl l ↦ rw (lt-ltb a b l) (omega (arith, l))
  | inr l ↦ rw (le-ltb a b l) (omega arith)
]

pub right_within : (a b : ℕ) → b ≤ larger a b
right_within a b = elim (cases_lt a b) [
  | inl l ↦ rw (lt-ltb a b l) (omega arith)
  | inr l ↦ rw (le-ltb a b l) l
]

pub deeper_within : (a n : ℕ) → a ≤ n → deeper a ≤ n + 1
deeper_within zero n h = omega arith
deeper_within (suc a) n h = omega (arith, h)
