-- What contracts see of the streams over memory. They are this project's own.
use Rattle.std.specs.Prelude.{◌≡◌, ℕ, ◌+◌, ◌-◌, ◌^◌, ◌≤◌, min, false, ◌==◌, List, length, drop, Result, Ok, Err}
use Rattle.std.specs.List.{list_any}

-- The number of the next call, the numbers of the calls that are to fail, and the faults so far.
pub record Calls : Type 0 where
  pub call : ℕ
  pub failing : List ℕ
  pub faults : ℕ

-- The source: the bytes left, and its calls.
pub record Given : Type 0 where
  pub left : List ℕ
  pub calls : Calls

-- The sink: the bytes written at the front of its slice, those behind them, and its calls.
pub record Taken : Type 0 where
  pub written : List ℕ
  pub behind : List ℕ
  pub calls : Calls

-- The sink that fails only for want of room.
pub record Filled : Type 0 where
  pub written : List ℕ
  pub behind : List ℕ
  pub faults : ℕ

-- the first call of all, where these are to fail
abbrev pub first_call : List ℕ → Calls
first_call failing = record { call = 0; failing = failing; faults = 0 }

-- The next call is not one that is to fail.
abbrev pub MayPass : Calls → Type 0
MayPass c = list_any (λ n. n == c.call) c.failing ≡ false

-- There is room for a byte of this piece, where it has one.
abbrev pub HasRoomFor : List ℕ → List ℕ → Type 0
HasRoomFor piece behind = min 1 (length piece) ≤ length behind

-- Where the call may pass and there is room, as much of the piece is taken as there is room for, in place of as many of
-- the bytes behind; else it fails, and these stay.
abbrev pub Fills : {E : Type 0} → Type 0 → List ℕ → (before after : List ℕ) → Result ℕ E → Type 0
Fills may_pass piece before after (Ok n) =
    may_pass × HasRoomFor piece before × (n ≡ min (length piece) (length before))
    × (after ≡ drop n before)
Fills may_pass piece before after (Err e) = (may_pass × HasRoomFor piece before → ⊥)
    × (after ≡ before)

-- The number of the next call rises, and stays at the last value of 64 bits.
pub record NextCall (old new : Calls) : Type 0 where
  pub call : new.call ≡ min (old.call + 1) (2 ^ 64 - 1)
  pub failing : new.failing ≡ old.failing
