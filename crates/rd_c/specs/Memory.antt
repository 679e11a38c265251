-- What is written into the caller's memory. The form is this project's own choice.
use Rattle.std.specs.Prelude.{◌≡◌, ℕ, List, ◌++◌, length, drop}

-- These stand at the front of memory, which else is as it was, and this is how many they are.
pub record IsWritten {A : Type 0} (items old new : List A) (n : ℕ) : Type 0 where
  pub count : n ≡ length items
  pub bytes : new ≡ items ++ drop (length items) old
