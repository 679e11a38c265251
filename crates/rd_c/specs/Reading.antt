-- What the calls that paint and read answer. The numbers are this project's own choice.
use Rattle.std.specs.Prelude.{◌≡◌, ◌⊎◌, ℕ, ◌==◌, nat_le, Bool, true, false, if◌then◌else◌, List, length, Option, Some, None, Result, Ok, Err}
use Rattle.rd_geom.specs.Areas.{Region}
use Rattle.rd_c.specs.Memory.{IsWritten}
use Rattle.rd_c.specs.Numbers.{number_of}
use Rattle.rd_c.specs.Spans.{told_rows}
use Rattle.rd_c.specs.declared.refusal.Refusal.{Refusal}
use Rattle.rd_c.specs.declared.refusal.Refusal.TheVariants.{NoMemory, Pending, Nothing, Short}

-- 0 where it was done, and else the number of why it was not
abbrev pub status_of : {A : Type 0} → Result A Refusal → ℕ
status_of (Ok x) = 0
status_of (Err r) = number_of r

-- so much fits into the room, or there is too little
abbrev pub room_answer : ℕ → ℕ → ℕ
room_answer size room = if nat_le size room then 0 else number_of Short

-- a value that may be read where no paint is pending, if there is one
abbrev pub value_answer : {A : Type 0} → Bool → Option A → ℕ
value_answer true found = number_of Pending
value_answer false None = number_of Nothing
value_answer false (Some x) = 0

-- a text, if there is one
abbrev pub text_answer : Option (List ℕ) → ℕ → ℕ
text_answer None room = number_of Nothing
text_answer (Some t) room = room_answer (length t) room

-- a text that may be read where no paint is pending
abbrev pub settled_answer : Bool → Option (List ℕ) → ℕ → ℕ
settled_answer true found room = number_of Pending
settled_answer false found room = text_answer found room

-- the spans of an area on so many rows, if there is one
abbrev pub spans_answer : Option Region → ℕ → ℕ → ℕ
spans_answer None height room = number_of Nothing
spans_answer (Some a) height room = room_answer (length (told_rows a height)) room

-- a paint, which is counted in 64 bits
abbrev pub paint_answer : ℕ → ℕ
paint_answer paints = if paints == 18446744073709551615 then number_of Nothing else 0

-- this, or want of memory
abbrev pub IsAnswer : ℕ → ℕ → Type 0
IsAnswer wanted n = (n ≡ number_of NoMemory) ⊎ (n ≡ wanted)

-- There is such a text, and it was written so.
pub record IsTextWritten (found : Option (List ℕ)) (old new : List ℕ) (n : ℕ) : Type 0 where
  pub text : List ℕ
  pub is : found ≡ Some text
  pub written : IsWritten text old new n
