-- The numbers of refusals. They are this project's own choice.
use Rattle.std.specs.Prelude.{ℕ}
use Rattle.rd_c.specs.declared.refusal.Refusal.{Refusal}
use Rattle.rd_c.specs.declared.refusal.Refusal.TheVariants.{OutOfRange, NoMemory, Id, Value, NoEngine, InUse, Pending, Nothing, Short}

-- they follow those of the tests of edits, of which the last two are here too
abbrev pub number_of : Refusal → ℕ
number_of OutOfRange = 9
number_of NoMemory = 10
number_of Id = 11
number_of Value = 12
number_of NoEngine = 13
number_of InUse = 14
number_of Pending = 15
number_of Nothing = 16
number_of Short = 17
