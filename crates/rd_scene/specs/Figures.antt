-- The largest scripts. They are this project's own choice.
use Rattle.std.specs.Prelude.{ℕ, ℤ, pos}

-- The most commands of a script.
abbrev pub max_commands : ℕ
max_commands = 1000000

-- How far a command may shift a box each way, in canvas pixels.
abbrev pub max_distance : ℤ
max_distance = pos 2000000
