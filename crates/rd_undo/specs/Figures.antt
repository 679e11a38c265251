-- How many steps are kept. It is this project's own choice.
use Rattle.std.specs.Prelude.{ℕ}

-- The most steps.
abbrev pub max_steps : ℕ
max_steps = 1024
