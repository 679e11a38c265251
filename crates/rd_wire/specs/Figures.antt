-- The deepest wires. They are this project's own choice.
use Rattle.std.specs.Prelude.{ℕ}

-- How many groups may stand round an entry.
abbrev pub max_groups : ℕ
max_groups = 256
