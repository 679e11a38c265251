-- The largest inputs, and how many edits can be taken back. They are this project's own choice.
use Rattle.std.specs.Prelude.{ℕ}

-- The most bytes of an input: 64 times 2 ^ 20.
abbrev pub most_bytes : ℕ
most_bytes = 67108864

-- How many edits can be taken back one after another.
abbrev pub max_undos : ℕ
max_undos = 100
