-- The largest generated scripts. They are this project's own choice.
use Rattle.std.specs.Prelude.{ℕ}

-- The most edits of a generated script.
abbrev pub max_edits : ℕ
max_edits = 100000
