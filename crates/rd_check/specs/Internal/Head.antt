-- The first line of a dump.
use Rattle.std.specs.Prelude.{ℕ, List, [], ◌∷◌, codes, decimal, Option, None, if◌then◌else◌}
use Rattle.std.specs.Str.{bytes_eq}
use Rattle.rd_report.specs.Words.{line}
use Rattle.rd_check.specs.Internal.Reading.{◌>>=◌, field, word_before, number_of}

-- it tells how many leaves there are
abbrev pub head_line : ℕ → List ℕ
head_line leaves = line (codes "dump" ∷ decimal leaves ∷ [])

abbrev pub after_dump : List ℕ → List ℕ → Option (ℕ × List ℕ)
after_dump w rest = if bytes_eq w (codes "dump") then field number_of 10 rest else None

abbrev pub leaves_at : List ℕ → Option (ℕ × List ℕ)
leaves_at bytes = word_before 32 bytes >>= λ w. after_dump w.0 w.1
