-- What a paint writes of the tiles that it repaints. The format is this project's own choice.
use Rattle.std.specs.Prelude.{ℕ, List, [], ◌∷◌, codes, decimal}
use Rattle.rd_report.specs.Words.{line}

-- the number of the paint, how many tiles it repainted, and how many there are
abbrev pub tiles_line : ℕ → ℕ → ℕ → List ℕ
tiles_line number repainted all =
    line (codes "tiles" ∷ decimal number ∷ codes "repainted" ∷ decimal repainted ∷ codes "of" ∷ decimal all ∷ [])
