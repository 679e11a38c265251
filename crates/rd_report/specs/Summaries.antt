-- What a storm writes of itself. The format is this project's own choice.
use Rattle.std.specs.Prelude.{ℕ, List, [], ◌∷◌, ◌++◌, codes, decimal}
use Rattle.hex.specs.Hex.{encode_lower}
use Rattle.rd_report.specs.Words.{line}
use Rattle.rd_report.specs.declared.summary.Totals.{Totals}

-- what was asked for
abbrev pub storm_line : Totals → List ℕ
storm_line t =
    line (codes "storm" ∷ codes "seed" ∷ decimal t.seed ∷ codes "boxes" ∷ decimal t.boxes
    ∷ codes "edits" ∷ decimal t.edits ∷ [])

-- how many edits were done and how many refused
abbrev pub edits_line : Totals → List ℕ
edits_line t = line (codes "accepted" ∷ decimal t.accepted ∷ codes "refused" ∷ decimal t.refused ∷ [])

-- how many paints there were, and the sums of their items and of the pixels of their areas
abbrev pub paints_line : Totals → List ℕ
paints_line t =
    line (codes "paints" ∷ decimal t.paints ∷ codes "built" ∷ decimal t.built ∷ codes "area" ∷ decimal t.area ∷ [])

-- the digest of the last picture
abbrev pub final_line : List ℕ → List ℕ
final_line digest = line (codes "final" ∷ encode_lower digest ∷ [])

-- the four lines of a storm
abbrev pub summary_lines : Totals → List ℕ
summary_lines t = storm_line t ++ edits_line t ++ paints_line t ++ final_line t.digest
