-- The line of a verdict. The format is this project's own choice.
use Rattle.std.specs.Prelude.{ℕ, List, [], ◌∷◌, codes, decimal}
use Rattle.rd_tree.specs.Document.{BoxForest}
use Rattle.rd_report.specs.Words.{line, id_text, part_text}
use Rattle.rd_check.specs.declared.verdict.Verdict.{Verdict}
use Rattle.rd_check.specs.declared.verdict.Verdict.TheVariants.{Unknown, Twice, Extra, Differs, Wrapped, Missing, Order, Yes}

-- what is told of an entry
abbrev pub entry_line : List ℕ → ℕ → List ℕ
entry_line fault i = line (codes "no" ∷ fault ∷ decimal i ∷ [])

-- an entry is named by its place, and a box by its id
abbrev pub verdict_line : BoxForest → Verdict → List ℕ
verdict_line boxes (Unknown i) = entry_line (codes "unknown") i
verdict_line boxes (Twice i) = entry_line (codes "twice") i
verdict_line boxes (Extra i) = entry_line (codes "extra") i
verdict_line boxes (Differs i) = entry_line (codes "differs") i
verdict_line boxes (Wrapped i) = entry_line (codes "wrapped") i
verdict_line boxes (Missing k p) = line (codes "no" ∷ codes "missing" ∷ id_text k boxes ∷ part_text p ∷ [])
verdict_line boxes (Order i j) = line (codes "no" ∷ codes "order" ∷ decimal i ∷ decimal j ∷ [])
verdict_line boxes Yes = line (codes "yes" ∷ [])
