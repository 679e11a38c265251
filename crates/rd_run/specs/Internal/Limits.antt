-- What is known of words that have a form.
use Rattle.std.specs.Prelude.{◌≤◌}
use Rattle.rd_gen.specs.Figures.{max_edits}
use Rattle.rd_tree.specs.Figures.{max_boxes}
use Rattle.rd_run.specs.declared.words.WordsForm.{WordsForm}
use Rattle.rd_run.specs.declared.words.WordsForm.TheVariants.{Storm}

-- A storm is of some boxes, and of no more boxes and edits than there may be.
abbrev pub IsWithinLimits : WordsForm → Type 0
IsWithinLimits (Storm seed boxes edits) = (1 ≤ boxes) × (boxes ≤ max_boxes) × (edits ≤ max_edits)
IsWithinLimits form = Unit {0}
