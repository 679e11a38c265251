-- A dump with a script: what the word `check` reads and writes. All of it is this project's own choice.
use Rattle.std.specs.Prelude.{◌≡◌, ℕ, ◌+◌, ◌==◌, if◌then◌else◌, Bool, true, false, List, [], ◌∷◌, filter, length}
use Rattle.rd_list.specs.Entries.{flat}
use Rattle.rd_tree.specs.Document.{Document}
use Rattle.rd_tree.specs.Forest.{size}
use Rattle.rd_stack.specs.Fresh.{fresh_list}
use Rattle.rd_scene.specs.Scripts.{Script}
use Rattle.rd_scene.specs.Planting.{Plants}
use Rattle.rd_scene.specs.declared.script.Command.{Command}
use Rattle.rd_scene.specs.declared.script.Command.TheVariants.{Change, Undo}
use Rattle.rd_check.specs.Dumped.{IsDumpText}
use Rattle.rd_check.specs.Checked.{IsChecked}
use Rattle.rd_check.specs.Spoken.{verdict_line}
use Rattle.rd_check.specs.declared.verdict.Verdict.{Verdict}
use Rattle.rd_run.specs.Machine.{State, Counts, start, Run}

-- the bytes before the first `{`, which no dump has: those of the dump
abbrev pub dump_before : List ℕ → List ℕ
dump_before [] = []
dump_before (b ∷ bs) = if b == 123 then [] else b ∷ dump_before bs

-- the bytes from the first `{` on: those of the script
abbrev pub script_from : List ℕ → List ℕ
script_from [] = []
script_from (b ∷ bs) = if b == 123 then b ∷ bs else script_from bs

-- the commands that change the tree
abbrev pub is_change : Command → Bool
is_change (Change e) = true
is_change Undo = true
is_change c = false

-- those of some commands
abbrev pub changes_of : List Command → List Command
changes_of cs = filter is_change cs

-- The machine may do the commands of a script that change the tree, and no others, and end in this state.
abbrev pub IsLastState : Script → State → Type 0
IsLastState s last = (t : Document) × (text : List ℕ) × Plants s t × Run (start s.version t) (changes_of s.commands) text last

-- how many items the painting order of a tree has
abbrev pub leaf_count : Document → ℕ
leaf_count t = length (flat (fresh_list t))

-- how often boxes may be looked at: as often as the machine has counted, and each box once more
abbrev pub checked_looks : State → ℕ
checked_looks last = last.counts.looks + size last.tree.boxes

-- what is counted of a check: the items of the painting order, and such looks
abbrev pub checked_counts : State → Counts
checked_counts last = record last.counts { built = leaf_count last.tree; looks = checked_looks last }

-- the line of a verdict on a dump and a tree
abbrev pub IsVerdictOn : List ℕ → Document → List ℕ → Type 0
IsVerdictOn dump t text = (v : Verdict) × IsChecked dump t v × (text ≡ verdict_line t.boxes v)

-- the line of the verdict on a dump and the tree at the end of a script
abbrev pub IsScriptVerdict : List ℕ → Script → List ℕ → Counts → Type 0
IsScriptVerdict dump s text counts =
    (last : State) × IsLastState s last × IsVerdictOn dump last.tree text × (counts ≡ checked_counts last)

-- these bytes are no dump
abbrev pub IsNoDumpText : List ℕ → Type 0
IsNoDumpText dump = IsDumpText dump → ⊥
