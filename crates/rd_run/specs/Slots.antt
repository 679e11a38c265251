-- The slots of the trees of a run. It is this project's own choice that a slot may be retired; no run of a script is so long.
use Rattle.std.specs.Prelude.{◌≡◌, ◌<◌, ◌↔◌, ℕ, nat_le, List, ◌++◌}
use Rattle.rd_tree.specs.Figures.{max_boxes}
use Rattle.rd_tree.specs.Forest.{size}
use Rattle.rd_tree.specs.Document.{Document, HasFreeSlot, taken}
use Rattle.rd_edits.specs.Refusals.{is_full}
use Rattle.rd_scene.specs.declared.script.Command.{Command}
use Rattle.rd_scene.specs.Scripts.{Script, IsScript}
use Rattle.rd_scene.specs.Planting.{Plants}
use Rattle.rd_run.specs.Machine.{State, start, Run}

-- Each taken slot holds a box, and so the tree is full, where a box more is one too many, exactly from the most boxes on.
pub record HasNoRetiredSlot (t : Document) : Type 0 where
  pub same : taken t ≡ size t.boxes
  pub full : is_full t ≡ nat_le max_boxes (size t.boxes)
  pub free : HasFreeSlot t ↔ (size t.boxes < max_boxes)

-- It is so after any commands of a script that its tree has run, whatever comes after them.
abbrev pub SlotsLaw : Type 0
SlotsLaw =
    (s : Script) (t : Document) (before after : List Command) (text : List ℕ) (now : State)
    → IsScript s → Plants s t → s.commands ≡ before ++ after → Run (start s.version t) before text now
    → HasNoRetiredSlot now.tree
