-- The tree after the commands of a script.
use Rattle.std.specs.Prelude.{◌≡◌}
use Rattle.rd_tree.specs.Document.{Document}
use Rattle.rd_scene.specs.Scripts.{Script}
use Rattle.rd_run.specs.Machine.{State}
use Rattle.rd_run.specs.Checks.{IsLastState}

-- The tree of the machine of `rd_run` once it has done the edits and the undos of the script, and nothing else.
abbrev pub IsAfter : Script → Document → Type 0
IsAfter s t = (last : State) × IsLastState s last × (t ≡ last.tree)
