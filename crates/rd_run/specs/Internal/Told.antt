-- What is told of what is painted at the end of a script.
use Rattle.std.specs.Prelude.{◌≡◌, ℕ, List}
use Rattle.rd_list.specs.Unordered.{unordered}
use Rattle.rd_report.specs.Summaries.{summary_lines}
use Rattle.rd_wire.specs.Wires.{spelled}
use Rattle.rd_run.specs.Pictures.{picture}
use Rattle.rd_run.specs.Endings.{totals_of}
use Rattle.rd_run.specs.Machine.{State}
use Rattle.rd_run.specs.Internal.Session.{SessionState, Shows}
use Rattle.rd_run.specs.declared.performing.Told.{Told}
use Rattle.rd_run.specs.declared.performing.Told.TheVariants.{Picture, Wire, Summary}

-- these bytes are the picture of what a session paints, its list in the wire form, or the summary of a storm of these numbers
abbrev pub IsTold : Told → SessionState → List ℕ → Type 0
IsTold Picture x bytes = bytes ≡ picture x.engine.tree
IsTold Wire x bytes = bytes ≡ spelled (record { size = x.engine.tree.canvas; list = unordered x.engine.kept.entries })
IsTold (Summary seed boxes edits) x bytes = (s : State) → Shows x s → bytes ≡ summary_lines (totals_of seed boxes edits s)
