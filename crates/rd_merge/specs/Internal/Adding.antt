-- Steps that come after others.
use Rattle.std.specs.Prelude.{◌≡◌, Bool, List, ◌++◌}
use Rattle.rd_keys.specs.Keys.{BoxKey}
use Rattle.rd_keys.specs.declared.entry.EntryKey.{EntryKey}
use Rattle.rd_item.specs.Items.{Made}
use Rattle.rd_list.specs.Wrappers.{Wrapper}
use Rattle.rd_list.specs.Entries.{Entries}
use Rattle.rd_list.specs.Kept.{Ordered}
use Rattle.rd_merge.specs.PlanView.{steps_seen}
use Rattle.rd_merge.specs.Internal.Planning.{NewSteps}
use Rattle.rd_merge.specs.declared.plan.Step.{Step}

-- after the first steps come those of the entries of a new level
abbrev pub AddsSteps : {A : Type 0} → (BoxKey → Bool) → Entries (Ordered EntryKey Wrapper) Made → Entries Wrapper Made → List (Step A) → List (Step A) → Type 0
AddsSteps {A} touched kept fresh old new = (more : List (Step A)) × (new ≡ old ++ more) × NewSteps touched kept fresh (steps_seen more)
