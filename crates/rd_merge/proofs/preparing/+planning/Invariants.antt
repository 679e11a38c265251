use Rattle.std.proofs.Common.{◌≡◌, ◌+◌, ◌*◌, ◌∷◌, [], take, drop}
use Rattle.std.specs.Prelude.{map}
use Rattle.rd_list.specs.EntryNames.{new_names}
use Rattle.rd_list.specs.Entries.{list_size}
use Rattle.rd_list.specs.NewView.{new_entries, in_runs}
use Rattle.rd_merge.specs.PlanView.{steps_seen}
use Rattle.rd_merge.specs.Internal.Adding.{AddsSteps}
use Rattle.rd_merge.specs.Internal.Planning.{NewSteps, InnerSteps, place_in}
use Rattle.rd_merge.proofs.preparing.+planning.Given as goal

abbrev pub decreases-plan_level : goal.decreases-plan_level
decreases-plan_level g l = 6 * (list_size l.kept.now.entries + list_size l.new.now) + 4

abbrev pub decreases-plan_entries : goal.decreases-plan_entries
decreases-plan_entries g l = 6 * (list_size l.kept.now.entries + list_size (in_runs l.runs.now)) + 3

abbrev pub decreases-push_run : goal.decreases-push_run
decreases-push_run g l = 6 * (list_size l.kept.now.entries + list_size (new_entries l.new.now)) + 2

abbrev pub decreases-push_step : goal.decreases-push_step
decreases-push_step g l = 6 * (list_size l.kept.now.entries + list_size (new_entries (l.entry.now ∷ []))) + 1

abbrev pub decreases-plan_group_step : goal.decreases-plan_group_step
decreases-plan_group_step g l = 6 * (list_size l.kept.now.entries + (list_size l.inner.now + 1))

abbrev pub decreases-plan_new_group : goal.decreases-plan_new_group
decreases-plan_new_group g l = 6 * (list_size l.kept.now.entries + list_size l.new.now) + 5

abbrev pub decreases-plan_groups : goal.decreases-plan_groups
decreases-plan_groups g l = 6 * list_size l.kept.now.entries + 1

abbrev pub decreases-plan_kept_group : goal.decreases-plan_kept_group
decreases-plan_kept_group g l = 6 * list_size l.kept.now.entries

abbrev pub invariant-push_run-loop-i : goal.invariant-push_run-loop-i
invariant-push_run-loop-i g l = record { steps : AddsSteps (g.T.Touches.is_touched l.tree) l.kept.entries (new_entries (take l.i l.new)) l.fn.planned.steps.items l.planned.steps.items }

abbrev pub invariant-plan_entries-loop-run : goal.invariant-plan_entries-loop-run
invariant-plan_entries-loop-run g l = record {
  steps : NewSteps (g.T.Touches.is_touched l.tree) l.kept.entries (in_runs (take l.run-index l.runs)) (steps_seen l.planned.steps.items);
  rest : l.rest ≡ map (λ k. place_in (g.T.Touches.is_touched l.tree) l.kept.entries k) (new_names (in_runs (drop l.run-index l.runs)));
}

abbrev pub invariant-plan_groups-loop-place : goal.invariant-plan_groups-loop-place
invariant-plan_groups-loop-place g l = record { steps : InnerSteps (g.T.Touches.is_touched l.tree) l.kept.entries (take l.place-index l.places) (steps_seen l.steps.items) }
