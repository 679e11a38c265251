use Rattle.std.proofs.Common.{◌≡◌, ◌≤◌, ◌+◌, ◌*◌, ◌∷◌, []}
use Rattle.std.specs.Prelude.{vec_len, vec_capacity}
use Rattle.rd_list.specs.Entries.{list_size, ◌▷◌}
use Rattle.rd_list.specs.Blocks.{IsAtBoth}
use Rattle.rd_list.specs.Chunks.{AreCovered}
use Rattle.rd_list.specs.KeptView.{kept_entries}
use Rattle.rd_merge.specs.Internal.Untaken.{untaken}
use Rattle.rd_merge.specs.Plans.{StepsFit, made_count, size_of, stepped}
use Rattle.rd_merge.specs.PlanView.{steps_seen}
use Rattle.rd_merge.proofs.finishing.+finishing.Given as goal

abbrev pub decreases-finish : goal.decreases-finish
decreases-finish g l = 3 * list_size l.plan.steps + 1

abbrev pub decreases-finish_step : goal.decreases-finish_step
decreases-finish_step g l = 3 * list_size (steps_seen (l.step ∷ []))

abbrev pub decreases-finish_group : goal.decreases-finish_group
decreases-finish_group g l = 3 * list_size l.plan.steps + 2

abbrev pub invariant-finish-loop-step : goal.invariant-finish-loop-step
invariant-finish-loop-step g l =
    (goal.iterator-finish-loop-step g).can_next l.step-iterator ×
    (goal.iterator-finish-loop-step g).is_finite l.step-iterator ×
    StepsFit (size_of l.fn.kept.entries) (steps_seen l.step-iterator.rest.items) (kept_entries l.entries.items ▷ kept_entries l.made.items) (untaken l.fresh) ×
    (stepped (steps_seen l.step-iterator.rest.items) (kept_entries l.entries.items ▷ kept_entries l.made.items) (untaken l.fresh) ≡ stepped l.fn.plan.steps l.fn.kept.entries l.fn.new) ×
    (vec_len l.entries ≡ size_of l.fn.kept.entries) ×
    (vec_len l.made + made_count (steps_seen l.step-iterator.rest.items) ≡ made_count l.fn.plan.steps) ×
    (made_count l.fn.plan.steps ≤ vec_capacity l.made) ×
    (list_size (steps_seen l.step-iterator.rest.items) ≤ list_size l.fn.plan.steps) ×
    IsAtBoth l.had l.seek ×
    AreCovered l.had l.entries.items
