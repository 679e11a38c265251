-- What a contract sees of plans.
use Rattle.std.specs.Prelude.{List, [], ◌∷◌}
use Rattle.rd_list.specs.Entries.{nil, leaf, group}
use Rattle.rd_merge.specs.Plans.{Steps}
use Rattle.rd_merge.specs.declared.plan.Step.{Step}
use Rattle.rd_merge.specs.declared.plan.Step.TheVariants.{Leaf, Group}

abbrev pub steps_seen : {A : Type 0} → List (Step A) → Steps
steps_seen [] = nil
steps_seen (Leaf place ∷ rest) = leaf place (steps_seen rest)
steps_seen (Group o n plan ∷ rest) = group (record { old = o; is_new = n; patch = plan.value.patch }) plan.value.steps (steps_seen rest)
