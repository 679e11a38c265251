-- No group's plan is as large as the whole.
use Rattle.std.specs.Prelude.{◌≤◌, List, [], ◌∷◌}
use Rattle.std.proofs.Common.{arith}
use Rattle.std.specs.declared.sync.ledger.Ledger.{Ghosts}
use denote.Param.Weighed.{most}
use Rattle.rd_list.specs.Entries.{list_size}
use Rattle.rd_merge.specs.PlanView.{steps_seen}
use Rattle.rd_merge.specs.declared.plan.Step.{Step}
use Rattle.rd_merge.specs.declared.plan.Step.TheVariants.{Leaf, Group}
use Rattle.rd_merge.specs.declared.plan.Plan.TheDeep.{deep-Step}

pub most_le-steps_seen : {A : Type 0} (l : Ghosts A) (es : List (Step A)) → most (deep-Step A l) es ≤ list_size (steps_seen es)
most_le-steps_seen l [] = omega arith
most_le-steps_seen l (Leaf i ∷ rest) = omega (arith, most_le-steps_seen l rest)
most_le-steps_seen l (Group o n plan ∷ rest) = omega (arith, most_le-steps_seen l rest)
