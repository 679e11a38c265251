-- Plans written as tokens, so that proofs can tell them apart.
use Rattle.std.specs.Prelude.{refl, ℕ, Bool, Option}
use Rattle.std.specs.Coded.{Coded, code_by, coded×, coded_ℕ, coded_bool, coded_option}
use Rattle.rd_keys.specs.declared.entry.EntryKey.{EntryKey}
use Rattle.rd_graph.specs.Patches.{PatchOf}
use Rattle.rd_list.specs.Internal.EntriesCode.{entries_code}
use Rattle.rd_merge.specs.Plans.{GroupStep, Steps, PlanList}

abbrev pub group_code : Coded (PatchOf EntryKey) → Coded GroupStep
group_code p =
    code_by (Option ℕ × (Bool × PatchOf EntryKey)) (coded× (coded_option coded_ℕ) (coded× coded_bool p)) (λ g. (g.old, (g.is_new, g.patch)))
    (λ t. record { old = t.0; is_new = t.1.0; patch = t.1.1 }) (λ _. refl)

abbrev pub plan_code : Coded (PatchOf EntryKey) → Coded PlanList
plan_code p =
    code_by (PatchOf EntryKey × Steps) (coded× p (entries_code (coded_option coded_ℕ) (group_code p))) (λ l. (l.patch, l.steps)) (λ t. record { patch = t.0; steps = t.1 }) (λ _. refl)
