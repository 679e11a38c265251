use Rattle.std.proofs.Common.{Result, subst}
use Rattle.serde_json.specs.View.{view}
use Rattle.rd_scene.specs.declared.fault.SceneFault.{SceneFault}
use Rattle.rd_scene.specs.Scripts.{Script, reading_of}
use Rattle.rd_scene.specs.Internal.Gives.{GivesAt}
use Rattle.rd_scene.proofs.Firsts.{first_fault}
use Rattle.rd_scene.proofs.reader.read.Goals as goal

pub returns-clause-form : goal.returns-clause-form
returns-clause-form c = λ p w e. (
  view c.in_ok-value.value,
  (reading_of (view c.in_ok-value.value)).later,
  c.in_ok-value.ensures.value,
  first_fault (reading_of (view c.in_ok-value.value)) (record { place = p; why = w }) (subst (λ (r : Result Script SceneFault). GivesAt (λ s. s) r (reading_of (view c.in_ok-value.value)).first) e c.script_of.ensures),
)
