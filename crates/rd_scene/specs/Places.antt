-- Where in a script a rule is broken. Which places are told apart is this project's own choice.
use Rattle.std.specs.Prelude.{map, Ok, Err}
use Rattle.rd_scene.specs.declared.fault.Place.{Place}
use Rattle.rd_scene.specs.declared.fault.Why.{Why}
use Rattle.rd_scene.specs.Checked.{Checked, by_case}

-- a broken rule, and where
pub record FormFault : Type 0 where
  pub place : Place
  pub why : Why

-- the rules of what stands at a place
abbrev pub at : {A : Type 0} → Place → Checked Why A → Checked FormFault A
at p c = record {
  first = by_case Ok (λ w. Err (record { place = p; why = w })) c.first;
  later = map (λ w. record { place = p; why = w }) c.later;
}
