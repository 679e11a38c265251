-- What the readers inside give of a JSON value.
use Rattle.std.specs.Prelude.{◌≡◌, ℕ, List, map, Result, Ok, Err}
use Rattle.std.specs.Borrow.{Bor}
use Rattle.rd_scene.specs.declared.fault.Place.{Place}
use Rattle.rd_scene.specs.declared.fault.Why.{Why}
use Rattle.rd_scene.specs.declared.fault.Refusal.{Refusal}
use Rattle.rd_scene.specs.declared.fault.Refusal.TheVariants as refusal
use Rattle.rd_scene.specs.declared.fault.SceneFault.{SceneFault}
use Rattle.rd_scene.specs.declared.fault.SceneFault.TheVariants.{NotJson, Form, NoMemory}
use Rattle.rd_scene.specs.Places.{FormFault}

-- A refusal of a value that is at hand: its first broken rule, or out of memory.
abbrev pub Breaks : {X : Type 0} → Refusal → Result X Why → Type 0
Breaks (refusal.Rule why) read = read ≡ Err why
Breaks refusal.NoMemory read = Unit {0}

-- the value that the grammar gives, its first broken rule, or out of memory
abbrev pub Gives : {X Y : Type 0} → (X → Y) → Result X Refusal → Result Y Why → Type 0
Gives seen (Ok x) read = read ≡ Ok (seen x)
Gives seen (Err e) read = Breaks e read

-- the same with the place of the broken rule
abbrev pub BreaksAt : {X : Type 0} → SceneFault → Result X FormFault → Type 0
BreaksAt (Form place why) read = read ≡ Err (record { place = place; why = why })
BreaksAt NotJson read = ⊥
BreaksAt NoMemory read = Unit {0}

-- the value, its first broken rule with its place, or out of memory
abbrev pub GivesAt : {X Y : Type 0} → (X → Y) → Result X SceneFault → Result Y FormFault → Type 0
GivesAt seen (Ok x) read = read ≡ Ok (seen x)
GivesAt seen (Err e) read = BreaksAt e read

-- the bytes behind references
abbrev pub texts : List (Bor (List ℕ)) → List (List ℕ)
texts ws = map (λ w. w.now) ws

-- a refusal at its place
abbrev pub fault_at : Place → Refusal → SceneFault
fault_at place (refusal.Rule why) = Form place why
fault_at place refusal.NoMemory = NoMemory
