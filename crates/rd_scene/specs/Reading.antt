-- What a reader gives of a JSON value.
use Rattle.std.specs.Prelude.{◌≡◌, ℕ, List, [], ◌∷◌, Some, IsUtf8}
use Rattle.serde_json.specs.Data.{Data}
use Rattle.serde_json.specs.Read.{read}
use Rattle.rd_scene.specs.declared.fault.Place.{Place}
use Rattle.rd_scene.specs.declared.fault.Why.{Why}
use Rattle.rd_scene.specs.Places.{FormFault}
use Rattle.rd_scene.specs.Scripts.{Script, form_faults, script_of}

-- RFC 8259 section 8.1: the bytes are JSON in UTF-8, with this value
abbrev pub Reads : List ℕ → Data → Type 0
Reads bytes d = IsUtf8 bytes × (read bytes ≡ Some d)

-- no value at all
abbrev pub HasNoReading : List ℕ → Type 0
HasNoReading bytes = (d : Data) → Reads bytes d → ⊥

-- the bytes are JSON, and their value breaks no rule and is this script
abbrev pub IsScriptText : List ℕ → Script → Type 0
IsScriptText bytes s = (d : Data) × Reads bytes d × (form_faults d ≡ []) × (script_of d ≡ Some s)

-- the bytes are JSON, and this is the first rule of the format that their value breaks
abbrev pub IsOffForm : List ℕ → Place → Why → Type 0
IsOffForm bytes place why =
    (d : Data) × (more : List FormFault) × Reads bytes d × (form_faults d ≡ record { place = place; why = why } ∷ more)
