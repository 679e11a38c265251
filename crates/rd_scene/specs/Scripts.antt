-- Scripts: what they are, and what a JSON value says as one. The limits and the form are this project's own choice.
use Rattle.std.specs.Prelude.{◌≡◌, ◌≤◌, ℕ, ℤ, pos, int_le, ⊤, true, if◌then◌else◌, List, [], ◌∷◌, length, All, codes, Option}
use Rattle.serde_json.specs.Data.{Data, Members}
use Rattle.rd_geom.specs.declared.rect.Size.{Size}
use Rattle.rd_geom.specs.Canvas.{IsCanvas}
use Rattle.rd_style.specs.Limits.{Fits, FitsRect}
use Rattle.rd_tree.specs.Figures.{max_boxes}
use Rattle.rd_scene.specs.Figures.{max_commands}
use Rattle.rd_scene.specs.declared.script.SceneBox.{SceneBox}
use Rattle.rd_scene.specs.declared.script.Command.{Command}
use Rattle.rd_scene.specs.declared.version.Version.{Version}
use Rattle.rd_scene.specs.declared.version.Version.TheVariants.{One, Two}
use Rattle.rd_scene.specs.declared.fault.Why.{Why}
use Rattle.rd_scene.specs.declared.fault.Place.TheVariants as place
use Rattle.rd_scene.specs.Checked.{Checked, faults, value, good, ◌⊛◌, ◌>>=◌}
use Rattle.rd_scene.specs.Members.{members, known, needed, number, elements_at, count, counted}
use Rattle.rd_scene.specs.Places.{FormFault, at}
use Rattle.rd_scene.specs.Rects.{canvas_of}
use Rattle.rd_scene.specs.Boxes.{boxes_from}
use Rattle.rd_scene.specs.Order.{are_in_order}
use Rattle.rd_scene.specs.Commands.{commands_from, FitsCommand}
use Rattle.rd_scene.specs.Versions.{number_of, HasBox, HasCommand}

-- the number of its version, a canvas, its boxes in the order of the text, and what is done to them
pub record Script : Type 0 where
  pub version : ℕ
  pub canvas : Size
  pub boxes : List SceneBox
  pub commands : List Command

-- a box whose rectangle and widths are within the limits
pub record FitsBox (b : SceneBox) : Type 0 where
  pub rect : FitsRect b.rect
  pub style : Fits b.style

-- a script of version 1 or 2, which has all its boxes and commands
unfoldable pub IsOfVersion : Script → Type 0
IsOfVersion s =
    (1 ≤ s.version) × (s.version ≤ 2) × All (HasBox s.version) s.boxes × All (HasCommand s.version) s.commands

-- the rules that every script keeps
pub record IsScript (s : Script) : Type 0 where
  pub version : IsOfVersion s
  pub canvas : IsCanvas s.canvas
  pub some : 1 ≤ length s.boxes
  pub most : length s.boxes ≤ max_boxes
  pub order : are_in_order [] s.boxes ≡ true
  pub boxes : All FitsBox s.boxes
  pub few : length s.commands ≤ max_commands
  pub commands : All FitsCommand s.commands

-- the boxes of a script object
abbrev pub boxes_at : Version → Data → Checked FormFault (List SceneBox)
boxes_at version d = at place.Top (elements_at (codes "boxes") d) >>= λ ds.
    good (λ _ boxes. boxes) ⊛ at place.Top (counted 1 max_boxes (count ds)) ⊛ boxes_from version 0 [] ds

-- the commands of a script object
abbrev pub commands_at : Version → Data → Checked FormFault (List Command)
commands_at version d = at place.Top (elements_at (codes "script") d) >>= λ ds.
    good (λ _ commands. commands) ⊛ at place.Top (counted 0 max_commands (count ds)) ⊛ commands_from version 0 ds

-- the canvas of a script object
abbrev pub canvas_at : Data → Checked FormFault Size
canvas_at d = at place.Top (needed (codes "canvas") d) >>= λ c. at place.Canvas (canvas_of c)

-- no other members than a script's
abbrev pub known_at : Members → Checked FormFault ⊤
known_at ms =
    at place.Top (known (codes "version" ∷ codes "canvas" ∷ codes "boxes" ∷ codes "script" ∷ []) ms)

-- the version of a number from 1 to 2
abbrev pub numbered : ℤ → Version
numbered z = if int_le z (pos 1) then One else Two

-- version 1 or 2
abbrev pub version_of : Data → Checked Why Version
version_of d = needed (codes "version") d >>= number (pos 1) (pos 2) >>= λ z. good (numbered z)

-- the version of a script object
abbrev pub version_at : Data → Checked FormFault Version
version_at d = at place.Top (version_of d)

-- what stands in a script object of this version
unfoldable pub script_at : Version → Data → Checked FormFault Script
script_at version d =
    good (λ canvas boxes commands.
    record { version = number_of version; canvas = canvas; boxes = boxes; commands = commands })
    ⊛ canvas_at d ⊛ boxes_at version d ⊛ commands_at version d

-- a script object; what is in it is read as its version has it
unfoldable pub reading_of : Data → Checked FormFault Script
reading_of d = at place.Top (members d) >>= λ ms.
    good (λ _ script. script) ⊛ known_at ms ⊛ (version_at d >>= λ version. script_at version d)

-- every rule of the format that the value breaks, in order
abbrev pub form_faults : Data → List FormFault
form_faults d = faults (reading_of d)

-- the script that the value is, where it breaks none
abbrev pub script_of : Data → Option Script
script_of d = value (reading_of d)
