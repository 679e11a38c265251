-- Commands as a script writes them. They are this project's own choice.
use Rattle.std.specs.Prelude.{ℕ, ◌+◌, ℤ, pos, ◌-ℤ◌, if◌then◌else◌, List, ◌∷◌, codes, bytes_eq, IsTrue, Err, []}
use Rattle.serde_json.specs.Data.{Data, Members, Items, no_items, item}
use Rattle.rd_style.specs.Figures.{max_coordinate}
use Rattle.rd_style.specs.Limits.{is_between}
use Rattle.rd_scene.specs.declared.fault.Why.{Why}
use Rattle.rd_scene.specs.declared.fault.Why.TheVariants as why
use Rattle.rd_scene.specs.declared.fault.Place.TheVariants as place
use Rattle.rd_scene.specs.declared.script.Command.{Command}
use Rattle.rd_scene.specs.declared.script.Command.TheVariants.{Change, Paint, Hit, Pixel, Dump, Shot, Undo}
use Rattle.rd_scene.specs.declared.version.Version.{Version}
use Rattle.rd_scene.specs.declared.version.Version.TheVariants.{One, Two}
use Rattle.rd_scene.specs.Checked.{Checked, rule, good, ◌⊛◌, ◌>>=◌}
use Rattle.rd_scene.specs.Members.{members, known, needed, string, number}
use Rattle.rd_scene.specs.Places.{FormFault, at}
use Rattle.rd_scene.specs.Edits.{edit_named, FitsEdit}

-- a command that has no other member
abbrev pub alone : Command → Members → Checked Why Command
alone c ms = good (λ _. c) ⊛ known (codes "do" ∷ []) ms

-- `undo` has no other member; version 1 has no such command
unfoldable pub undo_of : Version → Members → Checked Why Command
undo_of One ms = rule (Err why.Command)
undo_of Two ms = alone Undo ms

-- a column or a row of a pixel
unfoldable pub pixel_at : List ℕ → Data → Checked Why ℤ
pixel_at name d = needed name d >>= number (pos 0 -ℤ max_coordinate) max_coordinate

-- `hit` and `pixel` have a column and a row
unfoldable pub at_pixel : (ℤ → ℤ → Command) → Members → Data → Checked Why Command
at_pixel c ms d =
    good (λ _ x y. c x y)
    ⊛ known (codes "do" ∷ codes "x" ∷ codes "y" ∷ []) ms
    ⊛ pixel_at (codes "x") d
    ⊛ pixel_at (codes "y") d

-- the words of commands; any other one is that of an edit
unfoldable pub command_named : Version → List ℕ → Members → Data → Checked Why Command
command_named version w ms d =
    if bytes_eq w (codes "paint") then alone Paint ms else
    if bytes_eq w (codes "hit") then at_pixel Hit ms d else
    if bytes_eq w (codes "pixel") then at_pixel Pixel ms d else
    if bytes_eq w (codes "dump") then alone Dump ms else
    if bytes_eq w (codes "shot") then alone Shot ms else
    if bytes_eq w (codes "undo") then undo_of version ms else (edit_named version w ms d >>= λ e. good (Change e))

-- the word at the member `do`
abbrev pub word_at : Data → Checked Why (List ℕ)
word_at d = needed (codes "do") d >>= string

-- an object whose member `do` names the command
unfoldable pub command_of : Version → Data → Checked Why Command
command_of version d = members d >>= λ ms. (word_at d >>= λ w. command_named version w ms d)

-- the commands of an array from the i-th on
unfoldable pub commands_from : Version → ℕ → Items → Checked FormFault (List Command)
commands_from version i no_items = good []
commands_from version i (item d ds) =
    good ◌∷◌ ⊛ at (place.Command i) (command_of version d) ⊛ commands_from version (i + 1) ds

-- may a pixel be asked for there?
abbrev pub IsPixel : ℤ → ℤ → Type 0
IsPixel x y =
    IsTrue (is_between (pos 0 -ℤ max_coordinate) x max_coordinate) × IsTrue (is_between (pos 0 -ℤ max_coordinate) y max_coordinate)

-- What a command names is within the limits.
abbrev pub FitsCommand : Command → Type 0
FitsCommand (Change e) = FitsEdit e
FitsCommand Paint = Unit {0}
FitsCommand (Hit x y) = IsPixel x y
FitsCommand (Pixel x y) = IsPixel x y
FitsCommand Dump = Unit {0}
FitsCommand Shot = Unit {0}
FitsCommand Undo = Unit {0}
