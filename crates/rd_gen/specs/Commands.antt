-- The commands of a generated script. Which they are is this project's own choice.
use Rattle.std.specs.Prelude.{ℕ, zero, suc, ◌%◌, ◌==◌, if◌then◌else◌, List, [], ◌∷◌, ◌++◌, Some, None}
use Rattle.rd_style.specs.declared.styles.StyleChange.{StyleChange}
use Rattle.rd_style.specs.declared.kinds.Visibility.TheVariants as visibility
use Rattle.rd_style.specs.Changes.{plain, nothing_named}
use Rattle.rd_edits.specs.declared.edit.Edit.{Edit}
use Rattle.rd_edits.specs.declared.edit.Edit.TheVariants.{Insert, Remove, Move, SetStyle, SetRect, Shift}
use Rattle.rd_scene.specs.declared.script.Command.{Command}
use Rattle.rd_scene.specs.declared.script.Command.TheVariants.{Change, Paint}
use Rattle.rd_gen.specs.Draws.{Drawing, below, below_less, give, ◌>>=◌}
use Rattle.rd_gen.specs.Names.{box_id, new_id}
use Rattle.rd_gen.specs.Values.{rectangle, color, z_index, opacity}

-- a background by the colour draws
unfoldable pub background_change : Drawing StyleChange
background_change = do
  c ← color
  give (record nothing_named { background = Some c })

-- a z-index
unfoldable pub z_change : Drawing StyleChange
z_change = do
  z ← z_index
  give (record nothing_named { z = Some (Some z) })

-- an opacity
unfoldable pub opacity_change : Drawing StyleChange
opacity_change = do
  v ← opacity 192
  give (record nothing_named { opacity = Some v })

-- hidden one time of two
unfoldable pub visibility_change : Drawing StyleChange
visibility_change = do
  v ← below 2
  give (record nothing_named { visibility = Some (if v == 0 then visibility.Hidden else visibility.Visible) })

-- the style of the box t by these draws
abbrev pub restyled : ℕ → Drawing StyleChange → Drawing Edit
restyled t changing = changing >>= λ c. give (SetStyle (box_id t) c)

-- the box t to another rectangle
unfoldable pub placed : ℕ → Drawing Edit
placed t = do
  r ← rectangle
  give (SetRect (box_id t) r)

-- the box t up to 16 pixels away, each way
unfoldable pub shifted : ℕ → Drawing Edit
shifted t = do
  dx ← below_less 33 16
  dy ← below_less 33 16
  give (Shift (box_id t) dx dy)

-- the box t to be the last child of one of the first boxes, of which there are so many
unfoldable pub moved : ℕ → ℕ → Drawing Edit
moved boxes t = do
  under ← below boxes
  give (Move (box_id t) (box_id under) None)

-- the new box of the edit j, the last child of the box t
unfoldable pub inserted : ℕ → ℕ → Drawing Edit
inserted j t = do
  r ← rectangle
  c ← color
  give (Insert (new_id j) (box_id t) None r (record plain { background = c }))

-- the box t away, one time of eight; and else its visibility
unfoldable pub removed_or_not : ℕ → Drawing Edit
removed_or_not t = do
  v ← below 8
  if v == 0 then give (Remove (box_id t)) else restyled t visibility_change

-- the edit j, of the kind below 8, at the box t
unfoldable pub edit_by : ℕ → ℕ → ℕ → ℕ → Drawing Edit
edit_by boxes j t kind =
    if kind == 0 then restyled t background_change else
    if kind == 1 then placed t else
    if kind == 2 then shifted t else
    if kind == 3 then moved boxes t else
    if kind == 4 then restyled t z_change else
    if kind == 5 then restyled t opacity_change else
    if kind == 6 then inserted j t else
    removed_or_not t

-- the edit j, where there are so many boxes
unfoldable pub edit : ℕ → ℕ → Drawing Edit
edit boxes j = do
  t ← below boxes
  kind ← below 8
  edit_by boxes j t kind

-- a paint after each tenth edit
abbrev pub paint_after : ℕ → List Command
paint_after j = if j % 10 == 9 then Paint ∷ [] else []

-- a paint, and then so many edits
unfoldable pub commands : ℕ → ℕ → Drawing (List Command)
commands boxes zero = give (Paint ∷ [])
commands boxes (suc j) = do
  before ← commands boxes j
  e ← edit boxes j
  give (before ++ (Change e ∷ paint_after j))
