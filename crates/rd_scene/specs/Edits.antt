-- Edits as a script writes them. Their members are this project's own choice.
use Rattle.std.specs.Prelude.{ℕ, ℤ, pos, ◌-ℤ◌, if◌then◌else◌, List, [], ◌∷◌, codes, bytes_eq, Option, Some, None, IsTrue, is_some, Err}
use Rattle.serde_json.specs.Data.{Data, Members}
use Rattle.serde_json.specs.Find.{get, as_null}
use Rattle.rd_style.specs.Limits.{is_between, FitsRect, Fits}
use Rattle.rd_style.specs.declared.styles.StyleChange.{StyleChange}
use Rattle.rd_style.specs.Changes.{plain, changed}
use Rattle.rd_edits.specs.declared.edit.Edit.{Edit}
use Rattle.rd_edits.specs.declared.edit.Edit.TheVariants.{Insert, Remove, Move, SetStyle, SetRect, Shift, Scroll}
use Rattle.rd_scene.specs.declared.fault.Why.{Why}
use Rattle.rd_scene.specs.declared.fault.Why.TheVariants as why
use Rattle.rd_scene.specs.Figures.{max_distance}
use Rattle.rd_scene.specs.declared.version.Version.{Version}
use Rattle.rd_scene.specs.declared.version.Version.TheVariants.{One, Two}
use Rattle.rd_scene.specs.Checked.{Checked, rule, good, ◌⊛◌, ◌>>=◌}
use Rattle.rd_scene.specs.Members.{known, needed, number}
use Rattle.rd_scene.specs.Rects.{rect_at}
use Rattle.rd_scene.specs.Styles.{change_of, style_at}
use Rattle.rd_scene.specs.Boxes.{id_of, id_at}

-- `null` for none, or an id
abbrev pub id_or_null : Data → Checked Why (Option (List ℕ))
id_or_null d = if is_some (as_null d) then good None else (id_of d >>= λ w. good (Some w))

-- the box to stand before; none where the member is absent
abbrev pub before_of : Option Data → Checked Why (Option (List ℕ))
before_of None = good None
before_of (Some d) = id_or_null d

-- the box to stand before, at its member
abbrev pub before_at : Data → Checked Why (Option (List ℕ))
before_at d = before_of (get (codes "before") d)

-- `insert` has an id, a parent, perhaps a box to stand before, a rectangle and perhaps a style
unfoldable pub insert_of : Version → Members → Data → Checked Why Edit
insert_of version ms d =
    good (λ _ id parent before rect style. Insert id parent before rect style)
    ⊛ known (codes "do" ∷ codes "id" ∷ codes "parent" ∷ codes "before" ∷ codes "rect" ∷ codes "style" ∷ []) ms
    ⊛ id_at (codes "id") d
    ⊛ id_at (codes "parent") d
    ⊛ before_at d
    ⊛ rect_at d
    ⊛ style_at version d

-- `remove` has an id
unfoldable pub remove_of : Members → Data → Checked Why Edit
remove_of ms d =
    good (λ _ id. Remove id) ⊛ known (codes "do" ∷ codes "id" ∷ []) ms ⊛ id_at (codes "id") d

-- `move` has an id, a parent and perhaps a box to stand before
unfoldable pub move_of : Members → Data → Checked Why Edit
move_of ms d =
    good (λ _ id parent before. Move id parent before)
    ⊛ known (codes "do" ∷ codes "id" ∷ codes "parent" ∷ codes "before" ∷ []) ms
    ⊛ id_at (codes "id") d
    ⊛ id_at (codes "parent") d
    ⊛ before_at d

-- the members of a style, at its member
abbrev pub change_at : Version → Data → Checked Why StyleChange
change_at version d = needed (codes "style") d >>= change_of version

-- `style` has an id and the members of the style that are named
unfoldable pub set_style_of : Version → Members → Data → Checked Why Edit
set_style_of version ms d =
    good (λ _ id change. SetStyle id change)
    ⊛ known (codes "do" ∷ codes "id" ∷ codes "style" ∷ []) ms
    ⊛ id_at (codes "id") d
    ⊛ change_at version d

-- `rect` has an id and a rectangle
unfoldable pub set_rect_of : Members → Data → Checked Why Edit
set_rect_of ms d =
    good (λ _ id rect. SetRect id rect)
    ⊛ known (codes "do" ∷ codes "id" ∷ codes "rect" ∷ []) ms
    ⊛ id_at (codes "id") d
    ⊛ rect_at d

-- how far a box may be shifted each way, or what it clips be scrolled
unfoldable pub distance_at : List ℕ → Data → Checked Why ℤ
distance_at name d = needed name d >>= number (pos 0 -ℤ max_distance) max_distance

-- `shift` has an id and two distances, right and down
unfoldable pub shift_of : Members → Data → Checked Why Edit
shift_of ms d =
    good (λ _ id dx dy. Shift id dx dy)
    ⊛ known (codes "do" ∷ codes "id" ∷ codes "dx" ∷ codes "dy" ∷ []) ms
    ⊛ id_at (codes "id") d
    ⊛ distance_at (codes "dx") d
    ⊛ distance_at (codes "dy") d

-- `scroll` has an id and two distances, how far what the box clips is scrolled to the right and down; version 1 has no such
-- command
unfoldable pub scroll_of : Version → Members → Data → Checked Why Edit
scroll_of One ms d = rule (Err why.Command)
scroll_of Two ms d =
    good (λ _ id x y. Scroll id x y)
    ⊛ known (codes "do" ∷ codes "id" ∷ codes "x" ∷ codes "y" ∷ []) ms
    ⊛ id_at (codes "id") d
    ⊛ distance_at (codes "x") d
    ⊛ distance_at (codes "y") d

-- the words of edits
unfoldable pub edit_named : Version → List ℕ → Members → Data → Checked Why Edit
edit_named version w ms d =
    if bytes_eq w (codes "insert") then insert_of version ms d else
    if bytes_eq w (codes "remove") then remove_of ms d else
    if bytes_eq w (codes "move") then move_of ms d else
    if bytes_eq w (codes "style") then set_style_of version ms d else
    if bytes_eq w (codes "rect") then set_rect_of ms d else
    if bytes_eq w (codes "shift") then shift_of ms d else
    if bytes_eq w (codes "scroll") then scroll_of version ms d else rule (Err why.Command)

-- The rectangle, the widths and the distances that an edit names are within the limits.
abbrev pub FitsEdit : Edit → Type 0
FitsEdit (Insert id parent before rect style) = FitsRect rect × Fits style
FitsEdit (Remove id) = Unit {0}
FitsEdit (Move id parent before) = Unit {0}
FitsEdit (SetStyle id change) = Fits (changed plain change)
FitsEdit (SetRect id rect) = FitsRect rect
FitsEdit (Shift id dx dy) =
    IsTrue (is_between (pos 0 -ℤ max_distance) dx max_distance) × IsTrue (is_between (pos 0 -ℤ max_distance) dy max_distance)
FitsEdit (Scroll id x y) =
    IsTrue (is_between (pos 0 -ℤ max_distance) x max_distance) × IsTrue (is_between (pos 0 -ℤ max_distance) y max_distance)
