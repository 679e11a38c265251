-- Boxes as a script writes them. The members are this project's own choice.
use Rattle.std.specs.Prelude.{ℕ, ◌+◌, Bool, nat_lt, if◌then◌else◌, List, [], ◌∷◌, codes, Option, Some, None, is_some, is_none, Ok, Err}
use Rattle.serde_json.specs.Data.{Data, Items, no_items, item}
use Rattle.serde_json.specs.Find.{as_null}
use Rattle.rd_tree.specs.Ids.{is_id}
use Rattle.rd_tree.specs.Figures.{max_depth}
use Rattle.rd_scene.specs.declared.fault.Why.{Why}
use Rattle.rd_scene.specs.declared.fault.Why.TheVariants as why
use Rattle.rd_scene.specs.declared.fault.Place.TheVariants as place
use Rattle.rd_scene.specs.declared.script.SceneBox.{SceneBox}
use Rattle.rd_scene.specs.declared.version.Version.{Version}
use Rattle.rd_scene.specs.Checked.{Checked, value, rule, good, ◌⊛◌, ◌>>=◌}
use Rattle.rd_scene.specs.Members.{there, holds, members, known, needed, string}
use Rattle.rd_scene.specs.Places.{FormFault, at}
use Rattle.rd_scene.specs.Rects.{rect_at}
use Rattle.rd_scene.specs.Styles.{style_at}
use Rattle.rd_scene.specs.Order.{depth_of, is_first}

-- a text that is an id, or this rule is broken
abbrev pub an_id : Why → List ℕ → Checked Why (List ℕ)
an_id w text = rule (if is_id text then Ok text else Err w)

-- a string that is an id
abbrev pub id_of : Data → Checked Why (List ℕ)
id_of d = string d >>= an_id why.Range

-- the id at a member
abbrev pub id_at : List ℕ → Data → Checked Why (List ℕ)
id_at name d = needed name d >>= id_of

-- the id of a box: that of none before, of which `depths` has the depths
unfoldable pub new_id : (List ℕ → Option ℕ) → List ℕ → Checked Why (List ℕ)
new_id depths text =
    an_id why.Range text >>= λ id. (holds why.Duplicate (is_none (depths id)) >>= λ _. good id)

-- the text at the member `id`
abbrev pub id_text : Data → Checked Why (List ℕ)
id_text d = needed (codes "id") d >>= string

-- `null` for no parent, or a string; one that is no id names no box
abbrev pub name_of : Data → Checked Why (Option (List ℕ))
name_of d = if is_some (as_null d) then good None else (string d >>= an_id why.Parent >>= λ id. good (Some id))

-- the name at the member `parent`
abbrev pub parent_name : Data → Checked Why (Option (List ℕ))
parent_name d = needed (codes "parent") d >>= name_of

-- the depth of a box with this parent: the first has none, and any other one a box before it, not too deep
unfoldable pub depth_under : Bool → (List ℕ → Option ℕ) → Option (List ℕ) → Checked Why ℕ
depth_under is_first depths None = rule (if is_first then Ok 1 else Err why.Parent)
depth_under is_first depths (Some p) =
    there why.Parent (depths p) >>= λ above. (holds why.Depth (nat_lt above max_depth) >>= λ _. good (above + 1))

-- a box object of this version after these boxes
unfoldable pub box_of : Version → Bool → (List ℕ → Option ℕ) → Data → Checked Why SceneBox
box_of version is_first depths d = members d >>= λ ms.
    good (λ _ id parent rect style. record { id = id; parent = parent; rect = rect; style = style })
    ⊛ known (codes "id" ∷ codes "parent" ∷ codes "rect" ∷ codes "style" ∷ []) ms
    ⊛ (id_text d >>= new_id depths)
    ⊛ (parent_name d >>= λ p. (depth_under is_first depths p >>= λ _. good p))
    ⊛ rect_at d
    ⊛ style_at version d

-- these boxes and the one that was read; one that breaks a rule is passed over
abbrev pub with_box : Option SceneBox → List SceneBox → List SceneBox
with_box None before = before
with_box (Some b) before = b ∷ before

-- the next box after these, the latest first
abbrev pub next_box : Version → List SceneBox → Data → Checked Why SceneBox
next_box version before d = box_of version (is_first before) (λ id. depth_of id before) d

-- the boxes of an array from the i-th on, after the boxes before
unfoldable pub boxes_from : Version → ℕ → List SceneBox → Items → Checked FormFault (List SceneBox)
boxes_from version i before no_items = good []
boxes_from version i before (item d ds) =
    good ◌∷◌ ⊛ at (place.Box i) (next_box version before d)
    ⊛ boxes_from version (i + 1) (with_box (value (next_box version before d)) before) ds
