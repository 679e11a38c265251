-- The steps in which a list of boxes is read.
use Rattle.std.specs.Prelude.{◌≡◌, ℕ, Bool, if◌then◌else◌, List, Option, Some, None, Ok, bytes_eq}
use Rattle.std.specs.Borrow.{Bor}
use Rattle.indexmap.specs.IndexMap.{IndexMap, get_by}
use Rattle.rd_geom.specs.Plane.{Rectangle}
use Rattle.rd_style.specs.declared.styles.Style.{Style}
use Rattle.rd_scene.specs.declared.script.SceneBox.{SceneBox}
use Rattle.serde_json.specs.Data.{Data}
use Rattle.rd_scene.specs.declared.fault.Why.{Why}
use Rattle.rd_scene.specs.Checked.{Checked, good, ◌⊛◌, ◌>>=◌}
use Rattle.rd_scene.specs.Boxes.{new_id, parent_name, depth_under}

-- the depth that a map has of an id
unfoldable pub told : {S : Type 0} → IndexMap (Bor (List ℕ)) ℕ S → List ℕ → Option ℕ
told depths id = get_by (λ k. bytes_eq id k.now) depths

-- a box of these names, this rectangle and this style
abbrev pub box_named : List ℕ → Option (List ℕ) → Rectangle → Style → SceneBox
box_named id parent rect style = record { id = id; parent = parent; rect = rect; style = style }

-- what is named of a box with this id, after boxes of which `depths` has the depths
abbrev pub names_after : Bool → (List ℕ → Option ℕ) → List ℕ → Data → Checked Why (Rectangle → Style → SceneBox)
names_after is_first depths text d =
    good box_named
    ⊛ new_id depths text
    ⊛ (parent_name d >>= λ p. (depth_under is_first depths p >>= λ _. good p))

-- No box before has the id of the box, and the depths after are those before and that of the box, as deep as it may
-- stand.
pub record IsNoted (is_first : Bool) (b : SceneBox) (old new : List ℕ → Option ℕ) : Type 0 where
  pub depth : ℕ
  pub fresh : old b.id ≡ None
  pub stands : (depth_under is_first old b.parent).first ≡ Ok depth
  pub noted : (id : List ℕ) → new id ≡ (if bytes_eq b.id id then Some depth else old id)
