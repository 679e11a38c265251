-- Leaves that hide all below them in a tile.
-- All of it is this project's own choice.
use Rattle.std.specs.Prelude.{◌≡◌, ℕ, ◌<◌, ◌⊎◌, ℤ, IsTrue, Option, Some, None}
use Rattle.rd_geom.specs.Plane.{Rectangle, holds_pixel}
use Rattle.rd_item.specs.declared.leaf.Leaf.{Leaf}
use Rattle.rd_item.specs.Leaves.{covers}
use Rattle.rd_list.specs.Wrappers.{Wrapper}
use Rattle.rd_list.specs.Entries.{Entries, nil, leaf, group}
use Rattle.rd_paint.specs.Parts.{entries_from}

-- the lowest entry of a list, where it is a leaf
abbrev pub lowest_leaf : Entries Wrapper Leaf → Option Leaf
lowest_leaf nil = None
lowest_leaf (leaf l rest) = Some l
lowest_leaf (group g inner rest) = None

-- a leaf is opaque and covers every pixel of a tile
pub record IsLid (tile : Rectangle) (l : Leaf) : Type 0 where
  pub opaque : l.color.a ≡ 255
  pub covers : (x y : ℤ) → IsTrue (holds_pixel tile x y) → IsTrue (covers l x y)

-- at place n outside groups stands such a leaf
pub record HasLid (tile : Rectangle) (list : Entries Wrapper Leaf) (n : ℕ) : Type 0 where
  pub leaf : Leaf
  pub stands : lowest_leaf (entries_from n list) ≡ Some leaf
  pub lid : IsLid tile leaf

-- n is the greatest place of such a leaf, or 0 where there is none
pub record IsCover (tile : Rectangle) (list : Entries Wrapper Leaf) (n : ℕ) : Type 0 where
  pub at : HasLid tile list n ⊎ (n ≡ 0)
  pub greatest : (i : ℕ) → n < i → HasLid tile list i → ⊥
