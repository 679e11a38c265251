-- Leaves within edges.
use Rattle.std.specs.Prelude.{◌≡◌, ◌≤◌, ◌≤ℤ◌, ◌-ℤ◌, List, [], ◌∷◌}
use Rattle.rd_geom.specs.Plane.{Rectangle, right, bottom}
use Rattle.rd_keys.specs.Keys.{BoxKey}
use Rattle.rd_keys.specs.Ranges.{IsAmong}
use Rattle.rd_list.specs.declared.edges.Edges.{Edges}
use Rattle.rd_list.specs.declared.kept.Entry.{Entry}
use Rattle.rd_list.specs.declared.kept.Entry.TheVariants.{Leaf, Group}

-- a rectangle between edges
pub record IsBetween (e : Edges) (r : Rectangle) : Type 0 where
  pub from_left : e.left ≤ℤ r.x
  pub from_top : e.top ≤ℤ r.y
  pub to_right : right r ≤ℤ e.right
  pub to_bottom : bottom r ≤ℤ e.bottom

-- the second edges have all that the first have
pub record IsFurther (near far : Edges) : Type 0 where
  pub left : far.left ≤ℤ near.left
  pub top : far.top ≤ℤ near.top
  pub right : near.right ≤ℤ far.right
  pub bottom : near.bottom ≤ℤ far.bottom
  pub keys : (k : BoxKey) → IsAmong near.keys k → IsAmong far.keys k
  pub newest : near.newest ≤ far.newest

-- the rectangle between edges
pub record IsSpanned (e : Edges) (r : Rectangle) : Type 0 where
  pub x : r.x ≡ e.left
  pub y : r.y ≡ e.top
  pub w : r.w ≡ e.right -ℤ e.left
  pub h : r.h ≡ e.bottom -ℤ e.top

module _ {A : Type 0} where
  -- a leaf of which all that may be seen is between edges, whose box is among their names, and which was made by their newest or before
  abbrev pub IsInside : Edges → Entry A → Type 0
  IsInside e (Leaf i) = IsBetween e i.leaf.visible × IsAmong e.keys i.leaf.owner × (i.made_at ≤ e.newest)
  IsInside e (Group g) = ⊥

  -- leaves alone, each of them so
  abbrev pub AreInside : Edges → List (Entry A) → Type 0
  AreInside e [] = Unit {0}
  AreInside e (x ∷ xs) = IsInside e x × AreInside e xs
