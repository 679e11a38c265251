-- What a look at a box tells of the next looks.
use Rattle.std.specs.Prelude.{◌≡◌, Option}
use Rattle.rd_geom.specs.Plane.{Rectangle}
use Rattle.rd_keys.specs.Keys.{BoxKey, same_key}
use Rattle.rd_tree.specs.Forest.{tree, starting_at, from_some, head}
use Rattle.rd_tree.specs.declared.node.Item.{Item}
use Rattle.rd_tree.specs.Document.{BoxForest}
use Rattle.rd_stack.specs.Paths.{BoxData}
use Rattle.rd_stack.specs.Fresh.{box_data}
use Rattle.rd_partial.specs.Looks.{hull_at}
use Rattle.rd_tree.specs.declared.view.BoxView.{BoxView}
use Rattle.rd_partial.specs.declared.look.BoxLook.{BoxLook}

-- what a walk needs of a view
abbrev pub looked_of : BoxView → BoxLook
looked_of v = record {
  key = v.key;
  rect = v.at;
  style = v.style;
  first_child = v.first_child;
  next_sibling = v.next_sibling;
  hull = v.hull;
  touched = v.touched;
  touched_below = v.touched_below;
  blend_below = v.blend_below;
}

-- the box that a look shows
abbrev pub here_of : BoxLook → BoxData
here_of v = record { key = v.key; rect = v.rect; style = v.style.now }

-- The boxes from k on begin with this box; then come those from its first child on, and those from its next sibling on.
pub record Onward (f : BoxForest) (k : BoxKey) (here : BoxData) (first_child next_sibling : Option BoxKey) (hull : Rectangle) : Type 0 where
  pub item : Item
  pub below : BoxForest
  pub rest : BoxForest
  pub is : starting_at same_key k f ≡ tree k item below rest
  pub data_is : here ≡ box_data k item
  pub child : from_some same_key first_child f ≡ below
  pub next : from_some same_key next_sibling f ≡ rest
  pub child_first : first_child ≡ head below
  pub next_first : next_sibling ≡ head rest
  pub hull_is : hull ≡ hull_at item below
