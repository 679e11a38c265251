-- What a look at a box tells of where to go on. It is this project's own choice.
use Rattle.std.specs.Prelude.{◌≡◌, Option}
use Rattle.rd_keys.specs.Keys.{BoxKey, same_key}
use Rattle.rd_tree.specs.Forest.{empty, tree, head, starting_at, from_some}
use Rattle.rd_tree.specs.declared.node.Item.{Item}
use Rattle.rd_tree.specs.Document.{BoxForest, Document}
use Rattle.rd_stack.specs.Paths.{BoxData}
use Rattle.rd_stack.specs.Fresh.{box_data}
use Rattle.rd_stack.specs.declared.fresh.Visit.{Visit}

-- The boxes from k on begin with this box; then come those from its first child on, and those from its next sibling on.
pub record Onward (f : BoxForest) (k : BoxKey) (here : BoxData) (first_child next_sibling : Option BoxKey) : Type 0 where
  pub item : Item
  pub below : BoxForest
  pub rest : BoxForest
  pub is : starting_at same_key k f ≡ tree k item below rest
  pub data_is : here ≡ box_data k item
  pub child : from_some same_key first_child f ≡ below
  pub next : from_some same_key next_sibling f ≡ rest
  pub child_first : first_child ≡ head below
  pub next_first : next_sibling ≡ head rest

-- no box has this key
abbrev pub IsGone : BoxKey → Document → Type 0
IsGone k t = starting_at same_key k t.boxes ≡ empty

-- a visit tells of the box and of where to go on
abbrev pub IsVisited : BoxKey → Document → Visit → Type 0
IsVisited k t v = Onward t.boxes k v.here v.first_child v.next_sibling
