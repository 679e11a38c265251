-- The tree of a script. It is this project's own choice: each box in turn becomes the last child of its parent, touched.
use Rattle.std.specs.Prelude.{◌≡◌, List, [], ◌∷◌, Option, Some, None, option_and_then}
use Rattle.rd_tree.specs.Forest.{tree, empty}
use Rattle.rd_tree.specs.declared.node.Item.{Item}
use Rattle.rd_tree.specs.Document.{Document, BoxKey, BoxForest, IsNext, IsNextOf, named, with_taken}
use Rattle.rd_tree.specs.Changes.{insertion, new_item}
use Rattle.rd_tree.specs.Touching.{touch, edited}
use Rattle.rd_scene.specs.declared.script.SceneBox.{SceneBox}
use Rattle.rd_scene.specs.Scripts.{Script}

-- what a tree holds of a box
abbrev pub item_of : SceneBox → Item
item_of b = new_item b.id b.rect b.style

-- the box of the tree that is its parent
abbrev pub parent_in : BoxForest → SceneBox → Option BoxKey
parent_in boxes b = option_and_then (λ p. named p boxes) b.parent

-- this box alone, under the first key of all
pub record IsAlone (b : SceneBox) (t : Document) : Type 0 where
  pub first : IsNextOf [] t.root
  pub boxes : t.boxes ≡ tree t.root (touch (item_of b)) empty empty
  pub slots : t.slots ≡ with_taken [] t.root

-- a box more, as the last child of its parent, under the next key of a slot
pub record Adds (b : SceneBox) (old new : Document) : Type 0 where
  pub parent : BoxKey
  pub key : BoxKey
  pub parent_is : parent_in old.boxes b ≡ Some parent
  pub next : IsNext old key
  pub new_is : new ≡ edited (insertion parent None key (item_of b)) old

-- these boxes more, in turn
abbrev pub AddsAll : List SceneBox → Document → Document → Type 0
AddsAll [] old new = new ≡ old
AddsAll (b ∷ bs) old new = (t : Document) × Adds b old t × AddsAll bs t new

-- from the first box alone, all others are added
abbrev pub Grows : List SceneBox → Document → Document → Type 0
Grows [] root t = ⊥
Grows (b ∷ bs) root t = IsAlone b root × AddsAll bs root t

-- The tree has the script's canvas and its boxes.
abbrev pub Plants : Script → Document → Type 0
Plants s t = (root : Document) × (root.canvas ≡ s.canvas) × Grows s.boxes root t
