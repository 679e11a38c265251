-- What looks at boxes tell.
use Rattle.std.specs.Prelude.{◌≡◌, ℕ, List, Option, Some, option_and_then}
use Rattle.std.specs.Str.{bytes_eq}
use Rattle.rd_keys.specs.Keys.{BoxKey, same_key}
use Rattle.rd_tree.specs.declared.node.Item.{Item}
use Rattle.rd_tree.specs.Forest.{tree, head, starting_at, from_some}
use Rattle.rd_tree.specs.Document.{Document, BoxForest, named, id_of}
use Rattle.rd_tree.specs.Places.{parent_of}
use Rattle.rd_tree.specs.ByIds.{named_tree}
use Rattle.rd_undo.specs.declared.visit.Visit.{Visit}
use Rattle.rd_undo.specs.declared.visit.Stand.{Stand}

-- The boxes from k on begin with this box; then come those from its first child on, and those from its next sibling on.
pub record IsVisited (k : BoxKey) (f : BoxForest) (v : Visit) : Type 0 where
  pub item : Item
  pub below : BoxForest
  pub rest : BoxForest
  pub is : starting_at same_key k f ≡ tree k item below rest
  pub id_is : v.id.now ≡ item.id
  pub rect_is : v.rect ≡ item.rect
  pub style_is : v.style ≡ item.style
  pub scroll_is : v.scroll ≡ item.scroll
  pub child : from_some same_key v.first_child f ≡ below
  pub next : from_some same_key v.next_sibling f ≡ rest
  pub child_first : v.first_child ≡ head below
  pub next_first : v.next_sibling ≡ head rest

-- The box with this id is visited, and so is its place.
pub record IsStand (i : List ℕ) (t : Document) (s : Stand) : Type 0 where
  pub key : BoxKey
  pub named_is : named i t.boxes ≡ Some key
  pub visited : IsVisited key t.boxes s.visit
  pub parent_is : parent_of bytes_eq i (named_tree t) ≡ Some s.parent.now

-- the id of a sibling, where there is one
abbrev pub id_from : Option BoxKey → Document → Option (List ℕ)
id_from o t = option_and_then (λ k. id_of k t.boxes) o
