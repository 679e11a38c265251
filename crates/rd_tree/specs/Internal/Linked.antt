-- An arena of nodes that are linked as a forest.
use Rattle.std.specs.Prelude.{◌≡◌, ℕ, ◌≤◌, Bool, true, List, map, Option, Some, None, option_map, is_some, if◌then◌else◌}
use Rattle.std.specs.HashMap.{HashMap, get_by_text}
use Rattle.std.specs.Prelude.{String}
use Rattle.std.specs.Str.{bytes_eq}
use Rattle.rd_keys.specs.Keys.{same_key}
use Rattle.rd_keys.specs.Arena as inner_slot
use Rattle.rd_keys.specs.Arena.{Arena, value, live, occupied, is_taken}
use Rattle.rd_tree.specs.Figures.{max_boxes}
use Rattle.rd_tree.specs.declared.node.Node as inner
use Rattle.rd_tree.specs.Forest.{size, has, IsApart}
use Rattle.rd_tree.specs.Internal.Links.{Node, Stands, read}
use Rattle.rd_tree.specs.Document.{BoxKey, Item, BoxForest, Slot}
use Rattle.rd_tree.specs.Ids.{is_id}
use Rattle.rd_style.specs.Limits.{Fits}
use Rattle.rd_tree.specs.Limits.{IsNear}
use Rattle.rd_tree.specs.declared.table.row.Summary.{Summary}
use Rattle.rd_tree.specs.Shown.{Shown}

abbrev pub plain : inner.Node → Node BoxKey Item
plain n = record {
  item = n.item;
  up = n.links.up;
  prev = n.links.prev;
  first = n.links.first;
  last = n.links.last;
  next = n.links.next;
}

abbrev pub linked : Arena inner.Node → BoxKey → Option (Node BoxKey Item)
linked a k = option_map plain (value a k.slot k.generation)

-- the slots without what they hold
abbrev pub mark_of : inner_slot.Slot inner.Node → Slot
mark_of y = record { generation = y.generation; taken = is_taken y }

abbrev pub marks : Arena inner.Node → List Slot
marks a = map mark_of a.slots

-- The nodes are linked so, under the same keys.
pub record Relinks (old new : Arena inner.Node) (at : BoxKey → Option (Node BoxKey Item)) :
    Type 0 where
  pub links : (j : BoxKey) → linked new j ≡ at j
  pub same_slots : marks new ≡ marks old
  pub same_live : live new ≡ live old
  pub limit : new.limit ≡ old.limit
  pub first : new.first ≡ old.first

-- The nodes are linked as this forest, and no box is outside it.
pub record IsLinked (a : Arena inner.Node) (root : BoxKey) (f : BoxForest) : Type 0 where
  pub stands : Stands (linked a) None None f (Some root) (Some root) None
  pub apart : IsApart same_key f
  pub inside : (k : BoxKey) → is_some (linked a k) ≡ true → has same_key k f ≡ true
  pub counted : size f ≡ live a

pub record IsTree (a : Arena inner.Node) (root : BoxKey) : Type 0 where
  pub boxes : BoxForest
  pub is : IsLinked a root boxes
  pub most : occupied a ≤ a.limit

-- the item under a key
abbrev pub item_at : Arena inner.Node → BoxKey → Option Item
item_at a k = option_map (λ n. n.item) (linked a k)

-- Each item has an id, and the index has its key under it, and no other.
pub record IsIndexed {Y S : Type 0} (at : BoxKey → Option Item) (ids : HashMap
    (String Y) BoxKey S) : Type 0 where
  pub named : (k : BoxKey) (d : Item) → at k ≡ Some d → get_by_text ids d.id ≡ Some k
  pub live : (i : List ℕ) (k : BoxKey) → get_by_text ids i ≡ Some k → option_map (λ d. d.id)
      (at k) ≡ Some i
  pub are : (k : BoxKey) (d : Item) → at k ≡ Some d → is_id d.id ≡ true

-- The text is an id, under which the new index has k, and all else is as it was.
abbrev pub AddsText : {Y S : Type 0} → List ℕ → BoxKey → HashMap (String Y) BoxKey S
    → HashMap (String Y) BoxKey S → Type 0
AddsText i k old new = (is_id i ≡ true) × ((j : List ℕ) → get_by_text new j ≡ (if bytes_eq
    i j then Some k else get_by_text old j))

abbrev pub EachFits : (BoxKey → Option Item) → Type 0
EachFits at = (k : BoxKey) (d : Item) → at k ≡ Some d → IsNear d.rect × Fits d.style

-- What the nodes, the root and the index of a tree always keep.
pub record IsConsistent {Y S : Type 0} (a : Arena inner.Node) (root : BoxKey) (ids : HashMap
    (String Y) BoxKey S) : Type 0 where
  pub tree : IsTree a root
  pub indexed : IsIndexed (item_at a) ids
  pub fits : EachFits (item_at a)
  pub limit : a.limit ≡ max_boxes
  pub first : a.first ≡ 0

abbrev pub seen : Arena inner.Node → BoxKey → BoxForest
seen a root = read a.limit (linked a) (Some root)

-- what a node and its row show of its box, which is the root or not and has a blended layer below it or not
abbrev pub shown_of : BoxKey → Bool → inner.Node → Summary → Bool → Shown
shown_of k is_root n row blend =
    record {
      key = k;
      at = n.item.rect;
      scroll = n.item.scroll;
      style = n.item.style;
      is_root = is_root;
      children = row.children;
      first_child = n.links.first;
      next_sibling = n.links.next;
      hull = row.hull;
      touched = n.item.touched;
      touched_below = row.touched;
      blend_below = blend;
    }

-- the boxes that the links tell from one on: it, those below it, and its later siblings with theirs
abbrev pub seen_from : Arena inner.Node → Option BoxKey → BoxForest
seen_from a first = read a.limit (linked a) first

-- From this one on the links stand for boxes.
pub record IsRead (a : Arena inner.Node) (first : Option BoxKey) : Type 0 where
  pub boxes : BoxForest
  pub up : Option BoxKey
  pub prev : Option BoxKey
  pub last : Option BoxKey
  pub stands : Stands (linked a) up prev boxes first last None
  pub apart : IsApart same_key boxes
  pub small : size boxes ≤ a.limit
