-- Boxes that are drawn elsewhere once what is handed to them has changed.
use Rattle.std.specs.Prelude.{◌+ℤ◌, ◌-ℤ◌, ◌||◌, Bool, if◌then◌else◌, List, Option, Some, None, option_map}
use Rattle.rd_geom.specs.Plane.{Rectangle, IsPlaced, no_pixels}
use Rattle.rd_keys.specs.Keys.{same_key}
use Rattle.rd_keys.specs.Arena.{Arena}
use Rattle.rd_tree.specs.declared.node.Node as inner
use Rattle.rd_tree.specs.declared.handed.ScrollSums.{ScrollSums}
use Rattle.rd_tree.specs.declared.scroll.Scroll.{Scroll}
use Rattle.rd_tree.specs.Forest.{empty, tree, has}
use Rattle.rd_tree.specs.Document.{BoxKey, Item, BoxForest}
use Rattle.rd_tree.specs.Changes.{with_rect}
use Rattle.rd_tree.specs.Internal.Links.{Node, with_item}
use Rattle.rd_tree.specs.Internal.Linked.{linked, Relinks}
use Rattle.rd_tree.specs.Internal.Handing.{offset_in, IsWithin}
use Rattle.rd_tree.specs.Internal.Hands.{hand_at, handed_to, passed}

-- where a box is drawn that was scrolled so far and is so far now
abbrev pub drawn_anew : Scroll → Scroll → Rectangle → Rectangle
drawn_anew old new r = record r { x = (r.x +ℤ old.x) -ℤ new.x; y = (r.y +ℤ old.y) -ℤ new.y }

-- a box to which the one was handed and the other is now
abbrev pub redrawn : ScrollSums → ScrollSums → Item → Item
redrawn old new d = with_rect (drawn_anew (offset_in old d.style.position) (offset_in new d.style.position) d.rect) d

-- the same, touched where that is asked for
abbrev pub redrawn_if : Bool → ScrollSums → ScrollSums → Item → Item
redrawn_if asked old new d = record (redrawn old new d) { touched = asked || d.touched }

-- a box that was scrolled so far and is so far now
abbrev pub drawn_far : Scroll → Scroll → Item → Item
drawn_far old new d = with_rect (drawn_anew old new d.rect) d

-- The box of the node can be drawn there.
abbrev pub DrawsAt : Scroll → Scroll → Option (Node BoxKey Item) → Type 0
DrawsAt old new None = Unit {0}
DrawsAt old new (Some n) = IsPlaced (drawn_anew old new n.item.rect)

-- where it is drawn
abbrev pub rect_far : Scroll → Scroll → Option (Node BoxKey Item) → Rectangle
rect_far old new None = no_pixels
rect_far old new (Some n) = drawn_anew old new n.item.rect

-- It can be drawn there.
pub record CanRedraw (old new : ScrollSums) (d : Item) : Type 0 where
  pub within : IsWithin 256 old
  pub placed : IsPlaced (redrawn old new d).rect

-- The same of the box of a node.
abbrev pub RedrawsAt : ScrollSums → ScrollSums → Option (Node BoxKey Item) → Type 0
RedrawsAt old new None = Unit {0}
RedrawsAt old new (Some n) = CanRedraw old new n.item

-- So each of these boxes can.
abbrev pub AllRedraw : List ScrollSums → ScrollSums → BoxForest → Type 0
AllRedraw rows h empty = Unit {0}
AllRedraw rows h (tree k d below rest) = CanRedraw (hand_at rows k) h d × AllRedraw rows (passed h d) below × AllRedraw rows h rest

-- with the items changed whose keys pass a test, each in its way
abbrev pub on_each_by : (BoxKey → Bool) → (BoxKey → Item → Item) → (BoxKey → Option (Node BoxKey Item)) → BoxKey → Option (Node BoxKey Item)
on_each_by p g at j = if p j then option_map (with_item (g j)) (at j) else at j

-- Each of these boxes is drawn anew, and touched where that is asked for.
abbrev pub Redraws : Bool → Arena inner.Node → Arena inner.Node → List ScrollSums → ScrollSums → BoxForest → Type 0
Redraws asked a b rows h f = Relinks a b (on_each_by (λ j. has same_key j f) (λ j. redrawn_if asked (hand_at rows j) (handed_to j h f)) (linked a))
