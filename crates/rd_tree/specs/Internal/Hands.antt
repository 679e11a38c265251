-- What a table has of what is handed to each box.
use Rattle.std.specs.Prelude.{◌≡◌, ℕ, ◌+◌, ◌<◌, ◌≤◌, ◌==◌, true, false, if◌then◌else◌, List, length, slice_index_or, Option, Some, None, is_some}
use Rattle.rd_keys.specs.Keys.{same_key}
use Rattle.rd_keys.specs.Arena.{Arena}
use Rattle.rd_tree.specs.declared.node.Node as inner
use Rattle.rd_tree.specs.declared.handed.ScrollSums.{ScrollSums}
use Rattle.rd_tree.specs.Forest.{empty, tree, has, height, AllItems}
use Rattle.rd_tree.specs.Document.{BoxKey, Item, BoxForest}
use Rattle.rd_tree.specs.Changes.{unscrolled}
use Rattle.rd_tree.specs.Limits.{FitsScroll}
use Rattle.rd_tree.specs.Internal.Links.{Node}
use Rattle.rd_tree.specs.Internal.Linked.{linked}
use Rattle.rd_tree.specs.Internal.Handing.{entered, IsWithin}

-- what a table by slots has for k
abbrev pub hand_at : List ScrollSums → BoxKey → ScrollSums
hand_at rows k = slice_index_or rows k.slot (record { flow = unscrolled; absolute = unscrolled })

abbrev pub HasHands : List ScrollSums → BoxForest → Type 0
HasHands rows f = (k : BoxKey) → has same_key k f ≡ true → k.slot < length rows

-- The row of k is this one, and those of all other slots are as they were.
abbrev pub PutsHand : List ScrollSums → List ScrollSums → BoxKey → ScrollSums → Type 0
PutsHand old new k h = (j : BoxKey) → hand_at new j ≡ (if j.slot == k.slot then h else hand_at old j)

-- what is handed to the children of a box that is not the root
abbrev pub passed : ScrollSums → Item → ScrollSums
passed h d = entered false d.style d.scroll h

-- the same of a node
abbrev pub passed_at : ScrollSums → Option (Node BoxKey Item) → ScrollSums
passed_at h None = h
passed_at h (Some n) = passed h n.item

-- The box of the node has a scroll offset within the limits.
abbrev pub ScrollFitsAt : Option (Node BoxKey Item) → Type 0
ScrollFitsAt None = Unit {0}
ScrollFitsAt (Some n) = FitsScroll n.item.scroll

-- what is handed to k, where this is handed to these boxes
abbrev pub handed_to : BoxKey → ScrollSums → BoxForest → ScrollSums
handed_to k h empty = h
handed_to k h (tree i d below rest) =
    if same_key k i then h else if has same_key k below then handed_to k (passed h d) below else handed_to k h rest

-- So much can be handed to these boxes: they are not too many levels, and their scroll offsets are within the limits.
pub record CanHand (h : ScrollSums) (f : BoxForest) : Type 0 where
  pub levels : ℕ
  pub within : IsWithin levels h
  pub shallow : levels + height f ≤ 256
  pub scrolls : AllItems (λ d. FitsScroll d.scroll) f

-- Each of these boxes has what is handed to it, and the rows of all other live keys are as they were.
abbrev pub HandsDown : Arena inner.Node → List ScrollSums → List ScrollSums → ScrollSums → BoxForest → Type 0
HandsDown a old new h f = (k : BoxKey) → is_some (linked a k) ≡ true → hand_at new k
    ≡ (if has same_key k f then handed_to k h f else hand_at old k)
