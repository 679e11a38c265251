-- What is done to each box of a subtree.
use Rattle.std.specs.Prelude.{ℤ, true, IfSome, Option, Some, None, option_map}
use Rattle.rd_style.specs.Limits.{FitsRect}
use Rattle.rd_tree.specs.Limits.{IsNear}
use Rattle.rd_tree.specs.declared.links.walk.Work.{Work}
use Rattle.rd_tree.specs.declared.links.walk.Work.TheVariants.{Touch, Settle, Shift}
use Rattle.rd_keys.specs.Keys.{same_key}
use Rattle.rd_tree.specs.Forest.{item_of, children, AllItems}
use Rattle.rd_tree.specs.Internal.Links.{Node}
use Rattle.rd_tree.specs.Document.{BoxKey, Item, BoxForest}
use Rattle.rd_tree.specs.Changes.{shifted}
use Rattle.rd_tree.specs.Touching.{touch, settled}

-- a box moved right and down, and touched
abbrev pub move_by : ℤ → ℤ → Item → Item
move_by dx dy d = record d { rect = shifted dx dy d.rect; touched = true }

abbrev pub done : Work → Item → Item
done Touch d = touch d
done Settle d = settled d
done (Shift dx dy) d = move_by dx dy d

-- The work leaves the box within the limits.
abbrev pub Allows : Work → Item → Type 0
Allows Touch d = Unit {0}
Allows Settle d = Unit {0}
Allows (Shift dx dy) d = IsNear (shifted dx dy d.rect)

-- The same of the box of a node.
abbrev pub AllowsAt : Work → Option (Node BoxKey Item) → Type 0
AllowsAt work None = Unit {0}
AllowsAt work (Some n) = Allows work n.item

-- the item of a node
abbrev pub item_under : Option (Node BoxKey Item) → Option Item
item_under o = option_map (λ n. n.item) o

-- The rectangles of a box and of all below it are near once they are shifted.
abbrev pub ShiftNear : ℤ → ℤ → BoxKey → BoxForest → Type 0
ShiftNear dx dy k f =
    IfSome (item_of same_key k f) (λ d. IsNear (shifted dx dy d.rect))
    × AllItems (λ d. IsNear (shifted dx dy d.rect)) (children same_key k f)

-- The rectangles of a box and of all below it are within the limits once they are shifted.
abbrev pub ShiftFits : ℤ → ℤ → BoxKey → BoxForest → Type 0
ShiftFits dx dy k f =
    IfSome (item_of same_key k f) (λ d. FitsRect (shifted dx dy d.rect))
    × AllItems (λ d. FitsRect (shifted dx dy d.rect)) (children same_key k f)
