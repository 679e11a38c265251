-- Boxes that go from an arena and from the index of ids.
use Rattle.std.specs.Prelude.{◌≡◌, ℕ, ◌+◌, ◌≤◌, List, Option, Some, None, is_some, if◌then◌else◌, String}
use Rattle.std.specs.HashMap.{HashMap, get_by_text}
use Rattle.rd_keys.specs.Keys.{same_key}
use Rattle.rd_keys.specs.Arena.{Arena, live, occupied}
use Rattle.rd_tree.specs.declared.node.Node as inner
use Rattle.rd_tree.specs.Forest.{empty, tree, keys, size, has}
use Rattle.rd_tree.specs.Internal.Links.{Node, child_and_sibling}
use Rattle.rd_tree.specs.Document.{BoxKey, Item, BoxForest, named, with_all_left}
use Rattle.rd_tree.specs.Internal.Linked.{linked, marks, seen_from}

-- The boxes are gone, their keys are left, and every other box is as it was.
pub record Frees (old new : Arena inner.Node) (gone : BoxForest) : Type 0 where
  pub links : (j : BoxKey) → linked new j ≡ (if has same_key j gone then None else linked old j)
  pub slots : marks new ≡ with_all_left (marks old) (keys gone)
  pub counted : live new + size gone ≡ live old
  pub most : occupied new ≤ occupied old
  pub limit : new.limit ≡ old.limit
  pub first : new.first ≡ old.first

-- The index has the ids of these boxes no more, and all else as it was.
abbrev pub DropsTexts : {Y S : Type 0} → BoxForest → HashMap (String Y) BoxKey S
    → HashMap (String Y) BoxKey S → Type 0
DropsTexts gone old new = (i : List ℕ) → get_by_text new i ≡ (if is_some (named i gone)
    then None else get_by_text old i)

-- a box, where there is a node, with these below it
abbrev pub topped : BoxKey → Option (Node BoxKey Item) → BoxForest → BoxForest
topped k None below = empty
topped k (Some n) below = tree k n.item below empty

-- a box with all that its links tell below it
abbrev pub branch_at : Arena inner.Node → BoxKey → BoxForest
branch_at a k = topped k (linked a k) (seen_from a (child_and_sibling (linked a k)).0)
