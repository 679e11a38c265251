-- How many blended layers are below each box: what a table by slots has, and how it is kept.
use Rattle.std.specs.Prelude.{◌≡◌, ℕ, ◌+◌, ◌<◌, ◌≤◌, ◌==◌, Bool, true, false, ◌||◌, if◌then◌else◌, List, length, slice_index_or, Option, Some, None, is_some}
use Rattle.rd_style.specs.declared.styles.Style.{Style}
use Rattle.rd_style.specs.Classes.{real, blended}
use Rattle.rd_keys.specs.Keys.{same_key}
use Rattle.rd_keys.specs.Arena.{Arena}
use Rattle.rd_tree.specs.declared.node.Node as inner
use Rattle.rd_tree.specs.Figures.{max_boxes}
use Rattle.rd_tree.specs.Forest.{empty, tree, has}
use Rattle.rd_tree.specs.Document.{BoxKey, Item, BoxForest}
use Rattle.rd_tree.specs.Contexts.{blends_in}
use Rattle.rd_tree.specs.Internal.Links.{Node}
use Rattle.rd_tree.specs.Internal.Linked.{linked}
use Rattle.rd_tree.specs.Internal.Rows.{IsStanding, IsIn}

-- CSS Compositing 1 section 3.2: how many blended layers a box of this style puts into the stacking context round it, with so
-- many of them below it
abbrev pub given : Style → ℕ → ℕ
given s n = if blended s then 1 else if real s false then 0 else n

-- Does what a box puts there not follow from what is below it?
abbrev pub closes : Style → Bool
closes s = blended s || real s false

-- what some siblings put there, by the count of each
abbrev pub given_in : (BoxKey → ℕ) → BoxForest → ℕ
given_in n empty = 0
given_in n (tree k d below rest) = given d.style (n k) + given_in n rest

-- The count of each of these boxes is what its children put there.
abbrev pub AreCounts : (BoxKey → ℕ) → BoxForest → Type 0
AreCounts n empty = Unit {0}
AreCounts n (tree k d below rest) = (n k ≡ given_in n below) × AreCounts n below × AreCounts n rest

-- so many at one box, and none at any other
abbrev pub owed : Option BoxKey → BoxKey → ℕ → ℕ
owed None k n = 0
owed (Some p) k n = if same_key p k then n else 0

-- The same of all of these boxes but one, whose count has so many too many and so many too few.
abbrev pub Owes : Option BoxKey → ℕ → ℕ → (BoxKey → ℕ) → BoxForest → Type 0
Owes from less more n empty = Unit {0}
Owes from less more n (tree k d below rest) =
    (n k + owed from k more ≡ given_in n below + owed from k less)
    × Owes from less more n below
    × Owes from less more n rest

-- what a table by slots has for k
abbrev pub count_at : List ℕ → BoxKey → ℕ
count_at rows k = slice_index_or rows k.slot 0

-- The count of k is this one, and those of all other slots are as they were.
abbrev pub PutsCount : List ℕ → List ℕ → BoxKey → ℕ → Type 0
PutsCount old new k n = (j : BoxKey) → count_at new j ≡ (if j.slot == k.slot then n else count_at old j)

-- what the box of a node puts into the stacking context round it
abbrev pub given_under : Option (Node BoxKey Item) → ℕ → ℕ
given_under None n = 0
given_under (Some x) n = given x.item.style n

-- the parent of a node, where what its box puts there follows from what is below it
abbrev pub open_parent : Option (Node BoxKey Item) → Option BoxKey
open_parent None = None
open_parent (Some x) = if closes x.item.style then None else x.up

-- From this box up the counts can be set right.
pub record CanRecount (a : Arena inner.Node) (rows : List ℕ) (from : Option BoxKey) (less more : ℕ) : Type 0 where
  pub root : BoxKey
  pub boxes : BoxForest
  pub is : IsStanding a root boxes
  pub there : IsIn from boxes
  pub has_rows : (k : BoxKey) → has same_key k boxes ≡ true → k.slot < length rows
  pub limit : a.limit ≡ max_boxes
  pub few : less ≤ max_boxes
  pub owes : Owes from less more (count_at rows) boxes

-- No count of a live key that is none of these boxes changes.
abbrev pub KeepsCountsOff : Arena inner.Node → BoxForest → List ℕ → List ℕ → Type 0
KeepsCountsOff a f old new = (k : BoxKey) → is_some (linked a k) ≡ true → has same_key k f ≡ false → count_at new k ≡ count_at old k

-- The table has a row for each slot, and the right one for each box.
pub record IsBlending (a : Arena inner.Node) (rows : List ℕ) (f : BoxForest) : Type 0 where
  pub all_rows : length a.slots ≤ length rows
  pub right : AreCounts (count_at rows) f

-- Does a blended layer stand below the first of some boxes, with no stacking context between?
abbrev pub blends_first : BoxForest → Bool
blends_first empty = false
blends_first (tree k d below rest) = blends_in below
