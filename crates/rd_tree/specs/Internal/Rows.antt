-- How the table of a tree is kept.
use Rattle.std.specs.Prelude.{◌≡◌, ℕ, ◌+◌, ◌-◌, ◌<◌, ◌≤◌, ◌==◌, Bool, true, false, if◌then◌else◌, List, length, Option, Some, None, is_some}
use Rattle.rd_geom.specs.Plane.{Rectangle, no_pixels, hull_of}
use Rattle.rd_keys.specs.Keys.{same_key}
use Rattle.rd_keys.specs.Arena.{Arena}
use Rattle.rd_tree.specs.declared.node.Node as inner
use Rattle.rd_tree.specs.declared.table.row.Summary.{Summary}
use Rattle.rd_tree.specs.declared.table.whole.Whole.{Whole}
use Rattle.rd_style.specs.Limits.{Fits}
use Rattle.rd_tree.specs.Limits.{IsNear}
use Rattle.rd_tree.specs.Figures.{max_boxes}
use Rattle.rd_tree.specs.Forest.{empty, tree, size, has, in_subtree, IsApart}
use Rattle.rd_tree.specs.Internal.Links.{Node, Stands, child_and_sibling}
use Rattle.rd_tree.specs.Document.{BoxKey, Item, BoxForest}
use Rattle.rd_tree.specs.Drawn.{AllNear}
use Rattle.rd_tree.specs.Internal.Linked.{linked, seen_from}
use Rattle.rd_tree.specs.Internal.Summaries.{summary_of, summary_at, is_above}
use Rattle.rd_tree.specs.Hulls.{extent, hull_in, touched_in}

-- The row of k is this one, and those of all other slots are as they were.
abbrev pub Puts : List Summary → List Summary → BoxKey → Summary → Type 0
Puts old new k row = (j : BoxKey) → summary_at new j ≡ (if j.slot == k.slot then row
    else summary_at old j)

-- of a box without children, whose hull this is
abbrev pub alone : Rectangle → Summary
alone r = record { children = 0; touched = 0; hull = r }

abbrev pub with_child_count : ℕ → Summary → Summary
with_child_count n row = record row { children = n }

abbrev pub with_hull : Rectangle → Summary → Summary
with_hull r row = record row { hull = r }

-- with so many touched boxes less, and so many more
abbrev pub marked : ℕ → ℕ → Summary → Summary
marked less more row = record row { touched = row.touched - less + more }

abbrev pub unmarked : Summary → Summary
unmarked row = record row { touched = 0 }

-- The count of touched boxes can be changed so.
pub record IsMarkable (less more : ℕ) (row : Summary) : Type 0 where
  pub enough : less ≤ row.touched
  pub few : row.touched + more < less + 4294967296

-- The links stand for the forest below a root. There may be other nodes.
pub record IsStanding (a : Arena inner.Node) (root : BoxKey) (f : BoxForest) : Type 0 where
  pub stands : Stands (linked a) None None f (Some root) (Some root) None
  pub apart : IsApart same_key f
  pub small : size f ≤ a.limit

-- The box, if there is one, is one of these.
abbrev pub IsIn : Option BoxKey → BoxForest → Type 0
IsIn None f = Unit {0}
IsIn (Some k) f = has same_key k f ≡ true

abbrev pub HasRows : List Summary → BoxForest → Type 0
HasRows rows f = (k : BoxKey) → has same_key k f ≡ true → k.slot < length rows

-- From this box up, each row can be marked.
pub record CanMark (a : Arena inner.Node) (rows : List Summary) (from : Option BoxKey)
    (less more : ℕ) : Type 0 where
  pub root : BoxKey
  pub boxes : BoxForest
  pub is : IsStanding a root boxes
  pub there : IsIn from boxes
  pub has_rows : HasRows rows boxes
  pub markable : (k : BoxKey) → is_above from k boxes ≡ true → IsMarkable less more (summary_at
      rows k)

-- The rows of the box given and of those above it are marked, and the rows of all other live keys are as they were.
abbrev pub MarksUp : Arena inner.Node → BoxForest → List Summary → List Summary → Option BoxKey
    → ℕ → ℕ → Type 0
MarksUp a f old new from less more =
    (k : BoxKey) → is_some (linked a k) ≡ true → summary_at new k ≡ (if is_above from k f
    then marked less more (summary_at old k) else summary_at old k)

-- What the moving of hulls from this box up reads is there, and within the limits.
pub record CanMove (a : Arena inner.Node) (rows : List Summary) (from : Option BoxKey) : Type 0
  where
    pub root : BoxKey
    pub boxes : BoxForest
    pub is : IsStanding a root boxes
    pub there : IsIn from boxes
    pub has_rows : HasRows rows boxes
    pub fits : AllNear boxes

-- From this box up each row has the hull of what is lost and of the rest, where it is to have that of what is gained and
-- of the rest. All other rows have their hulls.
pub record IsMoving (rows : List Summary) (f : BoxForest) (from : Option BoxKey) (lost gained :
    Rectangle) : Type 0 where
  pub rest : BoxKey → Rectangle
  pub was : (k : BoxKey) → has same_key k f ≡ true → is_above from k f ≡ true
      → (summary_at rows k).hull ≡ hull_of (rest k) lost
  pub is : (k : BoxKey) → has same_key k f ≡ true → is_above from k f ≡ true
      → (summary_of k f).hull ≡ hull_of (rest k) gained
  pub others : (k : BoxKey) → has same_key k f ≡ true → is_above from k f ≡ false
      → (summary_at rows k).hull ≡ (summary_of k f).hull

abbrev pub HasHulls : List Summary → BoxForest → Type 0
HasHulls rows f = (k : BoxKey) → has same_key k f ≡ true → (summary_at rows k).hull
    ≡ (summary_of k f).hull

-- No row changes but in its hull.
abbrev pub KeepsCounts : List Summary → List Summary → Type 0
KeepsCounts old new = (k : BoxKey) → summary_at new k ≡ with_hull (summary_at new k).hull
    (summary_at old k)

-- The rows of live keys change from the box given up alone.
abbrev pub KeepsOthers : Arena inner.Node → BoxForest → List Summary → List Summary
    → Option BoxKey → Type 0
KeepsOthers a f old new from = (k : BoxKey) → is_some (linked a k) ≡ true → is_above from k f
    ≡ false → summary_at new k ≡ summary_at old k

-- the hull of some siblings by their rows
abbrev pub hulls_by : List Summary → BoxForest → Rectangle
hulls_by rows empty = no_pixels
hulls_by rows (tree k d below rest) = hull_of (summary_at rows k).hull (hulls_by rows rest)

-- the extent of a node
abbrev pub extent_under : Option (Node BoxKey Item) → Rectangle
extent_under None = no_pixels
extent_under (Some n) = extent n.item

abbrev pub IsFitAt : Option (Node BoxKey Item) → Type 0
IsFitAt None = Unit {0}
IsFitAt (Some n) = IsNear n.item.rect × Fits n.item.style

-- the hull of a box by its own extent and by the rows of its children
abbrev pub hull_anew_of : Arena inner.Node → List Summary → BoxKey → Rectangle
hull_anew_of a rows k = hull_of (extent_under (linked a k)) (hulls_by rows (seen_from a
    (child_and_sibling (linked a k)).0))

-- 1 where the node's box is touched
abbrev pub touched_under : Option (Node BoxKey Item) → ℕ
touched_under None = 0
touched_under (Some n) = if n.item.touched then 1 else 0

-- Each of these boxes has the right row.
abbrev pub IsRight : List Summary → BoxForest → Type 0
IsRight rows f = (k : BoxKey) → has same_key k f ≡ true → summary_at rows k ≡ summary_of k f

-- once a branch stands below it
abbrev pub joined : Summary → Whole → Summary
joined row w = record row { touched = row.touched + w.touched; hull = hull_of row.hull w.hull }

-- From this box up each row has what it is to have but for one branch below it, which was old and is new. All other rows
-- are right.
pub record IsSwapping (rows : List Summary) (f : BoxForest) (from : Option BoxKey)
    (old new : Whole) : Type 0 where
  pub rest : BoxKey → Summary
  pub was : (k : BoxKey) → has same_key k f ≡ true → is_above from k f ≡ true
      → summary_at rows k ≡ joined (rest k) old
  pub is : (k : BoxKey) → has same_key k f ≡ true → is_above from k f ≡ true → summary_of k f
      ≡ joined (rest k) new
  pub others : (k : BoxKey) → has same_key k f ≡ true → is_above from k f ≡ false
      → summary_at rows k ≡ summary_of k f

-- From this box up one branch can be swapped for another.
pub record CanSwap (a : Arena inner.Node) (rows : List Summary) (from : Option BoxKey)
    (old new : Whole) : Type 0 where
  pub root : BoxKey
  pub boxes : BoxForest
  pub is : IsStanding a root boxes
  pub there : IsIn from boxes
  pub has_rows : HasRows rows boxes
  pub fits : AllNear boxes
  pub few : a.limit ≡ max_boxes
  pub swapping : IsSwapping rows boxes from old new

-- no branch at all
abbrev pub nothing : Whole
nothing = record { touched = 0; hull = no_pixels }

-- a touched box by itself, whose hull this is
abbrev pub touched_box : Rectangle → Whole
touched_box r = record { touched = 1; hull = r }

-- what some boxes, with all below them, are to those above them
abbrev pub whole_in : BoxForest → Whole
whole_in f = record { touched = touched_in f; hull = hull_in f }

-- once a branch is a child of it, or stands deeper below it
abbrev pub more : Bool → Summary → Whole → Summary
more own row w = with_child_count (row.children + (if own then 1 else 0)) (joined row w)

-- From p up each row lacks a branch that is a new child of p. All other rows are right.
pub record IsGaining (rows : List Summary) (f : BoxForest) (p : BoxKey) (w : Whole) : Type 0 where
  pub rest : BoxKey → Summary
  pub plain : (k : BoxKey) → hull_of (rest k).hull no_pixels ≡ (rest k).hull
  pub was : (k : BoxKey) → has same_key k f ≡ true → in_subtree same_key p k f ≡ true
      → summary_at rows k ≡ rest k
  pub is : (k : BoxKey) → has same_key k f ≡ true → in_subtree same_key p k f ≡ true
      → summary_of k f ≡ more (same_key p k) (rest k) w
  pub others : (k : BoxKey) → has same_key k f ≡ true → in_subtree same_key p k f ≡ false
      → summary_at rows k ≡ summary_of k f

-- From p up each row has a branch too many, which was a child of p. All other rows are right.
pub record IsLosing (rows : List Summary) (f : BoxForest) (p : BoxKey) (w : Whole) : Type 0 where
  pub was : (k : BoxKey) → has same_key k f ≡ true → in_subtree same_key p k f ≡ true
      → summary_at rows k ≡ more (same_key p k) (summary_of k f) w
  pub others : (k : BoxKey) → has same_key k f ≡ true → in_subtree same_key p k f ≡ false
      → summary_at rows k ≡ summary_of k f

-- The rows of the boxes that stand below a root can be changed from p up.
pub record CanClimb (a : Arena inner.Node) (rows : List Summary) (p : BoxKey) (Q : BoxForest
    → Type 0) : Type 0 where
  pub root : BoxKey
  pub boxes : BoxForest
  pub is : IsStanding a root boxes
  pub there : has same_key p boxes ≡ true
  pub has_rows : HasRows rows boxes
  pub fits : AllNear boxes
  pub few : a.limit ≡ max_boxes
  pub ready : Q boxes

-- The table has a row for each slot, and the right one for each box.
pub record IsTabled (a : Arena inner.Node) (rows : List Summary) (f : BoxForest) : Type 0 where
  pub all_rows : length a.slots ≤ length rows
  pub right : (k : BoxKey) → has same_key k f ≡ true → summary_at rows k ≡ summary_of k f
