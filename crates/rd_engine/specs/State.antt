-- What a contract sees of an engine, and what always holds of it. All of it is this project's own choice.
use Rattle.std.specs.Prelude.{◌≡◌, ℕ, pos, ◌<◌, ◌≤◌, Bool, true, false, Contains, Option, Some, None, length}
use Rattle.rd_geom.specs.Areas.{Region}
use Rattle.rd_geom.specs.Canvas.{canvas_of}
use Rattle.rd_keys.specs.declared.entry.EntryKey.{EntryKey}
use Rattle.rd_item.specs.declared.leaf.Leaf.{Leaf}
use Rattle.rd_item.specs.Items.{Made}
use Rattle.rd_list.specs.Wrappers.{Wrapper}
use Rattle.rd_list.specs.Entries.{nil, flat}
use Rattle.rd_list.specs.Lists.{StandsFor, pixel}
use Rattle.rd_list.specs.Kept.{KeptList}
use Rattle.rd_list.specs.EntryNames.{kept_leaves}
use Rattle.rd_list.specs.Views.{levels}
use Rattle.rd_list.specs.GroupDepth.{group_depth}
use Rattle.rd_tree.specs.Document.{Document}
use Rattle.rd_stack.specs.Fresh.{fresh_list}
use Rattle.rd_stack.specs.Laws.{IsOnCanvas}
use Rattle.rd_paint.specs.Pictures.{Picture, size_of, pixel_at}
use Rattle.rd_engine.specs.Kept.{IsKept}

-- the tree, the list and the canvas of the last paint, whether an edit came since then, how many paints there were, and what
-- the last one painted anew
pub record EngineState : Type 0 where
  pub tree : Document
  pub kept : KeptList EntryKey Wrapper Made
  pub canvas : Picture
  pub pending : Bool
  pub paints : ℕ
  pub area : Option Region

-- each pixel of the canvas is that of the kept list
abbrev pub ShowsKept : EngineState → Type 0
ShowsKept s =
    (x y : ℕ) → x < s.canvas.width → y < s.canvas.height
    → pixel_at s.canvas (pos x) (pos y) ≡ Some (pixel (kept_leaves s.kept.entries) (pos x) (pos y))

-- the area of the last of so many paints is of the size of the canvas; none before the first
abbrev pub IsLast : Picture → ℕ → Option Region → Type 0
IsLast canvas paints None = paints ≡ 0
IsLast canvas paints (Some area) = (0 < paints) × (area.size ≡ size_of canvas)

-- at every moment
pub record IsEngine (s : EngineState) : Type 0 where
  -- the kept list is ready for what is touched of the tree
  pub ready : IsKept s.kept s.tree
  -- each leaf of it may be seen, and nowhere off the canvas
  pub seen : (l : Leaf) → Contains (flat (kept_leaves s.kept.entries)) l → IsOnCanvas (canvas_of s.tree.canvas) l
  pub size : size_of s.canvas ≡ s.tree.canvas
  -- before the first paint there is no list, and then the canvas shows the list
  pub first : s.paints ≡ 0 → (s.pending ≡ true) × (s.kept.entries ≡ nil)
  pub shows : 0 < s.paints → ShowsKept s
  -- the area of the last paint, where there was one
  pub last : IsLast s.canvas s.paints s.area
  -- where nothing is pending it stands for the fresh list
  pub stands : s.pending ≡ false → StandsFor (kept_leaves s.kept.entries) (fresh_list s.tree)
  -- it has few leaves, under few groups
  pub few : length (flat s.kept.entries) < 4294967296
  pub shallow : levels s.kept.entries ≤ 257
  pub groups : group_depth s.kept.entries < 4294967296
