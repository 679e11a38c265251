-- Laws of painting.
-- What names no section of a standard is this project's own choice.
use Rattle.std.specs.Prelude.{◌≡◌, ◌≤◌, ◌*◌, false, All, IsTrue, length}
use Rattle.rd_geom.specs.Plane.{Rectangle, has_none, meets, IsWithin}
use Rattle.rd_geom.specs.Canvas.{canvas_of}
use Rattle.rd_keys.specs.Keys.{same_key}
use Rattle.rd_item.specs.declared.leaf.Leaf.{Leaf}
use Rattle.rd_list.specs.Wrappers.{Wrapper}
use Rattle.rd_list.specs.Entries.{Entries, flat}
use Rattle.rd_list.specs.Lists.{StandsFor, groups}
use Rattle.rd_tree.specs.Forest.{size, IsApart}
use Rattle.rd_tree.specs.Document.{BoxForest, Document}
use Rattle.rd_stack.specs.Fresh.{fresh_list}

-- a fresh list has each leaf once and each group once, and no group is empty.
abbrev pub StandsForItself : Type 0
StandsForItself = (t : Document) → IsApart same_key t.boxes → StandsFor (fresh_list t) (fresh_list t)

-- CSS 2.2 section 11.1.1: the leaf may be seen somewhere, and nowhere off the canvas
pub record IsOnCanvas (canvas : Rectangle) (l : Leaf) : Type 0 where
  pub some : has_none l.visible ≡ false
  pub within : IsWithin l.visible canvas
  pub meets : IsTrue (meets canvas l.visible)

-- CSS 2.2 section 11.1.1: every leaf of a fresh list may be seen on the canvas
abbrev pub ShowsOnCanvas : Type 0
ShowsOnCanvas = (t : Document) → IsApart same_key t.boxes → All (IsOnCanvas (canvas_of t.canvas)) (flat (fresh_list t))

-- a list has at most four leaves and one group for each box
pub record HasFewEntries (boxes : BoxForest) (list : Entries Wrapper Leaf) : Type 0 where
  pub leaves : length (flat list) ≤ 4 * size boxes
  pub groups : length (groups list) ≤ size boxes

-- CSS 2.2 Appendix E.2: a box paints at most its background, border, content and outline
abbrev pub FewEntries : Type 0
FewEntries = (t : Document) → IsApart same_key t.boxes → HasFewEntries t.boxes (fresh_list t)
