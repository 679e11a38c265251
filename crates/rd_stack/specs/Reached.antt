-- The boxes to which a builder goes that leaves out each subtree whose hull is off the area.
-- All of it is this project's own choice.
use Rattle.std.specs.Prelude.{◌≡◌, Bool, true, if◌then◌else◌}
use Rattle.rd_geom.specs.Plane.{Rectangle, hull_of, IsWithin}
use Rattle.rd_geom.specs.Areas.{Region, meets_area}
use Rattle.rd_keys.specs.Keys.{BoxKey, same_key}
use Rattle.rd_list.specs.Entries.{only}
use Rattle.rd_list.specs.Lists.{meeting}
use Rattle.rd_tree.specs.Forest.{empty, tree, IsApart}
use Rattle.rd_tree.specs.Document.{Document, BoxForest, IsRooted}
use Rattle.rd_tree.specs.Drawn.{drawn}
use Rattle.rd_tree.specs.Hulls.{extent, hull_in}
use Rattle.rd_stack.specs.Fresh.{fresh_list, grouped_in, list_given}

-- a test of rectangles that a larger one passes too, as that of meeting an area is.
abbrev pub Grows : (Rectangle → Bool) → Type 0
Grows meets = (r s : Rectangle) → IsWithin r s → meets r ≡ true → meets s ≡ true

module _ (meets : Rectangle → Bool) where
  -- the boxes below one that is looked at, without the subtrees whose hulls fail the test.
  abbrev pub reached : BoxForest → BoxForest
  reached empty = empty
  reached (tree k d below rest) = if meets (hull_of (extent d) (hull_in below)) then tree k d (reached below) (reached rest) else reached rest

  -- the first box is always looked at.
  abbrev pub reached_tree : BoxForest → BoxForest
  reached_tree empty = empty
  reached_tree (tree k d below rest) = tree k d (reached below) rest

-- to leave out the subtrees that are off an area loses no leaf that meets it, where it is given which boxes are grouped.
abbrev pub FilteringLaw : Type 0
FilteringLaw =
    (g : BoxKey → Bool) (t : Document) → IsApart same_key t.boxes → IsRooted t → (meets : Rectangle → Bool) → Grows meets
    → only (λ l. meets l.visible) (list_given g t) ≡ only (λ l. meets l.visible) (list_given g (record t { boxes = reached_tree meets t.boxes }))

-- the same of an area and the whole list of a tree, by where its boxes are drawn; boxes stay grouped as they are in the tree
abbrev pub MeetingLaw : Type 0
MeetingLaw =
    (t : Document) → IsApart same_key t.boxes → IsRooted t → (area : Region)
    → meeting area (fresh_list t) ≡ meeting area (list_given (grouped_in t.boxes) (record t { boxes = reached_tree (meets_area area) (drawn t).boxes }))
