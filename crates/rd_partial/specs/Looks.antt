-- How many boxes are looked at. All of it is this project's own choice.
use Rattle.std.specs.Prelude.{◌≡◌, ℕ, ◌+◌, ◌≤◌, Bool, true, ◌||◌, if◌then◌else◌}
use Rattle.rd_geom.specs.Plane.{Rectangle, hull_of}
use Rattle.rd_geom.specs.Areas.{Region, meets_area}
use Rattle.rd_tree.specs.Forest.{empty, tree}
use Rattle.rd_tree.specs.Document.{BoxForest}
use Rattle.rd_tree.specs.declared.node.Item.{Item}
use Rattle.rd_tree.specs.Hulls.{breadth, extent, hull_in, any_touched}

-- a test of a box with those below it
abbrev pub BoxTest : Type 0
BoxTest = Item → BoxForest → Bool

-- the hull of a box and of all below it
abbrev pub hull_at : Item → BoxForest → Rectangle
hull_at d below = hull_of (extent d) (hull_in below)

-- has that hull a pixel of the area?
abbrev pub is_near : Region → BoxTest
is_near area d below = meets_area area (hull_at d below)

-- was the box touched, or one below it?
abbrev pub holds_touched : BoxTest
holds_touched d below = d.touched || any_touched below

-- either of these, as it is of the boxes that a paint goes to
abbrev pub is_visited : Region → BoxTest
is_visited area d below = holds_touched d below || is_near area d below

module _ (passes : BoxTest) where
  -- over the boxes that pass a test, one and the number of children
  abbrev pub looks_in : BoxForest → ℕ
  looks_in empty = 0
  looks_in (tree k d below rest) = (if passes d below then 1 + breadth below else 0) + (looks_in below + looks_in rest)

  -- the same with the root, which always counts
  abbrev pub looks_bound : BoxForest → ℕ
  looks_bound empty = 0
  looks_bound (tree k d below rest) = 1 + breadth below + looks_in below

-- a test that more boxes pass has no smaller bound
abbrev pub LooksLaw : Type 0
LooksLaw =
    (p q : BoxTest) → ((d : Item) (below : BoxForest) → p d below ≡ true → q d below ≡ true)
    → (f : BoxForest) → looks_bound p f ≤ looks_bound q f
