-- How much a pass makes and looks at.
use Rattle.std.specs.Prelude.{ℕ, ◌+◌, Bool, if◌then◌else◌, length}
use Rattle.rd_geom.specs.Plane.{Rectangle}
use Rattle.rd_keys.specs.declared.entry.Part.{Part}
use Rattle.rd_keys.specs.declared.entry.Part.TheVariants.{Back, Border, Content, Outline}
use Rattle.rd_list.specs.Entries.{Entries, flat}
use Rattle.rd_list.specs.Wrappers.{Wrapper}
use Rattle.rd_tree.specs.Forest.{empty, tree}
use Rattle.rd_tree.specs.Document.{BoxForest}
use Rattle.rd_partial.specs.Looks.{BoxTest, hull_at}
use Rattle.rd_stack.specs.Paths.{BoxData}
use Rattle.rd_stack.specs.Fresh.{box_data}

module _ {L : Type 0} where
  abbrev pub leaves_in : Entries Wrapper L → ℕ
  leaves_in xs = length (flat xs)

  module _ {S : Type 0} (enter : S → BoxData → S) (give : S → BoxData → Part → Entries Wrapper L) where
    -- the leaves of a box
    abbrev pub given_of : S → BoxData → ℕ
    given_of s b = leaves_in (give s b Back) + leaves_in (give s b Border) + leaves_in (give s b Content) + leaves_in (give s b Outline)

    -- the leaves of all boxes of a forest
    abbrev pub given : S → BoxForest → ℕ
    given s empty = 0
    given s (tree k d children next) = given_of s (box_data k d) + given (enter s (box_data k d)) children + given s next

-- each of some siblings is looked at once, and then the children of those that are entered
abbrev pub looks_below : BoxTest → BoxForest → ℕ
looks_below enters empty = 0
looks_below enters (tree k d children next) = 1 + (if enters d children then looks_below enters children else 0) + looks_below enters next

module _ (wants : Rectangle → Bool) where
  -- is something wanted in the hull of the box?
  abbrev pub wanted_hull : BoxTest
  wanted_hull d below = wants (hull_at d below)

  -- the looks of a builder that enters the boxes in whose hulls something is wanted
  abbrev pub visits : BoxForest → ℕ
  visits f = looks_below wanted_hull f

  -- the same with the root, which is always entered
  abbrev pub root_visits : BoxForest → ℕ
  root_visits empty = 0
  root_visits (tree k d children next) = 1 + visits children
