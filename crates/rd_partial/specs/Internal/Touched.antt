-- What the walk to the touched boxes adds to an area.
use Rattle.std.specs.Prelude.{◌≡◌, ℕ, ℤ, Bool, false, ◌&&◌, ◌||◌, nat_lt, if◌then◌else◌, Option, Some, None}
use Rattle.rd_geom.specs.Plane.{holds_pixel}
use Rattle.rd_geom.specs.Canvas.{canvas_of}
use Rattle.rd_geom.specs.Areas.{Region, in_area}
use Rattle.rd_keys.specs.Keys.{BoxKey, same_key}
use Rattle.rd_keys.specs.declared.entry.Part.TheVariants.{Back, Border, Content, Outline}
use Rattle.rd_item.specs.declared.leaf.Leaf.{Leaf}
use Rattle.rd_tree.specs.Forest.{empty, tree, starting_at, from_some}
use Rattle.rd_tree.specs.Document.{BoxForest, Document}
use Rattle.rd_tree.specs.Hulls.{any_touched, touched_in}
use Rattle.rd_stack.specs.Paths.{BoxData}
use Rattle.rd_stack.specs.Fresh.{box_data}
use Rattle.rd_partial.specs.Looks.{BoxTest}
use Rattle.rd_partial.specs.Internal.Counting.{looks_below}
use Rattle.rd_partial.specs.Internal.Inherited.{Inherited, leaf_in}
use Rattle.rd_partial.specs.Internal.Inherited as inherited
use Rattle.rd_partial.specs.declared.look.BoxLook.{BoxLook}
use Rattle.rd_partial.specs.Internal.BoxLook.{Onward, here_of}

-- the new area is the old one with the pixels of its canvas that pass a test
pub record Joins (shows : ℤ → ℤ → Bool) (old new : Region) : Type 0 where
  pub size : new.size ≡ old.size
  pub pixels : (x y : ℤ) → in_area new x y ≡ ((shows x y && holds_pixel (canvas_of old.size) x y) || in_area old x y)

-- is the pixel in the visible rectangle of the leaf, if there is one?
abbrev pub leaf_shows : Option Leaf → ℤ → ℤ → Bool
leaf_shows None x y = false
leaf_shows (Some l) x y = holds_pixel l.visible x y

-- is it in that of a leaf of the box?
abbrev pub box_shows : Inherited → BoxData → ℤ → ℤ → Bool
box_shows s b x y =
    leaf_shows (leaf_in s b Back) x y
    || (leaf_shows (leaf_in s b Border) x y || (leaf_shows (leaf_in s b Content) x y || leaf_shows (leaf_in s b Outline) x y))

-- is it in that of a leaf of a touched box of a forest?
abbrev pub touched_shows : Inherited → BoxForest → ℤ → ℤ → Bool
touched_shows s empty x y = false
touched_shows s (tree k d below rest) x y =
    (d.touched && box_shows s (box_data k d) x y)
    || (touched_shows (inherited.below s (box_data k d)) below x y || touched_shows s rest x y)

-- what a look tells of the marks
abbrev pub HasMarks : BoxForest → Bool → ℕ → Type 0
HasMarks empty t u = Unit {0}
HasMarks (tree k d below rest) t u = (t ≡ d.touched) × (u ≡ touched_in below)

-- has the box a touched box below it?
abbrev pub leads_to_touched : BoxTest
leads_to_touched d below = any_touched below

-- what a box that was looked at shows, if it is touched
abbrev pub own_shows : Inherited → BoxLook → ℤ → ℤ → Bool
own_shows s v x y = v.touched && box_shows s (here_of v) x y

-- what the touched boxes below it show
abbrev pub shows_below : Inherited → BoxLook → Document → ℤ → ℤ → Bool
shows_below s v t x y = nat_lt 0 v.touched_below && touched_shows (inherited.below s (here_of v)) (from_some same_key v.first_child t.boxes) x y

-- A look told this of a box of a tree.
pub record IsTold (t : Document) (v : BoxLook) : Type 0 where
  pub key : BoxKey
  pub told : Onward t.boxes key (here_of v) v.first_child v.next_sibling v.hull
  pub marks : HasMarks (starting_at same_key key t.boxes) v.touched v.touched_below

-- what it and the touched boxes below it show
abbrev pub branch_shows : Inherited → BoxLook → Document → ℤ → ℤ → Bool
branch_shows s v t x y = own_shows s v x y || shows_below s v t x y

-- what the touched ones of some siblings show, and those below them, from one on
abbrev pub shows_from : Inherited → Option BoxKey → Document → ℤ → ℤ → Bool
shows_from s first t x y = touched_shows s (from_some same_key first t.boxes) x y

-- how many of these are touched
abbrev pub marks_from : Option BoxKey → Document → ℕ
marks_from first t = touched_in (from_some same_key first t.boxes)

-- the looks at some siblings, from one on
abbrev pub touched_looks : Option BoxKey → Document → ℕ
touched_looks first t = looks_below leads_to_touched (from_some same_key first t.boxes)

-- the looks below a box
abbrev pub looks_under : BoxLook → Document → ℕ
looks_under v t = if nat_lt 0 v.touched_below then touched_looks v.first_child t else 0
