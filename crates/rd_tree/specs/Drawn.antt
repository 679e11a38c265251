-- Where boxes are drawn: a box that clips and is scrolled has what it clips drawn elsewhere.
-- What names no section of a standard is this project's own choice.
use Rattle.std.specs.Prelude.{◌+ℤ◌, ◌-ℤ◌, Bool, true, false, if◌then◌else◌, List, [], ◌∷◌}
use Rattle.rd_geom.specs.Plane.{Rectangle}
use Rattle.rd_style.specs.declared.kinds.Position.{Position}
use Rattle.rd_style.specs.declared.kinds.Position.TheVariants as position
use Rattle.rd_style.specs.Classes.{clips, is_positioned}
use Rattle.rd_tree.specs.declared.scroll.Scroll.{Scroll}
use Rattle.rd_style.specs.Limits.{Fits}
use Rattle.rd_tree.specs.Forest.{empty, tree}
use Rattle.rd_tree.specs.Document.{Document, Item, BoxForest}
use Rattle.rd_tree.specs.Changes.{unscrolled, with_rect}
use Rattle.rd_tree.specs.Limits.{IsNear}

-- What where a box is drawn asks of a box above it: its position, and how far it scrolls what it clips.
pub record Above : Type 0 where
  pub position : Position
  pub scrolled : Scroll

-- CSS 2.2 section 11.1.1: a box that does not clip, as the root, scrolls nothing
abbrev pub above_of : Bool → Item → Above
above_of root d = record {
  position = d.style.position;
  scrolled = if clips d.style root then d.scroll else unscrolled;
}

-- CSS 2.2 section 10.1: where the containing block of a box is sought among the boxes above it
pub data Up : Type 0 where
  parent : Up
  nearest_positioned : Up
  viewport : Up

-- CSS 2.2 section 10.1: by the position of the box; that a box in the flow goes to its parent is this project's own choice
abbrev pub up : Position → Up
up position.Absolute = nearest_positioned
up position.Fixed = viewport
up position.Relative = parent
up position.Static = parent

-- CSS 2.2 section 10.1: the box that is sought among those above, nearest first, the one that it seeks itself, and so on
abbrev pub chain : Up → List Above → List Above
chain viewport above = []
chain parent [] = []
chain parent (b ∷ above) = b ∷ chain (up b.position) above
chain nearest_positioned [] = []
chain nearest_positioned (b ∷ above) =
    if is_positioned b.position then b ∷ chain (up b.position) above else chain nearest_positioned above

-- so far and then so much farther
abbrev pub plus : Scroll → Scroll → Scroll
plus a b = record { x = a.x +ℤ b.x; y = a.y +ℤ b.y }

-- how far boxes scroll together
abbrev pub total : List Above → Scroll
total [] = unscrolled
total (b ∷ bs) = plus (total bs) b.scrolled

-- by how much a box of this position is scrolled below these boxes
abbrev pub offset_of : Position → List Above → Scroll
offset_of p above = total (chain (up p) above)

-- a rectangle of what is scrolled
abbrev pub scrolled_by : Scroll → Rectangle → Rectangle
scrolled_by s r = record r { x = r.x -ℤ s.x; y = r.y -ℤ s.y }

-- CSS 2.2 section 8.1: where the border box of a box is drawn
abbrev pub at : List Above → Item → Rectangle
at above d = scrolled_by (offset_of d.style.position above) d.rect

-- Are there no boxes?
abbrev pub is_none : List Above → Bool
is_none [] = true
is_none (b ∷ bs) = false

-- the boxes of a forest where they are drawn below these boxes
abbrev pub drawn_below : List Above → BoxForest → BoxForest
drawn_below above empty = empty
drawn_below above (tree k d below rest) =
    tree k (with_rect (at above d) d) (drawn_below (above_of (is_none above) d ∷ above) below)
    (drawn_below above rest)

-- a tree with each box where it is drawn
abbrev pub drawn : Document → Document
drawn t = record t { boxes = drawn_below [] t.boxes }

-- Each of these boxes is drawn where boxes within the limits are.
abbrev pub AllNear : BoxForest → Type 0
AllNear empty = Unit {0}
AllNear (tree k d below rest) = IsNear d.rect × Fits d.style × AllNear below × AllNear rest
