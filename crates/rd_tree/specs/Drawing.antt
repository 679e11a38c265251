-- What changes of a tree come to where its boxes are drawn.
-- All of it is this project's own choice.
use Rattle.std.specs.Prelude.{◌≡◌, ℤ, ◌+ℤ◌, true, if◌then◌else◌, Option, List, [], ◌∷◌}
use Rattle.rd_geom.specs.Plane.{Rectangle}
use Rattle.rd_keys.specs.Keys.{same_key}
use Rattle.rd_tree.specs.declared.scroll.Scroll.{Scroll}
use Rattle.rd_tree.specs.Forest.{empty, tree, has, map_where, IsApart}
use Rattle.rd_tree.specs.Document.{Document, BoxKey, Item, BoxForest, contains}
use Rattle.rd_tree.specs.Changes.{unscrolled, with_rect, insertion, removal, placing, shifting}
use Rattle.rd_tree.specs.Touching.{edited, settled}
use Rattle.rd_tree.specs.Drawn.{Above, above_of, offset_of, scrolled_by, at, is_none, drawn}

-- how far a box is scrolled, in a forest below these boxes
abbrev pub offset_to : BoxKey → List Above → BoxForest → Scroll
offset_to k above empty = unscrolled
offset_to k above (tree i d below rest) =
    if same_key k i then offset_of d.style.position above
    else if has same_key k below then offset_to k (above_of (is_none above) d ∷ above) below else offset_to k above rest

-- the boxes above the children of a box, in a forest below these boxes
abbrev pub above_in : BoxKey → List Above → BoxForest → List Above
above_in p above empty = above
above_in p above (tree i d below rest) =
    if same_key p i then above_of (is_none above) d ∷ above
    else if has same_key p below then above_in p (above_of (is_none above) d ∷ above) below else above_in p above rest

-- the boxes of a forest where they are laid out, of which this is where they are drawn
abbrev pub laid_below : List Above → BoxForest → BoxForest
laid_below above empty = empty
laid_below above (tree k d below rest) =
    tree k (with_rect (record d.rect {
      x = d.rect.x +ℤ (offset_of d.style.position above).x;
      y = d.rect.y +ℤ (offset_of d.style.position above).y;
    }) d) (laid_below (above_of (is_none above) d ∷ above) below) (laid_below above rest)

abbrev pub laid : Document → Document
laid t = record t { boxes = laid_below [] t.boxes }

-- A tree is known by where its boxes are drawn.
pub record IsKnown (t : Document) : Type 0 where
  pub back : laid (drawn t) ≡ t
  pub forth : drawn (laid t) ≡ t

-- These changes are the same ones where boxes are drawn: no box but the one that is named is drawn elsewhere.
pub record DrawsAlike (t : Document) : Type 0 where
  pub inserted : (p : BoxKey) (before : Option BoxKey) (k : BoxKey) (d : Item) → contains t p ≡ true
      → drawn (edited (insertion p before k d) t) ≡ edited (insertion p before k (with_rect (at (above_in p [] t.boxes) d) d)) (drawn t)
  pub removed : (k : BoxKey) → drawn (edited (removal k) t) ≡ edited (removal k) (drawn t)
  pub placed : (k : BoxKey) (r : Rectangle) → contains t k ≡ true
      → drawn (edited (placing k r) t) ≡ edited (placing k (scrolled_by (offset_to k [] t.boxes) r)) (drawn t)
  pub moved : (k : BoxKey) (dx dy : ℤ) → drawn (edited (shifting k dx dy) t) ≡ edited (shifting k dx dy) (drawn t)
  pub unmarked : drawn (record t { boxes = map_where (λ _. true) settled t.boxes })
      ≡ record (drawn t) { boxes = map_where (λ _. true) settled (drawn t).boxes }

abbrev pub DrawingLaw : Type 0
DrawingLaw = (t : Document) → IsApart same_key t.boxes → IsKnown t × DrawsAlike t
