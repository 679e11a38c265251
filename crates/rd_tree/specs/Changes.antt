-- The seven changes of a tree, and when each keeps to the limits. All of it is this project's own choice. Which boxes a
-- change touches stands in Touching.
use Rattle.std.specs.Prelude.{ℕ, ℤ, pos, ◌+ℤ◌, Bool, true, false, ◌&&◌, List, Option, IsTrue, IfSome}
use Rattle.std.specs.Option.{option_map_or}
use Rattle.rd_geom.specs.Plane.{Rectangle}
use Rattle.rd_style.specs.declared.styles.Style.{Style}
use Rattle.rd_style.specs.declared.styles.StyleChange.{StyleChange}
use Rattle.rd_style.specs.Changes.{changed}
use Rattle.rd_style.specs.Limits.{fits_rect, Fits}
use Rattle.rd_keys.specs.Keys.{same_key}
use Rattle.rd_tree.specs.Forest.{empty, tree, keys, item_of, children, with_children, insert_among, without_branch, branch, at_box, at_subtree}
use Rattle.rd_tree.specs.declared.scroll.Scroll.{Scroll}
use Rattle.rd_tree.specs.Document.{Document, BoxKey, Item, BoxForest, with_child, with_taken, with_all_left}

-- A new box below another, before one of its children or last; a box taken away with all that is below it, or put with it
-- at such a place; another style or rectangle of a box; a box and all below it shifted right and down; another scroll offset of a box.
pub data Change : Type 0 where
  insertion : BoxKey → Option BoxKey → BoxKey → Item → Change
  removal : BoxKey → Change
  moving : BoxKey → BoxKey → Option BoxKey → Change
  styling : BoxKey → StyleChange → Change
  placing : BoxKey → Rectangle → Change
  shifting : BoxKey → ℤ → ℤ → Change
  scrolling : BoxKey → Scroll → Change

-- no scroll offset
abbrev pub unscrolled : Scroll
unscrolled = record { x = pos 0; y = pos 0 }

-- what a tree holds of a new box, which is not scrolled
abbrev pub new_item : List ℕ → Rectangle → Style → Item
new_item id rect style = record { id = id; rect = rect; style = style; scroll = unscrolled; touched = false }

-- a box with the members of its style changed that a change names
abbrev pub restyle : StyleChange → Item → Item
restyle c d = record d { style = changed d.style c }

-- a box with another rectangle
abbrev pub with_rect : Rectangle → Item → Item
with_rect r d = record d { rect = r }

-- a box with another scroll offset
abbrev pub with_scroll : Scroll → Item → Item
with_scroll s d = record d { scroll = s }

-- a rectangle moved right and down
abbrev pub shifted : ℤ → ℤ → Rectangle → Rectangle
shifted dx dy r = record r { x = r.x +ℤ dx; y = r.y +ℤ dy }

-- a box moved right and down
abbrev pub shift_item : ℤ → ℤ → Item → Item
shift_item dx dy d = with_rect (shifted dx dy d.rect) d

-- the tree without a box and all that is below it, whose slots are left
abbrev pub with_removed : BoxKey → Document → Document
with_removed k t =
    record t {
      boxes = without_branch same_key k t.boxes;
      slots = with_all_left t.slots (keys
          (branch same_key k t.boxes));
    }

-- the boxes once k, with all below it, is taken from its place and stands below p, before one of its children or last
abbrev pub put_elsewhere : BoxKey → BoxKey → Option BoxKey → BoxForest → BoxForest
put_elsewhere k p before f =
    let g : BoxForest = without_branch same_key k f in
    with_children same_key p (insert_among same_key before (branch same_key k f)
    (children same_key p g)) g

-- the tree after a change, each box that stays with its mark as before
abbrev pub after : Change → Document → Document
after (insertion p before k d) t =
    record t { boxes = with_child p before k d t.boxes; slots = with_taken t.slots k }
after (removal k) t = with_removed k t
after (moving k p before) t = record t { boxes = put_elsewhere k p before t.boxes }
after (styling k c) t = record t { boxes = at_box same_key k (restyle c) t.boxes }
after (placing k r) t = record t { boxes = at_box same_key k (with_rect r) t.boxes }
after (shifting k dx dy) t = record t { boxes = at_subtree same_key k (shift_item dx dy) t.boxes }
after (scrolling k s) t = record t { boxes = at_box same_key k (with_scroll s) t.boxes }

-- The box stays within the limits under this change of style.
abbrev pub CanRestyle : BoxKey → StyleChange → BoxForest → Type 0
CanRestyle k c f = IfSome (item_of same_key k f) (λ d. Fits (changed d.style c))

-- Does this hold of each item?
abbrev pub all_of : (Item → Bool) → BoxForest → Bool
all_of p empty = true
all_of p (tree k d below rest) = p d && all_of p below && all_of p rest

-- Do a box and all below it stay within the limits once they are shifted?
abbrev pub fits_shift : ℤ → ℤ → BoxKey → BoxForest → Bool
fits_shift dx dy k f =
    option_map_or (λ d. fits_rect (shifted dx dy d.rect)) (item_of same_key k f) true
    && all_of (λ d. fits_rect (shifted dx dy d.rect)) (children same_key k f)

abbrev pub CanShift : ℤ → ℤ → BoxKey → BoxForest → Type 0
CanShift dx dy k f = IsTrue (fits_shift dx dy k f)
