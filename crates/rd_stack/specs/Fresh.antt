-- The fresh list of a document.
-- What names no section of a standard is this project's own choice.
use Rattle.std.specs.Prelude.{Bool, ◌&&◌, List, [], ◌∷◌, ◌++◌}
use Rattle.std.specs.List.{list_any}
use Rattle.rd_geom.specs.Plane.{Rectangle}
use Rattle.rd_geom.specs.Canvas.{canvas_of}
use Rattle.rd_keys.specs.Keys.{BoxKey, same_key}
use Rattle.rd_item.specs.declared.leaf.Leaf.{Leaf}
use Rattle.rd_list.specs.Wrappers.{Wrapper}
use Rattle.rd_list.specs.Entries.{Entries, nil}
use Rattle.rd_tree.specs.Forest.{empty, tree}
use Rattle.rd_tree.specs.declared.node.Item.{Item}
use Rattle.rd_tree.specs.Document.{BoxForest, Document}
use Rattle.rd_tree.specs.Drawn.{drawn}
use Rattle.rd_stack.specs.Paths.{BoxData, BoxPath, is_blended_layer, is_grouped}
use Rattle.rd_stack.specs.Painting.{Painted, has_blended_layer, steps, entry_of}

-- a box of a drawn tree, for painting
abbrev pub box_data : BoxKey → Item → BoxData
box_data k d = record { key = k; rect = d.rect; style = d.style }

-- a box where it stands, with the boxes below it
pub record Subtree : Type 0 where
  pub at : BoxPath
  pub below : BoxForest

-- the boxes of a forest in tree order, where they stand below the given ones
abbrev pub preorder : List BoxData → BoxForest → List Subtree
preorder above empty = []
preorder above (tree k d children next) =
    let b = box_data k d in
    record { at = record { above = above; here = b }; below = children }
    ∷ preorder (b ∷ above) children ++ preorder above next

-- CSS 2.2 Appendix E: the strict descendants of e, in tree order
abbrev pub descendants : Subtree → List Subtree
descendants e = preorder (e.at.here ∷ e.at.above) e.below

-- a test of which boxes are grouped, by where they stand and what is painted below them
abbrev pub Grouping : Type 0
Grouping = BoxPath → List Painted → Bool

-- CSS Compositing 1 section 3.2: that of painting
abbrev pub grouping : Grouping
grouping e below = is_grouped e (has_blended_layer e below)

module _ (groups : Grouping) (canvas : Rectangle) where
  -- a box with all that it paints
  abbrev pub painted_at : BoxPath → List Painted → Painted
  painted_at e below = record { at = e; order = steps canvas e below; grouped = groups e below }

  -- such a box before those below it
  abbrev pub with_below : List BoxData → BoxData → List Painted → List Painted
  with_below above b below = painted_at (record { above = above; here = b }) below ∷ below

  -- the boxes of a forest in tree order, each with all that it paints
  abbrev pub painted : List BoxData → BoxForest → List Painted
  painted above empty = []
  painted above (tree k d children next) =
      with_below above (box_data k d) (painted (box_data k d ∷ above) children) ++ painted above next

  -- CSS 2.2 Appendix E.2: all that e paints, from bottom to top: the ten steps over what each box below it paints
  abbrev pub painting_order : Subtree → Entries Wrapper Leaf
  painting_order e = steps canvas e.at (painted (e.at.here ∷ e.at.above) e.below)

  -- CSS 2.2 Appendix E.2: the painting order of the first box, which is the root
  abbrev pub root_order : BoxForest → Entries Wrapper Leaf
  root_order empty = nil
  root_order (tree k d children next) =
      entry_of (painted_at (record { above = []; here = box_data k d }) (painted (box_data k d ∷ []) children))

-- CSS 2.2 Appendix E: what a tree paints whose boxes stand where they are drawn, from bottom to top
abbrev pub drawn_list : Document → Entries Wrapper Leaf
drawn_list t = root_order grouping (canvas_of t.canvas) t.boxes

-- CSS 2.2 Appendix E: what a tree of boxes paints, each where it is drawn
abbrev pub fresh_list : Document → Entries Wrapper Leaf
fresh_list t = drawn_list (drawn t)

-- CSS Compositing 1 section 3.2: is a box grouped, by its descendants?
abbrev pub is_grouped_at : Subtree → Bool
is_grouped_at s = is_grouped s.at (list_any (λ x. is_blended_layer s.at x.at) (descendants s))

-- is the box of this key grouped, in these boxes?
abbrev pub grouped_in : BoxForest → BoxKey → Bool
grouped_in f k = list_any (λ s. same_key k s.at.here.key && is_grouped_at s) (preorder [] f)

-- a grouping that is given by keys
abbrev pub given : (BoxKey → Bool) → Grouping
given g e below = g e.here.key

-- what a tree paints whose boxes stand where they are drawn, where it is given which boxes are grouped
abbrev pub list_given : (BoxKey → Bool) → Document → Entries Wrapper Leaf
list_given g t = root_order (given g) (canvas_of t.canvas) t.boxes
