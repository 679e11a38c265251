-- The leaves of a document that cover a pixel, each with its way.
use Rattle.std.specs.Prelude.{ℤ, List, [], ◌∷◌, ◌++◌}
use Rattle.rd_geom.specs.Canvas.{canvas_of}
use Rattle.rd_tree.specs.Forest.{empty, tree}
use Rattle.rd_tree.specs.Document.{BoxForest, Document}
use Rattle.rd_tree.specs.Drawn.{drawn}
use Rattle.rd_stack.specs.Paths.{BoxData, BoxPath, is_grouped}
use Rattle.rd_stack.specs.Fresh.{box_data}
use Rattle.rd_trace.specs.declared.placing.Sight.{Sight}
use Rattle.rd_trace.specs.Ways.{Traced, TracedBox, entry_of}
use Rattle.rd_trace.specs.Steps.{has_blended_layer, steps}

module _ (s : Sight) where
  -- a box with the leaves that it paints
  abbrev pub traced_at : BoxPath → List TracedBox → TracedBox
  traced_at e below =
      record { at = e; order = steps s e below; grouped = is_grouped e (has_blended_layer e below) }

  -- such a box before those below it
  abbrev pub with_below : List BoxData → BoxData → List TracedBox → List TracedBox
  with_below above b below = traced_at (record { above = above; here = b }) below ∷ below

  -- the boxes of a forest in tree order, each with the leaves that it paints
  abbrev pub traced_below : List BoxData → BoxForest → List TracedBox
  traced_below above empty = []
  traced_below above (tree k d children next) =
      with_below above (box_data k d) (traced_below (box_data k d ∷ above) children) ++ traced_below above next

  -- CSS 2.2 Appendix E.2: what the first box paints, which is the root
  abbrev pub root_traces : BoxForest → List Traced
  root_traces empty = []
  root_traces (tree k d children next) =
      entry_of (traced_at (record { above = []; here = box_data k d }) (traced_below (box_data k d ∷ []) children))

-- a pixel of the canvas of a tree
abbrev pub sight : ℤ → ℤ → Document → Sight
sight x y t = record { canvas = canvas_of t.canvas; x = x; y = y }

-- CSS 2.2 Appendix E: what a tree paints over a pixel whose boxes stand where they are drawn, from bottom to top
abbrev pub drawn_traces : ℤ → ℤ → Document → List Traced
drawn_traces x y t = root_traces (sight x y t) t.boxes

-- CSS 2.2 Appendix E: what a tree of boxes paints over a pixel, each where it is drawn
abbrev pub traced : ℤ → ℤ → Document → List Traced
traced x y t = drawn_traces x y (drawn t)
