-- What ways have to do with the painting order.
use Rattle.std.specs.Prelude.{◌≡◌, ℤ, List, [], ◌∷◌, Contains, filter, map, reverse}
use Rattle.std.specs.List.{AllByRecursion}
use Rattle.rd_geom.specs.Plane.{Rectangle}
use Rattle.rd_geom.specs.Canvas.{canvas_of}
use Rattle.rd_item.specs.declared.leaf.Leaf.{Leaf}
use Rattle.rd_item.specs.Leaves.{covers}
use Rattle.rd_list.specs.Wrappers.{Wrapper}
use Rattle.rd_list.specs.Entries.{Entries, flat, routes}
use Rattle.rd_list.specs.Lists.{hit}
use Rattle.rd_tree.specs.Document.{Document}
use Rattle.rd_tree.specs.Drawn.{drawn}
use Rattle.rd_stack.specs.Paths.{BoxPath}
use Rattle.rd_stack.specs.Painting as painting
use Rattle.rd_stack.specs.Painting.{Painted}
use Rattle.rd_stack.specs.Fresh.{Subtree, preorder, grouping, painted, fresh_list}
use Rattle.rd_trace.specs.declared.placing.PaintStep.{PaintStep}
use Rattle.rd_trace.specs.declared.placing.PaintStep.TheVariants.{RootBackground, OwnBackground, NegativeLayers, BlockBackgrounds, Floats, InlineContext, BlockContents, ZeroLayers, PositiveLayers, Outlines}
use Rattle.rd_trace.specs.declared.placing.Placing.{Placing}
use Rattle.rd_trace.specs.Ways.{Traced, hit_of}
use Rattle.rd_trace.specs.Traces.{traced}

-- a leaf under its groups, from the outside in, without its way
abbrev pub untraced : Traced → List Wrapper × Leaf
untraced t = (reverse t.groups, t.leaf)

-- the leaves of a list that cover a pixel, each under its groups, from bottom to top
abbrev pub over_pixel : ℤ → ℤ → Entries Wrapper Leaf → List (List Wrapper × Leaf)
over_pixel x y list = filter (λ r. covers r.1 x y) (routes [] list)

-- CSS 2.2 Appendix E: the leaves that are traced are those of the painting order that cover the pixel, in its order and
-- under its groups
abbrev pub TracedLaw : Type 0
TracedLaw = (x y : ℤ) (t : Document) → map untraced (traced x y t) ≡ over_pixel x y (fresh_list t)

-- CSS 2.2 Appendix E.2: what a step of a box paints, where below is what each box below it paints
abbrev pub step_of : PaintStep → Rectangle → BoxPath → List Painted → Entries Wrapper Leaf
step_of RootBackground canvas e below = painting.root_background canvas e
step_of OwnBackground canvas e below = painting.own_background_and_border canvas e
step_of NegativeLayers canvas e below = painting.negative_layers e below
step_of BlockBackgrounds canvas e below = painting.block_backgrounds canvas e below
step_of Floats canvas e below = painting.floats e below
step_of InlineContext canvas e below = painting.inline_context canvas e below
step_of BlockContents canvas e below = painting.block_contents canvas e below
step_of ZeroLayers canvas e below = painting.zero_layers e below
step_of PositiveLayers canvas e below = painting.positive_layers e below
step_of Outlines canvas e below = painting.outlines canvas e below

-- what a step of a box paints
abbrev pub painted_in : PaintStep → Rectangle → Subtree → Entries Wrapper Leaf
painted_in k canvas s = step_of k canvas s.at (painted grouping canvas (s.at.here ∷ s.at.above) s.below)

-- The place is true of the leaf, in a tree whose boxes stand where they are drawn: the step that it names, of the box that it
-- names, paints the leaf.
pub record IsPlaced (t : Document) (l : Leaf) (w : Placing) : Type 0 where
  pub box : Subtree
  pub there : Contains (preorder [] t.boxes) box
  pub named : box.at.here.key ≡ w.context
  pub paints : Contains (flat (painted_in w.step (canvas_of t.canvas) box)) l

-- CSS 2.2 Appendix E.2: each place of each way is true of its leaf
abbrev pub PlacesLaw : Type 0
PlacesLaw = (x y : ℤ) (t : Document) → AllByRecursion (λ a. AllByRecursion (IsPlaced (drawn t) a.leaf) a.way) (traced x y t)

-- the first leaf from the top that takes the hit is that of the box which is hit in the painting order
abbrev pub HitLaw : Type 0
HitLaw = (x y : ℤ) (t : Document) → hit_of (reverse (traced x y t)) ≡ hit (fresh_list t) x y
