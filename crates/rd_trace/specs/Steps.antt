-- The ten steps (CSS 2.2 Appendix E.2), as `Painting` of `rd_stack` has them, of the leaves that cover a pixel, each told the
-- place that it is painted in.
use Rattle.std.specs.Prelude.{Bool, not, ◌&&◌, ◌||◌, if◌then◌else◌, int_lt, pos, List, [], ◌∷◌, ◌++◌, filter, flat_map, Option, Some, None}
use Rattle.std.specs.List.{list_any}
use Rattle.rd_style.specs.declared.kinds.Class.{Class}
use Rattle.rd_style.specs.declared.kinds.Class.TheVariants.{Float, Atom, Block, Inline}
use Rattle.rd_keys.specs.declared.entry.Part.{Part}
use Rattle.rd_keys.specs.declared.entry.Part.TheVariants.{Back, Border, Content, Outline}
use Rattle.rd_item.specs.declared.leaf.Leaf.{Leaf}
use Rattle.rd_item.specs.Leaves.{covers}
use Rattle.rd_stack.specs.Paths.{BoxPath, is_root, is_context, has_class, is_local, is_layer, is_in_line, is_blended_layer}
use Rattle.rd_stack.specs.Parts.{leaf_at}
use Rattle.rd_stack.specs.Painting.{is_blocky}
use Rattle.rd_trace.specs.declared.placing.PaintStep.{PaintStep}
use Rattle.rd_trace.specs.declared.placing.PaintStep.TheVariants as at
use Rattle.rd_trace.specs.declared.placing.Placing.{Placing}
use Rattle.rd_trace.specs.declared.placing.Sight.{Sight}
use Rattle.rd_trace.specs.Ways.{Traced, TracedBox, level_at, at_first, placing, place, layer_place, passed, entry_of}

-- the boxes below e that no layer, float or atomic inline divides from it
abbrev pub local_boxes : BoxPath → List TracedBox → List TracedBox
local_boxes e below = filter (λ x. is_local e x.at) below

-- the layers of e among the boxes below it
abbrev pub layers_of : BoxPath → List TracedBox → List TracedBox
layers_of e below = filter (λ x. is_layer e x.at) below

-- CSS Compositing 1 section 3.2: has e a blended layer among the boxes below it?
abbrev pub has_blended_layer : BoxPath → List TracedBox → Bool
has_blended_layer e below = list_any (λ x. is_blended_layer e x.at) below

-- the line of c, which e paints
abbrev pub line_of : BoxPath → List TracedBox → BoxPath → List TracedBox
line_of e below c = filter (λ x. is_in_line e c x.at) below

-- those of one class
abbrev pub of_class : Class → List TracedBox → List TracedBox
of_class c xs = filter (λ x. has_class c x.at) xs

-- section 9.9.1: below the level of the stacking context
abbrev pub is_negative : TracedBox → Bool
is_negative x = int_lt (level_at x.at) (pos 0)

-- section 9.9.1: above the level of the stacking context
abbrev pub is_positive : TracedBox → Bool
is_positive x = int_lt (pos 0) (level_at x.at)

-- section 9.9.1: at the level of the stacking context, or auto
abbrev pub is_zero : TracedBox → Bool
is_zero x = not (is_negative x) && not (is_positive x)

-- x before the first that is not lower
abbrev pub insert_by_level : TracedBox → List TracedBox → List TracedBox
insert_by_level x [] = x ∷ []
insert_by_level x (y ∷ ys) =
    if int_lt (level_at y.at) (level_at x.at) then y ∷ insert_by_level x ys else x ∷ y ∷ ys

-- the lowest level first, and those of one level as they stood
abbrev pub by_level : List TracedBox → List TracedBox
by_level [] = []
by_level (x ∷ xs) = insert_by_level x (by_level xs)

-- leaves where a condition holds, and else none
abbrev pub trace_if : Bool → List Traced → List Traced
trace_if b ts = if b then ts else []

-- all that a box paints, as a part of this step of e
abbrev pub whole : PaintStep → BoxPath → TracedBox → List Traced
whole step e x = passed (place step e x.at) x.order

-- a layer of e, in this step
abbrev pub layer : PaintStep → BoxPath → TracedBox → List Traced
layer step e x = passed (layer_place step e x.at) (entry_of x)

-- the layers of a stacking context e whose levels pass, the lowest level first
abbrev pub layers_where : (TracedBox → Bool) → PaintStep → BoxPath → List TracedBox → List Traced
layers_where p step e below =
    trace_if (is_context e) (flat_map (layer step e) (by_level (filter p (layers_of e below))))

-- step 3: the layers of negative level
abbrev pub negative_layers : BoxPath → List TracedBox → List Traced
negative_layers e below = layers_where is_negative at.NegativeLayers e below

-- step 5: the floats, each with all that it paints
abbrev pub floats : BoxPath → List TracedBox → List Traced
floats e below = flat_map (whole at.Floats e) (of_class Float (local_boxes e below))

-- step 8: the layers of level auto or 0
abbrev pub zero_layers : BoxPath → List TracedBox → List Traced
zero_layers e below = layers_where is_zero at.ZeroLayers e below

-- step 9: the layers of positive level
abbrev pub positive_layers : BoxPath → List TracedBox → List Traced
positive_layers e below = layers_where is_positive at.PositiveLayers e below

module _ (s : Sight) where
  -- a leaf at this place, where there is one that covers the pixel
  abbrev pub seen : Placing → Option Leaf → List Traced
  seen w None = []
  seen w (Some l) = if covers l s.x s.y then at_first w l ∷ [] else []

  -- the leaf of a part at this place
  abbrev pub trace : Placing → Part → BoxPath → List Traced
  trace w part x = seen w (leaf_at s.canvas x part)

  -- the background, and the border on top of it
  abbrev pub back_border : Placing → BoxPath → List Traced
  back_border w x = trace w Back x ++ trace w Border x

  -- a box of the line of c: an atomic inline with all that it paints, an inline box with its background, border and content
  abbrev pub inline_part : PaintStep → BoxPath → BoxPath → TracedBox → List Traced
  inline_part step e c x =
      let w = placing step e c x.at in
      if has_class Atom x.at then passed w x.order else back_border w x.at ++ trace w Content x.at

  -- the content of c, and its line on top
  abbrev pub content_and_line : PaintStep → BoxPath → List TracedBox → BoxPath → List Traced
  content_and_line step e below c =
      trace (place step e c) Content c ++ flat_map (inline_part step e c) (line_of e below c)

  -- step 1: the background of the root
  abbrev pub root_background : BoxPath → List Traced
  root_background e = trace_if (is_root e) (trace (place at.RootBackground e e) Back e)

  -- step 2: of a block the background, unless it is the root, and the border
  abbrev pub own_background_and_border : BoxPath → List Traced
  own_background_and_border e =
      let w = place at.OwnBackground e e in
      trace_if (is_blocky e) (trace_if (not (is_root e)) (trace w Back e) ++ trace w Border e)

  -- step 4: the backgrounds and borders of the blocks
  abbrev pub block_backgrounds : BoxPath → List TracedBox → List Traced
  block_backgrounds e below =
      flat_map (λ x. back_border (place at.BlockBackgrounds e x.at) x.at) (of_class Block (local_boxes e below))

  -- step 6: of an inline box the background, the border, the content and the line
  abbrev pub inline_context : BoxPath → List TracedBox → List Traced
  inline_context e below =
      trace_if (not (is_blocky e)) (back_border (place at.InlineContext e e) e ++ content_and_line at.InlineContext e below e)

  -- step 7: of a block the content and the line, and then those of the blocks below
  abbrev pub block_contents : BoxPath → List TracedBox → List Traced
  block_contents e below =
      trace_if (is_blocky e) (content_and_line at.BlockContents e below e)
      ++ flat_map (λ x. content_and_line at.BlockContents e below x.at) (of_class Block (local_boxes e below))

  -- step 10: the outlines, of the box and of the blocks and inline boxes below
  abbrev pub outlines : BoxPath → List TracedBox → List Traced
  outlines e below =
      trace (place at.Outlines e e) Outline e
      ++ flat_map (λ x. trace (place at.Outlines e x.at) Outline x.at)
      (filter (λ x. has_class Block x.at || has_class Inline x.at) (local_boxes e below))

  -- The leaves that e paints over the pixel, from bottom to top, where below is what each box below it paints there.
  unfoldable pub steps : BoxPath → List TracedBox → List Traced
  steps e below =
      root_background e
      ++ own_background_and_border e
      ++ negative_layers e below
      ++ block_backgrounds e below
      ++ floats e below
      ++ inline_context e below
      ++ block_contents e below
      ++ zero_layers e below
      ++ positive_layers e below
      ++ outlines e below
