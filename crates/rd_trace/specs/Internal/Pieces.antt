-- What a step paints for one box, and what part of a step is painted by a function of its own.
use Rattle.std.specs.Prelude.{Bool, not, ◌&&◌, ◌||◌, List, ◌++◌, filter, flat_map}
use Rattle.std.specs.Borrow.{Bor}
use Rattle.rd_style.specs.declared.kinds.Class.TheVariants.{Block, Float, Inline}
use Rattle.rd_keys.specs.declared.entry.Part.TheVariants.{Back, Content, Outline}
use Rattle.rd_stack.specs.Paths.{BoxPath, is_root, has_class, is_local, is_in_line}
use Rattle.rd_stack.specs.Painting.{is_blocky}
use Rattle.rd_trace.specs.declared.placing.PaintStep.{PaintStep}
use Rattle.rd_trace.specs.declared.placing.PaintStep.TheVariants as at
use Rattle.rd_trace.specs.declared.placing.Placing.{Placing}
use Rattle.rd_trace.specs.declared.placing.Sight.{Sight}
use Rattle.rd_trace.specs.declared.layers.Sign.{Sign}
use Rattle.rd_trace.specs.declared.layers.Sign.TheVariants.{Negative, Zero, Positive}
use Rattle.rd_trace.specs.Ways.{Traced, TracedBox, place}
use Rattle.rd_trace.specs.Steps as spec
use Rattle.rd_trace.specs.Steps.{trace_if, trace, back_border, inline_part, content_and_line, whole, local_boxes, layers_of, line_of, of_class, is_negative, is_zero, is_positive}

-- a traced box behind a reference
abbrev pub now : Bor TracedBox → TracedBox
now p = p.now

-- a block that is local to e
abbrev pub is_local_block : BoxPath → TracedBox → Bool
is_local_block e x = is_local e x.at && has_class Block x.at

-- a float that is local to e
abbrev pub is_local_float : BoxPath → TracedBox → Bool
is_local_float e x = is_local e x.at && has_class Float x.at

-- a block or an inline box that is local to e
abbrev pub is_outlined : BoxPath → TracedBox → Bool
is_outlined e x = is_local e x.at && (has_class Block x.at || has_class Inline x.at)

-- those of the boxes below e
abbrev pub outlined : BoxPath → List TracedBox → List TracedBox
outlined e below = filter (λ x. has_class Block x.at || has_class Inline x.at) (local_boxes e below)

-- is the level of a layer of this sign?
abbrev pub has_sign : Sign → TracedBox → Bool
has_sign Negative x = is_negative x
has_sign Zero x = is_zero x
has_sign Positive x = is_positive x

-- the step of the layers of a sign
abbrev pub step_of : Sign → PaintStep
step_of Negative = at.NegativeLayers
step_of Zero = at.ZeroLayers
step_of Positive = at.PositiveLayers

-- the layers of e with levels of this sign
abbrev pub signed : Sign → BoxPath → List TracedBox → List TracedBox
signed sign e below = filter (has_sign sign) (layers_of e below)

-- a float of e
abbrev pub float : BoxPath → TracedBox → List Traced
float e x = trace_if (is_local_float e x) (whole at.Floats e x)

module _ (s : Sight) where
  -- an inline box of a line
  abbrev pub inline_box : Placing → BoxPath → List Traced
  inline_box w x = back_border s w x ++ trace s w Content x

  -- a box of the line of c
  abbrev pub line_part : PaintStep → BoxPath → BoxPath → TracedBox → List Traced
  line_part step e c x = trace_if (is_in_line e c x.at) (inline_part s step e c x)

  -- the line of c
  abbrev pub line : PaintStep → BoxPath → List TracedBox → BoxPath → List Traced
  line step e below c = flat_map (inline_part s step e c) (line_of e below c)

  -- the background of e, unless it is the root
  abbrev pub own_background : BoxPath → List Traced
  own_background e = trace_if (not (is_root e)) (trace s (place at.OwnBackground e e) Back e)

  -- the background and border of a block of e
  abbrev pub block_background : BoxPath → TracedBox → List Traced
  block_background e x =
      trace_if (is_local_block e x) (back_border s (place at.BlockBackgrounds e x.at) x.at)

  -- the content and line of e, where it is a block
  abbrev pub own_content : BoxPath → List TracedBox → List Traced
  own_content e below = trace_if (is_blocky e) (content_and_line s at.BlockContents e below e)

  -- the content and line of a block of e
  abbrev pub block_content : BoxPath → List TracedBox → TracedBox → List Traced
  block_content e below x =
      trace_if (is_local_block e x) (content_and_line s at.BlockContents e below x.at)

  -- those of all blocks of e
  abbrev pub contents_below : BoxPath → List TracedBox → List Traced
  contents_below e below =
      flat_map (λ x. content_and_line s at.BlockContents e below x.at) (of_class Block (local_boxes e below))

  -- the outline of a block or an inline box of e
  abbrev pub outline_below : BoxPath → TracedBox → List Traced
  outline_below e x = trace_if (is_outlined e x) (trace s (place at.Outlines e x.at) Outline x.at)

  -- those of all of them
  abbrev pub outlines_below : BoxPath → List TracedBox → List Traced
  outlines_below e below = flat_map (λ x. trace s (place at.Outlines e x.at) Outline x.at) (outlined e below)

  -- steps 1 and 2
  unfoldable pub own_backgrounds : BoxPath → List Traced
  own_backgrounds e = spec.root_background s e ++ spec.own_background_and_border s e

  -- steps 3 to 5
  unfoldable pub under_contents : BoxPath → List TracedBox → List Traced
  under_contents e below = spec.negative_layers e below ++ spec.block_backgrounds s e below ++ spec.floats e below

  -- steps 6 and 7
  unfoldable pub contents_and_lines : BoxPath → List TracedBox → List Traced
  contents_and_lines e below = spec.inline_context s e below ++ spec.block_contents s e below

  -- steps 8 to 10
  unfoldable pub over_contents : BoxPath → List TracedBox → List Traced
  over_contents e below = spec.zero_layers e below ++ spec.positive_layers e below ++ spec.outlines s e below
