-- What a step paints for one box, and what part of a step is painted by a function of its own.
use Rattle.std.specs.Prelude.{not, List}
use Rattle.rd_geom.specs.Plane.{Rectangle}
use Rattle.rd_style.specs.declared.kinds.Class.TheVariants.{Block}
use Rattle.rd_keys.specs.declared.entry.Part.TheVariants.{Back, Content, Outline}
use Rattle.rd_item.specs.declared.leaf.Leaf.{Leaf}
use Rattle.rd_list.specs.Wrappers.{Wrapper}
use Rattle.rd_list.specs.Entries.{Entries, ◌▷◌, each}
use Rattle.rd_stack.specs.Paths.{BoxPath, is_root, is_in_line}
use Rattle.rd_stack.specs.Painting.{Painted, paint_if, paint, back_border, inline_part, content_and_line, local_boxes, line_of, of_class, is_blocky}
use Rattle.rd_stack.specs.Internal.Tests.{is_local_block, is_local_float, is_outlined, outlined}

-- a float of e
abbrev pub float : BoxPath → Painted → Entries Wrapper Leaf
float e x = paint_if (is_local_float e x) x.order

module _ (canvas : Rectangle) where
  -- an inline box of a line
  abbrev pub inline_box : BoxPath → Entries Wrapper Leaf
  inline_box x = back_border canvas x ▷ paint canvas Content x

  -- a box of the line of c
  abbrev pub line_part : BoxPath → BoxPath → Painted → Entries Wrapper Leaf
  line_part e c x = paint_if (is_in_line e c x.at) (inline_part canvas x)

  -- the line of c
  abbrev pub line : BoxPath → List Painted → BoxPath → Entries Wrapper Leaf
  line e below c = each (inline_part canvas) (line_of e below c)

  -- the background of e, unless it is the root
  abbrev pub own_background : BoxPath → Entries Wrapper Leaf
  own_background e = paint_if (not (is_root e)) (paint canvas Back e)

  -- the background and border of a block of e
  abbrev pub block_background : BoxPath → Painted → Entries Wrapper Leaf
  block_background e x = paint_if (is_local_block e x) (back_border canvas x.at)

  -- the content and line of e, where it is a block
  abbrev pub own_content : BoxPath → List Painted → Entries Wrapper Leaf
  own_content e below = paint_if (is_blocky e) (content_and_line canvas e below e)

  -- the content and line of a block of e
  abbrev pub block_content : BoxPath → List Painted → Painted → Entries Wrapper Leaf
  block_content e below x = paint_if (is_local_block e x) (content_and_line canvas e below x.at)

  -- those of all blocks of e
  abbrev pub contents_below : BoxPath → List Painted → Entries Wrapper Leaf
  contents_below e below = each (λ x. content_and_line canvas e below x.at) (of_class Block (local_boxes e below))

  -- the outline of a block or an inline box of e
  abbrev pub outline_below : BoxPath → Painted → Entries Wrapper Leaf
  outline_below e x = paint_if (is_outlined e x) (paint canvas Outline x.at)

  -- those of all of them
  abbrev pub outlines_below : BoxPath → List Painted → Entries Wrapper Leaf
  outlines_below e below = each (λ x. paint canvas Outline x.at) (outlined e below)
