-- The painting order of a box and of all that is below it (CSS 2.2 Appendix E.2). How boxes are gathered into lists is
-- this project's own form of it.
use Rattle.std.specs.Prelude.{ℤ, pos, int_lt, Bool, not, ◌&&◌, ◌||◌, if◌then◌else◌, List, [], ◌∷◌, filter, Option, Some, None}
use Rattle.std.specs.List.{list_any}
use Rattle.rd_geom.specs.Plane.{Rectangle}
use Rattle.rd_style.specs.declared.kinds.Class.{Class}
use Rattle.rd_style.specs.declared.kinds.Class.TheVariants.{Float, Atom, Block, Inline}
use Rattle.rd_style.specs.Classes.{level, blocky}
use Rattle.rd_keys.specs.declared.entry.Part.{Part}
use Rattle.rd_keys.specs.declared.entry.Part.TheVariants.{Back, Border, Content, Outline}
use Rattle.rd_item.specs.declared.leaf.Leaf.{Leaf}
use Rattle.rd_list.specs.Wrappers.{Wrapper}
use Rattle.rd_list.specs.Entries.{Entries, nil, group, ◌▷◌, each, option_entry, flat, has_leaf}
use Rattle.rd_stack.specs.Paths.{BoxPath, is_root, is_context, has_class, is_local, is_layer, is_in_line, is_blended_layer}
use Rattle.rd_stack.specs.Parts.{leaf_at}

-- a box with all that it paints, from bottom to top, and whether that is one group
pub record Painted : Type 0 where
  pub at : BoxPath
  pub order : Entries Wrapper Leaf
  pub grouped : Bool

-- the boxes below e that no layer, float or atomic inline divides from it
abbrev pub local_boxes : BoxPath → List Painted → List Painted
local_boxes e below = filter (λ x. is_local e x.at) below

-- the layers of e among the boxes below it
abbrev pub layers_of : BoxPath → List Painted → List Painted
layers_of e below = filter (λ x. is_layer e x.at) below

-- CSS Compositing 1 section 3.2: has e a blended layer among the boxes below it?
abbrev pub has_blended_layer : BoxPath → List Painted → Bool
has_blended_layer e below = list_any (λ x. is_blended_layer e x.at) below

-- the line of c, which e paints
abbrev pub line_of : BoxPath → List Painted → BoxPath → List Painted
line_of e below c = filter (λ x. is_in_line e c x.at) below

-- those of one class
abbrev pub of_class : Class → List Painted → List Painted
of_class c xs = filter (λ x. has_class c x.at) xs

-- section 9.9.1: the stack level of auto is 0
abbrev pub stack_level : Option ℤ → ℤ
stack_level None = pos 0
stack_level (Some z) = z

-- section 9.9.1: the stack level of a layer
abbrev pub level_of : Painted → ℤ
level_of x = stack_level (level x.at.here.style (is_root x.at))

-- section 9.9.1: below the level of the stacking context
abbrev pub is_negative : Painted → Bool
is_negative x = int_lt (level_of x) (pos 0)

-- section 9.9.1: above the level of the stacking context
abbrev pub is_positive : Painted → Bool
is_positive x = int_lt (pos 0) (level_of x)

-- section 9.9.1: at the level of the stacking context, or auto
abbrev pub is_zero : Painted → Bool
is_zero x = not (is_negative x) && not (is_positive x)

-- section 9.9.1: y is at a lower level than x
abbrev pub is_lower : Painted → Painted → Bool
is_lower y x = int_lt (level_of y) (level_of x)

-- x before the first that is not lower
abbrev pub insert_by_level : Painted → List Painted → List Painted
insert_by_level x [] = x ∷ []
insert_by_level x (y ∷ ys) = if is_lower y x then y ∷ insert_by_level x ys else x ∷ y ∷ ys

-- the lowest level first, and those of one level as they stood
abbrev pub by_level : List Painted → List Painted
by_level [] = []
by_level (x ∷ xs) = insert_by_level x (by_level xs)

-- a list where a condition holds, and else nothing
abbrev pub paint_if : Bool → Entries Wrapper Leaf → Entries Wrapper Leaf
paint_if b xs = if b then xs else nil

-- what a list says of the group of a box
abbrev pub wrapper_of : BoxPath → Wrapper
wrapper_of x = record { key = x.here.key; opacity = x.here.style.opacity; blend = x.here.style.blend }

-- CSS Color 3 section 3.2: a box that is grouped is composed as one group, if it paints anything
abbrev pub entry_of : Painted → Entries Wrapper Leaf
entry_of x = if x.grouped && has_leaf (flat x.order) then group (wrapper_of x.at) x.order nil else x.order

-- section 9.7: whether a box is laid out as a block
abbrev pub is_blocky : BoxPath → Bool
is_blocky e = blocky e.here.style (is_root e)

-- the layers of a stacking context e whose levels pass, the lowest level first
abbrev pub layers_where : (Painted → Bool) → BoxPath → List Painted → Entries Wrapper Leaf
layers_where p e below = paint_if (is_context e) (each entry_of (by_level (filter p (layers_of e below))))

-- step 3: the layers of negative level
abbrev pub negative_layers : BoxPath → List Painted → Entries Wrapper Leaf
negative_layers e below = layers_where is_negative e below

-- step 5: the floats, each with all that it paints
abbrev pub floats : BoxPath → List Painted → Entries Wrapper Leaf
floats e below = each (λ x. x.order) (of_class Float (local_boxes e below))

-- step 8: the layers of level auto or 0
abbrev pub zero_layers : BoxPath → List Painted → Entries Wrapper Leaf
zero_layers e below = layers_where is_zero e below

-- step 9: the layers of positive level
abbrev pub positive_layers : BoxPath → List Painted → Entries Wrapper Leaf
positive_layers e below = layers_where is_positive e below

module _ (canvas : Rectangle) where
  -- the leaf of a part, where there is one
  abbrev pub paint : Part → BoxPath → Entries Wrapper Leaf
  paint part x = option_entry (leaf_at canvas x part)

  -- the background, and the border on top of it
  abbrev pub back_border : BoxPath → Entries Wrapper Leaf
  back_border x = paint Back x ▷ paint Border x

  -- a box of a line: an atomic inline with all that it paints, an inline box with its background, border and content
  abbrev pub inline_part : Painted → Entries Wrapper Leaf
  inline_part x = if has_class Atom x.at then x.order else back_border x.at ▷ paint Content x.at

  -- the content of c, and its line on top
  abbrev pub content_and_line : BoxPath → List Painted → BoxPath → Entries Wrapper Leaf
  content_and_line e below c = paint Content c ▷ each inline_part (line_of e below c)

  -- step 1: the background of the root
  abbrev pub root_background : BoxPath → Entries Wrapper Leaf
  root_background e = paint_if (is_root e) (paint Back e)

  -- step 2: of a block the background, unless it is the root, and the border
  abbrev pub own_background_and_border : BoxPath → Entries Wrapper Leaf
  own_background_and_border e = paint_if (is_blocky e) (paint_if (not (is_root e)) (paint Back e) ▷ paint Border e)

  -- step 4: the backgrounds and borders of the blocks
  abbrev pub block_backgrounds : BoxPath → List Painted → Entries Wrapper Leaf
  block_backgrounds e below = each (λ x. back_border x.at) (of_class Block (local_boxes e below))

  -- step 6: of an inline box the background, the border, the content and the line
  abbrev pub inline_context : BoxPath → List Painted → Entries Wrapper Leaf
  inline_context e below = paint_if (not (is_blocky e)) (back_border e ▷ content_and_line e below e)

  -- step 7: of a block the content and the line, and then those of the blocks below
  abbrev pub block_contents : BoxPath → List Painted → Entries Wrapper Leaf
  block_contents e below =
      paint_if (is_blocky e) (content_and_line e below e)
      ▷ each (λ x. content_and_line e below x.at) (of_class Block (local_boxes e below))

  -- step 10: the outlines, of the box and of the blocks and inline boxes below
  abbrev pub outlines : BoxPath → List Painted → Entries Wrapper Leaf
  outlines e below =
      paint Outline e
      ▷ each (λ x. paint Outline x.at) (filter (λ x. has_class Block x.at || has_class Inline x.at) (local_boxes e below))

  -- What e paints, from bottom to top, where below is what each box below it paints.
  unfoldable pub steps : BoxPath → List Painted → Entries Wrapper Leaf
  steps e below =
      root_background e
      ▷ own_background_and_border e
      ▷ negative_layers e below
      ▷ block_backgrounds e below
      ▷ floats e below
      ▷ inline_context e below
      ▷ block_contents e below
      ▷ zero_layers e below
      ▷ positive_layers e below
      ▷ outlines e below
