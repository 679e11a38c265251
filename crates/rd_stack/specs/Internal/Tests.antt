-- The tests by which the plain program picks the boxes of a step.
use Rattle.std.specs.Prelude.{Bool, ◌&&◌, ◌||◌, List, filter}
use Rattle.rd_style.specs.declared.kinds.Class.TheVariants.{Block, Float, Inline}
use Rattle.rd_stack.specs.declared.layers.Sign.{Sign}
use Rattle.rd_stack.specs.declared.layers.Sign.TheVariants.{Negative, Zero, Positive}
use Rattle.rd_stack.specs.Paths.{BoxPath, has_class, is_local}
use Rattle.rd_stack.specs.Painting.{Painted, local_boxes, layers_of, is_negative, is_zero, is_positive}

-- a block that is local to e
abbrev pub is_local_block : BoxPath → Painted → Bool
is_local_block e x = is_local e x.at && has_class Block x.at

-- a float that is local to e
abbrev pub is_local_float : BoxPath → Painted → Bool
is_local_float e x = is_local e x.at && has_class Float x.at

-- a block or an inline box that is local to e
abbrev pub is_outlined : BoxPath → Painted → Bool
is_outlined e x = is_local e x.at && (has_class Block x.at || has_class Inline x.at)

-- those of the boxes below e
abbrev pub outlined : BoxPath → List Painted → List Painted
outlined e below = filter (λ x. has_class Block x.at || has_class Inline x.at) (local_boxes e below)

-- is the level of a layer of this sign?
abbrev pub has_sign : Sign → Painted → Bool
has_sign Negative x = is_negative x
has_sign Zero x = is_zero x
has_sign Positive x = is_positive x

-- the layers of e with levels of this sign
abbrev pub signed : Sign → BoxPath → List Painted → List Painted
signed sign e below = filter (has_sign sign) (layers_of e below)
