-- Boxes where they stand, and how they take part in painting.
-- What names no section of a standard is this project's own choice.
use Rattle.std.specs.Prelude.{◌+◌, ◌-◌, nat_lt, Bool, true, false, not, ◌&&◌, ◌||◌, List, [], ◌∷◌, length, take}
use Rattle.std.specs.List.{list_all, list_any}
use Rattle.rd_geom.specs.Plane.{Rectangle, IsPlaced, outset}
use Rattle.rd_style.specs.declared.styles.Style.{Style}
use Rattle.rd_style.specs.declared.kinds.Class.{Class}
use Rattle.rd_style.specs.declared.kinds.Class.TheVariants.{Layer, Float, Atom, Block, Inline}
use Rattle.rd_style.specs.Classes.{class, real, blended}
use Rattle.rd_keys.specs.Keys.{BoxKey, same_key}

-- CSS 2.2 section 8.1: a box by its name, its border box and its style
pub record BoxData : Type 0 where
  pub key : BoxKey
  pub rect : Rectangle
  pub style : Style

-- the outline is within the limits of rectangles.
abbrev pub OutlineFits : BoxData → Type 0
OutlineFits b = IsPlaced (outset b.rect b.style.outline_width)

-- a box with the boxes above it, from its parent up to the root.
pub record BoxPath : Type 0 where
  pub above : List BoxData
  pub here : BoxData

-- are there no boxes?
abbrev pub is_none : List BoxData → Bool
is_none [] = true
is_none (b ∷ bs) = false

-- no box is above the root.
abbrev pub is_root : BoxPath → Bool
is_root x = is_none x.above

-- CSS 2.2 section 9.9.1: whether a box makes a stacking context
abbrev pub is_context : BoxPath → Bool
is_context x = real x.here.style (is_root x)

-- CSS 2.2 Appendix E.2: how the box takes part in painting
abbrev pub class_of : BoxPath → Class
class_of x = class x.here.style (is_root x)

-- are two classes the same?
abbrev pub is_class : Class → Class → Bool
is_class Layer Layer = true
is_class Float Float = true
is_class Atom Atom = true
is_class Block Block = true
is_class Inline Inline = true
is_class _ _ = false

-- is the box of this class?
abbrev pub has_class : Class → BoxPath → Bool
has_class c x = is_class c (class_of x)

-- CSS 2.2 Appendix E.2: of a box that is not the root: a block or an inline box, that is, no layer, float or atomic inline
abbrev pub is_plain : BoxData → Bool
is_plain b = is_class Block (class b.style false) || is_class Inline (class b.style false)

-- CSS 2.2 section 9.2.2: of a box that is not the root: an inline box
abbrev pub is_inline : BoxData → Bool
is_inline b = is_class Inline (class b.style false)

-- CSS 2.2 section 9.9.1: of a box that is not the root: it makes no stacking context
abbrev pub is_no_context : BoxData → Bool
is_no_context b = not (real b.style false)

-- the boxes strictly between e and a box x below it, from x up.
abbrev pub boxes_between : BoxPath → BoxPath → List BoxData
boxes_between e x = take (length x.above - (length e.above + 1)) x.above

-- does x stand below c?
abbrev pub is_below : BoxPath → BoxPath → Bool
is_below c x = list_any (λ b. same_key b.key c.here.key) x.above

-- CSS 2.2 Appendix E.2: a box below e is local to it where no layer, float or atomic inline stands strictly between.
abbrev pub is_local : BoxPath → BoxPath → Bool
is_local e x = list_all is_plain (boxes_between e x)

-- CSS 2.2 Appendix E.2: the layers of e have no stacking context strictly between.
abbrev pub is_layer : BoxPath → BoxPath → Bool
is_layer e x = has_class Layer x && list_all is_no_context (boxes_between e x)

-- CSS Compositing 1 section 3.4.1: a box with a blend mode other than normal
abbrev pub is_blended : BoxPath → Bool
is_blended x = blended x.here.style

-- CSS Compositing 1 section 3.4.1: x is a layer of e that blends with what e paints
abbrev pub is_blended_layer : BoxPath → BoxPath → Bool
is_blended_layer e x = is_layer e x && is_blended x

-- CSS Color 3 section 3.2 and CSS Compositing 1 section 3.2: a stacking context is put as one group onto what is below it
-- where its opacity is below one, which is 255, or its mode is not normal. That it is one too where it has a blended
-- layer, unless it is the root, is this project's own choice: such a layer blends with what its context paints alone.
abbrev pub is_grouped : BoxPath → Bool → Bool
is_grouped e has_blended =
    is_context e && (nat_lt e.here.style.opacity 255 || is_blended e || (not (is_root e) && has_blended))

-- CSS 2.2 section 9.2.2: only inline boxes stand between c and x
abbrev pub is_all_inline : BoxPath → BoxPath → Bool
is_all_inline c x = list_all is_inline (boxes_between c x)

-- CSS 2.2 Appendix E.2: an inline box or an atomic inline
abbrev pub is_inline_level : BoxPath → Bool
is_inline_level x = has_class Inline x || has_class Atom x

-- CSS 2.2 Appendix E.2: x is in the line of c, a box that e paints, where only inline boxes stand strictly between.
abbrev pub is_in_line : BoxPath → BoxPath → BoxPath → Bool
is_in_line e c x = is_local e x && is_inline_level x && is_below c x && is_all_inline c x
