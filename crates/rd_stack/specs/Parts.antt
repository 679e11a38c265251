-- The leaves of a box. That text is a rectangle, and that a leaf that shows nowhere does not exist, is this project's
-- own choice.
use Rattle.std.specs.Prelude.{Bool, true, false, ◌||◌, if◌then◌else◌, nat_lt, Option, Some, None, option_map}
use Rattle.rd_geom.specs.Plane.{Rectangle, meet, no_pixels, has_none, outset}
use Rattle.rd_geom.specs.declared.color.Color.{Color}
use Rattle.rd_geom.specs.declared.rect.Sides.{Sides}
use Rattle.rd_style.specs.declared.kinds.Visibility.{Visibility}
use Rattle.rd_style.specs.declared.kinds.Visibility.TheVariants as visibility
use Rattle.rd_style.specs.declared.kinds.Pointer.{Pointer}
use Rattle.rd_style.specs.declared.kinds.Pointer.TheVariants as pointer
use Rattle.rd_keys.specs.declared.entry.Part.{Part}
use Rattle.rd_keys.specs.declared.entry.Part.TheVariants.{Back, Border, Content, Outline}
use Rattle.rd_item.specs.declared.leaf.Leaf.{Leaf}
use Rattle.rd_item.specs.declared.leaf.Shape.{Shape}
use Rattle.rd_stack.specs.Paths.{BoxData, BoxPath, is_root}
use Rattle.rd_stack.specs.Clips.{padding_box, clip_of}

-- CSS 2.2 section 11.2: hidden and collapsed boxes are not seen
abbrev pub is_seen : Visibility → Bool
is_seen visibility.Visible = true
is_seen _ = false

-- Scalable Vector Graphics 2 section 15.6: pointer events are taken, or passed on
abbrev pub takes_hits : Pointer → Bool
takes_hits pointer.Auto = true
takes_hits pointer.Off = false

-- CSS 2.2 section 8.5.1: some border has a width
abbrev pub has_border : Sides → Bool
has_border s = nat_lt 0 s.top || nat_lt 0 s.right || nat_lt 0 s.bottom || nat_lt 0 s.left

-- all pixels of a rectangle
abbrev pub solid : Rectangle → Shape
solid r = record { outer = r; inner = no_pixels }

-- the outer rectangle without the inner one
abbrev pub frame : Rectangle → Rectangle → Shape
frame outer inner = record { outer = outer; inner = if has_none inner then no_pixels else inner }

-- CSS 2.2 section 14.2: the background of the root is that of the canvas
abbrev pub background : Rectangle → Bool → BoxData → Rectangle
background canvas root b = if root then canvas else b.rect

-- CSS 2.2 section 8.5: the border lies between the border box and the padding box
abbrev pub border : BoxData → Option (Shape × Color)
border b = if has_border b.style.border_width then Some (frame b.rect (padding_box b), b.style.border_color) else None

-- CSS 2.2 section 18.4: the outline lies outside the border box
abbrev pub outline : BoxData → Option (Shape × Color)
outline b =
    if nat_lt 0 b.style.outline_width
    then Some (frame (outset b.rect b.style.outline_width) b.rect, b.style.outline_color) else None

-- CSS 2.2 sections 8.5, 14.2 and 18.4: the shape and the colour of a part, where the box has it
abbrev pub shape_of : Rectangle → Bool → BoxData → Part → Option (Shape × Color)
shape_of canvas root b Back = Some (solid (background canvas root b), b.style.background)
shape_of canvas root b Border = border b
shape_of canvas root b Content = option_map (λ c. (solid (padding_box b), c)) b.style.content
shape_of canvas root b Outline = outline b

-- CSS 2.2 section 11.1.1: the leaf of a shape, where it shows inside a clip
abbrev pub shown : Rectangle → BoxData → Part → Option (Shape × Color) → Option Leaf
shown clip b part None = None
shown clip b part (Some s) =
    let visible = meet s.0.outer clip in
    if has_none visible then None else
    Some (record {
      owner = b.key;
      part = part;
      visible = visible;
      shape = s.0;
      color = s.1;
      hits = takes_hits b.style.pointer;
    })

-- CSS 2.2 section 11.2: the leaf of a part of a box, the root or another, inside a clip; a hidden box has none
abbrev pub leaf_of : Rectangle → Bool → Rectangle → BoxData → Part → Option Leaf
leaf_of canvas root clip b part =
    if is_seen b.style.visibility then shown clip b part (shape_of canvas root b part) else None

-- the leaf of a part of a box where it stands
abbrev pub leaf_at : Rectangle → BoxPath → Part → Option Leaf
leaf_at canvas x part = leaf_of canvas (is_root x) (clip_of canvas x) x.here part
