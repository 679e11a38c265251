-- What may be seen of a box, by the boxes above it.
use Rattle.std.specs.Prelude.{Bool, if◌then◌else◌, List, [], ◌∷◌}
use Rattle.rd_geom.specs.Plane.{Rectangle, meet, inset}
use Rattle.rd_style.specs.declared.styles.Style.{Style}
use Rattle.rd_style.specs.declared.kinds.Position.{Position}
use Rattle.rd_style.specs.declared.kinds.Position.TheVariants as position
use Rattle.rd_style.specs.Classes.{clips, positioned}

-- what clipping asks of a box above another: its style, its border box, and whether it is the root
pub record Entered : Type 0 where
  pub style : Style
  pub rect : Rectangle
  pub root : Bool

-- CSS 2.2 section 8.1: the padding box
abbrev pub padding_box : Style → Rectangle → Rectangle
padding_box s r = inset r s.border_width.top s.border_width.right s.border_width.bottom
    s.border_width.left

-- CSS 2.2 section 10.1: where a box's containing block is sought among the boxes above it
pub data Sought : Type 0 where
  parent : Sought
  nearest_positioned : Sought
  viewport : Sought

-- CSS 2.2 section 10.1: by the position of the box; that a box in the flow goes to its parent, for clipping, is this project's own choice
abbrev pub sought : Position → Sought
sought position.Absolute = nearest_positioned
sought position.Fixed = viewport
sought position.Relative = parent
sought position.Static = parent

-- CSS 2.2 section 10.1: the box that is sought among those above, nearest first, the one that it seeks itself, and so on
abbrev pub containing_chain : Sought → List Entered → List Entered
containing_chain viewport above = []
containing_chain parent [] = []
containing_chain parent (b ∷ above) = b ∷ containing_chain (sought b.style.position) above
containing_chain nearest_positioned [] = []
containing_chain nearest_positioned (b ∷ above) =
    if positioned b.style then b ∷ containing_chain (sought b.style.position) above
    else containing_chain nearest_positioned above

-- CSS 2.2 section 11.1.1: what a box leaves of a rectangle: its padding box, where it clips
abbrev pub clipped_by : Entered → Rectangle → Rectangle
clipped_by b r = if clips b.style b.root then meet r (padding_box b.style b.rect) else r

-- CSS 2.2 section 11.1.1: what the boxes of a chain leave of the canvas
abbrev pub clipped : Rectangle → List Entered → Rectangle
clipped canvas [] = canvas
clipped canvas (b ∷ bs) = clipped_by b (clipped canvas bs)

-- CSS 2.2 sections 10.1 and 11.1.1: what may be seen of a box of this style below the boxes above
abbrev pub clip_of : Rectangle → List Entered → Style → Rectangle
clip_of canvas above s = clipped canvas (containing_chain (sought s.position) above)
