-- What may be seen of a box where it stands.
-- What names no section of a standard is this project's own choice.
use Rattle.std.specs.Prelude.{List, [], ◌∷◌}
use Rattle.rd_geom.specs.Plane.{Rectangle}
use Rattle.rd_clip.specs.Clipping as clipping
use Rattle.rd_clip.specs.Clipping.{Entered}
use Rattle.rd_stack.specs.Paths.{BoxData, BoxPath, is_none}

-- CSS 2.2 section 8.1: the border box without the four border widths
abbrev pub padding_box : BoxData → Rectangle
padding_box b = clipping.padding_box b.style b.rect

-- what clipping asks of the boxes above.
abbrev pub entered : List BoxData → List Entered
entered [] = []
entered (b ∷ above) = record { style = b.style; rect = b.rect; root = is_none above } ∷ entered above

-- CSS 2.2 sections 10.1 and 11.1.1: the canvas met with the padding boxes of the clipping boxes on the containing chain
abbrev pub clip_of : Rectangle → BoxPath → Rectangle
clip_of canvas x = clipping.clip_of canvas (entered x.above) x.here.style
