-- What is handed down to a box in place of the boxes above it.
use Rattle.std.specs.Prelude.{◌≡◌, Bool, true, false, List, if◌then◌else◌, Option}
use Rattle.rd_geom.specs.Plane.{Rectangle}
use Rattle.rd_style.specs.declared.styles.Style.{Style}
use Rattle.rd_style.specs.Classes.{positioned}
use Rattle.rd_clip.specs.Clipping.{Sought, parent, nearest_positioned, viewport, sought, clipped_by}
use Rattle.rd_clip.specs.Standing.{clips_of}
use Rattle.rd_clip.specs.declared.clips.Clips.{Clips}
use Rattle.rd_keys.specs.declared.entry.Part.{Part}
use Rattle.rd_item.specs.declared.leaf.Leaf.{Leaf}
use Rattle.rd_stack.specs.Paths.{BoxData, is_none}
use Rattle.rd_stack.specs.Clips.{entered}
use Rattle.rd_stack.specs.Parts.{leaf_of}

-- the canvas, whether no box is above, and what may be seen below those above
pub record Inherited : Type 0 where
  pub canvas : Rectangle
  pub root : Bool
  pub clips : Clips

-- what stands for some boxes above, given from the innermost to the root
abbrev pub standing_below : Rectangle → List BoxData → Inherited
standing_below canvas above = record { canvas = canvas; root = is_none above; clips = clips_of canvas (entered above) }

-- so it does for some boxes
pub record Stood (s : Inherited) : Type 0 where
  pub above : List BoxData
  pub is : s ≡ standing_below s.canvas above

-- above the root: all may be seen
abbrev pub at_root : Rectangle → Inherited
at_root q = record { canvas = q; root = true; clips = record { flow = q; absolute = q; fixed = q } }

-- CSS 2.2 section 10.1: the clip of a box, by where its containing block is sought
abbrev pub by_sought : Clips → Sought → Rectangle
by_sought c parent = c.flow
by_sought c nearest_positioned = c.absolute
by_sought c viewport = c.fixed

-- CSS 2.2 section 10.1: what may be seen of a box of this style
abbrev pub clip_in : Inherited → Style → Rectangle
clip_in s t = by_sought s.clips (sought t.position)

-- CSS 2.2 section 11.1.1: what the children of a box may be seen of
abbrev pub entered_clips : Inherited → BoxData → Clips
entered_clips s b =
    let inside = clipped_by (record { style = b.style; rect = b.rect; root = s.root }) (clip_in s b.style) in
    record { flow = inside; absolute = if positioned b.style then inside else s.clips.absolute; fixed = s.clips.fixed }

-- what is handed down to the children of a box
abbrev pub below : Inherited → BoxData → Inherited
below s b = record { canvas = s.canvas; root = false; clips = entered_clips s b }

-- the leaf of a part of a box
abbrev pub leaf_in : Inherited → BoxData → Part → Option Leaf
leaf_in s b part = leaf_of s.canvas s.root (clip_in s b.style) b part
