-- What stands for the boxes above.
use Rattle.std.specs.Prelude.{List}
use Rattle.rd_geom.specs.Plane.{Rectangle}
use Rattle.rd_clip.specs.Clipping.{Entered, parent, nearest_positioned, viewport, containing_chain, clipped}
use Rattle.rd_clip.specs.declared.clips.Clips.{Clips}

-- CSS 2.2 section 10.1: the clips that stand for the boxes above, nearest first: one for each place where a containing block is sought
abbrev pub clips_of : Rectangle → List Entered → Clips
clips_of canvas above = record {
  flow = clipped canvas (containing_chain parent above);
  absolute = clipped canvas (containing_chain nearest_positioned above);
  fixed = clipped canvas (containing_chain viewport above);
}
