use Rattle.rd_paint.specs.Pictures.{size_of}
use Rattle.rd_paint.specs.Changed.{IsChanged}
use Rattle.rd_tiles.specs.Internal.Copying.{in_first_tiles, tiles_color}
use Rattle.rd_tiles.proofs.copying.copy_all.Given as goal

abbrev pub invariant-loop-tile : goal.invariant-loop-tile
invariant-loop-tile l = IsChanged (tiles_color (size_of l.initial.canvas) l.tiles) (in_first_tiles (size_of l.initial.canvas) l.tile-index) l.initial.canvas l.canvas
