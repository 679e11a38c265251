use Rattle.rd_paint.specs.Changed.{IsChanged}
use Rattle.rd_tiles.specs.Internal.Copying.{in_first_rows, tile_color}
use Rattle.rd_tiles.proofs.copying.copy_tile.Given as goal

abbrev pub invariant-loop-row : goal.invariant-loop-row
invariant-loop-row l = IsChanged (tile_color l.tile) (in_first_rows l.tile.place l.row) l.initial.canvas l.canvas
