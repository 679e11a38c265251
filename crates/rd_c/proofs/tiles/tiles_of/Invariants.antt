use Rattle.std.proofs.Common.{◌≡◌}
use Rattle.rd_c.specs.Tiles.{first_rows, told_tiles}
use Rattle.rd_c.proofs.tiles.tiles_of.Given as goal

abbrev pub invariant-loop-row : goal.invariant-loop-row
invariant-loop-row l = record { told : l.out.items ≡ told_tiles l.area (first_rows l.side l.size l.row) }
