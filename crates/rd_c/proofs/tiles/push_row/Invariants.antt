use Rattle.std.proofs.Common.{◌≡◌, ◌++◌}
use Rattle.rd_c.specs.Tiles.{first_tiles, told_tiles}
use Rattle.rd_c.proofs.tiles.push_row.Given as goal

abbrev pub invariant-loop-column : goal.invariant-loop-column
invariant-loop-column l = record { told : l.out.items ≡ l.fn.out.items ++ told_tiles l.area (first_tiles l.side l.size l.row l.column) }
