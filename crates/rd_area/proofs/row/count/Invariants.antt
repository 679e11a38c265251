use Rattle.std.proofs.Common.{◌≡◌, pos, take}
use Rattle.rd_area.proofs.Counting.{widths}
use Rattle.rd_area.proofs.row.count.Given as goal

abbrev pub invariant-loop-s : goal.invariant-loop-s
invariant-loop-s l = pos l.count ≡ widths (take l.s-index l.row)
