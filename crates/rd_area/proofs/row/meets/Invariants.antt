use Rattle.std.proofs.Common.{◌≡◌, drop}
use Rattle.rd_area.specs.Internal.Joining.{row_meets}
use Rattle.rd_area.proofs.row.meets.Given as goal

abbrev pub invariant-loop-s : goal.invariant-loop-s
invariant-loop-s l = row_meets l.row l.span ≡ row_meets (drop l.s-index l.row) l.span
