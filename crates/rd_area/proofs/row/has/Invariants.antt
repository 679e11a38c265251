use Rattle.std.proofs.Common.{◌≡◌, drop}
use Rattle.rd_area.specs.Internal.Joining.{row_has}
use Rattle.rd_area.proofs.row.has.Given as goal

abbrev pub invariant-loop-s : goal.invariant-loop-s
invariant-loop-s l = row_has l.row l.span ≡ row_has (drop l.s-index l.row) l.span
