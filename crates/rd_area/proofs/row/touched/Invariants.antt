use Rattle.std.proofs.Common.{◌≡◌, drop}
use Rattle.rd_area.specs.Internal.Joining.{absorbing}
use Rattle.rd_area.proofs.row.touched.Given as goal

abbrev pub invariant-loop-end : goal.invariant-loop-end
invariant-loop-end l = absorbing l.fn.span (drop l.fn.from l.row) ≡ absorbing l.whole (drop l.end l.row)
