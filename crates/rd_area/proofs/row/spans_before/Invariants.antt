use Rattle.std.proofs.Common.{◌≡◌, take, drop, ◌++◌}
use Rattle.rd_area.specs.Internal.Joining.{with_span}
use Rattle.rd_area.proofs.row.spans_before.Given as goal

abbrev pub invariant-loop-i : goal.invariant-loop-i
invariant-loop-i l = with_span l.span l.row ≡ take l.i l.row ++ with_span l.span (drop l.i l.row)
