use Rattle.std.proofs.Common.{◌≡◌}
use Rattle.rd_c.specs.Spans.{told_rows}
use Rattle.rd_c.proofs.painting.spans_of.Given as goal

abbrev pub invariant-loop-y : goal.invariant-loop-y
invariant-loop-y l = record { told : l.out.items ≡ told_rows l.area l.y }
