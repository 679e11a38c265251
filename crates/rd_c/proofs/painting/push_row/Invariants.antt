use Rattle.std.proofs.Common.{◌≡◌, ◌++◌, take, map}
use Rattle.rd_c.specs.Spans.{told_span}
use Rattle.rd_c.proofs.painting.push_row.Given as goal

abbrev pub invariant-loop-span : goal.invariant-loop-span
invariant-loop-span l = record { told : l.out.items ≡ l.fn.out.items ++ map (told_span l.y) (take l.span-index l.row) }
