use Rattle.std.proofs.Common.{map, reverse, length}
use Rattle.rd_check.specs.Rows.{row_of}
use Rattle.rd_check.proofs.Loop.{HasRead}
use Rattle.rd_check.proofs.nesting.rows_of.Given as goal

-- the lines so far, and that what comes is to nest in the groups that are open
abbrev pub invariant-loop-rest : goal.invariant-loop-rest
invariant-loop-rest l = HasRead l.bytes l.rest (map row_of l.rows.items) (reverse l.stack.items)

abbrev pub decreases-loop-rest : goal.decreases-loop-rest
decreases-loop-rest l = length l.rest
