use Rattle.std.proofs.Common.{take}
use Rattle.rd_graph.specs.Internal.Tables.{fits_list}
use Rattle.rd_check.specs.Internal.Finding.{IsTwiceIn}
use Rattle.rd_check.proofs.Searching.{NoneBelow}
use Rattle.rd_check.proofs.judging.first_twice.Given as goal

-- the table has the names so far, and they differ
abbrev pub invariant-loop-i : goal.invariant-loop-i
invariant-loop-i l = record { known : fits_list l.known (take l.i l.names); none : NoneBelow (IsTwiceIn l.names) l.i }
