use Rattle.std.proofs.Common.{take}
use Rattle.rd_graph.specs.Internal.Tables.{fits_list}
use Rattle.rd_graph.proofs.seen.table_of.Given as goal

abbrev pub invariant-loop-name : goal.invariant-loop-name
invariant-loop-name l = record { named : fits_list l.table (take l.name-index l.names) }
