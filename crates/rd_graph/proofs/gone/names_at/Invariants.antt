use Rattle.std.proofs.Common.{take}
use Rattle.rd_graph.specs.Gathered.{gathered}
use Rattle.rd_graph.specs.Graphs.{nodes}
use Rattle.rd_graph.specs.Internal.Seen.{seen}
use Rattle.rd_graph.specs.Internal.Tables.{at, fits_list}
use Rattle.rd_graph.proofs.Patches.Numbers.{HaveNumbers}
use Rattle.rd_graph.proofs.gone.names_at.Given as goal

abbrev pub invariant-loop-i : goal.invariant-loop-i
invariant-loop-i l = record {
  named : fits_list l.table (gathered (take l.i l.gone) (nodes (seen l.nodes)));
  numbered : HaveNumbers (at l.table) (nodes (seen l.nodes)) l.gone l.i;
}
