use Rattle.std.proofs.Common.{take}
use Rattle.rd_graph.specs.Names.{same_entry}
use Rattle.rd_graph.specs.Internal.Patching.{lists_seen}
use Rattle.rd_graph.specs.Internal.Relisting.{GoesAlong}
use Rattle.rd_graph.specs.Internal.Seen.{seen}
use Rattle.rd_graph.specs.Internal.Tables.{has_it}
use Rattle.rd_graph.specs.Internal.Words.{resolved_by}
use Rattle.rd_graph.proofs.changing.go_along_all.Given as goal

abbrev pub invariant-loop-i : goal.invariant-loop-i
invariant-loop-i l = record {
  so_far : GoesAlong (has_it l.gone.names) same_entry (resolved_by l.gone.names l.notes) l.chain (take l.i l.chain) (seen l.nodes) (lists_seen l.fn.lists.items) (lists_seen l.lists.items);
}
