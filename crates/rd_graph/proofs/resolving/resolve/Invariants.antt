use Rattle.std.proofs.Common.{◌≡◌, [], take}
use Rattle.rd_graph.specs.Internal.Passes.{all_pushed, resolved}
use Rattle.rd_graph.specs.Internal.Tables.{fits_table, has_it}
use Rattle.rd_graph.specs.Internal.Words.{noted_by}
use Rattle.rd_graph.specs.Names.{same_entry}
use Rattle.rd_graph.proofs.resolving.resolve.Given as goal

abbrev pub invariant-loop-key : goal.invariant-loop-key
invariant-loop-key l = record {
  names : l.seen.names.items ≡ all_pushed same_entry [] (resolved same_entry (has_it l.gone.names) (noted_by l.gone.names l.notes) (take l.key-index l.before));
  table : fits_table l.seen.table l.seen.names.items;
}
