use Rattle.std.proofs.Common.{◌≡◌, take}
use Rattle.rd_graph.specs.Internal.Passes.{all_pushed}
use Rattle.rd_graph.specs.Internal.Tables.{fits_table}
use Rattle.rd_graph.specs.Names.{same_entry}
use Rattle.rd_graph.proofs.seen.push_all.Given as goal

abbrev pub invariant-loop-key : goal.invariant-loop-key
invariant-loop-key l = record {
  names : l.seen.names.items ≡ all_pushed same_entry l.fn.seen.names.items (take l.key-index l.more);
  table : fits_table l.seen.table l.seen.names.items;
}
