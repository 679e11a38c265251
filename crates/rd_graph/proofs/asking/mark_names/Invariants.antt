use Rattle.std.proofs.Common.{◌≡◌, take, length}
use Rattle.rd_keys.specs.declared.entry.EntryKey.{EntryKey}
use Rattle.rd_graph.specs.Internal.Trimming.{HasMark, KeepsMarks}
use Rattle.rd_graph.proofs.Lists.Listing.{Has}
use Rattle.rd_graph.proofs.asking.mark_names.Given as goal

abbrev pub invariant-loop-name : goal.invariant-loop-name
invariant-loop-name l = record {
  whole : length l.marks.items ≡ 2048;
  kept : KeepsMarks l.fn.marks.items l.marks.items;
  marked : (k : EntryKey) → Has (take l.name-index l.names) k → HasMark l.marks.items k;
}
