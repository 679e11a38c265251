use Rattle.std.proofs.Common.{◌≡◌, true, false, take, length, get_or}
use Rattle.rd_keys.specs.declared.entry.EntryKey.{EntryKey}
use Rattle.rd_graph.specs.Gathered.{gathered}
use Rattle.rd_graph.specs.Graphs.{nodes}
use Rattle.rd_graph.specs.Internal.Seen.{seen}
use Rattle.rd_graph.specs.Internal.Relisting.{mark_of}
use Rattle.rd_graph.proofs.Lists.Listing.{Has}
use Rattle.rd_graph.proofs.gone.marks_at.Given as goal

abbrev pub invariant-loop-place : goal.invariant-loop-place
invariant-loop-place l = record {
  whole : length l.marks.items ≡ 2048;
  marked : (k : EntryKey) → Has (gathered (take l.place-index l.gone) (nodes (seen l.nodes))) k → get_or l.marks.items (mark_of k) false ≡ true;
}
