use Rattle.std.proofs.Common.{◌≡◌, take, length}
use Rattle.rd_graph.specs.Internal.Patching.{lists_seen}
use Rattle.rd_graph.specs.Internal.Trimming.{AreAsked}
use Rattle.rd_graph.proofs.asking.marks_asked.Given as goal

abbrev pub invariant-loop-list : goal.invariant-loop-list
invariant-loop-list l = record {
  whole : length l.marks.items ≡ 2048;
  asked : AreAsked (take l.list-index (lists_seen l.lists)) l.marks.items;
}
