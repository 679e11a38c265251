use Rattle.std.proofs.Common.{◌≡◌, ◌++◌}
use Rattle.rd_graph.specs.Patches.{with_lists}
use Rattle.rd_graph.specs.Internal.Chunks.{Tells}
use Rattle.rd_graph.specs.Internal.Patching.{lists_seen}
use Rattle.rd_graph.specs.Internal.Seen.{seen}
use Rattle.rd_graph.proofs.applying.put_lists.Given as goal

abbrev pub invariant-loop-place : goal.invariant-loop-place
invariant-loop-place l = record {
  put : seen l.nodes.items ≡ with_lists (lists_seen l.yielded) (seen l.fn.nodes.items);
  told : Tells l.chunks.items (seen l.nodes.items);
  lists : l.fn.lists.items ≡ l.yielded ++ l.place-iterator.rest.items;
}
