use Rattle.std.proofs.Common.{◌≡◌, ◌++◌, ◌+◌, ◌≤◌, drop, length}
use Rattle.rd_graph.specs.Internal.Walks.{counted}
use Rattle.rd_graph.proofs.arranging.counted_places.Given as goal

abbrev pub invariant-loop-place : goal.invariant-loop-place
invariant-loop-place l = record {
  places : l.places.items ++ counted l.next (drop l.place-index l.found) ≡ counted (length l.nodes) l.found;
  few : l.next ≤ length l.nodes + l.place-index;
}
