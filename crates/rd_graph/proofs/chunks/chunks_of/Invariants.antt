use Rattle.std.proofs.Common.{◌-◌, ◌≤◌, length}
use Rattle.rd_graph.specs.Internal.Chunks.{TellsTo}
use Rattle.rd_graph.specs.Internal.Seen.{seen}
use Rattle.rd_graph.proofs.chunks.chunks_of.Given as goal

abbrev pub invariant-loop-place : goal.invariant-loop-place
invariant-loop-place l = record {
  within : l.place ≤ length l.nodes;
  told : TellsTo l.chunks.items (seen l.nodes) l.place;
}

abbrev pub decreases-loop-place : goal.decreases-loop-place
decreases-loop-place l = length l.nodes - l.place
