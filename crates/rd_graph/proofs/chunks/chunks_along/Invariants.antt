use Rattle.std.proofs.Common.{◌≡◌, ◌++◌, length, take}
use Rattle.rd_graph.specs.Gathered.{gathered}
use Rattle.rd_graph.specs.Runs.{places_of}
use Rattle.rd_graph.specs.Internal.Chunks.{TellsTo}
use Rattle.rd_graph.specs.Internal.Seen.{seen}
use Rattle.rd_graph.proofs.chunks.chunks_along.Given as goal

abbrev pub invariant-loop-run : goal.invariant-loop-run
invariant-loop-run l = record {
  start : l.start ≡ length (places_of (take l.run-index l.runs));
  told : TellsTo l.chunks.items (gathered (places_of l.runs) (seen l.nodes ++ seen l.made)) l.start;
}
