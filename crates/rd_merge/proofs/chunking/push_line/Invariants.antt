use Rattle.std.proofs.Common.{◌++◌, take}
use Rattle.rd_graph.specs.Gathered.{gathered}
use Rattle.rd_graph.specs.Runs.{places_of}
use Rattle.rd_list.specs.Chunks.{CoversAll, IsAt}
use Rattle.rd_merge.proofs.chunking.push_line.Given as goal

abbrev pub invariant-loop-run : goal.invariant-loop-run
invariant-loop-run g l = record {
  at : IsAt l.had l.seek.at l.seek.start;
  all : CoversAll l.chunks.items (gathered (places_of (take l.run-index l.runs)) (l.entries ++ l.made));
}
