use Rattle.std.proofs.Common.{◌≡◌, ◌++◌, ◌≤◌, drop}
use Rattle.rd_graph.specs.Internal.Ranks.{loose, spread}
use Rattle.rd_graph.proofs.ranking.loose_runs.Given as goal

abbrev pub invariant-loop-place : goal.invariant-loop-place
invariant-loop-place l = record {
  runs : spread l.runs.items ++ loose l.stays l.rank (drop l.place-index l.places) ≡ loose l.stays 0 l.places;
  few : l.rank ≤ l.place-index;
}
