use Rattle.std.proofs.Common.{◌≡◌, ◌++◌, ◌-◌}
use Rattle.rd_graph.specs.Internal.Tables.{label_in}
use Rattle.rd_graph.specs.Internal.Walks.{staying}
use Rattle.rd_graph.specs.Internal.Ranks.{labelled_ranks, spread}
use Rattle.rd_graph.proofs.counting.push_labels.Given as goal

abbrev pub invariant-loop-place : goal.invariant-loop-place
invariant-loop-place l = record {
  runs : spread l.runs.items ++ labelled_ranks l.region.from.met (label_in l.labels l.last) l.nodes (staying l.stays l.place (l.region.to.place - l.place))
      ≡ spread l.fn.runs.items ++ labelled_ranks l.region.from.met (label_in l.labels l.last) l.nodes (staying l.stays l.region.from.place (l.region.to.place - l.region.from.place));
}
