use Rattle.std.proofs.Common.{length, ◌-◌}
use Rattle.rd_graph.specs.Internal.Regions.{IsCut}
use Rattle.rd_graph.specs.Internal.Ranks.{spread, PutsTo}
use Rattle.rd_graph.proofs.counting.push_ranked.Given as goal

abbrev pub invariant-loop-cut : goal.invariant-loop-cut
invariant-loop-cut l = record {
  cut : IsCut l.what.places.now (length l.what.nodes.now) l.cut;
  to : PutsTo l.cut l.what.places.now l.what.names.now l.what.stays.now l.what.nodes.now (spread l.fn.runs.items) (spread l.runs.items);
}

abbrev pub decreases-loop-cut : goal.decreases-loop-cut
decreases-loop-cut l = length l.what.places.now - l.cut.met
