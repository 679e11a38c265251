use Rattle.std.proofs.Common.{◌-◌, ◌≤◌}
use Rattle.rd_graph.specs.Internal.Relisting.{AreQuiet}
use Rattle.rd_graph.specs.Internal.Seen.{seen}
use Rattle.rd_graph.specs.Internal.Tables.{has_it}
use Rattle.rd_graph.proofs.changing.next_late.Given as goal

abbrev pub invariant-loop-place : goal.invariant-loop-place
invariant-loop-place l = record {
  after : l.from ≤ l.place;
  within : l.place ≤ l.end;
  quiet : AreQuiet (has_it l.gone.names) (seen l.nodes) l.from l.place;
}

abbrev pub decreases-loop-place : goal.decreases-loop-place
decreases-loop-place l = l.end - l.place
