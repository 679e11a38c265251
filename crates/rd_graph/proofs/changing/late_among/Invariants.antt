use Rattle.std.proofs.Common.{◌-◌, ◌≤◌}
use Rattle.rd_graph.specs.Internal.Relisting.{AreQuiet, has_mark}
use Rattle.rd_graph.specs.Internal.Seen.{seen}
use Rattle.rd_graph.proofs.changing.late_among.Given as goal

abbrev pub invariant-loop-place : goal.invariant-loop-place
invariant-loop-place l = record {
  after : l.from ≤ l.place;
  within : l.place ≤ l.end;
  quiet : AreQuiet (has_mark l.marks) (seen l.nodes) l.from l.place;
}

abbrev pub decreases-loop-place : goal.decreases-loop-place
decreases-loop-place l = l.end - l.place
