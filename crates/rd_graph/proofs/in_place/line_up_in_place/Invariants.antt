use Rattle.std.proofs.Common.{◌≤◌, ◌-◌, drop, length, take}
use Rattle.rd_graph.proofs.LinedUp.Windows.{IsMade}
use Rattle.rd_graph.proofs.in_place.line_up_in_place.Given as goal

abbrev pub invariant-loop-elements : goal.invariant-loop-elements
invariant-loop-elements g l = record {
  from : l.from ≤ length l.runs;
  made : IsMade l.old l.fn.elements.items l.fn.made.items l.fn.aside.items (take l.from l.runs) (drop l.from l.runs) l.first l.next l.elements.items;
}

abbrev pub decreases-loop-elements : goal.decreases-loop-elements
decreases-loop-elements g l = length l.runs - l.from
