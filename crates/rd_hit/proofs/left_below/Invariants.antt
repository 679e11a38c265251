use Rattle.std.proofs.Common.{◌≡◌, ◌≤◌, None, drop}
use Rattle.rd_list.specs.Displayed.{shown}
use Rattle.rd_list.specs.Lists.{hit}
use Rattle.rd_hit.proofs.left_below.Given as goal

abbrev pub invariant-loop-left : goal.invariant-loop-left
invariant-loop-left g l = record {
  within : l.left ≤ l.from;
  none : hit (shown (drop l.from l.entries)) l.x l.y ≡ None → hit (shown (drop l.left l.entries)) l.x l.y ≡ None;
}

abbrev pub decreases-loop-left : goal.decreases-loop-left
decreases-loop-left g l = l.left

abbrev pub invariant-loop-left-2 : goal.invariant-loop-left-2
invariant-loop-left-2 g l = record {
  within : l.left ≤ l.from;
  none : hit (shown (drop l.from l.entries)) l.x l.y ≡ None → hit (shown (drop l.left l.entries)) l.x l.y ≡ None;
}

abbrev pub decreases-loop-left-2 : goal.decreases-loop-left-2
decreases-loop-left-2 g l = l.left
