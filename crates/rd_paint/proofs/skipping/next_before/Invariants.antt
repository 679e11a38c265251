use Rattle.std.proofs.Common.{◌≤◌, ◌-◌, drop}
use Rattle.rd_list.specs.Displayed.{shown}
use Rattle.rd_paint.specs.Internal.Picks.{InSpans, ServesWhere}
use Rattle.rd_paint.proofs.skipping.next_before.Given as goal

abbrev pub invariant-loop-i : goal.invariant-loop-i
invariant-loop-i g l = record {
  from : l.from ≤ l.i;
  end : l.i ≤ l.end;
  same : ServesWhere (InSpans l.columns l.rows) (shown (drop l.i l.entries)) (shown (drop l.from l.entries));
}

abbrev pub decreases-loop-i : goal.decreases-loop-i
decreases-loop-i g l = l.end - l.i

abbrev pub invariant-loop-i-2 : goal.invariant-loop-i-2
invariant-loop-i-2 g l = record {
  from : l.from ≤ l.i;
  end : l.i ≤ l.end;
  same : ServesWhere (InSpans l.columns l.rows) (shown (drop l.i l.entries)) (shown (drop l.from l.entries));
}

abbrev pub decreases-loop-i-2 : goal.decreases-loop-i-2
decreases-loop-i-2 g l = l.end - l.i
