use Rattle.std.proofs.Common.{◌≤◌, ◌-◌, drop, length}
use Rattle.rd_list.specs.Chunks.{IsAt}
use Rattle.rd_list.specs.Displayed.{shown}
use Rattle.rd_paint.specs.Internal.Picks.{InAreaWithin, ServesWhere}
use Rattle.rd_paint.proofs.skipping.next_within.Given as goal

abbrev pub invariant-loop-now : goal.invariant-loop-now
invariant-loop-now g l = record {
  at : IsAt l.level.chunks.now l.now.at l.now.start;
  from : l.from ≤ l.i;
  within : l.i ≤ length l.level.entries.now;
  same : ServesWhere (InAreaWithin l.sight.area.now l.sight.columns l.sight.rows) (shown (drop l.i l.level.entries.now)) (shown (drop l.from l.level.entries.now));
}

abbrev pub decreases-loop-now : goal.decreases-loop-now
decreases-loop-now g l = length l.level.chunks.now - l.now.at
