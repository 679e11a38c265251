use Rattle.std.proofs.Common.{◌≤◌, ◌+◌, ◌-◌, ◌*◌, ◌∷◌, [], length, take, drop}
use Rattle.rd_list.specs.Chunks.{IsAt}
use Rattle.rd_list.specs.Displayed.{shown}
use Rattle.rd_list.specs.Entries.{list_size, ◌▷◌}
use Rattle.rd_list.specs.KeptView.{kept_entries}
use Rattle.rd_paint.specs.Internal.Picks.{InAreaWithin, IsClosed, ServesWhere, picked}
use Rattle.rd_paint.proofs.gathering.+gathering.Given as goal

abbrev pub invariant-gather-loop-i : goal.invariant-gather-loop-i
invariant-gather-loop-i g l = record {
  at : l.i ≤ length l.level.entries.now;
  chunk : IsAt l.level.chunks.now l.seek.at l.seek.start;
  within : l.count ≤ length l.room;
  closed : IsClosed (take l.count l.room);
  same : ServesWhere (InAreaWithin l.sight.area.now l.sight.columns l.sight.rows) (picked (take l.count l.room) (shown l.level.entries.now) ▷ shown (drop l.i l.level.entries.now)) (shown l.level.entries.now);
}

abbrev pub decreases-gather-loop-i : goal.decreases-gather-loop-i
decreases-gather-loop-i g l = length l.level.entries.now - l.i

abbrev pub decreases-gather : goal.decreases-gather
decreases-gather g l = 4 * list_size (kept_entries l.level.entries.now) + 2

abbrev pub decreases-gather_one : goal.decreases-gather_one
decreases-gather_one g l = 4 * list_size (kept_entries (l.entry.now ∷ [])) + 1

abbrev pub decreases-gather_group : goal.decreases-gather_group
decreases-gather_group g l = 4 * list_size l.inner.now.entries + 3
