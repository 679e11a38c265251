use Rattle.std.proofs.Common.{◌≤◌, ◌+◌, ◌-◌, ◌*◌, ◌∷◌, [], length, take, drop}
use Rattle.rd_list.specs.Displayed.{shown}
use Rattle.rd_list.specs.Entries.{list_size, ◌▷◌}
use Rattle.rd_list.specs.KeptView.{kept_entries}
use Rattle.rd_paint.specs.Internal.Picks.{InRows, IsClosed, ServesWhere, picked}
use Rattle.rd_paint.proofs.narrowing.+narrowing.Given as goal

abbrev pub invariant-narrow-loop-i : goal.invariant-narrow-loop-i
invariant-narrow-loop-i g l = record {
  at : l.i ≤ length l.picks;
  within : l.count ≤ l.i;
  closed : IsClosed (take l.count l.room);
  same : ServesWhere (InRows l.y0 l.y1) (picked (take l.count l.room) (shown l.entries) ▷ picked (drop l.i l.picks) (shown l.entries)) (picked l.picks (shown l.entries));
}

abbrev pub decreases-narrow-loop-i : goal.decreases-narrow-loop-i
decreases-narrow-loop-i g l = length l.picks - l.i

abbrev pub decreases-narrow : goal.decreases-narrow
decreases-narrow g l = 5 * list_size (kept_entries l.entries.now) + 3

abbrev pub decreases-narrow_at : goal.decreases-narrow_at
decreases-narrow_at g l = 5 * list_size (kept_entries l.entries.now) + 2

abbrev pub decreases-narrow_pick : goal.decreases-narrow_pick
decreases-narrow_pick g l = 5 * list_size (kept_entries (l.entry.now ∷ [])) + 1

abbrev pub decreases-narrow_group : goal.decreases-narrow_group
decreases-narrow_group g l = 5 * list_size l.inner.now.entries + 4
