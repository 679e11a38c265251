use Rattle.std.proofs.Common.{◌≡◌, ◌≤◌, ◌+◌, ◌-◌, ◌*◌, ◌∷◌, [], length, drop}
use Rattle.rd_list.specs.Displayed.{shown}
use Rattle.rd_list.specs.Entries.{list_size}
use Rattle.rd_list.specs.KeptView.{kept_entries}
use Rattle.rd_list.specs.Views.{levels}
use Rattle.rd_paint.specs.Internal.Picks.{picked}
use Rattle.rd_paint.specs.Internal.Runs.{laid_along}
use Rattle.rd_paint.proofs.chosen.+choosing.Given as goal

abbrev pub invariant-lay_picks-loop-i : goal.invariant-lay_picks-loop-i
invariant-lay_picks-loop-i g l = record {
  within : l.i ≤ length l.picks;
  levels : levels (picked (drop l.i l.picks) (shown l.entries)) ≤ levels (picked l.picks (shown l.entries));
  laid : laid_along l.y l.x0 (picked (drop l.i l.picks) (shown l.entries)) l.out ≡ laid_along l.y l.x0 (picked l.picks (shown l.entries)) l.initial.out;
}

abbrev pub decreases-lay_picks-loop-i : goal.decreases-lay_picks-loop-i
decreases-lay_picks-loop-i g l = length l.picks - l.i

abbrev pub decreases-lay_picks : goal.decreases-lay_picks
decreases-lay_picks g l = 5 * list_size (kept_entries l.entries.now) + 3

abbrev pub decreases-lay_at : goal.decreases-lay_at
decreases-lay_at g l = 5 * list_size (kept_entries l.entries.now) + 2

abbrev pub decreases-lay_pick : goal.decreases-lay_pick
decreases-lay_pick g l = 5 * list_size (kept_entries (l.entry.now ∷ [])) + 1

abbrev pub decreases-lay_own : goal.decreases-lay_own
decreases-lay_own g l = 5 * list_size l.group.now.inner.entries + 5

abbrev pub decreases-lay_seen : goal.decreases-lay_seen
decreases-lay_seen g l = 5 * list_size l.group.now.inner.entries + 4
