use Rattle.std.proofs.Common.{◌≤◌, ◌+◌, ◌-◌, ◌*◌, ◌∷◌, [], length, drop}
use Rattle.rd_list.specs.Displayed.{shown}
use Rattle.rd_list.specs.Entries.{list_size}
use Rattle.rd_list.specs.KeptView.{kept_entries}
use Rattle.rd_paint.specs.Internal.Picks.{OffSpan, SameWhere, picked}
use Rattle.rd_paint.proofs.reaching.+reaching.Given as goal

abbrev pub invariant-reach-loop-i : goal.invariant-reach-loop-i
invariant-reach-loop-i g l = record {
  at : l.i ≤ length l.picks;
  same : SameWhere (OffSpan l.span l.y) (picked (drop l.i l.picks) (shown l.entries)) (picked l.picks (shown l.entries));
}

abbrev pub decreases-reach-loop-i : goal.decreases-reach-loop-i
decreases-reach-loop-i g l = length l.picks - l.i

abbrev pub decreases-reach : goal.decreases-reach
decreases-reach g l = 5 * list_size (kept_entries l.entries.now) + 3

abbrev pub decreases-reach_at : goal.decreases-reach_at
decreases-reach_at g l = 5 * list_size (kept_entries l.entries.now) + 2

abbrev pub decreases-reach_pick : goal.decreases-reach_pick
decreases-reach_pick g l = 5 * list_size (kept_entries (l.entry.now ∷ [])) + 1

abbrev pub decreases-reach_group : goal.decreases-reach_group
decreases-reach_group g l = 5 * list_size l.inner.now.entries + 4
