use Rattle.std.proofs.Common.{ℕ, ◌≤◌, ◌+◌, ◌-◌, ◌*◌, length, drop}
use Rattle.rd_item.specs.declared.leaf.Leaf as item
use Rattle.rd_list.specs.Entries.{Entries}
use Rattle.rd_list.specs.Views.{levels}
use Rattle.rd_list.specs.Wrappers.{Wrapper}
use Rattle.rd_paint.specs.Internal.Picks.{picked}
use Rattle.rd_paint.proofs.picks.+nesting.Given as goal

abbrev pub invariant-depth_of-loop-i : goal.invariant-depth_of-loop-i
invariant-depth_of-loop-i l = record {
  at : l.i ≤ length l.picks;
  within : l.most ≤ l.i;
  deep : (es : Entries Wrapper item.Leaf) (m : ℕ) → levels (picked (drop l.i l.picks) es) ≤ m → l.most + 1 ≤ m → levels (picked l.picks es) ≤ m;
}

abbrev pub decreases-depth_of-loop-i : goal.decreases-depth_of-loop-i
decreases-depth_of-loop-i l = length l.picks - l.i

abbrev pub decreases-depth_of : goal.decreases-depth_of
decreases-depth_of l = 2 * length l.picks.now

abbrev pub decreases-depth_at : goal.decreases-depth_at
decreases-depth_at l = 2 * length l.own.now + 1
