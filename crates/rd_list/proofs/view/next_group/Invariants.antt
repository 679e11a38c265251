use Rattle.std.proofs.Common.{◌≡◌, ◌≤◌, ◌+◌, ◌-◌, length, take}
use Rattle.rd_list.specs.Entries.{flat}
use Rattle.rd_list.specs.KeptView.{kept_entries}
use Rattle.rd_list.proofs.view.next_group.Given as goal

abbrev pub invariant-loop-i : goal.invariant-loop-i
invariant-loop-i g l = record {
  from : l.from ≤ l.i;
  within : l.i ≤ length l.entries;
  leaves : length (flat (kept_entries (take l.i l.entries))) ≡ length (flat (kept_entries (take l.from l.entries))) + (l.i - l.from);
}

abbrev pub decreases-loop-i : goal.decreases-loop-i
decreases-loop-i g l = length l.entries - l.i

abbrev pub invariant-loop-i-2 : goal.invariant-loop-i-2
invariant-loop-i-2 g l = record {
  from : l.from ≤ l.i;
  within : l.i ≤ length l.entries;
  leaves : length (flat (kept_entries (take l.i l.entries))) ≡ length (flat (kept_entries (take l.from l.entries))) + (l.i - l.from);
}

abbrev pub decreases-loop-i-2 : goal.decreases-loop-i-2
decreases-loop-i-2 g l = length l.entries - l.i
