use Rattle.std.proofs.Common.{◌≡◌, ◌≤◌, ◌+◌, ◌*◌, ◌∷◌, [], take, drop, length, None}
use Rattle.rd_list.specs.Chunks.{total}
use Rattle.rd_list.specs.Displayed.{shown}
use Rattle.rd_list.specs.Entries.{list_size}
use Rattle.rd_list.specs.KeptView.{kept_entries}
use Rattle.rd_list.specs.Lists.{hit}
use Rattle.rd_hit.proofs.+hitting.Given as goal

abbrev pub invariant-topmost-loop-left : goal.invariant-topmost-loop-left
invariant-topmost-loop-left g l = record {
  within : l.left ≤ length l.entries;
  none : hit (shown (drop l.left l.entries)) l.x l.y ≡ None;
}

abbrev pub decreases-topmost-loop-left : goal.decreases-topmost-loop-left
decreases-topmost-loop-left g l = l.left

abbrev pub decreases-topmost_of : goal.decreases-topmost_of
decreases-topmost_of g l = 5 * list_size l.list.now.entries + 4

abbrev pub decreases-topmost_by : goal.decreases-topmost_by
decreases-topmost_by g l = 5 * list_size (kept_entries l.entries.now) + 3

abbrev pub decreases-topmost_in_chunk : goal.decreases-topmost_in_chunk
decreases-topmost_in_chunk g l = 5 * list_size (kept_entries l.entries.now) + 2

abbrev pub decreases-topmost : goal.decreases-topmost
decreases-topmost g l = 5 * list_size (kept_entries l.entries.now) + 1

abbrev pub decreases-topmost_in : goal.decreases-topmost_in
decreases-topmost_in g l = 5 * list_size (kept_entries (l.entry.now ∷ []))

abbrev pub invariant-topmost_by-loop-number : goal.invariant-topmost_by-loop-number
invariant-topmost_by-loop-number g l = record {
  number : l.number ≤ length l.chunks;
  end : l.end ≡ total (take l.number l.chunks);
  within : l.end ≤ length l.entries;
  none : hit (shown (drop l.end l.entries)) l.x l.y ≡ None;
}

abbrev pub decreases-topmost_by-loop-number : goal.decreases-topmost_by-loop-number
decreases-topmost_by-loop-number g l = l.number
