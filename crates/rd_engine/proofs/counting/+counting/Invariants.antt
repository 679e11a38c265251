use Rattle.std.proofs.Common.{◌≤◌, take, length, ◌+◌, ◌-◌, ◌*◌, ◌∷◌, []}
use Rattle.rd_list.specs.Entries.{list_size}
use Rattle.rd_list.specs.NewView.{new_entries, in_runs}
use Rattle.rd_engine.specs.Internal.Counting.{IsCount}
use Rattle.rd_engine.proofs.counting.+counting.Given as goal

abbrev pub decreases-counts_of : goal.decreases-counts_of
decreases-counts_of g l = 4 * list_size l.list.now + 3

abbrev pub decreases-counts_in : goal.decreases-counts_in
decreases-counts_in g l = 4 * list_size (in_runs l.runs.now) + 2

abbrev pub decreases-counts_among : goal.decreases-counts_among
decreases-counts_among g l = 4 * list_size (new_entries l.entries.now) + 1

abbrev pub decreases-counts_at : goal.decreases-counts_at
decreases-counts_at g l = 4 * list_size (new_entries (l.entry.now ∷ []))

abbrev pub invariant-counts_in-loop-run : goal.invariant-counts_in-loop-run
invariant-counts_in-loop-run g l = IsCount l.counts (in_runs (take l.run-index l.runs))

abbrev pub invariant-counts_among-loop-i : goal.invariant-counts_among-loop-i
invariant-counts_among-loop-i g l = record {
  within : l.i ≤ length l.entries;
  count : IsCount l.counts (new_entries (take l.i l.entries));
}

abbrev pub decreases-counts_among-loop-i : goal.decreases-counts_among-loop-i
decreases-counts_among-loop-i g l = length l.entries - l.i
