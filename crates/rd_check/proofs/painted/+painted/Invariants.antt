use Rattle.std.proofs.Common.{take, ◌+◌, ◌*◌, ◌∷◌, []}
use Rattle.rd_list.specs.Entries.{list_size}
use Rattle.rd_list.specs.NewView.{new_entries, in_runs}
use Rattle.rd_check.proofs.Adding.{Adds}
use Rattle.rd_check.proofs.painted.+painted.Given as goal

abbrev pub decreases-add_list : goal.decreases-add_list
decreases-add_list g l = 4 * list_size l.list.now + 3

abbrev pub decreases-add_runs : goal.decreases-add_runs
decreases-add_runs g l = 4 * list_size (in_runs l.runs.now) + 2

abbrev pub decreases-add_run : goal.decreases-add_run
decreases-add_run g l = 4 * list_size (new_entries l.run.now) + 1

abbrev pub decreases-add_entry : goal.decreases-add_entry
decreases-add_entry g l = 4 * list_size (new_entries (l.entry.now ∷ []))

-- the leaves of the runs so far
abbrev pub invariant-add_runs-loop-run : goal.invariant-add_runs-loop-run
invariant-add_runs-loop-run g l = Adds l.round (in_runs (take l.run-index l.runs)) l.fn.painted l.painted

-- the leaves of the entries so far
abbrev pub invariant-add_run-loop-entry : goal.invariant-add_run-loop-entry
invariant-add_run-loop-entry g l = Adds l.round (new_entries (take l.entry-index l.run)) l.fn.painted l.painted
