use Rattle.std.proofs.Common.{◌≡◌, ◌+◌, ◌*◌, ◌++◌, [], ◌∷◌, take, string_bytes}
use Rattle.rd_list.specs.Entries.{list_size}
use Rattle.rd_list.specs.KeptView.{kept_entries}
use Rattle.rd_list.specs.Unordered.{unordered}
use Rattle.rd_report.specs.Dumps as dumps
use Rattle.rd_report.proofs.dump.+lines.Given as goal

-- the lines of the entries so far
abbrev pub invariant-push_entries-loop-entry : goal.invariant-push_entries-loop-entry
invariant-push_entries-loop-entry g l = string_bytes l.out ≡ string_bytes l.fn.out ++ dumps.lines l.depth (dumps.named_list l.tree.boxes (unordered (kept_entries (take l.entry-index l.entries))))

abbrev pub decreases-push_list : goal.decreases-push_list
decreases-push_list g l = 3 * list_size l.list.now.entries + 2

abbrev pub decreases-push_entries : goal.decreases-push_entries
decreases-push_entries g l = 3 * list_size (kept_entries l.entries.now) + 1

abbrev pub decreases-push_entry : goal.decreases-push_entry
decreases-push_entry g l = 3 * list_size (kept_entries (l.entry.now ∷ []))
