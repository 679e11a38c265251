use Rattle.std.proofs.Common.{◌≡◌, ◌+◌, ◌*◌, ◌++◌, [], ◌∷◌, take}
use Rattle.rd_list.specs.Entries.{list_size}
use Rattle.rd_list.specs.KeptView.{kept_entries}
use Rattle.rd_c.specs.Listed.{listed}
use Rattle.rd_c.proofs.listing.+listing.Given as goal

abbrev pub invariant-push_entries-loop-entry : goal.invariant-push_entries-loop-entry
invariant-push_entries-loop-entry g l = l.out.items ≡ l.fn.out.items ++ listed (kept_entries (take l.entry-index l.entries))

abbrev pub decreases-push_level : goal.decreases-push_level
decreases-push_level g l = 3 * list_size l.list.now.entries + 2

abbrev pub decreases-push_entries : goal.decreases-push_entries
decreases-push_entries g l = 3 * list_size (kept_entries l.entries.now) + 1

abbrev pub decreases-push_entry : goal.decreases-push_entry
decreases-push_entry g l = 3 * list_size (kept_entries (l.entry.now ∷ []))
