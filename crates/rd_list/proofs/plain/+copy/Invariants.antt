use Rattle.std.proofs.Common.{◌≡◌, take, ◌+◌, ◌*◌, ◌∷◌, []}
use Rattle.rd_list.specs.Entries.{list_size}
use Rattle.rd_list.specs.Internal.Listed.{listed}
use Rattle.rd_list.proofs.plain.+copy.Given as goal

abbrev pub invariant-copies-loop-entry : goal.invariant-copies-loop-entry
invariant-copies-loop-entry l = listed l.all.items ≡ listed (take l.entry-index l.entries)

abbrev pub decreases-copies : goal.decreases-copies
decreases-copies l = 2 * list_size (listed l.entries.now) + 1

abbrev pub decreases-copy_of : goal.decreases-copy_of
decreases-copy_of l = 2 * list_size (listed (l.entry.now ∷ []))
