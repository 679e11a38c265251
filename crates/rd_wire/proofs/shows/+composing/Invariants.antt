use Rattle.std.proofs.Common.{◌≡◌, take, ◌+◌, ◌*◌, ◌∷◌, []}
use Rattle.rd_list.specs.Entries.{list_size}
use Rattle.rd_list.specs.EntryNames.{new_leaves}
use Rattle.rd_list.specs.Lists.{composed}
use Rattle.rd_wire.specs.Internal.Listed.{listed}
use Rattle.rd_wire.proofs.shows.+composing.Given as goal

abbrev pub invariant-compose_all-loop-entry : goal.invariant-compose_all-loop-entry
invariant-compose_all-loop-entry l = l.px ≡ composed l.x l.y l.fn.backdrop (new_leaves (listed (take l.entry-index l.entries)))

abbrev pub decreases-compose : goal.decreases-compose
decreases-compose l = 3 * list_size l.list.now + 2

abbrev pub decreases-compose_all : goal.decreases-compose_all
decreases-compose_all l = 3 * list_size (listed l.entries.now) + 1

abbrev pub decreases-compose_one : goal.decreases-compose_one
decreases-compose_one l = 3 * list_size (listed (l.entry.now ∷ []))
