use Rattle.std.proofs.Common.{◌≡◌, take, ◌+◌, ◌*◌, ◌∷◌, []}
use Rattle.rd_list.specs.Entries.{flat, list_size}
use Rattle.rd_list.specs.EntryNames.{new_leaves}
use Rattle.rd_list.specs.Lists as lists
use Rattle.rd_list.specs.Internal.LastHit.{last_owner}
use Rattle.rd_wire.specs.Internal.Listed.{listed}
use Rattle.rd_wire.proofs.shows.+hits.Given as goal

abbrev pub invariant-hit_among-loop-entry : goal.invariant-hit_among-loop-entry
invariant-hit_among-loop-entry l = l.found ≡ last_owner (lists.is_hit l.x l.y) l.fn.found (flat (new_leaves (listed (take l.entry-index l.entries))))

abbrev pub decreases-hit_in : goal.decreases-hit_in
decreases-hit_in l = 3 * list_size l.list.now + 2

abbrev pub decreases-hit_among : goal.decreases-hit_among
decreases-hit_among l = 3 * list_size (listed l.entries.now) + 1

abbrev pub decreases-hit_at : goal.decreases-hit_at
decreases-hit_at l = 3 * list_size (listed (l.entry.now ∷ []))
