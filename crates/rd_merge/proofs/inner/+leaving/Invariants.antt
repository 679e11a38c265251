use Rattle.std.proofs.Common.{◌≡◌, ◌≤◌, take, drop, length, false, ◌+◌, ◌*◌, ◌∷◌, []}
use Rattle.rd_list.specs.Chunks.{Covers}
use Rattle.rd_list.specs.Entries.{list_size}
use Rattle.rd_list.specs.KeptView.{kept_entries}
use Rattle.rd_merge.specs.Internal.Looks.{has_touched}
use Rattle.rd_merge.proofs.inner.+leaving.Given as goal

abbrev pub decreases-goes_in : goal.decreases-goes_in
decreases-goes_in g l = 5 * list_size l.list.now.entries + 4

abbrev pub decreases-goes_by : goal.decreases-goes_by
decreases-goes_by g l = 5 * list_size (kept_entries l.entries.now) + 3

abbrev pub decreases-goes_in_chunk : goal.decreases-goes_in_chunk
decreases-goes_in_chunk g l = 5 * list_size (kept_entries l.entries.now) + 2

abbrev pub decreases-any_goes : goal.decreases-any_goes
decreases-any_goes g l = 5 * list_size (kept_entries l.entries.now) + 1

abbrev pub decreases-goes_at : goal.decreases-goes_at
decreases-goes_at g l = 5 * list_size (kept_entries (l.entry.now ∷ []))

abbrev pub invariant-goes_by-loop-chunk : goal.invariant-goes_by-loop-chunk
invariant-goes_by-loop-chunk g l = record {
  within : l.place ≤ length l.entries;
  ahead : Covers (drop l.chunk-index l.chunks) (drop l.place l.entries);
  none : has_touched (g.T.Touches.is_touched l.tree) (kept_entries (take l.place l.entries)) ≡ false;
}

abbrev pub invariant-any_goes-loop-entry : goal.invariant-any_goes-loop-entry
invariant-any_goes-loop-entry g l = has_touched (g.T.Touches.is_touched l.tree) (kept_entries (take l.entry-index l.entries)) ≡ false
