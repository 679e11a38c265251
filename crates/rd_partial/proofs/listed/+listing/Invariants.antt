use Rattle.std.proofs.Common.{take, drop, length, ◌≤◌, ◌+◌, ◌*◌, ◌∷◌, []}
use Rattle.rd_list.specs.Chunks.{Covers, IsAt}
use Rattle.rd_list.specs.Entries.{list_size}
use Rattle.rd_list.specs.EntryNames.{kept_leaves}
use Rattle.rd_list.specs.KeptView.{kept_entries}
use Rattle.rd_partial.specs.Invalid.{any_shows}
use Rattle.rd_partial.specs.Internal.Touched.{Joins}
use Rattle.rd_partial.proofs.listed.+listing.Given as goal

abbrev pub decreases-add_list : goal.decreases-add_list
decreases-add_list g l = 7 * list_size l.list.now.entries + 6

abbrev pub decreases-add_level : goal.decreases-add_level
decreases-add_level g l = 7 * list_size (kept_entries l.level.entries.now) + 5

abbrev pub decreases-add_block : goal.decreases-add_block
decreases-add_block g l = 7 * list_size (kept_entries l.entries.now) + 4

abbrev pub decreases-add_chunks : goal.decreases-add_chunks
decreases-add_chunks g l = 7 * list_size (kept_entries l.entries.now) + 3

abbrev pub decreases-add_chunk : goal.decreases-add_chunk
decreases-add_chunk g l = 7 * list_size (kept_entries l.entries.now) + 2

abbrev pub decreases-add_entries : goal.decreases-add_entries
decreases-add_entries g l = 7 * list_size (kept_entries l.entries.now) + 1

abbrev pub decreases-add_entry : goal.decreases-add_entry
decreases-add_entry g l = 7 * list_size (kept_entries (l.entry.now ∷ []))

abbrev pub invariant-add_level-loop-i : goal.invariant-add_level-loop-i
invariant-add_level-loop-i g l = record {
  at : IsAt l.level.blocks.now l.i l.place;
  within : l.place ≤ length l.level.entries.now;
  ahead : Covers (drop l.i l.level.blocks.now) (drop l.place l.level.entries.now);
  joins : Joins (any_shows l.tree (kept_leaves (kept_entries (take l.place l.level.entries.now)))) l.fn.area l.area;
}

abbrev pub invariant-add_chunks-loop-chunk : goal.invariant-add_chunks-loop-chunk
invariant-add_chunks-loop-chunk g l = record {
  within : l.place ≤ length l.entries;
  ahead : Covers (drop l.chunk-index l.chunks) (drop l.place l.entries);
  joins : Joins (any_shows l.tree (kept_leaves (kept_entries (take l.place l.entries)))) l.fn.area l.area;
}

abbrev pub invariant-add_entries-loop-entry : goal.invariant-add_entries-loop-entry
invariant-add_entries-loop-entry g l = Joins (any_shows l.tree (kept_leaves (kept_entries (take l.entry-index l.entries)))) l.fn.area l.area
