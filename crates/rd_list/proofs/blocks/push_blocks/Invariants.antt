use Rattle.std.proofs.Common.{◌≡◌, ◌≤◌, ◌*◌, ◌-◌, length, take}
use Rattle.rd_list.specs.Chunks.{AreEights, CoversAll, IsAt, counts}
use Rattle.rd_list.proofs.blocks.push_blocks.Given as goal

abbrev pub invariant-loop-at : goal.invariant-loop-at
invariant-loop-at g l = record {
  at : IsAt l.chunks l.at l.place;
  count : l.at ≡ length l.blocks.items * 8;
  within : l.place ≤ length l.entries;
  covers : CoversAll l.blocks.items (take l.place l.entries);
  eights : AreEights (counts l.blocks.items) (counts l.chunks);
}

abbrev pub decreases-loop-at : goal.decreases-loop-at
decreases-loop-at g l = length l.chunks - l.at
