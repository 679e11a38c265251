use Rattle.std.proofs.Common.{◌≡◌, ◌-◌}
use Rattle.rd_list.specs.Chunks.{Covers, IsAt, counts}
use Rattle.rd_list.proofs.retelling.retell_chunks.Given as goal

abbrev pub invariant-loop-at : goal.invariant-loop-at
invariant-loop-at g l = record {
  counts : counts l.chunks.items ≡ counts l.fn.chunks.items;
  at : IsAt l.chunks.items l.at l.place;
  covers : Covers l.chunks.items l.entries;
}

abbrev pub decreases-loop-at : goal.decreases-loop-at
decreases-loop-at g l = l.to - l.at
