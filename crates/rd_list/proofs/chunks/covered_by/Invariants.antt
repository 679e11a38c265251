use Rattle.std.proofs.Common.{◌≡◌, ◌≤◌, length, take, drop}
use Rattle.rd_list.specs.Chunks.{Covers, total}
use Rattle.rd_list.proofs.chunks.covered_by.Given as goal

abbrev pub invariant-loop-chunk : goal.invariant-loop-chunk
invariant-loop-chunk g l = record {
  place : l.place ≡ total (take l.chunk-index l.chunks);
  within : l.place ≤ length l.entries;
  ahead : Covers (drop l.chunk-index l.chunks) (drop l.place l.entries);
}
