use Rattle.std.proofs.Common.{◌≡◌, ◌+◌, ◌≤◌, length, take, drop}
use Rattle.rd_list.specs.Chunks.{Covers, total}
use Rattle.rd_merge.specs.Internal.Passes.{IsNoted}
use Rattle.rd_merge.proofs.passing.Pass.in_chunks.Given as goal

abbrev pub invariant-loop-chunk : goal.invariant-loop-chunk
invariant-loop-chunk g l = record {
  place : l.place ≡ l.start + total (take l.chunk-index l.chunks);
  within : l.place ≤ length l.self.entries.now;
  ahead : Covers (drop l.chunk-index l.chunks) (drop l.place l.self.entries.now);
  noted : IsNoted (g.T.Touches.is_touched l.self.tree.now) l.self l.place l.notes;
}
