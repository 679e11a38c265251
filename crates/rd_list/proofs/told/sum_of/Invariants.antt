use Rattle.std.proofs.Common.{◌≡◌, ◌≤◌, length, take, drop}
use Rattle.std.specs.Prelude.{IfSome}
use Rattle.rd_list.specs.Chunks.{Covers, IsTold, total}
use Rattle.rd_list.proofs.told.sum_of.Given as goal

abbrev pub invariant-loop-chunk : goal.invariant-loop-chunk
invariant-loop-chunk g l = record {
  count : l.count ≡ total (take l.chunk-index l.chunks);
  within : l.count ≤ length l.entries;
  ahead : Covers (drop l.chunk-index l.chunks) (drop l.count l.entries);
  told : IfSome l.told (λ t. IsTold t (take l.count l.entries));
}
