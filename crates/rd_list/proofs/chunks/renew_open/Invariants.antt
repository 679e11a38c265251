use Rattle.std.proofs.Common.{◌≤◌, length, take, drop}
use Rattle.rd_list.specs.Chunks.{Covers, CoversAll}
use Rattle.rd_list.proofs.chunks.renew_open.Given as goal

abbrev pub invariant-loop-i : goal.invariant-loop-i
invariant-loop-i g l = record {
  done : l.done ≤ l.place;
  within : l.place ≤ length l.entries;
  ahead : Covers (drop l.i l.had) (drop l.place l.entries);
  covers : CoversAll l.chunks.items (take l.done l.entries);
}
