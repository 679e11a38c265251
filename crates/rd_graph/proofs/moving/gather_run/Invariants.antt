use Rattle.std.proofs.Common.{◌≡◌, ◌≤◌, ◌+◌, ◌++◌}
use Rattle.std.specs.Prelude.{vec_len, vec_capacity}
use Rattle.rd_graph.specs.Gathered.{gathered}
use Rattle.rd_graph.specs.Runs.{up_from}
use Rattle.rd_graph.specs.Internal.Taking.{KeepsOutside}
use Rattle.rd_graph.proofs.moving.gather_run.Given as goal

abbrev pub invariant-loop-i : goal.invariant-loop-i
invariant-loop-i g l = record {
  moved : l.room.items ≡ l.fn.room.items ++ gathered (up_from l.run.from l.i) (l.fn.old.items ++ l.fn.made.items);
  others : KeepsOutside l.run.from l.i (l.fn.old.items ++ l.fn.made.items) (l.old.items ++ l.made.items);
  old : vec_len l.old ≡ vec_len l.fn.old;
  made : vec_len l.made ≡ vec_len l.fn.made;
  filled : vec_len l.room ≡ vec_len l.fn.room + l.i;
  roomy : vec_capacity l.fn.room ≤ vec_capacity l.room;
}
