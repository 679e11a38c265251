use Rattle.std.proofs.Common.{◌≡◌, ◌≤◌, ◌+◌, ◌++◌, take, drop}
use Rattle.std.specs.Prelude.{vec_len, vec_capacity}
use Rattle.std.specs.Vec.Iter.{into_iter_items}
use Rattle.rd_graph.proofs.lining_up.move_run.Given as goal

abbrev pub invariant-loop : goal.invariant-loop
invariant-loop g l = record {
  left : into_iter_items l.rest ≡ drop l.counter (into_iter_items l.fn.rest);
  moved : l.room.items ≡ l.fn.room.items ++ take l.counter (into_iter_items l.fn.rest);
  filled : vec_len l.room ≡ vec_len l.fn.room + l.counter;
  roomy : vec_capacity l.fn.room ≤ vec_capacity l.room;
}
