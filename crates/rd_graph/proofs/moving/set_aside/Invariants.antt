use Rattle.std.proofs.Common.{◌≡◌, ◌≤◌, ◌+◌, ◌++◌, length, take}
use Rattle.std.specs.Prelude.{vec_len, vec_capacity}
use Rattle.rd_graph.specs.Gathered.{gathered}
use Rattle.rd_graph.specs.Internal.Taking.{KeepsBut}
use Rattle.rd_graph.specs.Runs.{places_aside}
use Rattle.rd_graph.proofs.moving.set_aside.Given as goal

abbrev pub invariant-loop-run : goal.invariant-loop-run
invariant-loop-run g l = record {
  moved : l.aside.items ≡ l.fn.aside.items ++ gathered (places_aside (take l.run-index l.runs)) (l.fn.old.items ++ l.fn.made.items);
  others : KeepsBut (places_aside (take l.run-index l.runs)) (l.fn.old.items ++ l.fn.made.items) (l.old.items ++ l.made.items);
  old : vec_len l.old ≡ vec_len l.fn.old;
  made : vec_len l.made ≡ vec_len l.fn.made;
  filled : vec_len l.aside ≡ vec_len l.fn.aside + length (places_aside (take l.run-index l.runs));
  roomy : vec_capacity l.fn.aside ≤ vec_capacity l.aside;
}
