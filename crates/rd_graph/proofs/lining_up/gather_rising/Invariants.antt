use Rattle.std.proofs.Common.{◌≡◌, ◌≤◌, ◌+◌, ◌++◌, length, take, drop}
use Rattle.std.specs.Prelude.{vec_len, vec_capacity}
use Rattle.std.specs.Vec.Iter.{into_iter_items}
use Rattle.rd_graph.specs.Runs.{places_aside, places_of, woven, RunsRise}
use Rattle.rd_graph.proofs.lining_up.gather_rising.Given as goal

abbrev pub invariant-loop-run : goal.invariant-loop-run
invariant-loop-run g l = record {
  moved : l.room.items ≡ l.fn.room.items ++ woven (take l.run-index l.runs) (l.fn.old.items ++ l.fn.made.items) l.fn.aside.items;
  old_left : into_iter_items l.old_rest ≡ drop l.next_old l.fn.old.items;
  made_left : into_iter_items l.made_rest ≡ drop l.next_made l.fn.made.items;
  aside_left : into_iter_items l.aside_rest ≡ drop (length (places_aside (take l.run-index l.runs))) l.fn.aside.items;
  rises : RunsRise l.end (vec_len l.fn.made) l.next_old l.next_made (drop l.run-index l.runs);
  filled : vec_len l.room ≡ vec_len l.fn.room + length (places_of (take l.run-index l.runs));
  roomy : vec_capacity l.fn.room ≤ vec_capacity l.room;
}
