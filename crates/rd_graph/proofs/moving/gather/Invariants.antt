use Rattle.std.proofs.Common.{◌≡◌, ◌≤◌, ◌+◌, ◌++◌, get_or, length, ℕ, take, drop}
use Rattle.std.specs.Prelude.{vec_len, vec_capacity}
use Rattle.rd_graph.specs.Gathered.{gathered}
use Rattle.rd_graph.specs.Runs.{places_of}
use Rattle.rd_graph.proofs.Lists.Listing.{Has}
use Rattle.rd_graph.proofs.moving.gather.Given as goal

abbrev pub invariant-loop-run : goal.invariant-loop-run
invariant-loop-run g l = record {
  moved : l.room.items ≡ l.fn.room.items ++ gathered (places_of (take l.run-index l.runs)) (l.fn.old.items ++ l.fn.made.items);
  left : (k : ℕ) → Has (places_of (drop l.run-index l.runs)) k → (d : _) → get_or (l.old.items ++ l.made.items) k d ≡ get_or (l.fn.old.items ++ l.fn.made.items) k d;
  old : vec_len l.old ≡ vec_len l.fn.old;
  made : vec_len l.made ≡ vec_len l.fn.made;
  filled : vec_len l.room ≡ vec_len l.fn.room + length (places_of (take l.run-index l.runs));
  roomy : vec_capacity l.fn.room ≤ vec_capacity l.room;
}
