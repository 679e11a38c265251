use Rattle.std.proofs.Common.{◌≡◌, ◌≤◌, ◌+◌, ◌++◌, ℕ, List, length, take, drop}
use Rattle.std.specs.Prelude.{vec_len, vec_capacity}
use Rattle.std.specs.Vec.Iter.{into_iter_items}
use Rattle.rd_graph.specs.Runs.{places_aside, RunsRise}
use Rattle.rd_graph.specs.Internal.InPlace.{coming, count_coming}
use Rattle.rd_graph.proofs.in_place.put_at_end.Given as goal

abbrev pub invariant-loop-run : goal.invariant-loop-run
invariant-loop-run g l = record {
  put : (xs : List _) → length xs ≡ l.old → l.elements.items ≡ l.fn.elements.items ++ coming l.old (take l.run-index l.runs) (xs ++ l.fn.made.items) l.fn.aside.items;
  made_left : into_iter_items l.made_rest ≡ drop l.next_made l.fn.made.items;
  aside_left : into_iter_items l.aside_rest ≡ drop (length (places_aside (take l.run-index l.runs))) l.fn.aside.items;
  rises : (next : ℕ) × RunsRise l.old (vec_len l.fn.made) next l.next_made (drop l.run-index l.runs);
  len : vec_len l.elements ≡ vec_len l.fn.elements + count_coming l.old (take l.run-index l.runs);
  room : vec_len l.elements + (length (into_iter_items l.made_rest) + length (into_iter_items l.aside_rest)) ≤ vec_capacity l.elements;
}
