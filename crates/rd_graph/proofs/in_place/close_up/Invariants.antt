use Rattle.std.proofs.Common.{◌≡◌, ◌+◌, ◌++◌, List, length, drop, take}
use Rattle.std.specs.Prelude.{vec_len, vec_capacity}
use Rattle.rd_graph.specs.Internal.InPlace.{count_all}
use Rattle.rd_graph.proofs.LinedUp.InPlace.{IsClosedUp}
use Rattle.rd_graph.proofs.in_place.close_up.Given as goal

abbrev pub invariant-loop-i : goal.invariant-loop-i
invariant-loop-i g l = record {
  place : l.place ≡ l.first + count_all l.old (take l.i l.runs);
  closed : (part was rest : List _) → l.fn.elements.items ≡ part ++ (drop l.first was ++ rest) → length part ≡ l.first → length was ≡ l.old → IsClosedUp l.old l.runs l.i l.stay l.first part was rest l.elements.items;
  len : vec_len l.elements ≡ vec_len l.fn.elements;
  room : vec_capacity l.elements ≡ vec_capacity l.fn.elements;
}
