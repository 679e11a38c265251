use Rattle.std.proofs.Common.{◌≡◌, ◌≤◌, ◌+◌, ◌++◌, List, length, take}
use Rattle.std.specs.Prelude.{vec_len, vec_capacity}
use Rattle.rd_graph.specs.Internal.InPlace.{AreWhole, coming, count_coming, count_staying, staying}
use Rattle.rd_graph.proofs.LinedUp.InPlace.{spreads}
use Rattle.rd_graph.proofs.in_place.spread_out.Given as goal

abbrev pub decreases-loop-left : goal.decreases-loop-left
decreases-loop-left g l = l.left

abbrev pub invariant-loop-left : goal.invariant-loop-left
invariant-loop-left g l = record {
  left : l.left ≤ length l.runs;
  stay : l.stay + count_staying l.old l.runs ≡ l.end + count_staying l.old (take l.left l.runs);
  come : l.come ≡ count_coming l.old (take l.left l.runs);
  len : vec_len l.elements ≡ vec_len l.fn.elements;
  room : vec_capacity l.elements ≡ vec_capacity l.fn.elements;
  placed : (part xs ys rest : List _) → (whole : AreWhole l.runs xs ys) → length part + count_staying l.old l.runs ≡ l.end
      → l.fn.elements.items ≡ part ++ (staying l.old l.runs xs ++ (coming l.old l.runs xs ys ++ rest)) → l.elements.items ≡ spreads l.old l.runs part xs ys rest whole l.left;
}
