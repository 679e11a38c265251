use Rattle.std.proofs.Common.{◌≡◌, ◌++◌, ◌-◌, ◌<◌, ◌≤◌, ℕ, length, get_or}
use Rattle.rd_graph.specs.Internal.Walks.{staying}
use Rattle.rd_graph.specs.Internal.Ranks.{counted_ranks, spread}
use Rattle.rd_graph.proofs.counting.push_counted.Given as goal

abbrev pub invariant-loop-i : goal.invariant-loop-i
invariant-loop-i l = record {
  runs : spread l.runs.items ++ counted_ranks l.least l.some (staying l.stays l.place (l.to - l.place)) ≡ spread l.fn.runs.items ++ counted_ranks l.least l.some (staying l.stays l.from (l.to - l.from));
  low : (k : ℕ) → k < l.i → get_or l.some k 0 < l.place;
  high : (k : ℕ) → l.i ≤ k → k < length l.some → l.place ≤ get_or l.some k 0;
}
