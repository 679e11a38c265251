use Rattle.std.proofs.Common.{◌≡◌, ◌<◌, ◌≤◌, ◌-◌, ℕ, false}
use Rattle.rd_graph.specs.Internal.Walks.{stays_at}
use Rattle.rd_graph.proofs.stays.Stays.next_staying.Given as goal

abbrev pub invariant-loop-place : goal.invariant-loop-place
invariant-loop-place l = record {
  after : l.from ≤ l.place;
  within : l.place ≤ l.to;
  before : (p : ℕ) → l.from ≤ p → p < l.place → stays_at l.self p ≡ false;
}

abbrev pub decreases-loop-place : goal.decreases-loop-place
decreases-loop-place l = l.to - l.place
