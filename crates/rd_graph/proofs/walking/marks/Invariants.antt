use Rattle.std.proofs.Common.{◌≡◌, ℕ, ◌<◌, length, take}
use Rattle.std.specs.Prelude.{IsTrue, ◌↔◌}
use Rattle.rd_graph.specs.Internal.Walks.{stays_at}
use Rattle.rd_graph.proofs.Lists.Listing.{Has}
use Rattle.rd_graph.proofs.walking.marks.Given as goal

abbrev pub invariant-loop-place : goal.invariant-loop-place
invariant-loop-place l = record {
  count : length l.stays ≡ l.count;
  stays : (p : ℕ) → p < l.count → IsTrue (stays_at l.stays p) ↔ (Has (take l.place-index l.gone) p → ⊥);
}
