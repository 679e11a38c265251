use Rattle.std.proofs.Common.{ℕ, ◌<◌, length, get_or}
use Rattle.rd_graph.specs.Patches.{AreRising}
use Rattle.rd_low_tests.proofs.graph.checked.places_of.Given as goal

abbrev pub invariant-loop-place : goal.invariant-loop-place
invariant-loop-place l = record {
  rising : AreRising l.places.items;
  below : (k : ℕ) → k < length l.places.items → get_or l.places.items k 0 < l.place;
}
