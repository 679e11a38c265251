use Rattle.std.proofs.Common.{◌≡◌, ◌++◌, drop}
use Rattle.rd_graph.specs.Internal.Ranks.{fixed}
use Rattle.rd_graph.proofs.ranking.fixed_places.Given as goal

abbrev pub invariant-loop-place : goal.invariant-loop-place
invariant-loop-place l = record { some : l.some.items ++ fixed l.stays (drop l.place-index l.places) (drop l.place-index l.places) ≡ fixed l.stays l.places l.places }
