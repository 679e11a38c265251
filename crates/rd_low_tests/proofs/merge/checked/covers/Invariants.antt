use Rattle.std.proofs.Common.{take}
use Rattle.rd_graph.proofs.Lists.Listing.{Has}
use Rattle.rd_low_tests.specs.DrawnLevels.{IsSpotCovered, Spot}
use Rattle.rd_low_tests.proofs.merge.checked.covers.Given as goal

abbrev pub invariant-loop-a : goal.invariant-loop-a
invariant-loop-a l = record { so_far : (s : Spot) → Has (take l.a-index l.spots) s → IsSpotCovered l.touched l.area l.spots s }
