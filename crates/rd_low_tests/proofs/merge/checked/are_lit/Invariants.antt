use Rattle.std.proofs.Common.{◌≡◌, true, take}
use Rattle.std.specs.Prelude.{IsTrue}
use Rattle.rd_geom.specs.Plane.{meets}
use Rattle.rd_graph.proofs.Lists.Listing.{Has}
use Rattle.rd_low_tests.specs.DrawnLevels.{Spot, is_of}
use Rattle.rd_low_tests.proofs.merge.checked.are_lit.Given as goal

abbrev pub invariant-loop-b : goal.invariant-loop-b
invariant-loop-b l = record { so_far : (s : Spot) → Has (take l.b-index l.spots) s → IsTrue (meets l.rect s.1) → is_of l.area s ≡ true }
