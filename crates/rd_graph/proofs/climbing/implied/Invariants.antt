use Rattle.rd_graph.specs.Internal.Seen.{seen}
use Rattle.rd_graph.specs.Internal.Thinning.{AreImplied}
use Rattle.rd_graph.proofs.Patches.Thinned.Climbings.{AllLead}
use Rattle.rd_graph.proofs.climbing.implied.Given as goal

abbrev pub invariant-loop-step : goal.invariant-loop-step
invariant-loop-step l = record { leads : AllLead (seen l.nodes) l.list l.climb.left.items; found : AreImplied (seen l.nodes) l.list l.climb.found.items }
