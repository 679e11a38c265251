use Rattle.std.proofs.Common.{length, ◌-◌}
use Rattle.rd_graph.proofs.LinedUp.ByRanks.Cuts.{RisenSoFar}
use Rattle.rd_graph.proofs.regions.risen.Given as goal

abbrev pub invariant-loop-met : goal.invariant-loop-met
invariant-loop-met l = record { so_far : RisenSoFar l.places l.least l.fn.from l.met }

abbrev pub decreases-loop-met : goal.decreases-loop-met
decreases-loop-met l = length l.places - l.met
