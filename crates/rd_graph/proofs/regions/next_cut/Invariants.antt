use Rattle.std.proofs.Common.{length, ◌-◌}
use Rattle.rd_graph.proofs.LinedUp.ByRanks.Cuts.{MetSoFar}
use Rattle.rd_graph.proofs.regions.next_cut.Given as goal

abbrev pub invariant-loop-met : goal.invariant-loop-met
invariant-loop-met l = record { so_far : MetSoFar l.places l.end l.fn.from l.met l.place }

abbrev pub decreases-loop-met : goal.decreases-loop-met
decreases-loop-met l = length l.places - l.met
