use Rattle.std.proofs.Common.{length, ◌-◌}
use Rattle.rd_graph.proofs.LinedUp.ByRanks.Cuts.{LeastSoFar}
use Rattle.rd_graph.proofs.regions.least_from.Given as goal

abbrev pub invariant-loop-i : goal.invariant-loop-i
invariant-loop-i l = record { so_far : LeastSoFar l.places l.end (length l.places - l.i) l.least.items }
