use Rattle.rd_check.specs.Internal.Sights.{sights_of}
use Rattle.rd_check.specs.Internal.Crossing.{AreEntered}
use Rattle.rd_check.proofs.Nearby.{NoPair}
use Rattle.rd_check.proofs.crossing.first_crossed.Given as goal

-- those so far are in the clusters, and none of them is crossed with one before
abbrev pub invariant-loop-j : goal.invariant-loop-j
invariant-loop-j l = record { entered : AreEntered l.near.clusters.items (sights_of l.seen) l.j; none : NoPair (sights_of l.seen) l.j }
