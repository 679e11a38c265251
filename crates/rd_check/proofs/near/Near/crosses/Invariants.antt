use Rattle.std.proofs.Common.{take}
use Rattle.rd_check.proofs.Nearby.{CrossesNone}
use Rattle.rd_check.proofs.near.Near.crosses.Given as goal

-- none of the leaves in the clusters so far
abbrev pub invariant-loop-cluster : goal.invariant-loop-cluster
invariant-loop-cluster l = CrossesNone l.seen l.place (take l.cluster-index l.cluster-items)
