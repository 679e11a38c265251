use Rattle.std.specs.List.{AllByRecursion}
use Rattle.rd_check.specs.Internal.Near.{IsCluster}
use Rattle.rd_check.proofs.near.empty_clusters.Given as goal

abbrev pub invariant-loop : goal.invariant-loop
invariant-loop l = AllByRecursion IsCluster l.clusters.items
