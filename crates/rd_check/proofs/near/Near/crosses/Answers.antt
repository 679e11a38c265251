use Rattle.std.proofs.Common.{List, subst, sym, ◌∙◌}
use Rattle.std.specs.List.{AllByRecursion}
use Rattle.rd_check.specs.declared.near.Cluster.{Cluster}
use Rattle.rd_check.specs.Internal.Near.{IsCluster}
use Rattle.rd_check.proofs.Nearby.{CrossesNone, all_at, crosses_none_on, crosses_none_all}
use Rattle.rd_check.proofs.near.Near.crosses.Goals as goal

pub crosses-requires : goal.crosses-requires
crosses-requires c =
    all_at IsCluster c.deref-cluster-items.result.now c.loop-cluster.cluster-index c.cluster-item.result
    (subst (λ (z : List Cluster). AllByRecursion IsCluster z) (sym c.deref-cluster-items.ensures.value) c.requires) c.loop-cluster-test.true c.cluster-item.is

pub loop-cluster-preserved : goal.loop-cluster-preserved
loop-cluster-preserved c =
    crosses_none_on c.args.seen c.args.place c.deref-cluster-items.result.now c.loop-cluster.cluster-index c.cluster-item.result c.loop-cluster-test.true c.cluster-item.is c.loop-cluster.invariant
    (sym c.crosses.ensures ∙ c.if-crosses.false)

pub returns : goal.returns
returns c = λ f.
    subst (λ (z : List Cluster). CrossesNone c.args.seen c.args.place z) c.deref-cluster-items.ensures.value
    (crosses_none_all c.args.seen c.args.place c.deref-cluster-items.result.now c.loop-cluster.cluster-index c.loop-cluster.invariant c.loop-cluster-test.false)
