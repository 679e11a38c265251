use Rattle.rd_check.proofs.Nearby.{cluster_none, cluster_one}
use Rattle.rd_check.proofs.near.Cluster.of.Goals as goal

pub add-requires : goal.add-requires
add-requires c = cluster_none c.empty-cluster.result c.empty-cluster.ensures

pub returns-clause-one : goal.returns-clause-one
returns-clause-one c = cluster_one c.empty-cluster.result c.add.new.self c.args.spot c.empty-cluster.ensures c.in_ok-add.ensures.added
