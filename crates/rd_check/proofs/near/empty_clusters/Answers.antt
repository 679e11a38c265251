use Rattle.rd_check.proofs.Nearby.{clusters_put, cluster_none}
use Rattle.rd_check.proofs.near.empty_clusters.Goals as goal

pub loop-preserved : goal.loop-preserved
loop-preserved c =
    clusters_put c.loop.clusters.items c.push.new.self.items c.empty.result c.loop.invariant (cluster_none c.empty.result c.empty.ensures) c.in_ok-push.ensures.items
