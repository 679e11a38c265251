use Rattle.rd_check.proofs.Nearby.{cluster_more}
use Rattle.rd_check.proofs.near.Cluster.add.Goals as goal

pub returns-clause-kept : goal.returns-clause-kept
returns-clause-kept c =
    cluster_more c.args.self.now (record { hull = c.hull-self.result; greatest = c.greater-self.result; spots = c.push.new.self }) c.args.spot c.requires
    c.hull-self.ensures.first c.hull-self.ensures.second c.greater-self.ensures.first c.greater-self.ensures.second c.in_ok-push.ensures.items
