use Rattle.std.proofs.Common.{rules}
use Rattle.rd_check.specs.Internal.Near.{IsCluster}
use Rattle.rd_check.proofs.Nearby.{all_at, all_set, clusters_put, noted_set, noted_on}
use Rattle.rd_check.proofs.near.Near.add.Goals as goal

pub add-requires : goal.add-requires
add-requires c =
    all_at IsCluster c.args.self.now.clusters.items c.number_of-number.result c.index_mut.result.now c.requires (search rules) c.index_mut.ensures.value

pub returns-then-number-len-clause-kept : goal.returns-then-number-len-clause-kept
returns-then-number-len-clause-kept c =
    all_set IsCluster c.args.self.now.clusters.items c.number_of-number.result c.add.new.self c.requires c.in_ok-add.ensures.kept

pub returns-then-number-len-clause-added : goal.returns-then-number-len-clause-added
returns-then-number-len-clause-added c =
    (noted_set c.args.self.now.clusters.items c.number_of-number.result c.index_mut.result.now c.add.new.self c.args.spot (search rules) c.index_mut.ensures.value c.in_ok-add.ensures.added).0

pub returns-then-number-len-clause-before : goal.returns-then-number-len-clause-before
returns-then-number-len-clause-before c =
    (noted_set c.args.self.now.clusters.items c.number_of-number.result c.index_mut.result.now c.add.new.self c.args.spot (search rules) c.index_mut.ensures.value c.in_ok-add.ensures.added).1

pub returns-clause-kept : goal.returns-clause-kept
returns-clause-kept c = clusters_put c.args.self.now.clusters.items c.push.new.self.items c.in_ok-cluster.cluster c.requires c.in_ok-cluster.ensures.sound c.in_ok-push.ensures.items

pub returns-clause-added : goal.returns-clause-added
returns-clause-added c = (noted_on c.args.self.now.clusters.items c.push.new.self.items c.in_ok-cluster.cluster c.args.spot c.in_ok-cluster.ensures.one c.in_ok-push.ensures.items).0

pub returns-clause-before : goal.returns-clause-before
returns-clause-before c = (noted_on c.args.self.now.clusters.items c.push.new.self.items c.in_ok-cluster.cluster c.args.spot c.in_ok-cluster.ensures.one c.in_ok-push.ensures.items).1
