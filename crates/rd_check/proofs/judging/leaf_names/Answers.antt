use Rattle.rd_check.specs.Internal.Sights.{found_name}
use Rattle.rd_check.proofs.Searching.{made_more, made_all}
use Rattle.rd_check.proofs.judging.leaf_names.Goals as goal

pub loop-found-preserved : goal.loop-found-preserved
loop-found-preserved c =
    made_more found_name c.args.leaves.now c.loop-found.found-index c.found-item.result c.loop-found.names.items c.push.new.self.items c.leaf_name.result
    c.loop-found-test.true c.found-item.is c.loop-found.invariant c.in_ok-push.ensures.items c.leaf_name.ensures

pub returns : goal.returns
returns c = made_all found_name c.args.leaves.now c.loop-found.found-index c.loop-found.names.items c.loop-found.invariant c.loop-found-test.false
