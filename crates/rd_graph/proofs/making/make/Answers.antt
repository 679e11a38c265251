use Rattle.std.proofs.Common.{[], arith}
use Rattle.rd_graph.specs.Internal.MadeNodes.{made_after}
use Rattle.rd_graph.specs.Internal.Seen.{seen}
use Rattle.rd_graph.proofs.Patches.MadeNodes.{made_next}
use Rattle.rd_graph.proofs.making.make.Goals as goal

pub loop-i-preserved : goal.loop-i-preserved
loop-i-preserved c = record {
  made = made_next c.args.chain.now c.args.found.now c.loop-i.i _ _ (seen c.loop-i.made.items) (seen c.push_made.new.made.items) (made_after [] c.args.chain.now c.args.found.now) c.loop-i-test.true (omega arith) c.loop-i.invariant.made c.in_ok-push_made.ensures;
}
