use Rattle.std.proofs.Common.{arith}
use Rattle.rd_engine.proofs.NewLeaves.{leaf_next, leaves_on}
use Rattle.rd_engine.proofs.counting.next_group.Goals as goal

pub loop-i-preserved : goal.loop-i-preserved
loop-i-preserved g c = record {
  within = omega arith;
  leaves = leaves_on c.args.entries.now c.args.from c.loop-i.i _ c.loop-i.invariant.leaves (c.are_leaves.ensures c.if-are_leaves.true);
}

pub loop-i-2-preserved : goal.loop-i-2-preserved
loop-i-2-preserved g c = record {
  within = omega (arith, c.loop-i-2-test.true);
  leaves =
      leaves_on c.args.entries.now c.args.from c.loop-i-2.i _ c.loop-i-2.invariant.leaves
      (leaf_next c.args.entries.now c.loop-i-2.i c.index-entries-i.result c.loop-i-2-test.true c.index-entries-i.is (c.is_leaf.ensures c.if-is_leaf.true));
}
