use Rattle.std.proofs.Common.{arith}
use Rattle.rd_list.proofs.Viewing.{count_one}
use Rattle.rd_list.proofs.view.next_group.Goals as goal

pub loop-i-2-preserved : goal.loop-i-2-preserved
loop-i-2-preserved g c =
    let i = c.loop-i-2.invariant in
    let n = count_one c.args.entries.now c.loop-i-2.i c.index-entries-i.result c.loop-i-2-test.true c.index-entries-i.is (c.is_leaf.ensures c.if-is_leaf.true) in
    record { from = omega (arith, i.from); within = omega (arith, c.loop-i-2-test.true); leaves = omega (arith, n, i.leaves, i.from) }
