use Rattle.std.proofs.Common.{arith}
use Rattle.rd_check.proofs.Loop.{count_more}
use Rattle.rd_check.proofs.nesting.leaves_in.Goals as goal

pub loop-row-preserved : goal.loop-row-preserved
loop-row-preserved c =
    let k = count_more c.args.rows.now c.loop-row.row-index c.row-item.result c.loop-row-test.true c.row-item.is in
    let i = c.loop-row.invariant in
    let a = i.0 in
    let b = i.1 in
    let n = c.leaf_count-leaves.ensures.count in
    let m = c.leaf_count-leaves.ensures.most in
    (omega (arith, k, a, n), omega (arith, b, m))
