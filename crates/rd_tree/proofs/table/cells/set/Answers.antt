use Rattle.std.proofs.Common.{arith}
use Rattle.rd_tree.proofs.Tables.Cells.{turned}
use Rattle.rd_tree.proofs.table.cells.set.Goals as goal

pub returns-clause-set : goal.returns-clause-set
returns-clause-set c = λ cell a b.
    let e = c.min-i-end.ensures in
    let t = c.loop-i-test.false in
    turned c.loop-i.words c.args.from c.args.to c.loop-i.i cell _ (omega (arith, e, t)) a b c.loop-i.invariant.set
