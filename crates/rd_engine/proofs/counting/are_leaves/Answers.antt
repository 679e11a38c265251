use Rattle.std.proofs.Common.{◌+◌, arith}
use Rattle.rd_engine.proofs.NewLeaves.{leaf_next, four_leaves}
use Rattle.rd_engine.proofs.counting.are_leaves.Goals as goal

pub returns : goal.returns
returns g c = λ t.
    let es = c.args.entries.now in
    let i = c.args.i in
    let a = leaf_next es i c.index-entries-i.result (omega (arith, c.requires)) c.index-entries-i.is (c.is_leaf.ensures c.if-not-is_leaf.false) in
    let b = leaf_next es (i + 1) c.index-entries-i-2.result (omega (arith, c.requires)) c.index-entries-i-2.is (c.is_leaf-2.ensures c.if-not-is_leaf-2.false) in
    let d = leaf_next es (i + 2) c.index-entries-i-3.result (omega (arith, c.requires)) c.index-entries-i-3.is (c.is_leaf-3.ensures c.if-not-is_leaf-3.false) in
    let e = leaf_next es (i + 3) c.index-entries-i-4.result (omega (arith, c.requires)) c.index-entries-i-4.is (c.is_leaf-4.ensures t) in
    four_leaves es i a b d e
