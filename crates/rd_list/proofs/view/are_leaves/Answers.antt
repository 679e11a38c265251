use Rattle.std.proofs.Common.{◌+◌, arith}
use Rattle.rd_list.proofs.Viewing.{count_one, four_more}
use Rattle.rd_list.proofs.view.are_leaves.Goals as goal

pub returns : goal.returns
returns g c = λ t.
    let a = count_one c.args.entries.now c.args.i c.index-entries-i.result (omega (arith, c.requires)) c.index-entries-i.is (c.is_leaf.ensures c.if-not-is_leaf.false) in
    let b = count_one c.args.entries.now (c.args.i + 1) c.index-entries-i-2.result (omega (arith, c.requires)) c.index-entries-i-2.is (c.is_leaf-2.ensures c.if-not-is_leaf-2.false) in
    let d = count_one c.args.entries.now (c.args.i + 2) c.index-entries-i-3.result (omega (arith, c.requires)) c.index-entries-i-3.is (c.is_leaf-3.ensures c.if-not-is_leaf-3.false) in
    let e = count_one c.args.entries.now (c.args.i + 3) c.index-entries-i-4.result (omega (arith, c.requires)) c.index-entries-i-4.is (c.is_leaf-4.ensures t) in
    four_more c.args.entries.now c.args.i a b d e
