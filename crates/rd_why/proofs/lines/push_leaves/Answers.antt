use Rattle.std.proofs.Common.{refl}
use Rattle.rd_why.specs.Lines.{leaf_lines}
use Rattle.rd_why.proofs.Growing.{leaf_more, none_left}
use Rattle.rd_why.proofs.lines.push_leaves.Goals as goal

pub loop-i-preserved : goal.loop-i-preserved
loop-i-preserved g c =
    leaf_more c.args.tree.now.boxes c.loop-i.found _ c.args.ts.now c.loop-i.i c.index-ts-i.result _ _ _ _
    c.loop-i-test.true c.index-ts-i.is c.found_by-found.ensures c.loop-i.invariant c.in_ok-push_leaf.ensures c.in_ok-push_between.ensures

pub returns : goal.returns
returns g c = none_left (leaf_lines c.args.tree.now.boxes c.loop-i.found) c.args.ts.now c.loop-i.i _ _ c.loop-i-test.false refl c.loop-i.invariant
