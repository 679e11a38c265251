use Rattle.std.proofs.Common.{sym, ◌++◌, codes}
use Rattle.std.proofs.lemmas.List.{append-nil}
use Rattle.rd_why.specs.Lines.{group_further}
use Rattle.rd_why.proofs.Growing.{each_more}
use Rattle.rd_why.proofs.lines.push_groups_further.Goals as goal

pub loop-g-init : goal.loop-g-init
loop-g-init g c = sym (append-nil _)

pub loop-g-preserved : goal.loop-g-preserved
loop-g-preserved g c =
    each_more (group_further c.args.tree.now.boxes) c.args.gs.now c.loop-g.g-index c.g-item.result _ _ _
    c.loop-g-test.true c.g-item.is c.loop-g.invariant c.in_ok-push_group_further.ensures
