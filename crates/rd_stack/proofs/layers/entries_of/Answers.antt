use Rattle.std.proofs.Common.{sym}
use Rattle.rd_stack.specs.Internal.Values.{now}
use Rattle.rd_stack.specs.Painting as painting
use Rattle.rd_list.proofs.Joins.{join-nil}
use Rattle.rd_list.proofs.Onward.{all_more}
use Rattle.rd_stack.proofs.layers.entries_of.Goals as goal

pub loop-x-init : goal.loop-x-init
loop-x-init c = sym (join-nil _)

pub loop-x-preserved : goal.loop-x-preserved
loop-x-preserved c =
    all_more now painting.entry_of c.args.xs.now c.loop-x.x-index c.x-item.result _ _ _
    c.loop-x-test.true c.x-item.is c.loop-x.invariant c.in_ok-entry_of.ensures
