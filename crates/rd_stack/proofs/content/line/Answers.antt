use Rattle.std.proofs.Common.{sym}
use Rattle.rd_stack.specs.Paths.{is_in_line}
use Rattle.rd_stack.specs.Painting as painting
use Rattle.rd_list.proofs.Joins.{join-nil}
use Rattle.rd_stack.proofs.Walk.EachKind.{each_passed}
use Rattle.rd_stack.proofs.content.line.Goals as goal

pub loop-x-init : goal.loop-x-init
loop-x-init c = sym (join-nil _)

pub loop-x-preserved : goal.loop-x-preserved
loop-x-preserved c =
    each_passed (painting.inline_part c.args.canvas.now) (λ x. is_in_line c.args.e.now c.args.c.now x.at) c.args.below.now c.loop-x.x-index c.x-item.result _ _ _
    c.loop-x-test.true c.x-item.is c.loop-x.invariant c.in_ok-line_part.ensures
