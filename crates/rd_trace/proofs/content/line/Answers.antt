use Rattle.std.proofs.Common.{sym}
use Rattle.std.proofs.lemmas.List.{append-nil}
use Rattle.rd_stack.specs.Paths.{is_in_line}
use Rattle.rd_trace.specs.Steps as spec
use Rattle.rd_trace.proofs.Passing.{each_passed}
use Rattle.rd_trace.proofs.content.line.Goals as goal

pub loop-x-init : goal.loop-x-init
loop-x-init c = sym (append-nil _)

pub loop-x-preserved : goal.loop-x-preserved
loop-x-preserved c =
    each_passed (spec.inline_part c.args.s.now c.args.step c.args.e.now c.args.c.now) (λ x. is_in_line c.args.e.now c.args.c.now x.at) c.args.below.now c.loop-x.x-index c.x-item.result _ _ _
    c.loop-x-test.true c.x-item.is c.loop-x.invariant c.in_ok-line_part.ensures
