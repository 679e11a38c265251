use Rattle.std.proofs.Common.{sym, ◌∙◌}
use Rattle.rd_run.proofs.Splitting.{begins_here, begins_nowhere, opens_not}
use Rattle.rd_run.proofs.checking.script_start.Goals as goal

pub returns-then-opens-clause-dump : goal.returns-then-opens-clause-dump
returns-then-opens-clause-dump c =
    (begins_here c.args.bytes.now c.loop-i.i c.loop-i-test.true c.loop-i.invariant (sym c.opens.ensures ∙ c.if-opens.true)).0

pub returns-then-opens-clause-script : goal.returns-then-opens-clause-script
returns-then-opens-clause-script c =
    (begins_here c.args.bytes.now c.loop-i.i c.loop-i-test.true c.loop-i.invariant (sym c.opens.ensures ∙ c.if-opens.true)).1

pub loop-i-preserved : goal.loop-i-preserved
loop-i-preserved c = opens_not c.args.bytes.now c.loop-i.i c.loop-i.invariant (sym c.opens.ensures ∙ c.if-opens.false)

pub returns-clause-dump : goal.returns-clause-dump
returns-clause-dump c = (begins_nowhere c.args.bytes.now c.loop-i.i c.loop-i.invariant c.loop-i-test.false).0

pub returns-clause-script : goal.returns-clause-script
returns-clause-script c = (begins_nowhere c.args.bytes.now c.loop-i.i c.loop-i.invariant c.loop-i-test.false).1
