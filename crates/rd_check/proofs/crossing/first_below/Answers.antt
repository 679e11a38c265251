use Rattle.std.proofs.Common.{sym, ◌∙◌}
use Rattle.rd_check.proofs.Crossed.{crossed_first, crossed_not, crossed_never}
use Rattle.rd_check.proofs.crossing.first_below.Goals as goal

pub returns-then-is_crossed : goal.returns-then-is_crossed
returns-then-is_crossed c =
    crossed_first c.args.seen.now c.loop-i.i c.args.j c.index-seen-i.result c.index-seen-j.result c.loop-i.invariant c.loop-i-test.true c.requires c.index-seen-i.is c.index-seen-j.is
    (sym c.is_crossed.ensures ∙ c.if-is_crossed.true)

pub loop-i-preserved : goal.loop-i-preserved
loop-i-preserved c =
    crossed_not c.args.seen.now c.loop-i.i c.args.j c.index-seen-i.result c.index-seen-j.result c.loop-i.invariant c.loop-i-test.true c.requires c.index-seen-i.is c.index-seen-j.is
    (sym c.is_crossed.ensures ∙ c.if-is_crossed.false)

pub returns : goal.returns
returns c = crossed_never c.args.seen.now c.loop-i.i c.args.j c.loop-i.invariant c.loop-i-test.false
