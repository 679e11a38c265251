use Rattle.rd_check.specs.Internal.Rounds.{ways_in}
use Rattle.rd_check.proofs.Straying.{stray_here, stray_on, stray_none}
use Rattle.rd_check.proofs.judging.first_wrapped.Goals as goal

pub returns-then-is_wrapped-clause-found : goal.returns-then-is_wrapped-clause-found
returns-then-is_wrapped-clause-found c =
    stray_here (ways_in c.args.fresh.now) c.args.seen.now c.loop-i.round.items c.truncate.new.self.items c.deref.result.now c.loop-i.i c.index-seen-i.result c.is_wrapped.result
    c.loop-i.invariant c.loop-i-test.true c.index-seen-i.is c.deref.ensures.value c.truncate.ensures.items c.is_wrapped.ensures c.if-is_wrapped.true

pub loop-i-preserved : goal.loop-i-preserved
loop-i-preserved c =
    stray_on (ways_in c.args.fresh.now) c.args.seen.now c.loop-i.round.items c.truncate.new.self.items c.deref.result.now c.enter.new.round.items c.loop-i.i c.index-seen-i.result c.is_wrapped.result
    c.loop-i.invariant c.loop-i-test.true c.index-seen-i.is c.deref.ensures.value c.truncate.ensures.items c.is_wrapped.ensures c.if-is_wrapped.false c.in_ok-enter.ensures

pub returns-clause-found : goal.returns-clause-found
returns-clause-found c = stray_none (ways_in c.args.fresh.now) c.args.seen.now c.loop-i.round.items c.loop-i.i c.loop-i.invariant c.loop-i-test.false
