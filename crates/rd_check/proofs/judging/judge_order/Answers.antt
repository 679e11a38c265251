use Rattle.std.proofs.Common.{length, arith}
use Rattle.rd_check.specs.Internal.Sights.{sights_of}
use Rattle.rd_check.proofs.Judged.{pair_below, told_order, told_yes}
use Rattle.rd_check.proofs.judging.judge_order.Goals as goal

pub overflow_cast-first : goal.overflow_cast-first
overflow_cast-first c =
    let w = pair_below c.in_ok-crossed.crossed _ (length c.args.seen.now) c.in_ok-crossed.ensures.within c.in-Some.is in
    let at = w.0 in
    let few = c.requires in
    omega (arith, at, few)

pub overflow_cast-second : goal.overflow_cast-second
overflow_cast-second c =
    let w = pair_below c.in_ok-crossed.crossed _ (length c.args.seen.now) c.in_ok-crossed.ensures.within c.in-Some.is in
    let at = w.1 in
    let few = c.requires in
    omega (arith, at, few)

pub returns-in-Some : goal.returns-in-Some
returns-in-Some c = λ names. told_order c.args.fresh.now names (sights_of c.args.seen.now) c.in_ok-crossed.crossed _ c.in_ok-crossed.ensures.found c.in-Some.is

pub returns-in-None : goal.returns-in-None
returns-in-None c = λ names. told_yes c.args.fresh.now names (sights_of c.args.seen.now) c.in_ok-crossed.crossed c.in_ok-crossed.ensures.found c.in-None.is
