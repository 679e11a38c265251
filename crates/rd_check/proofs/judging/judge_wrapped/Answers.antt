use Rattle.std.proofs.Common.{length, arith}
use Rattle.rd_check.specs.Internal.Sights.{sights_of}
use Rattle.rd_check.proofs.Judged.{some_below, told_wrapped, pass_wrapped}
use Rattle.rd_check.proofs.judging.judge_wrapped.Goals as goal

pub overflow_cast-result : goal.overflow_cast-result
overflow_cast-result c =
    let w = some_below c.in_ok-wrapped.wrapped c.in-Some.i (length c.args.seen.now) c.in_ok-wrapped.ensures.within c.in-Some.is in
    let few = c.requires in
    omega (arith, w, few)

pub returns-in-Some : goal.returns-in-Some
returns-in-Some c = told_wrapped c.args.fresh.now c.args.known.now (sights_of c.args.seen.now) c.in_ok-wrapped.wrapped c.in-Some.i c.in_ok-wrapped.ensures.found c.in-Some.is

pub returns-in-None : goal.returns-in-None
returns-in-None c =
    pass_wrapped c.args.fresh.now c.args.known.now (sights_of c.args.seen.now) c.in_ok-wrapped.wrapped c.judge_missing.result c.in_ok-wrapped.ensures.found c.in-None.is
    c.judge_missing.ensures
