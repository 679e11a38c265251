use Rattle.rd_check.specs.Internal.Sights.{sights_of}
use Rattle.rd_check.proofs.Judged.{told_missing, pass_absent}
use Rattle.rd_check.proofs.judging.judge_missing.Goals as goal

pub returns-in-Some : goal.returns-in-Some
returns-in-Some c =
    told_missing c.args.fresh.now c.args.known.now (sights_of c.args.seen.now) c.as_slice-leaves.result.now c.in-Some.i c.index-leaves-i.result c.missing.result
    c.as_slice-leaves.ensures.value c.in-Some.ensures.within c.index-leaves-i.is c.missing.ensures c.in-Some.ensures.found

pub returns-in-None : goal.returns-in-None
returns-in-None c =
    pass_absent c.args.fresh.now c.args.known.now (sights_of c.args.seen.now) c.as_slice-leaves.result.now c.judge_order.result
    c.as_slice-leaves.ensures.value c.in-None.ensures.found c.judge_order.ensures
