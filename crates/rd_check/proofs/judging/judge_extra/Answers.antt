use Rattle.rd_check.specs.Internal.Sights.{sights_of}
use Rattle.rd_check.proofs.Judged.{told_extra, pass_extra}
use Rattle.rd_check.proofs.judging.judge_extra.Goals as goal

pub returns-in-Some : goal.returns-in-Some
returns-in-Some c = told_extra c.args.fresh.now c.args.known.now (sights_of c.args.seen.now) c.in-Some.i c.in-Some.ensures.found

pub returns-in-None : goal.returns-in-None
returns-in-None c = pass_extra c.args.fresh.now c.args.known.now (sights_of c.args.seen.now) c.judge_different.result c.in-None.ensures.found c.judge_different.ensures
