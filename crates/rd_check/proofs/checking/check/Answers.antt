use Rattle.rd_check.proofs.checking.check.Goals as goal

pub returns-clause-verdict : goal.returns-clause-verdict
returns-clause-verdict g c = c.in_ok-check.ensures.verdict c.args.dump.now c.in_ok-read.ensures.read
