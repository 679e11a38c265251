use Rattle.std.proofs.Common.{inr}
use Rattle.rd_run.proofs.checking.check_dump.Goals as goal

pub returns-in-Ok : goal.returns-in-Ok
returns-in-Ok g c = inr (c.check_script.ensures c.args.bytes.now c.in-Ok.ensures.read)
