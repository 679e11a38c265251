use Rattle.rd_trace.proofs.Placed.{placed}
use Rattle.rd_trace.proofs.laws.placing.Goals as goal

pub returns : goal.returns
returns c = placed
