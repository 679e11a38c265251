use Rattle.rd_trace.proofs.Hits.{hitting}
use Rattle.rd_trace.proofs.laws.hitting.Goals as goal

pub returns : goal.returns
returns c = hitting
