use Rattle.rd_trace.proofs.TenTold.{tracing}
use Rattle.rd_trace.proofs.laws.tracing.Goals as goal

pub returns : goal.returns
returns c = tracing
