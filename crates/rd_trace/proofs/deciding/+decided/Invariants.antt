use Rattle.std.proofs.Common.{length}
use Rattle.rd_trace.proofs.deciding.+decided.Given as goal

abbrev pub decreases-decided : goal.decreases-decided
decreases-decided l = length l.us.now
