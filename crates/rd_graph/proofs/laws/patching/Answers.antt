use Rattle.rd_graph.proofs.Reaching.Calls.{patching}
use Rattle.rd_graph.proofs.laws.patching.Goals as goal

pub returns : goal.returns
returns g c = patching _
