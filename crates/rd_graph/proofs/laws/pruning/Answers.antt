use Rattle.rd_graph.proofs.Reaching.Calls.{pruning}
use Rattle.rd_graph.proofs.laws.pruning.Goals as goal

pub returns : goal.returns
returns g c = pruning _
