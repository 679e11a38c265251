use Rattle.rd_graph.proofs.Reaching.Calls.{linking}
use Rattle.rd_graph.proofs.laws.linking.Goals as goal

pub returns : goal.returns
returns g c = linking _
