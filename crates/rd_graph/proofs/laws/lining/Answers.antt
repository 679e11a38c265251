use Rattle.rd_graph.proofs.Reaching.Calls.{lining}
use Rattle.rd_graph.proofs.laws.lining.Goals as goal

pub returns : goal.returns
returns g c = lining _
