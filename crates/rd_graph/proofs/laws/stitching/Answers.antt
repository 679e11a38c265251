use Rattle.rd_graph.proofs.Reaching.Calls.{stitching}
use Rattle.rd_graph.proofs.laws.stitching.Goals as goal

pub returns : goal.returns
returns g c = stitching _
