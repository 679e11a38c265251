use Rattle.rd_graph.proofs.LinedUp.RunLines.{places_put}
use Rattle.rd_graph.proofs.runs.push_run.Goals as goal

pub returns : goal.returns
returns c = places_put c.args.runs.now.items c.push.new.self.items _ c.in_ok-push.ensures.items
