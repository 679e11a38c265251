use Rattle.rd_graph.proofs.LinedUp.ByRanks.RankedRuns.{spread_put}
use Rattle.rd_graph.proofs.ranked.push_ranked_run.Goals as goal

pub returns : goal.returns
returns c = spread_put c.args.runs.now.items c.push.new.self.items _ c.in_ok-push.ensures.items
