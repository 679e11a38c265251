use Rattle.rd_graph.proofs.LinedUp.RunLines.{reflagged}
use Rattle.rd_graph.proofs.aside.put_if.Goals as goal

pub returns-then-aside-clause-places : goal.returns-then-aside-clause-places
returns-then-aside-clause-places c = reflagged c.args.runs.now.items c.args.at c.index-run.result.now c.args.aside c.requires c.index-run.ensures
