use Rattle.std.proofs.Common.{sym}
use Rattle.rd_graph.proofs.LinedUp.RunGathering.{one_long}
use Rattle.rd_graph.proofs.runs.aside_of.Goals as goal

pub returns-then-run : goal.returns-then-run
returns-then-run c = sym (one_long c.args.run c.if-run.true)
