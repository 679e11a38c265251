use Rattle.rd_graph.proofs.Patches.PutInPlace.{placed}
use Rattle.rd_graph.proofs.applying.in_line.Goals as goal

pub returns-in-Some : goal.returns-in-Some
returns-in-Some c = placed c.args.line c.in-Some.line c.args.nodes.items c.args.made.items c.move_line.result.items c.deref.result.now c.in-Some.is c.deref.ensures.value c.move_line.ensures
