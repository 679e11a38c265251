use Rattle.rd_undo.proofs.Visiting.{named_known, named_key}
use Rattle.rd_undo.proofs.visit.key_of.Goals as goal

pub unreachable-requires : goal.unreachable-requires
unreachable-requires g c = named_known c.args.id.now c.args.tree.now.boxes c.requires.known c.in-None.ensures.found

pub returns-clause-there : goal.returns-clause-there
returns-clause-there g c = named_key c.args.id.now c.in-Some.key c.args.tree.now.boxes c.in-Some.ensures.found
