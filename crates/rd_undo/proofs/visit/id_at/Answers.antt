use Rattle.rd_undo.proofs.Visiting.{id_there}
use Rattle.rd_undo.proofs.visit.id_at.Goals as goal

pub unreachable-requires : goal.unreachable-requires
unreachable-requires g c = id_there c.args.key c.args.tree.now.boxes c.requires c.in-None.ensures
