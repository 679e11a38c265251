use Rattle.std.proofs.lemmas.Option.{IfSome_then}
use Rattle.rd_list.proofs.Covering.{told_group}
use Rattle.rd_list.proofs.told.told_of.Goals as goal

pub returns-in-Group : goal.returns-in-Group
returns-in-Group g c = IfSome_then c.group_told.result c.group_told.ensures (λ t h. told_group t c.in-Group.group c.args.entry.now c.in-Group.is h)
