use Rattle.std.proofs.Common.{◌∙◌, sym}
use Rattle.rd_tree.proofs.Laying.Shown.{id_of-laid}
use Rattle.rd_tree.proofs.tree.Tree.id.Goals as goal

pub returns : goal.returns
returns g c = rw (← c.self.view_is) (c.id.ensures ∙ sym (id_of-laid c.self.inside.hands.items c.args.key c.self.inside.drawn.boxes))
