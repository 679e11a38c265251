use Rattle.std.proofs.Common.{◌∙◌, sym}
use Rattle.rd_tree.proofs.Laying.Shown.{is_touched-laid}
use Rattle.rd_tree.proofs.tree.Tree.touched.Goals as goal

pub returns : goal.returns
returns g c = rw (← c.self.view_is) (c.touched.ensures ∙ sym (is_touched-laid c.self.inside.hands.items c.args.key c.self.inside.drawn.boxes))
