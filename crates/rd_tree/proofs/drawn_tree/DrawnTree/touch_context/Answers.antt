use Rattle.rd_tree.proofs.Contexts.Marks.{no_context}
use Rattle.rd_tree.proofs.drawn_tree.DrawnTree.touch_context.Goals as goal

pub returns-in_default : goal.returns-in_default
returns-in_default g c = no_context c.args.round c.args.self.now c.in_default.is
