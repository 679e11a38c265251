use Rattle.rd_tree.proofs.Drawing.{rooted_drawn}
use Rattle.rd_partial.proofs.look.root_of.Goals as goal

pub returns-clause-rooted : goal.returns-clause-rooted
returns-clause-rooted g c = rooted_drawn c.args.tree.now c.root.ensures.rooted
