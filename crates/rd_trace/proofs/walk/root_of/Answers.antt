use Rattle.std.proofs.Common.{[]}
use Rattle.rd_tree.proofs.Drawing.{rooted_drawn, size-drawn}
use Rattle.rd_trace.proofs.walk.root_of.Goals as goal

pub returns-clause-rooted : goal.returns-clause-rooted
returns-clause-rooted g c = rooted_drawn c.args.tree.now c.root.ensures.rooted

pub returns-clause-boxes : goal.returns-clause-boxes
returns-clause-boxes g c = size-drawn [] c.args.tree.now.boxes
