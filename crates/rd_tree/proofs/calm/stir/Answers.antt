use Rattle.rd_tree.proofs.Nodes.Calm.{calm_stirred}
use Rattle.rd_tree.proofs.calm.stir.Goals as goal

pub returns : goal.returns
returns c = λ y. calm_stirred c.args.rows.now c.args.calm.now c.args.slot y c.requires.calm c.requires.slot
