use Rattle.rd_tree.proofs.Commuting.{drawing}
use Rattle.rd_tree.proofs.laws.draws_alike.Goals as goal

pub returns : goal.returns
returns c = drawing
