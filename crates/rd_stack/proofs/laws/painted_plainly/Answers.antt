use Rattle.rd_stack.proofs.Grouping.Normal.{plainly}
use Rattle.rd_stack.proofs.laws.painted_plainly.Goals as goal

pub returns : goal.returns
returns c = plainly
