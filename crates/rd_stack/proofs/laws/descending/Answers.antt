use Rattle.rd_stack.proofs.Present.{descending}
use Rattle.rd_stack.proofs.laws.descending.Goals as goal

pub returns : goal.returns
returns c = descending
