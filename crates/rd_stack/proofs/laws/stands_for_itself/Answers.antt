use Rattle.rd_stack.proofs.Promises.{stands_for_itself}
use Rattle.rd_stack.proofs.laws.stands_for_itself.Goals as goal

pub returns : goal.returns
returns c = stands_for_itself
