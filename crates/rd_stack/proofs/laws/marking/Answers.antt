use Rattle.rd_stack.proofs.Marking.{marked_list}
use Rattle.rd_stack.proofs.laws.marking.Goals as goal

pub returns : goal.returns
returns c = marked_list
