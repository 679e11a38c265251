use Rattle.rd_stack.proofs.Grouping.Own.{given_list}
use Rattle.rd_stack.proofs.laws.giving.Goals as goal

pub returns : goal.returns
returns c = given_list
