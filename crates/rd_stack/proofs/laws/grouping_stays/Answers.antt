use Rattle.rd_stack.proofs.Pruning.{grouped_stays}
use Rattle.rd_stack.proofs.laws.grouping_stays.Goals as goal

pub returns : goal.returns
returns c = grouped_stays
