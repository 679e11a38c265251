use Rattle.rd_stack.proofs.Walk.Sorting as sorting
use Rattle.rd_stack.proofs.laws.levels.Goals as goal

pub returns : goal.returns
returns c = sorting.levels
