use Rattle.rd_stack.proofs.Promises.{few_entries}
use Rattle.rd_stack.proofs.laws.few_entries.Goals as goal

pub returns : goal.returns
returns c = few_entries
