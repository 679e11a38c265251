use Rattle.rd_undo.proofs.Histories.{history}
use Rattle.rd_undo.proofs.laws.as_many_undos.Goals as goal

pub returns : goal.returns
returns c = history
