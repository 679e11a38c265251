use Rattle.rd_undo.proofs.Law.{inverse_undoes}
use Rattle.rd_undo.proofs.laws.undoing.Goals as goal

pub returns : goal.returns
returns c = inverse_undoes
