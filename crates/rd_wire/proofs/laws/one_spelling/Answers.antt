use Rattle.rd_wire.proofs.Whole.{one_spelling}
use Rattle.rd_wire.proofs.laws.one_spelling.Goals as goal

pub returns : goal.returns
returns c = one_spelling
