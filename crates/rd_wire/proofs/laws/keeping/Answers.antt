use Rattle.rd_wire.proofs.Keeping.{keeping}
use Rattle.rd_wire.proofs.laws.keeping.Goals as goal

pub returns : goal.returns
returns c = keeping
