use Rattle.rd_wire.proofs.Bared.{same_leaves}
use Rattle.rd_wire.proofs.laws.same_leaves.Goals as goal

pub returns : goal.returns
returns c = same_leaves
