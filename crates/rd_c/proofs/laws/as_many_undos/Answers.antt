use Rattle.rd_c.proofs.Back.{as_many}
use Rattle.rd_c.proofs.laws.as_many_undos.Goals as goal

pub returns : goal.returns
returns c = as_many
