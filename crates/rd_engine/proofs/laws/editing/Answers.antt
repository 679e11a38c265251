use Rattle.rd_engine.proofs.Kept.{editing}
use Rattle.rd_engine.proofs.laws.editing.Goals as goal

pub returns : goal.returns
returns c = editing
