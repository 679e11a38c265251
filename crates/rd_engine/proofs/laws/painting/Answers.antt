use Rattle.rd_engine.proofs.Kept.{painting}
use Rattle.rd_engine.proofs.laws.painting.Goals as goal

pub returns : goal.returns
returns c = painting
