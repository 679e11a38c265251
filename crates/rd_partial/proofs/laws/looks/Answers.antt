use Rattle.rd_partial.proofs.Visits.{looks}
use Rattle.rd_partial.proofs.laws.looks.Goals as goal

pub returns : goal.returns
returns c = looks
