use Rattle.rd_list.proofs.Merges.Starting.{display_starting}
use Rattle.rd_list.proofs.laws.display_starting.Goals as goal

pub returns : goal.returns
returns c = display_starting
