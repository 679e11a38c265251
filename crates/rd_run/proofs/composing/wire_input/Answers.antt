use Rattle.rd_run.proofs.Finishing.{wire_unread}
use Rattle.rd_run.proofs.composing.wire_input.Goals as goal

pub returns-in-Err-clause-refused : goal.returns-in-Err-clause-refused
returns-in-Err-clause-refused g c = wire_unread _ c.in-Err.status c.in-Err.ensures.refused
