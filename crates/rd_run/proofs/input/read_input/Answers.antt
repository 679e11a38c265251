use Rattle.std.proofs.Common.{sym, subst}
use Rattle.rd_run.specs.Endings.{HasRead}
use Rattle.rd_run.proofs.Finishing.{bytes_unread, script_read, script_unread}
use Rattle.rd_run.proofs.input.read_input.Goals as goal

pub returns-in-Ok-clause-script : goal.returns-in-Ok-clause-script
returns-in-Ok-clause-script g c =
    script_read _ _ (subst (HasRead _) (sym c.as_slice.ensures.value) c.in-Ok.ensures.read) _ c.script_of.ensures.script

pub returns-in-Ok-clause-refused : goal.returns-in-Ok-clause-refused
returns-in-Ok-clause-refused g c =
    script_unread _ _ (subst (HasRead _) (sym c.as_slice.ensures.value) c.in-Ok.ensures.read) _ c.script_of.ensures.refused

pub returns-in-Err-clause-refused : goal.returns-in-Err-clause-refused
returns-in-Err-clause-refused g c = bytes_unread _ c.in-Err.status c.in-Err.ensures.refused
