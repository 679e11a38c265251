use Rattle.std.proofs.Common.{inr}
use Rattle.std.proofs.lemmas.Result.{err_from_is_err_and}
use Rattle.rd_run.proofs.Planted.{finished_may}
use Rattle.rd_run.proofs.performing.end_of.Goals as goal

pub returns-in_err-session-clause-part : goal.returns-in_err-session-clause-part
returns-in_err-session-clause-part g c =
    let r = err_from_is_err_and c.from_residual.result c.from_residual.ensures.1 in rw (r.1) c.in_err-session.ensures.part

pub returns-in-Ok-clause-told : goal.returns-in-Ok-clause-told
returns-in-Ok-clause-told g c = (c.in_ok-session.session, c.in_ok-session.ensures.finished, c.in-Ok.ensures)

pub returns-in-Err-clause-part : goal.returns-in-Err-clause-part
returns-in-Err-clause-part g c = inr (finished_may c.args.script.now _ _ _ _ _ c.in_ok-session.ensures.finished)
