use Rattle.std.proofs.Common.{refl, inl, inr}
use Rattle.std.proofs.lemmas.Result.{err_from_is_err_and}
use Rattle.rd_run.proofs.performing.performed.Goals as goal

pub returns-in_err-session-clause-part : goal.returns-in_err-session-clause-part
returns-in_err-session-clause-part g c =
    let r = err_from_is_err_and c.from_residual.result c.from_residual.ensures.1 in rw (r.1) (inl (refl, refl))

pub returns-in_err-perform_to_end-clause-part : goal.returns-in_err-perform_to_end-clause-part
returns-in_err-perform_to_end-clause-part g c =
    let r = err_from_is_err_and c.from_residual-in_err-perform_to_end.result c.from_residual-in_err-perform_to_end.ensures.1 in rw (r.1) (inr c.in_err-perform_to_end.ensures.part)

pub returns-clause-finished : goal.returns-clause-finished
returns-clause-finished g c = c.in_ok-perform_to_end.ensures.finished
