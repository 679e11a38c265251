use Rattle.std.proofs.lemmas.Result.{on_ok_weaker}
use Rattle.rd_run.specs.Internal.Session.{reply}
use Rattle.rd_run.proofs.Steps.{on_err, asks_tell, all_asks_may, all_asks_went}
use Rattle.rd_run.proofs.session.Session.ask.Goals as goal

pub returns-in_err-note-clause-err : goal.returns-in_err-note-clause-err
returns-in_err-note-clause-err g c =
    on_err c.from_residual.result (all_asks_may c.args.self.now _ _ (reply c.args.question.now) c.in_err-note.ensures.err)

pub returns-in_err-push_paint-clause-err : goal.returns-in_err-push_paint-clause-err
returns-in_err-push_paint-clause-err g c =
    on_err _ (all_asks_went c.args.self.now _ _ (reply c.args.question.now) _ _ c.in_ok-note.ensures.ok)

pub returns-clause-ok : goal.returns-clause-ok
returns-clause-ok g c =
    on_ok_weaker c.push_reply.result (λ w s sh. asks_tell s c.args.self.now sh (reply c.args.question.now) _ _ _ _ _ _ _ (c.in_ok-note.ensures.ok s sh) c.in_ok-push_paint.ensures w)
    c.push_reply.ensures

pub returns-clause-err : goal.returns-clause-err
returns-clause-err g c =
    on_err _ (all_asks_went c.args.self.now _ _ (reply c.args.question.now) _ _ c.in_ok-note.ensures.ok)
