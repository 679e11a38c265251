use Rattle.std.proofs.Common.{inl, inr}
use Rattle.std.proofs.lemmas.Result.{err_from_is_err_and}
use Rattle.rd_run.specs.Endings.{counter}
use Rattle.rd_run.specs.Machine.{Asks, Step}
use Rattle.rd_run.specs.Internal.Session.{reply}
use Rattle.rd_run.proofs.Undoing.{undo_may}
use Rattle.rd_run.proofs.Steps.{on_err, AllMay, may_as, advances_as, step_of, asks_may, asks_does}
use Rattle.rd_run.proofs.session.Session.perform.Goals as goal

pub returns-in_err-_refused-in-Change-clause-err :
    goal.returns-in_err-_refused-in-Change-clause-err
returns-in_err-_refused-in-Change-clause-err g c =
    on_err {P = AllMay c.args.self.now (counter c.args.made.now c.args.made.now) (counter c.args.looks.now c.edit.new.looks) (Step c.args.command.now)} _ (λ s sh. rw c.in-Change.is (c.in_err-_refused-in-Change.ensures.err s c.args.made.now sh))

pub returns-in_err-_note-in_default : goal.returns-in_err-_note-in_default
returns-in_err-_note-in_default g c =
    let r = err_from_is_err_and c.from_residual-in_err-_note-in_default.result c.from_residual-in_err-_note-in_default.ensures.1 in
    record {
      ok = rw (r.1) tt;
      err = rw (r.1) (λ s sh. may_as (Asks (reply c.args.command.now)) (Step c.args.command.now) _ _ s (step_of c.args.command.now c.in_default.not-Change c.in_default.not-Paint c.in_default.not-Undo s)
          (asks_may s c.args.self.now sh (reply c.args.command.now) _ _ (c.in_err-_note-in_default.ensures.err s sh)));
      watched = rw (r.1) tt;
      count = c.in_err-_note-in_default.ensures.count;
    }

pub returns-in_ok-_refused-in-Change-clause-ok : goal.returns-in_ok-_refused-in-Change-clause-ok
returns-in_ok-_refused-in-Change-clause-ok g c = λ s sh.
    rw c.in-Change.is (_, c.in_ok-_refused-in-Change.ensures.ok s c.args.made.now sh)

pub returns-in_ok-_note-in-Paint-clause-ok : goal.returns-in_ok-_note-in-Paint-clause-ok
returns-in_ok-_note-in-Paint-clause-ok g c = λ s sh. rw c.in-Paint.is (_, c.in_ok-_note-in-Paint.ensures.ok s sh)

pub returns-in_ok-_note-in_default : goal.returns-in_ok-_note-in_default
returns-in_ok-_note-in_default g c =
    record {
      ok = λ s sh.
          let d = asks_does s c.args.self.now sh (reply c.args.command.now) _ _ _ _ (c.in_ok-_note-in_default.ensures.ok s sh) in
          (d.0, advances_as (Asks (reply c.args.command.now)) (Step c.args.command.now) _ _ s (step_of c.args.command.now c.in_default.not-Change c.in_default.not-Paint c.in_default.not-Undo s) d.0 _ d.1);
      err = tt;
      watched = c.in_ok-_note-in_default.ensures.watched;
      count = c.in_ok-_note-in_default.ensures.count;
    }

pub returns-in_ok-_refused-in-Change-clause-watched : goal.returns-in_ok-_refused-in-Change-clause-watched
returns-in_ok-_refused-in-Change-clause-watched g c = inr c.in_ok-_refused-in-Change.ensures.watched

pub returns-in_ok-_note-in-Paint-clause-watched : goal.returns-in_ok-_note-in-Paint-clause-watched
returns-in_ok-_note-in-Paint-clause-watched g c = inl c.in_ok-_note-in-Paint.ensures.watched

pub returns-in_err-_done-in-Undo-clause-err : goal.returns-in_err-_done-in-Undo-clause-err
returns-in_err-_done-in-Undo-clause-err g c = on_err _ (undo_may c.args.self.now c.args.command.now c.args.made.now c.args.looks.now c.in-Undo.is)

pub returns-in_ok-_done-in-Undo-clause-ok : goal.returns-in_ok-_done-in-Undo-clause-ok
returns-in_ok-_done-in-Undo-clause-ok g c = λ s sh. rw c.in-Undo.is (_, c.in_ok-_done-in-Undo.ensures.ok s c.args.made.now c.args.looks.now sh)

pub returns-in_ok-_done-in-Undo-clause-watched : goal.returns-in_ok-_done-in-Undo-clause-watched
returns-in_ok-_done-in-Undo-clause-watched g c = inr c.in_ok-_done-in-Undo.ensures.watched
