use Rattle.std.proofs.Common.{◌++◌, ◌∙◌, ap, string_bytes}
use Rattle.std.proofs.lemmas.Result.{on_ok_weaker, on_err_weaker}
use Rattle.rd_report.specs.Answers.{answer_line, paint_line}
use Rattle.rd_run.specs.Endings.{counter}
use Rattle.rd_run.specs.Machine.{Asks, Step}
use Rattle.rd_run.specs.Internal.Session.{reply}
use Rattle.rd_run.proofs.Steps.{on_err, AllMay, may_as, all_paint_may, all_paint_went, paint_tells, tells_as, step_of, may_from}
use Rattle.rd_scene.specs.declared.script.Command.TheVariants.{Change}
use Rattle.rd_run.proofs.Undoing.{undo_may}
use Rattle.rd_run.proofs.session.Session.answer.Goals as goal

pub returns-in_err-refused-in-Change-clause-err : goal.returns-in_err-refused-in-Change-clause-err
returns-in_err-refused-in-Change-clause-err g c =
    on_err {P = AllMay c.args.self.now (counter c.args.made.now c.args.made.now) (counter c.args.looks.now c.edit.new.looks) (Step c.args.command.now)} _ (λ s sh. rw c.in-Change.is (c.in_err-refused-in-Change.ensures.err s c.args.made.now sh))

pub returns-in_err-note-in-Paint-clause-err : goal.returns-in_err-note-in-Paint-clause-err
returns-in_err-note-in-Paint-clause-err g c = on_err _ (all_paint_may c.args.self.now _ _ c.args.command.now c.in-Paint.is c.in_err-note-in-Paint.ensures.err)

pub returns-in_ok-refused-in-Change-clause-ok : goal.returns-in_ok-refused-in-Change-clause-ok
returns-in_ok-refused-in-Change-clause-ok g c =
    on_ok_weaker c.push_edit.result (λ w s sh. rw c.in-Change.is (_, w, c.in_ok-refused-in-Change.ensures.ok s c.args.made.now sh))
    c.push_edit.ensures

pub returns-in_ok-refused-in-Change-clause-err : goal.returns-in_ok-refused-in-Change-clause-err
returns-in_ok-refused-in-Change-clause-err g c =
    on_err {P = AllMay c.args.self.now (counter c.args.made.now c.args.made.now) (counter c.args.looks.now c.edit.new.looks) (Step c.args.command.now)} _ (λ s sh. rw c.in-Change.is (may_from (Step (Change c.in-Change.edit)) _ _ s _ _ (c.in_ok-refused-in-Change.ensures.ok s c.args.made.now sh)))

pub returns-in_ok-note-in-Paint-clause-ok : goal.returns-in_ok-note-in-Paint-clause-ok
returns-in_ok-note-in-Paint-clause-ok g c =
    let n = c.in_ok-note-in-Paint.note in
    on_ok_weaker c.push_line-in-Paint.result
    (λ w s sh. paint_tells c.args.command.now c.in-Paint.is (counter c.args.made.now c.paint.new.made) (counter c.args.looks.now c.paint.new.looks) s
    (paint_line n.number n.built n.kept n.area) (string_bytes c.args.text.now) (string_bytes c.push_line-in-Paint.new.out) c.paint.new.self
    (c.in_ok-note-in-Paint.ensures.ok s sh) (w ∙ ap (λ a. string_bytes c.args.text.now ++ answer_line a) c.painted.ensures))
    c.push_line-in-Paint.ensures.pushed

pub returns-in_ok-note-in-Paint-clause-err : goal.returns-in_ok-note-in-Paint-clause-err
returns-in_ok-note-in-Paint-clause-err g c = on_err _ (all_paint_went c.args.self.now _ _ c.args.command.now _ _ c.in-Paint.is c.in_ok-note-in-Paint.ensures.ok)

pub returns-in_default : goal.returns-in_default
returns-in_default g c =
    record {
      ok = on_ok_weaker c.ask.result (λ w s sh. tells_as (Asks (reply c.args.command.now)) (Step c.args.command.now) _ _ s _ _ _ (step_of c.args.command.now c.in_default.not-Change c.in_default.not-Paint c.in_default.not-Undo s) (w s sh)) c.ask.ensures.ok;
      err = on_err_weaker c.ask.result (λ w s sh. may_as (Asks (reply c.args.command.now)) (Step c.args.command.now) _ _ s (step_of c.args.command.now c.in_default.not-Change c.in_default.not-Paint c.in_default.not-Undo s) (w s sh)) c.ask.ensures.err;
      count = c.ask.ensures.count;
    }

pub returns-in_err-done-in-Undo-clause-err : goal.returns-in_err-done-in-Undo-clause-err
returns-in_err-done-in-Undo-clause-err g c = on_err _ (undo_may c.args.self.now c.args.command.now c.args.made.now c.args.looks.now c.in-Undo.is)

pub returns-in_ok-done-in-Undo-clause-ok : goal.returns-in_ok-done-in-Undo-clause-ok
returns-in_ok-done-in-Undo-clause-ok g c =
    on_ok_weaker c.push_line.result (λ w s sh. rw c.in-Undo.is (_, w, c.in_ok-done-in-Undo.ensures.ok s c.args.made.now c.args.looks.now sh))
    c.push_line.ensures.pushed

pub returns-in_ok-done-in-Undo-clause-err : goal.returns-in_ok-done-in-Undo-clause-err
returns-in_ok-done-in-Undo-clause-err g c = on_err _ (undo_may c.args.self.now c.args.command.now c.args.made.now c.args.looks.now c.in-Undo.is)
