use Rattle.std.proofs.Common.{◌≡◌, ap, true}
use Rattle.rd_report.specs.Answers.{paint_line}
use Rattle.rd_run.specs.Endings.{counter}
use Rattle.rd_run.specs.Internal.Session.{SessionState}
use Rattle.rd_run.proofs.Steps.{advances_if}
use Rattle.rd_run.proofs.session.Session.paint_if_pending.Goals as goal

pub returns-in_ok-note-clause-ok : goal.returns-in_ok-note-clause-ok
returns-in_ok-note-clause-ok g c = λ s sh.
    let n = c.in_ok-note.note in
    let p = c.pending.ensures in
    let t = c.if-pending.true in
    let w : c.self.inside.engine.pending ≡ c.args.self.now.engine.pending = ap (λ (x : SessionState). x.engine.pending) c.self.view_is in
    let e : c.args.self.now.engine.pending ≡ true = cc in
    advances_if c.args.self.now.engine.pending (counter c.args.made.now c.paint.new.made) (counter c.args.looks.now c.paint.new.looks) s
    (paint_line n.number n.built n.kept n.area) c.paint.new.self e (c.in_ok-note.ensures.ok s sh)
