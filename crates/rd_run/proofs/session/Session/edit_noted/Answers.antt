use Rattle.std.proofs.Common.{◌≡◌, ◌∙◌, ap, sym, subst, refl, ℕ, ◌+◌, arith, Some}
use Rattle.rd_tree.specs.Document.{Document}
use Rattle.rd_edits.specs.Refusals.{refusal_of}
use Rattle.rd_report.specs.Answers.{refused_line}
use Rattle.rd_scene.specs.declared.script.Command.TheVariants.{Change}
use Rattle.rd_run.specs.Endings.{counter}
use Rattle.rd_run.specs.Machine.{Step}
use Rattle.rd_run.specs.Internal.Session.{SessionState, Shows, Advances, IsFew}
use Rattle.rd_run.proofs.Editing.{edit_refused}
use Rattle.rd_run.proofs.Steps.{few_next}
use Rattle.rd_run.proofs.session.Session.edit_noted.Goals as goal

pub returns-in-Some-clause-ok : goal.returns-in-Some-clause-ok
returns-in-Some-clause-ok g c = λ s m sh.
    let x : SessionState = record { engine = c.self.inside.engine; accepted = c.self.inside.accepted; refused = c.self.inside.refused; built = c.self.inside.built; area = c.self.inside.area; keeps = c.self.inside.keeps; undo = c.self.inside.undo } in
    let h : Shows x s = subst (λ (y : SessionState). Shows y s) (sym c.self.view_is) sh in
    let r : refusal_of x.engine.tree c.args.edit.now ≡ Some c.in-Some.fault = sym (c.in-Some.ensures ∙ ap (λ (t : Document). refusal_of t c.args.edit.now) c.tree.ensures) in
    subst (λ (n : ℕ). Advances (Step (Change c.args.edit.now)) (counter m m) (counter c.args.looks.now c.args.looks.now) s (refused_line n) (record x { refused = x.refused + 1 })) (sym c.number.ensures)
    (edit_refused s x c.args.edit.now h (counter m m) (counter c.args.looks.now c.args.looks.now) refl (omega arith) c.in-Some.fault r)

pub returns-in-Some-clause-count : goal.returns-in-Some-clause-count
returns-in-Some-clause-count g c = λ n few.
    let x : SessionState = record { engine = c.self.inside.engine; accepted = c.self.inside.accepted; refused = c.self.inside.refused; built = c.self.inside.built; area = c.self.inside.area; keeps = c.self.inside.keeps; undo = c.self.inside.undo } in
    let f : IsFew x n = subst (λ (y : SessionState). IsFew y n) (sym c.self.view_is) few in
    few_next x (record x { refused = x.refused + 1 }) n 0 0 f (omega arith) (omega arith) (omega arith) (omega arith) (omega arith) (omega arith) (omega arith)

pub do_noted-requires-clause-accepted : goal.do_noted-requires-clause-accepted
do_noted-requires-clause-accepted g c =
    subst (λ (y : SessionState). refusal_of y.engine.tree c.args.edit.now ≡ _) c.self.view_is (sym (c.in-None.ensures ∙ ap (λ (t : Document). refusal_of t c.args.edit.now) c.tree.ensures))

pub returns-in-Some-clause-watched : goal.returns-in-Some-clause-watched
returns-in-Some-clause-watched g c = rw (← c.self.view_is) (record { canvas = refl; paints = refl })
