use Rattle.std.proofs.Common.{ℕ, ◌≡◌, ◌∙◌, ap, true, sym, subst, refl, ◌+◌, arith, None, List, ◌∷◌, ◌++◌, []}
use Rattle.circular_buffer.specs.Buffer.{Buffer, buffer, keep_last}
use Rattle.rd_tree.specs.Document.{Document}
use Rattle.rd_edits.specs.declared.edit.Edit.{Edit}
use Rattle.rd_edits.specs.Refusals.{refusal_of}
use Rattle.rd_engine.specs.State.{EngineState}
use Rattle.rd_report.specs.Answers.{ok_line}
use Rattle.rd_scene.specs.declared.script.Command.TheVariants.{Change}
use Rattle.rd_undo.specs.Inverse.{inverse}
use Rattle.rd_run.specs.Endings.{counter}
use Rattle.rd_run.specs.Machine.{State, Step}
use Rattle.rd_run.specs.Internal.Session.{SessionState, Shows, Advances, MayGoOn, IsFew, PaintsNot}
use Rattle.rd_run.proofs.Editing.{one_noted, noted_looks, edit_done, done_may}
use Rattle.rd_run.proofs.Steps.{on_err}
use Rattle.rd_run.proofs.Runs.{fewer}
use Rattle.rd_run.proofs.session.Session.do_noted.Goals as goal

pub prepare-requires : goal.prepare-requires
prepare-requires g c =
    let x : SessionState = record { engine = c.self.inside.engine; accepted = c.self.inside.accepted; refused = c.self.inside.refused; built = c.self.inside.built; area = c.self.inside.area; keeps = c.self.inside.keeps; undo = c.self.inside.undo } in
    ap (λ (t : Document). refusal_of t c.args.edit.now) c.tree.ensures
    ∙ subst (λ (y : SessionState). refusal_of y.engine.tree c.args.edit.now ≡ None) (sym c.self.view_is) c.requires.accepted

pub returns-in_err-step-clause-err : goal.returns-in_err-step-clause-err
returns-in_err-step-clause-err g c = on_err {P = (s : State) → (m : ℕ) → Shows c.args.self.now s → MayGoOn (Step (Change c.args.edit.now)) (counter m m) (counter c.args.looks.now c.prepare.new.looks) s} _ (λ s m sh.
    let x : SessionState = record { engine = c.self.inside.engine; accepted = c.self.inside.accepted; refused = c.self.inside.refused; built = c.self.inside.built; area = c.self.inside.area; keeps = c.self.inside.keeps; undo = c.self.inside.undo } in
    let h : Shows x s = subst (λ (y : SessionState). Shows y s) (sym c.self.view_is) sh in
    let k : x.keeps ≡ true = subst (λ (y : SessionState). y.keeps ≡ true) (sym c.self.view_is) c.requires.keeps in
    let r : refusal_of x.engine.tree c.args.edit.now ≡ None = subst (λ (y : SessionState). refusal_of y.engine.tree c.args.edit.now ≡ None) (sym c.self.view_is) c.requires.accepted in
    done_may c.args.edit.now s (counter m m) (counter c.args.looks.now c.prepare.new.looks) h.well_formed (ap (λ (t : Document). refusal_of t c.args.edit.now) h.tree ∙ r) (omega arith)
    (noted_looks s x c.args.edit.now h k (counter c.args.looks.now c.prepare.new.looks) c.tree.result.now c.tree.ensures c.prepare.ensures.looks))

pub returns-in-Err-clause-err : goal.returns-in-Err-clause-err
returns-in-Err-clause-err g c = λ s m sh.
    let x : SessionState = record { engine = c.self.inside.engine; accepted = c.self.inside.accepted; refused = c.self.inside.refused; built = c.self.inside.built; area = c.self.inside.area; keeps = c.self.inside.keeps; undo = c.self.inside.undo } in
    let h : Shows x s = subst (λ (y : SessionState). Shows y s) (sym c.self.view_is) sh in
    let k : x.keeps ≡ true = subst (λ (y : SessionState). y.keeps ≡ true) (sym c.self.view_is) c.requires.keeps in
    let r : refusal_of x.engine.tree c.args.edit.now ≡ None = subst (λ (y : SessionState). refusal_of y.engine.tree c.args.edit.now ≡ None) (sym c.self.view_is) c.requires.accepted in
    done_may c.args.edit.now s (counter m m) (counter c.args.looks.now c.prepare.new.looks) h.well_formed (ap (λ (t : Document). refusal_of t c.args.edit.now) h.tree ∙ r) (omega arith)
    (noted_looks s x c.args.edit.now h k (counter c.args.looks.now c.prepare.new.looks) c.tree.result.now c.tree.ensures c.prepare.ensures.looks)

pub returns-in-Err-clause-count : goal.returns-in-Err-clause-count
returns-in-Err-clause-count g c = λ n few.
    let x : SessionState = record { engine = c.self.inside.engine; accepted = c.self.inside.accepted; refused = c.self.inside.refused; built = c.self.inside.built; area = c.self.inside.area; keeps = c.self.inside.keeps; undo = c.self.inside.undo } in
    let f : IsFew x n = subst (λ (y : SessionState). IsFew y n) (sym c.self.view_is) few in
    subst (λ (e : EngineState). IsFew (record { engine = e; accepted = x.accepted; refused = x.refused; built = x.built; area = x.area; keeps = x.keeps; undo = x.undo }) (n + 1)) (sym c.in-Err.ensures.kept)
    (fewer x n (n + 1) (omega arith) f)

pub returns-in-Ok-clause-ok : goal.returns-in-Ok-clause-ok
returns-in-Ok-clause-ok g c = λ s m sh.
    let x : SessionState = record { engine = c.self.inside.engine; accepted = c.self.inside.accepted; refused = c.self.inside.refused; built = c.self.inside.built; area = c.self.inside.area; keeps = c.self.inside.keeps; undo = c.self.inside.undo } in
    let e : Edit = c.args.edit.now in
    let h : Shows x s = subst (λ (y : SessionState). Shows y s) (sym c.self.view_is) sh in
    let k : x.keeps ≡ true = subst (λ (y : SessionState). y.keeps ≡ true) (sym c.self.view_is) c.requires.keeps in
    let u : Buffer (List Edit) = c.note.new.undo in
    let is : u ≡ buffer (keep_last x.undo.capacity (x.undo.items ++ inverse x.engine.tree e ∷ [])) x.undo.capacity =
    c.note.ensures ∙ ap (λ (z : List Edit). buffer (keep_last x.undo.capacity (x.undo.items ++ z ∷ [])) x.undo.capacity) (c.in_ok-step.ensures.inverse ∙ ap (λ (t : Document). inverse t e) c.tree.ensures) in
    subst (λ (z : EngineState). Advances (Step (Change e)) (counter m m) (counter c.args.looks.now c.prepare.new.looks) s ok_line
    (record { engine = z; accepted = x.accepted + 1; refused = x.refused; built = x.built; area = x.area; keeps = x.keeps; undo = u }))
    (sym c.in-Ok.ensures.others)
    (edit_done s x e h (counter m m) (counter c.args.looks.now c.prepare.new.looks) refl c.edit.new.self.tree u
    (noted_looks s x e h k (counter c.args.looks.now c.prepare.new.looks) c.tree.result.now c.tree.ensures c.prepare.ensures.looks)
    (one_noted s x e h k u is) (ap (λ (z : Buffer (List Edit)). z.capacity) is ∙ h.room) c.in-Ok.ensures.accepted c.in-Ok.ensures.done)

pub returns-in-Ok-clause-watched : goal.returns-in-Ok-clause-watched
returns-in-Ok-clause-watched g c =
    let x : SessionState = record { engine = c.self.inside.engine; accepted = c.self.inside.accepted; refused = c.self.inside.refused; built = c.self.inside.built; area = c.self.inside.area; keeps = c.self.inside.keeps; undo = c.self.inside.undo } in
    rw (← c.self.view_is) (subst (λ (e : EngineState). PaintsNot x.engine e) (sym c.in-Ok.ensures.others) (record { canvas = refl; paints = refl }))
