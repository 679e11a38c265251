use Rattle.std.proofs.Common.{◌≡◌, false, sym, subst, refl, ℕ, ◌+◌, arith}
use Rattle.rd_edits.specs.Refusals.{number_of}
use Rattle.rd_engine.specs.State.{EngineState}
use Rattle.rd_report.specs.Answers.{ok_line, refused_line}
use Rattle.rd_scene.specs.declared.script.Command.TheVariants.{Change}
use Rattle.rd_run.specs.Endings.{counter}
use Rattle.rd_run.specs.Machine.{Step}
use Rattle.rd_run.specs.Internal.Session.{SessionState, Shows, Advances, IsFew, PaintsNot}
use Rattle.rd_run.proofs.Editing.{edit_done, edit_refused, refused_by, nothing_noted}
use Rattle.rd_run.proofs.Steps.{few_next}
use Rattle.rd_run.proofs.session.Session.edit_only.Goals as goal

pub returns-in-Ok-clause-ok : goal.returns-in-Ok-clause-ok
returns-in-Ok-clause-ok g c = λ s m l sh.
    let x : SessionState = record { engine = c.self.inside.engine; accepted = c.self.inside.accepted; refused = c.self.inside.refused; built = c.self.inside.built; area = c.self.inside.area; keeps = c.self.inside.keeps; undo = c.self.inside.undo } in
    let h : Shows x s = subst (λ (y : SessionState). Shows y s) (sym c.self.view_is) sh in
    subst (λ (e : EngineState). Advances (Step (Change c.args.edit.now)) (counter m m) (counter l l) s ok_line (record { engine = e; accepted = x.accepted + 1; refused = x.refused; built = x.built; area = x.area; keeps = x.keeps; undo = x.undo }))
    (sym c.in-Ok.ensures.others)
    (edit_done s x c.args.edit.now h (counter m m) (counter l l) refl c.edit.new.self.tree x.undo (omega arith) (nothing_noted s x c.args.edit.now h (subst (λ (y : SessionState). y.keeps ≡ false) (sym c.self.view_is) c.requires.keeps)) h.room
    c.in-Ok.ensures.accepted c.in-Ok.ensures.done)

pub returns-in_default : goal.returns-in_default
returns-in_default g c =
    let x : SessionState = record { engine = c.self.inside.engine; accepted = c.self.inside.accepted; refused = c.self.inside.refused; built = c.self.inside.built; area = c.self.inside.area; keeps = c.self.inside.keeps; undo = c.self.inside.undo } in
    let r = refused_by x.engine.tree c.args.edit.now c.in-Err.fault c.in-Err.ensures.refused c.in_default.not-NoMemory in
    record {
      ok = λ s m l sh.
          let h : Shows x s = subst (λ (y : SessionState). Shows y s) (sym c.self.view_is) sh in
          subst (λ (n : ℕ). Advances (Step (Change c.args.edit.now)) (counter m m) (counter l l) s (refused_line n) (record { engine = c.edit.new.self; accepted = x.accepted; refused = x.refused + 1; built = x.built; area = x.area; keeps = x.keeps; undo = x.undo }))
          (sym c.number.ensures)
          (subst (λ (e : EngineState). Advances (Step (Change c.args.edit.now)) (counter m m) (counter l l) s (refused_line (number_of c.in-Err.fault)) (record { engine = e; accepted = x.accepted; refused = x.refused + 1; built = x.built; area = x.area; keeps = x.keeps; undo = x.undo }))
          (sym c.in-Err.ensures.kept)
          (edit_refused s x c.args.edit.now h (counter m m) (counter l l) refl (omega arith) c.in-Err.fault r));
      count = λ n few.
          let f : IsFew x n = subst (λ (y : SessionState). IsFew y n) (sym c.self.view_is) few in
          subst (λ (e : EngineState). IsFew (record { engine = e; accepted = x.accepted; refused = x.refused + 1; built = x.built; area = x.area; keeps = x.keeps; undo = x.undo }) (n + 1)) (sym c.in-Err.ensures.kept)
          (few_next x (record { engine = x.engine; accepted = x.accepted; refused = x.refused + 1; built = x.built; area = x.area; keeps = x.keeps; undo = x.undo }) n 0 0 f (omega arith) (omega arith) (omega arith) (omega arith) (omega arith) (omega arith) (omega arith));
      watched = rw (← c.self.view_is) (subst (λ (e : EngineState). PaintsNot x.engine e) (sym c.in-Err.ensures.kept) (record { canvas = refl; paints = refl }));
    }

pub returns-in-Ok-clause-watched : goal.returns-in-Ok-clause-watched
returns-in-Ok-clause-watched g c =
    let x : SessionState = record { engine = c.self.inside.engine; accepted = c.self.inside.accepted; refused = c.self.inside.refused; built = c.self.inside.built; area = c.self.inside.area; keeps = c.self.inside.keeps; undo = c.self.inside.undo } in
    rw (← c.self.view_is) (subst (λ (e : EngineState). PaintsNot x.engine e) (sym c.in-Ok.ensures.others) (record { canvas = refl; paints = refl }))
