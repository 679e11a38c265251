use Rattle.std.proofs.Common.{sym, subst}
use Rattle.rd_engine.specs.State.{EngineState}
use Rattle.rd_edits.specs.Refusals.{refusal_of}
use Rattle.rd_run.specs.Machine.{State, TakesOne}
use Rattle.rd_run.specs.Internal.Session.{SessionState, Shows}
use Rattle.rd_run.proofs.Editing.{taken_done, taken_refused, refused_by}
use Rattle.rd_run.proofs.session.Session.take_one.Goals as goal
use Rattle.rd_run.proofs.session.Session.take_one.Goals.{in-Ok, in-Err+in-NoMemory, in-Err+in_default}

pub returns-clause-ok : goal.returns-clause-ok
returns-clause-ok g c =
    let x : SessionState = record { engine = c.self.inside.engine; accepted = c.self.inside.accepted; refused = c.self.inside.refused; built = c.self.inside.built; area = c.self.inside.area; keeps = c.self.inside.keeps; undo = c.self.inside.undo } in
    elim c.match-edit.branch [
      | in-Ok w ↦ rw w.result-is (λ s sh.
          let h : Shows x s = subst (λ (y : SessionState). Shows y s) (sym c.self.view_is) sh in
          subst (λ (e : EngineState). (next : State) × TakesOne (refusal_of s.tree c.args.edit.now) c.args.edit.now 1 s next × Shows (record { engine = e; accepted = x.accepted; refused = x.refused; built = x.built; area = x.area; keeps = x.keeps; undo = x.undo }) next)
          (sym w.in-Ok.ensures.others) (taken_done s x c.args.edit.now h c.edit.new.self.tree w.in-Ok.ensures.accepted w.in-Ok.ensures.done))
      | in-Err+in-NoMemory w ↦ rw w.result-is tt
      | in-Err+in_default w ↦ rw w.result-is (λ s sh.
          let h : Shows x s = subst (λ (y : SessionState). Shows y s) (sym c.self.view_is) sh in
          let r = refused_by x.engine.tree c.args.edit.now w.in-Err.fault w.in-Err.ensures.refused w.in_default.not-NoMemory in
          subst (λ (e : EngineState). (next : State) × TakesOne (refusal_of s.tree c.args.edit.now) c.args.edit.now 0 s next × Shows (record { engine = e; accepted = x.accepted; refused = x.refused; built = x.built; area = x.area; keeps = x.keeps; undo = x.undo }) next)
          (sym w.in-Err.ensures.kept) (taken_refused s x c.args.edit.now h w.in-Err.fault r))
    ]
