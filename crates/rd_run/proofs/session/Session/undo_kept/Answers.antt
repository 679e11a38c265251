use Rattle.std.proofs.Common.{◌≡◌, true, sym, subst, refl, ◌+◌, List, arith}
use Rattle.rd_edits.specs.declared.edit.Edit.{Edit}
use Rattle.rd_run.specs.Machine.{TakesBack, older}
use Rattle.rd_run.specs.Internal.Session.{SessionState, Shows, IsFew}
use Rattle.rd_run.proofs.Undoing.{none_left, taken_out, undone, few_popped}
use Rattle.rd_run.proofs.Runs.{fewer}
use Rattle.rd_run.proofs.session.Session.undo_kept.Goals as goal

pub returns-in-None-clause-ok : goal.returns-in-None-clause-ok
returns-in-None-clause-ok g c = λ s m l sh.
    let x : SessionState = record { engine = c.self.inside.engine; accepted = c.self.inside.accepted; refused = c.self.inside.refused; built = c.self.inside.built; area = c.self.inside.area; keeps = c.self.inside.keeps; undo = c.self.inside.undo } in
    let h : Shows x s = subst (λ (y : SessionState). Shows y s) (sym c.self.view_is) sh in
    let k : x.keeps ≡ true = subst (λ (y : SessionState). y.keeps ≡ true) (sym c.self.view_is) c.requires.keeps in
    none_left s x h k c.pop.new.self c.pop.ensures.others c.in-None.ensures.newest m l

pub returns-in-None-clause-count : goal.returns-in-None-clause-count
returns-in-None-clause-count g c = λ n few.
    let x : SessionState = record { engine = c.self.inside.engine; accepted = c.self.inside.accepted; refused = c.self.inside.refused; built = c.self.inside.built; area = c.self.inside.area; keeps = c.self.inside.keeps; undo = c.self.inside.undo } in
    let f : IsFew x n = subst (λ (y : SessionState). IsFew y n) (sym c.self.view_is) few in
    few_popped x (n + 1) c.pop.new.self (fewer x n (n + 1) (omega arith) f)

pub returns-in_ok-done-in-Some-clause-ok : goal.returns-in_ok-done-in-Some-clause-ok
returns-in_ok-done-in-Some-clause-ok g c = λ s m l sh.
    let x : SessionState = record { engine = c.self.inside.engine; accepted = c.self.inside.accepted; refused = c.self.inside.refused; built = c.self.inside.built; area = c.self.inside.area; keeps = c.self.inside.keeps; undo = c.self.inside.undo } in
    let h : Shows x s = subst (λ (y : SessionState). Shows y s) (sym c.self.view_is) sh in
    let k : x.keeps ≡ true = subst (λ (y : SessionState). y.keeps ≡ true) (sym c.self.view_is) c.requires.keeps in
    let o = taken_out s x h k c.pop.new.self c.pop.ensures.others in
    let p = c.in_ok-done-in-Some.ensures.ok (record s { undos = older s.undos }) o in
    let t : TakesBack c.in-Some.step c.in_ok-done-in-Some.done (record s { undos = older s.undos }) p.0 =
    subst (λ (es : List Edit). TakesBack es c.in_ok-done-in-Some.done (record s { undos = older s.undos }) p.0) c.edits.ensures p.1 in
    undone s x h k c.pop.new.self c.pop.ensures.others c.in-Some.step c.in_ok-done-in-Some.done c.take_back.new.self p.0 c.in-Some.ensures.newest t p.2 m l

pub returns-in_ok-done-in-Some-clause-count : goal.returns-in_ok-done-in-Some-clause-count
returns-in_ok-done-in-Some-clause-count g c = λ n few.
    let x : SessionState = record { engine = c.self.inside.engine; accepted = c.self.inside.accepted; refused = c.self.inside.refused; built = c.self.inside.built; area = c.self.inside.area; keeps = c.self.inside.keeps; undo = c.self.inside.undo } in
    let f : IsFew x n = subst (λ (y : SessionState). IsFew y n) (sym c.self.view_is) few in
    c.take_back.ensures.count (n + 1) (few_popped x (n + 1) c.pop.new.self (fewer x n (n + 1) (omega arith) f))

pub returns-in_err-done-in-Some-clause-count : goal.returns-in_err-done-in-Some-clause-count
returns-in_err-done-in-Some-clause-count g c = λ n few.
    let x : SessionState = record { engine = c.self.inside.engine; accepted = c.self.inside.accepted; refused = c.self.inside.refused; built = c.self.inside.built; area = c.self.inside.area; keeps = c.self.inside.keeps; undo = c.self.inside.undo } in
    let f : IsFew x n = subst (λ (y : SessionState). IsFew y n) (sym c.self.view_is) few in
    c.take_back.ensures.count (n + 1) (few_popped x (n + 1) c.pop.new.self (fewer x n (n + 1) (omega arith) f))

pub returns-in-None-clause-watched : goal.returns-in-None-clause-watched
returns-in-None-clause-watched g c = rw (← c.self.view_is) (record { canvas = refl; paints = refl })

pub returns-in_ok-done-in-Some-clause-watched : goal.returns-in_ok-done-in-Some-clause-watched
returns-in_ok-done-in-Some-clause-watched g c = rw (← c.self.view_is) c.in_ok-done-in-Some.ensures.watched
