use Rattle.std.proofs.Common.{ap, sym, subst, refl, ◌+◌, ◌^◌, arith}
use Rattle.std.proofs.lemmas.Result.{err_from_is_err_and}
use Rattle.rd_run.specs.Endings.{counter}
use Rattle.rd_run.specs.Internal.Session.{SessionState, Shows, IsFew}
use Rattle.rd_run.proofs.Painting.{paint_may, paint_advances}
use Rattle.rd_run.proofs.Steps.{few_next}
use Rattle.rd_run.proofs.Sums.{built_little, area_little}
use Rattle.rd_run.proofs.session.Session.paint.Goals as goal

pub returns-in_err-note-clause-err : goal.returns-in_err-note-clause-err
returns-in_err-note-clause-err g c =
    let x : SessionState = record { engine = c.self.inside.engine; accepted = c.self.inside.accepted; refused = c.self.inside.refused; built = c.self.inside.built; area = c.self.inside.area; keeps = c.self.inside.keeps; undo = c.self.inside.undo } in
    let r = err_from_is_err_and c.from_residual.result c.from_residual.ensures.1 in
    rw (r.1) (λ s sh.
    let h : Shows x s = subst (λ (y : SessionState). Shows y s) (sym c.self.view_is) sh in
    paint_may s x h (counter c.args.made.now c.paint.new.made) (counter c.args.looks.now c.paint.new.looks) c.paint.ensures.most c.paint.ensures.looks)

pub overflow_add-self : goal.overflow_add-self
overflow_add-self g c =
    let x : SessionState = record { engine = c.self.inside.engine; accepted = c.self.inside.accepted; refused = c.self.inside.refused; built = c.self.inside.built; area = c.self.inside.area; keeps = c.self.inside.keeps; undo = c.self.inside.undo } in
    let few : IsFew x (2 ^ 29) = subst (λ (y : SessionState). IsFew y (2 ^ 29)) (sym c.self.view_is) c.requires.few in
    let a = few.built in
    let b = built_little x.engine c.paint.new.self c.in_ok-note.note c.in_ok-note.ensures.note c.in_ok-note.ensures.stands c.view-merged.ensures.state in
    omega (arith, a, b)

pub overflow_add-self-2 : goal.overflow_add-self-2
overflow_add-self-2 g c =
    let x : SessionState = record { engine = c.self.inside.engine; accepted = c.self.inside.accepted; refused = c.self.inside.refused; built = c.self.inside.built; area = c.self.inside.area; keeps = c.self.inside.keeps; undo = c.self.inside.undo } in
    let few : IsFew x (2 ^ 29) = subst (λ (y : SessionState). IsFew y (2 ^ 29)) (sym c.self.view_is) c.requires.few in
    let a = few.area in
    let b = area_little x.engine c.paint.new.self c.in_ok-note.note c.in_ok-note.ensures.note c.tree.result.now.canvas c.canvas-size.ensures.limits (ap (λ t. t.canvas) c.tree.ensures) c.in_ok-note.ensures.settled in
    omega (arith, a, b)

pub returns-clause-ok : goal.returns-clause-ok
returns-clause-ok g c = λ s sh.
    let x : SessionState = record { engine = c.self.inside.engine; accepted = c.self.inside.accepted; refused = c.self.inside.refused; built = c.self.inside.built; area = c.self.inside.area; keeps = c.self.inside.keeps; undo = c.self.inside.undo } in
    let h : Shows x s = subst (λ (y : SessionState). Shows y s) (sym c.self.view_is) sh in
    paint_advances s x h c.view-list.ensures.state c.paint.new.self c.in_ok-note.note c.in_ok-note.ensures.stands c.in_ok-note.ensures.settled c.in_ok-note.ensures.note c.in_ok-note.ensures.numbers
    (counter c.args.made.now c.paint.new.made) (counter c.args.looks.now c.paint.new.looks) c.in_ok-note.ensures.made c.in_ok-note.ensures.looks

pub returns-clause-count : goal.returns-clause-count
returns-clause-count g c = λ n few.
    let x : SessionState = record { engine = c.self.inside.engine; accepted = c.self.inside.accepted; refused = c.self.inside.refused; built = c.self.inside.built; area = c.self.inside.area; keeps = c.self.inside.keeps; undo = c.self.inside.undo } in
    let f : IsFew x n = subst (λ (y : SessionState). IsFew y n) (sym c.self.view_is) few in
    let p = c.in_ok-note.ensures.settled.paints in
    few_next x
    (record { engine = c.paint.new.self; accepted = c.self.inside.accepted; refused = c.self.inside.refused; built = c.self.inside.built + c.in_ok-note.note.built; area = c.self.inside.area + c.in_ok-note.note.area; keeps = c.self.inside.keeps; undo = c.self.inside.undo })
    n c.in_ok-note.note.built c.in_ok-note.note.area f (omega (arith, p)) (omega arith) (omega arith)
    refl
    (built_little x.engine c.paint.new.self c.in_ok-note.note c.in_ok-note.ensures.note c.in_ok-note.ensures.stands c.view-merged.ensures.state)
    refl
    (area_little x.engine c.paint.new.self c.in_ok-note.note c.in_ok-note.ensures.note c.tree.result.now.canvas c.canvas-size.ensures.limits (ap (λ t. t.canvas) c.tree.ensures) c.in_ok-note.ensures.settled)

pub returns-clause-done : goal.returns-clause-done
returns-clause-done g c = c.in_ok-note.ensures.settled.pending

pub returns-clause-watched : goal.returns-clause-watched
returns-clause-watched g c = rw (← c.self.view_is) (record { area = c.in_ok-note.ensures.area; number = c.in_ok-note.ensures.settled.paints })
