use Rattle.std.proofs.Common.{refl, ◌∙◌, ap, subst, inl, inr}
use Rattle.std.proofs.lemmas.Result.{err_from_is_err_and}
use Rattle.rd_geom.specs.Canvas.{IsCanvas}
use Rattle.rd_scene.specs.Scripts.{Script}
use Rattle.rd_run.proofs.Planted.{planted_well_formed, planted_all}
use Rattle.rd_run.proofs.Lasting.{lasts, may_last}
use Rattle.rd_run.proofs.last.last_tree.Goals as goal

pub returns-in_err-tree-clause-part : goal.returns-in_err-tree-clause-part
returns-in_err-tree-clause-part g c =
    let r = err_from_is_err_and c.from_residual.result c.from_residual.ensures.1 in rw (r.1) (inl (refl, refl))

pub new-requires-clause-touched : goal.new-requires-clause-touched
new-requires-clause-touched g c = planted_all c.args.script.now _ c.in_ok-tree.ensures.planted

pub new-requires-clause-well_formed : goal.new-requires-clause-well_formed
new-requires-clause-well_formed g c =
    let limits : IsCanvas c.args.script.now.canvas = subst (λ (s : Script). IsCanvas s.canvas) c.script.view_is c.script.invariant.canvas in
    planted_well_formed c.args.script.now _ c.in_ok-tree.ensures.planted limits

pub returns-in_err-session-clause-part : goal.returns-in_err-session-clause-part
returns-in_err-session-clause-part g c =
    let r = err_from_is_err_and c.from_residual-in_err-session.result c.from_residual-in_err-session.ensures.1 in rw (r.1) (inl (refl, refl))

pub returns-in_err-change_all-clause-part : goal.returns-in_err-change_all-clause-part
returns-in_err-change_all-clause-part g c =
    let r = err_from_is_err_and c.from_residual-in_err-change_all.result c.from_residual-in_err-change_all.ensures.1 in
    rw (r.1) (inr (may_last c.args.script.now _ _ _ _ _ _ _ c.in_ok-tree.ensures.planted (ap (λ (s : Script). s.version) c.script.view_is)
    (c.deref.ensures.value ∙ ap (λ (s : Script). s.commands) c.script.view_is)
    (c.in_err-change_all.ensures.part _ c.in_ok-session.ensures.shows)))

pub returns-clause-last : goal.returns-clause-last
returns-clause-last g c =
    lasts c.args.script.now _ _ _ _ _ _ _ _ _ c.in_ok-tree.ensures.planted (ap (λ (s : Script). s.version) c.script.view_is)
    (c.deref.ensures.value ∙ ap (λ (s : Script). s.commands) c.script.view_is)
    (c.in_ok-change_all.ensures.all _ c.in_ok-session.ensures.shows) c.into_tree.ensures
