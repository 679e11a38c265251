use Rattle.std.proofs.Common.{refl, ◌∙◌, ap}
use Rattle.std.proofs.lemmas.Result.{err_from_is_err_and}
use Rattle.rd_scene.specs.Scripts.{Script}
use Rattle.rd_run.proofs.Planted.{finished_on, may_finish_on, may_finish}
use Rattle.rd_run.proofs.performing.perform_to_end.Goals as goal

pub returns-in_err-perform_all-clause-part : goal.returns-in_err-perform_all-clause-part
returns-in_err-perform_all-clause-part g c =
    let r = err_from_is_err_and c.from_residual.result c.from_residual.ensures.1 in
    rw (r.1) (may_finish c.args.script.now _ _ _ _ _ 0 _ _ 0 c.requires.begun.1 refl
    (c.deref.ensures.value ∙ ap (λ (s : Script). s.commands) c.script.view_is)
    (c.in_err-perform_all.ensures.part _ c.requires.begun.2))

pub returns-in_err-finish-clause-part : goal.returns-in_err-finish-clause-part
returns-in_err-finish-clause-part g c =
    let r = err_from_is_err_and c.from_residual-in_err-finish.result c.from_residual-in_err-finish.ensures.1 in
    rw (r.1) (may_finish_on c.args.script.now _ _ _ _ _ _ _ _ _ _ c.requires.begun.1 refl
    (c.deref.ensures.value ∙ ap (λ (s : Script). s.commands) c.script.view_is)
    (c.in_ok-perform_all.ensures.all _ c.requires.begun.2) c.in_err-finish.ensures.err)

pub returns-clause-finished : goal.returns-clause-finished
returns-clause-finished g c =
    finished_on c.args.script.now _ _ _ _ _ _ _ _ _ _ _ c.requires.begun.1 refl
    (c.deref.ensures.value ∙ ap (λ (s : Script). s.commands) c.script.view_is)
    (c.in_ok-perform_all.ensures.all _ c.requires.begun.2) c.in_ok-finish.ensures.ok c.in_ok-finish.ensures.done
