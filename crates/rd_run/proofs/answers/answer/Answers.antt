use Rattle.std.proofs.Common.{refl, ◌∙◌, ap}
use Rattle.rd_run.specs.Endings.{stream, IsScriptAnswer}
use Rattle.rd_scene.specs.Scripts.{Script}
use Rattle.rd_run.proofs.Planted.{answered_all, answered_part, ends_early}
use Rattle.rd_run.proofs.answers.answer.Goals as goal

pub returns-in-Ok-done : goal.returns-in-Ok-done
returns-in-Ok-done g c =
    let begun = c.in-Ok.ensures.begun in (
      c.in-Ok-done.ensures.faultless,
      answered_all (Unit {0}) c.args.script.now _ begun.0 _ (stream _ _ 0 0) _ _ _ _ begun.1 refl
          (c.deref.ensures.value ∙ ap (λ (s : Script). s.commands) c.script.view_is)
          (c.in-Ok-done.ensures.all _ begun.2),
    )

pub returns-in-Err-done : goal.returns-in-Err-done
returns-in-Err-done g c =
    let begun = c.in-Ok.ensures.begun in
    ends_early _ (IsScriptAnswer c.args.script.now) _ _ _ _ _ refl c.in-Err-done.ensures.only
    (answered_part (Unit {0}) c.args.script.now _ begun.0 _ (stream _ _ 0 0) _ _ _ _ begun.1 refl
    (c.deref.ensures.value ∙ ap (λ (s : Script). s.commands) c.script.view_is)
    (c.in-Err-done.ensures.part _ begun.2))
    c.in-Err-done.ensures.fault c.in-Err-done.ensures.still
