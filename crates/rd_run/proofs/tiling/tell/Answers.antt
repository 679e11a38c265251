use Rattle.std.proofs.Common.{◌∙◌, ◌++◌, refl, ap, sym, subst, string_bytes}
use Rattle.std.proofs.lemmas.Result.{on_ok_weaker}
use Rattle.sha2.specs.Sha256.{sha256}
use Rattle.rd_engine.specs.State.{EngineState}
use Rattle.rd_report.specs.Summaries.{final_line}
use Rattle.rd_scene.specs.Scripts.{Script}
use Rattle.rd_run.specs.Pictures.{picture}
use Rattle.rd_run.specs.Internal.OnTiles.{Show}
use Rattle.rd_run.proofs.Planted.{finished_on, finished_may, may_finish_on, may_finish}
use Rattle.rd_run.proofs.Steps.{on_err}
use Rattle.rd_run.proofs.TiledAnswers.{all_does, tiled_performs, told_whole}
use Rattle.rd_run.proofs.tiling.tell.Goals as goal

pub returns-in_err-perform_all-clause-part : goal.returns-in_err-perform_all-clause-part
returns-in_err-perform_all-clause-part g c =
    on_err c.from_residual.result
    (may_finish c.args.script.now _ _ _ _ _ 0 _ _ 0 c.requires.planted.1 refl
    (c.deref.ensures.value ∙ ap (λ (s : Script). s.commands) c.script.view_is)
    (c.in_err-perform_all.ensures.part _ c.requires.planted.2))

pub returns-in_err-finish_on-clause-part : goal.returns-in_err-finish_on-clause-part
returns-in_err-finish_on-clause-part g c =
    on_err c.from_residual-in_err-finish_on.result
    (may_finish_on c.args.script.now _ _ _ _ _ _ _ _ _ _ c.requires.planted.1 refl
    (c.deref.ensures.value ∙ ap (λ (s : Script). s.commands) c.script.view_is)
    (tiled_performs _ _ _ _ _ _ _ _ (c.in_ok-perform_all.ensures.all _ c.requires.planted.2)) c.in_err-finish_on.ensures.part)

pub push_digest-requires-clause-done : goal.push_digest-requires-clause-done
push_digest-requires-clause-done g c = ap (λ (e : EngineState). e.pending) c.engine.ensures ∙ c.in_ok-finish_on.ensures.done

pub push_digest-requires-clause-shows : goal.push_digest-requires-clause-shows
push_digest-requires-clause-shows g c = subst (λ (e : EngineState). Show c.finish_on.new.tiles e.canvas) (sym c.engine.ensures) c.in_ok-finish_on.ensures.shows

pub returns-clause-part : goal.returns-clause-part
returns-clause-part g c =
    on_err c.push_digest.result
    (finished_may c.args.script.now _ _ _ _ _
    (finished_on c.args.script.now _ _ _ _ _ _ _ _ _ _ _ c.requires.planted.1 refl
    (c.deref.ensures.value ∙ ap (λ (s : Script). s.commands) c.script.view_is)
    (tiled_performs _ _ _ _ _ _ _ _ (c.in_ok-perform_all.ensures.all _ c.requires.planted.2))
    (all_does _ _ _ _ _ _ _ c.perform_all.new.tiles c.finish_on.new.tiles c.in_ok-finish_on.ensures.all) c.in_ok-finish_on.ensures.done))

pub returns-clause-all : goal.returns-clause-all
returns-clause-all g c =
    on_ok_weaker c.push_digest.result
    (λ w. told_whole c.args.script.now _ _ _ _ _ _ _ _ _ _ _ c.perform_all.new.tiles c.finish_on.new.tiles _ c.requires.planted.1 refl
    (c.deref.ensures.value ∙ ap (λ (s : Script). s.commands) c.script.view_is)
    (c.in_ok-perform_all.ensures.all _ c.requires.planted.2) c.in_ok-finish_on.ensures.all
    (w ∙ ap (λ (e : EngineState). string_bytes c.finish_on.new.tiles.text ++ final_line (sha256 (picture e.tree))) c.engine.ensures))
    c.push_digest.ensures
