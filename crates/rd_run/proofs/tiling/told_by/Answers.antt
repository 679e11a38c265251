use Rattle.std.proofs.Common.{◌∙◌, refl, ap, sym, inl, inr}
use Rattle.rd_scene.specs.Scripts.{Script}
use Rattle.rd_run.proofs.Planted.{planted-canvas}
use Rattle.rd_run.proofs.Following.{begun_shows}
use Rattle.rd_run.proofs.Steps.{on_err}
use Rattle.rd_run.proofs.tiling.told_by.Goals as goal

pub blank-requires : goal.blank-requires
blank-requires g c = c.script.invariant.canvas

pub returns-in_err-tiles-clause-part : goal.returns-in_err-tiles-clause-part
returns-in_err-tiles-clause-part g c = on_err c.from_residual.result (inl (refl, refl))

pub tell-requires-clause-planted : goal.tell-requires-clause-planted
tell-requires-clause-planted g c = (c.requires.planted.0, c.requires.planted.1, c.requires.planted.2)

pub tell-requires-clause-shows : goal.tell-requires-clause-shows
tell-requires-clause-shows g c =
    begun_shows _ _ _ _ c.requires.planted.3 c.in_ok-tiles.ensures
    (planted-canvas c.args.script.now _ c.requires.planted.1 ∙ ap (λ (s : Script). s.canvas) (sym c.script.view_is))

pub tell-requires-clause-empty : goal.tell-requires-clause-empty
tell-requires-clause-empty g c = c.in_ok-tiles.ensures.text

pub returns-in_err-tell-clause-part : goal.returns-in_err-tell-clause-part
returns-in_err-tell-clause-part g c = on_err c.from_residual-in_err-tell.result (inr c.in_err-tell.ensures.part)
