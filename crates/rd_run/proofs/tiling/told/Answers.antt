use Rattle.std.proofs.Common.{ℕ, refl, ap, subst, inl}
use Rattle.rd_geom.specs.Canvas.{IsCanvas}
use Rattle.rd_scene.specs.Scripts.{Script}
use Rattle.rd_run.specs.Machine.{start}
use Rattle.rd_run.specs.Internal.Session.{Shows}
use Rattle.rd_run.proofs.Planted.{planted_well_formed, planted_all}
use Rattle.rd_run.proofs.Steps.{on_err}
use Rattle.rd_run.proofs.tiling.told.Goals as goal

pub returns-in_err-tree-clause-part : goal.returns-in_err-tree-clause-part
returns-in_err-tree-clause-part g c = on_err c.from_residual.result (inl (refl, refl))

pub new-requires-clause-touched : goal.new-requires-clause-touched
new-requires-clause-touched g c = planted_all c.args.script.now _ c.in_ok-tree.ensures.planted

pub new-requires-clause-well_formed : goal.new-requires-clause-well_formed
new-requires-clause-well_formed g c =
    let limits : IsCanvas c.args.script.now.canvas = subst (λ (s : Script). IsCanvas s.canvas) c.script.view_is c.script.invariant.canvas in
    planted_well_formed c.args.script.now _ c.in_ok-tree.ensures.planted limits

pub returns-in_err-session-clause-part : goal.returns-in_err-session-clause-part
returns-in_err-session-clause-part g c = on_err c.from_residual-in_err-session.result (inl (refl, refl))

pub told_by-requires-clause-planted : goal.told_by-requires-clause-planted
told_by-requires-clause-planted g c = (
  c.in_ok-tree.tree,
  c.in_ok-tree.ensures.planted,
  subst (λ (v : ℕ). Shows c.in_ok-session.session (start v c.in_ok-tree.tree)) (ap (λ (s : Script). s.version) c.script.view_is) c.in_ok-session.ensures.shows,
  c.in_ok-session.ensures.begun,
)
