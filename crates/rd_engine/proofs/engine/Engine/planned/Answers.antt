use Rattle.rd_engine.specs.State.{EngineState}
use Rattle.rd_engine.proofs.Remaking.{can_merge}
use Rattle.rd_engine.proofs.engine.Engine.planned.Goals as goal

pub prepare-requires : goal.prepare-requires
prepare-requires g c =
    let s : EngineState = record { tree = c.self.inside.tree; kept = c.self.inside.list; canvas = c.self.inside.canvas; pending = c.self.inside.pending; paints = c.self.inside.paints; area = c.self.inside.area } in
    let is = rw (← c.self.view_is) at c.requires in
    can_merge s c.root-root.ensures.apart c.args.new.now c.self.invariant is

pub returns : goal.returns
returns g c = rw (← c.self.view_is) (record { fits = c.in_ok-plan.ensures.fits; merged = c.in_ok-plan.ensures.merged })
