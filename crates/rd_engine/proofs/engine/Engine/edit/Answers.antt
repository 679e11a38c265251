use Rattle.rd_engine.specs.State.{EngineState}
use Rattle.rd_engine.proofs.Keeping.{edited_engine}
use Rattle.rd_engine.proofs.engine.Engine.edit.Goals as goal

pub invariant_of-self-2 : goal.invariant_of-self-2
invariant_of-self-2 g c =
    let s : EngineState = record { tree = c.self.inside.tree; kept = c.self.inside.list; canvas = c.self.inside.canvas; pending = c.self.inside.pending; paints = c.self.inside.paints; area = c.self.inside.area } in
    edited_engine c.args.edit.now s c.apply.new.tree c.self.invariant
    (record { apart = c.root-root.ensures.apart; rooted = c.root-root.ensures.rooted; keyed = c.root-root.ensures.keyed })
    c.in_ok-apply.ensures.accepted c.in_ok-apply.ensures.done
