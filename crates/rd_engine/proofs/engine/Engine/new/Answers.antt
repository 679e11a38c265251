use Rattle.std.proofs.Common.{◌∙◌}
use Rattle.rd_engine.proofs.Keeping.{begun_engine}
use Rattle.rd_engine.proofs.engine.Engine.new.Goals as goal

pub invariant_of-result : goal.invariant_of-result
invariant_of-result g c = begun_engine c.args.tree c.in_ok-canvas.canvas c.empty-list.result c.requires c.empty-list.ensures (c.in_ok-canvas.ensures.size ∙ c.canvas-size.ensures.size)
