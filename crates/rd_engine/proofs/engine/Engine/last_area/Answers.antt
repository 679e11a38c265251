use Rattle.std.proofs.Common.{◌∙◌}
use Rattle.rd_engine.proofs.Keeping.{last_size, last_some}
use Rattle.rd_engine.proofs.engine.Engine.last_area.Goals as goal

pub returns-clause-some : goal.returns-clause-some
returns-clause-some g c = rw (← c.self.view_is) (c.as_ref.ensures.variant ∙ last_some c.self.inside.canvas c.self.inside.paints c.self.inside.area c.self.invariant.last)

pub returns-clause-size : goal.returns-clause-size
returns-clause-size g c = rw (← c.self.view_is) (last_size c.self.inside.canvas c.self.inside.paints c.self.inside.area c.self.invariant.last)
