use Rattle.std.proofs.Common.{◌∙◌, sym}
use Rattle.rd_keys.proofs.Filling.{live_seen}
use Rattle.rd_keys.proofs.arena.Arena.live.Goals as goal

pub returns : goal.returns
returns g c = rw (← c.self.view_is) (c.self.invariant.live_is ∙ sym (live_seen c.self.inside.held c.self.inside.slots.items c.self.invariant.holding))
