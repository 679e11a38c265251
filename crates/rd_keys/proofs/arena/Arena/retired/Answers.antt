use Rattle.std.proofs.Common.{◌+◌, ◌∙◌, sym, ap}
use Rattle.std.specs.Prelude.{vec_capacity}
use Rattle.rd_keys.proofs.Filling.{live_seen, retired_seen}
use Rattle.rd_keys.proofs.Taking.{occupied_seen}
use Rattle.rd_keys.proofs.arena.Arena.retired.Goals as goal

pub returns-clause-retired : goal.returns-clause-retired
returns-clause-retired g c = rw (← c.self.view_is) (c.self.invariant.retired_is ∙ sym (retired_seen c.self.inside.held c.self.inside.slots.items))

pub returns-clause-together : goal.returns-clause-together
returns-clause-together g c =
    rw (← c.self.view_is)
    (ap (λ n. n + c.self.inside.retired) (live_seen c.self.inside.held c.self.inside.slots.items c.self.invariant.holding ∙ sym c.self.invariant.live_is)
    ∙ sym (occupied_seen c.self.inside.held c.self.inside.slots.items c.self.inside.free.items (vec_capacity c.self.inside.free) c.self.inside.first
    c.self.inside.limit c.self.inside.live c.self.inside.retired c.self.invariant))
