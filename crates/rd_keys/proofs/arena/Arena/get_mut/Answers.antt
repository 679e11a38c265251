use Rattle.std.proofs.Common.{◌≡◌, ◌∙◌, ap, sym}
use Rattle.std.specs.Prelude.{Some, vec_capacity}
use Rattle.rd_keys.specs.Internal.Fields.{held_index, held_at}
use Rattle.rd_keys.proofs.Slots.{seen_written, seen_value, sound_written, held_index-held}
use Rattle.rd_keys.proofs.arena.Arena.get_mut.Goals as goal

pub returns : goal.returns
returns g c =
    let place : Some c.in_ok-place.place ≡ held_index c.self.inside.slots.items c.args.key.slot c.args.key.generation = c.in_ok-place.ensures
    ∙ ap (λ l. held_index l c.args.key.slot c.args.key.generation) c.deref.ensures.value in
    let seen = seen_written c.self.inside.held c.self.inside.slots.items c.self.inside.free.items (vec_capacity c.self.inside.free) c.self.inside.first
    c.self.inside.limit c.self.inside.live c.self.inside.retired c.args.key.slot c.args.key.generation c.in_ok-place.place c.self.invariant place in
    rw (← c.self.view_is) (
      simp seen,
      record {
        lends = tt;
        value = c.get_mut.ensures.value
            ∙ (ap (held_at c.self.inside.held) place ∙ sym (seen_value c.self.inside.held c.self.inside.slots.items c.args.key.slot c.args.key.generation));
      },
    )

pub invariant_of-self-lent : goal.invariant_of-self-lent
invariant_of-self-lent g c =
    let place : Some c.in_ok-place.place ≡ held_index c.self.inside.slots.items c.args.key.slot c.args.key.generation = c.in_ok-place.ensures
    ∙ ap (λ l. held_index l c.args.key.slot c.args.key.generation) c.deref.ensures.value in
    let held = c.self.invariant.holding c.args.key.slot c.in_ok-place.place (held_index-held c.self.inside.slots.items c.args.key.slot c.args.key.generation
    c.in_ok-place.place place).1 in
    λ _. (
      (λ w. sound_written c.self.inside.held c.self.inside.slots.items c.self.inside.free.items (vec_capacity c.self.inside.free) c.self.inside.first
          c.self.inside.limit c.self.inside.live c.self.inside.retired c.in_ok-place.place w c.self.invariant held),
      c.self.invariant,
    )
