use Rattle.std.proofs.Common.{◌≡◌, ◌≤◌, ◌∙◌, ◌+◌, ap, sym, subst, refl, arith}
use Rattle.std.specs.Prelude.{Some, vec_capacity, slice_set}
use Rattle.rd_keys.specs.declared.arena.State.TheVariants.{Free, Retired}
use Rattle.rd_keys.specs.Arena.{value, left, NoneComesBack}
use Rattle.rd_keys.specs.Internal.Fields.{held_index, place_at, held_place, held_at, placed, seen_slots}
use Rattle.rd_keys.proofs.Slots.{held_index-held, seen_value}
use Rattle.rd_keys.proofs.Leaving.{held_made, retires, releases, seen_left, left_last, left_more}
use Rattle.rd_keys.proofs.Calls.{dead-without}
use Rattle.rd_keys.proofs.arena.Arena.remove.Goals as goal

pub invariant_of-self : goal.invariant_of-self
invariant_of-self g c =
    let place : Some c.in-Some.place ≡ held_index c.self.inside.slots.items c.args.key.slot c.args.key.generation = c.in-Some.ensures
    ∙ ap (λ l. held_index l c.args.key.slot c.args.key.generation) c.deref.ensures.value in
    let here : held_place (place_at c.self.inside.slots.items c.args.key.slot).state ≡ Some c.in-Some.place =
    (held_index-held c.self.inside.slots.items c.args.key.slot c.args.key.generation c.in-Some.place place).1 in
    let gen : (place_at c.self.inside.slots.items c.args.key.slot).generation ≡ c.args.key.generation =
    (held_index-held c.self.inside.slots.items c.args.key.slot c.args.key.generation c.in-Some.place place).0 in
    let later : c.self.inside.first ≤ c.args.key.generation =
    rw (← gen) (c.self.invariant.from_first c.args.key.slot (held_made c.self.inside.slots.items c.args.key.slot c.in-Some.place here)) in
    rw c.leave.ensures (retires c.self.inside.held c.remove-value.new.self c.self.inside.slots.items c.self.inside.free.items (vec_capacity c.self.inside.free)
    c.self.inside.first c.self.inside.limit c.self.inside.live c.self.inside.retired c.args.key.slot c.in-Some.place c.args.key.generation Retired
    c.self.invariant here c.remove-value.ensures.updates refl later refl)

pub invariant_of-self-2 : goal.invariant_of-self-2
invariant_of-self-2 g c =
    let place : Some c.in-Some.place ≡ held_index c.self.inside.slots.items c.args.key.slot c.args.key.generation = c.in-Some.ensures
    ∙ ap (λ l. held_index l c.args.key.slot c.args.key.generation) c.deref.ensures.value in
    let here : held_place (place_at c.self.inside.slots.items c.args.key.slot).state ≡ Some c.in-Some.place =
    (held_index-held c.self.inside.slots.items c.args.key.slot c.args.key.generation c.in-Some.place place).1 in
    let gen : (place_at c.self.inside.slots.items c.args.key.slot).generation ≡ c.args.key.generation =
    (held_index-held c.self.inside.slots.items c.args.key.slot c.args.key.generation c.in-Some.place place).0 in
    let later : c.self.inside.first ≤ c.args.key.generation =
    rw (← gen) (c.self.invariant.from_first c.args.key.slot (held_made c.self.inside.slots.items c.args.key.slot c.in-Some.place here)) in
    rw (c.leave-2.ensures, c.push_reserved.ensures.items, c.push_reserved.ensures.capacity) (releases c.self.inside.held c.remove-value.new.self
    c.self.inside.slots.items c.self.inside.free.items (vec_capacity c.self.inside.free) c.self.inside.first c.self.inside.limit c.self.inside.live
    c.self.inside.retired c.args.key.slot c.in-Some.place (c.args.key.generation + 1) Free c.self.invariant here c.remove-value.ensures.updates refl
    (omega (arith, later)) refl)

pub returns-then-key-eq4294967295-clause-removed : goal.returns-then-key-eq4294967295-clause-removed
returns-then-key-eq4294967295-clause-removed g c =
    let place : Some c.in-Some.place ≡ held_index c.self.inside.slots.items c.args.key.slot c.args.key.generation = c.in-Some.ensures
    ∙ ap (λ l. held_index l c.args.key.slot c.args.key.generation) c.deref.ensures.value in
    let here : held_place (place_at c.self.inside.slots.items c.args.key.slot).state ≡ Some c.in-Some.place =
    (held_index-held c.self.inside.slots.items c.args.key.slot c.args.key.generation c.in-Some.place place).1 in
    let gen : (place_at c.self.inside.slots.items c.args.key.slot).generation ≡ c.args.key.generation =
    (held_index-held c.self.inside.slots.items c.args.key.slot c.args.key.generation c.in-Some.place place).0 in
    let later : c.self.inside.first ≤ c.args.key.generation =
    rw (← gen) (c.self.invariant.from_first c.args.key.slot (held_made c.self.inside.slots.items c.args.key.slot c.in-Some.place here)) in
    let one : seen_slots c.remove-value.new.self (slice_set c.self.inside.slots.items c.args.key.slot (placed c.args.key.generation Retired))
    ≡ slice_set (seen_slots c.self.inside.held c.self.inside.slots.items) c.args.key.slot (left c.args.key.generation) =
    seen_left c.self.inside.held c.remove-value.new.self c.self.inside.slots.items c.self.inside.free.items (vec_capacity c.self.inside.free)
    c.self.inside.first c.self.inside.limit c.self.inside.live c.self.inside.retired c.args.key.slot c.in-Some.place c.args.key.generation Retired
    c.self.invariant here c.remove-value.ensures.updates refl later
    ∙ ap (slice_set (seen_slots c.self.inside.held c.self.inside.slots.items) c.args.key.slot)
    (left_last c.args.key.generation c.if-key-eq4294967295.true) in
    rw (← c.self.view_is, c.leave.ensures) (ap (λ l. record { slots = l; first = c.self.inside.first; limit = c.self.inside.limit }) one)

pub returns-then-key-eq4294967295-clause-dead : goal.returns-then-key-eq4294967295-clause-dead
returns-then-key-eq4294967295-clause-dead g c =
    let place : Some c.in-Some.place ≡ held_index c.self.inside.slots.items c.args.key.slot c.args.key.generation = c.in-Some.ensures
    ∙ ap (λ l. held_index l c.args.key.slot c.args.key.generation) c.deref.ensures.value in
    let here : held_place (place_at c.self.inside.slots.items c.args.key.slot).state ≡ Some c.in-Some.place =
    (held_index-held c.self.inside.slots.items c.args.key.slot c.args.key.generation c.in-Some.place place).1 in
    let gen : (place_at c.self.inside.slots.items c.args.key.slot).generation ≡ c.args.key.generation =
    (held_index-held c.self.inside.slots.items c.args.key.slot c.args.key.generation c.in-Some.place place).0 in
    let later : c.self.inside.first ≤ c.args.key.generation =
    rw (← gen) (c.self.invariant.from_first c.args.key.slot (held_made c.self.inside.slots.items c.args.key.slot c.in-Some.place here)) in
    let was : value (record { slots = seen_slots c.self.inside.held c.self.inside.slots.items; first = c.self.inside.first; limit = c.self.inside.limit })
    c.args.key.slot c.args.key.generation ≡ Some c.remove-value.result = seen_value c.self.inside.held c.self.inside.slots.items c.args.key.slot
    c.args.key.generation ∙ (ap (held_at c.self.inside.held) (sym place) ∙ c.remove-value.ensures.value) in
    let one : seen_slots c.remove-value.new.self (slice_set c.self.inside.slots.items c.args.key.slot (placed c.args.key.generation Retired))
    ≡ slice_set (seen_slots c.self.inside.held c.self.inside.slots.items) c.args.key.slot (left c.args.key.generation) =
    seen_left c.self.inside.held c.remove-value.new.self c.self.inside.slots.items c.self.inside.free.items (vec_capacity c.self.inside.free)
    c.self.inside.first c.self.inside.limit c.self.inside.live c.self.inside.retired c.args.key.slot c.in-Some.place c.args.key.generation Retired
    c.self.invariant here c.remove-value.ensures.updates refl later
    ∙ ap (slice_set (seen_slots c.self.inside.held c.self.inside.slots.items) c.args.key.slot)
    (left_last c.args.key.generation c.if-key-eq4294967295.true) in
    rw (← c.self.view_is, c.leave.ensures)
    (subst (λ l. NoneComesBack (record {
      slots = seen_slots c.self.inside.held c.self.inside.slots.items;
      first = c.self.inside.first;
      limit = c.self.inside.limit;
    }) (record { slots = l; first = c.self.inside.first; limit = c.self.inside.limit })) (sym one)
    (dead-without (record { slots = seen_slots c.self.inside.held c.self.inside.slots.items; first = c.self.inside.first; limit = c.self.inside.limit })
    c.args.key.slot c.args.key.generation c.remove-value.result was))

pub returns-clause-removed : goal.returns-clause-removed
returns-clause-removed g c =
    let place : Some c.in-Some.place ≡ held_index c.self.inside.slots.items c.args.key.slot c.args.key.generation = c.in-Some.ensures
    ∙ ap (λ l. held_index l c.args.key.slot c.args.key.generation) c.deref.ensures.value in
    let here : held_place (place_at c.self.inside.slots.items c.args.key.slot).state ≡ Some c.in-Some.place =
    (held_index-held c.self.inside.slots.items c.args.key.slot c.args.key.generation c.in-Some.place place).1 in
    let gen : (place_at c.self.inside.slots.items c.args.key.slot).generation ≡ c.args.key.generation =
    (held_index-held c.self.inside.slots.items c.args.key.slot c.args.key.generation c.in-Some.place place).0 in
    let later : c.self.inside.first ≤ c.args.key.generation =
    rw (← gen) (c.self.invariant.from_first c.args.key.slot (held_made c.self.inside.slots.items c.args.key.slot c.in-Some.place here)) in
    let one : seen_slots c.remove-value.new.self (slice_set c.self.inside.slots.items c.args.key.slot (placed (c.args.key.generation + 1) Free))
    ≡ slice_set (seen_slots c.self.inside.held c.self.inside.slots.items) c.args.key.slot (left c.args.key.generation) =
    seen_left c.self.inside.held c.remove-value.new.self c.self.inside.slots.items c.self.inside.free.items (vec_capacity c.self.inside.free)
    c.self.inside.first c.self.inside.limit c.self.inside.live c.self.inside.retired c.args.key.slot c.in-Some.place (c.args.key.generation + 1) Free
    c.self.invariant here c.remove-value.ensures.updates refl (omega (arith, later))
    ∙ ap (slice_set (seen_slots c.self.inside.held c.self.inside.slots.items) c.args.key.slot)
    (left_more c.args.key.generation c.if-key-eq4294967295.false) in
    rw (← c.self.view_is, c.leave-2.ensures) (ap (λ l. record { slots = l; first = c.self.inside.first; limit = c.self.inside.limit }) one)

pub returns-clause-dead : goal.returns-clause-dead
returns-clause-dead g c =
    let place : Some c.in-Some.place ≡ held_index c.self.inside.slots.items c.args.key.slot c.args.key.generation = c.in-Some.ensures
    ∙ ap (λ l. held_index l c.args.key.slot c.args.key.generation) c.deref.ensures.value in
    let here : held_place (place_at c.self.inside.slots.items c.args.key.slot).state ≡ Some c.in-Some.place =
    (held_index-held c.self.inside.slots.items c.args.key.slot c.args.key.generation c.in-Some.place place).1 in
    let gen : (place_at c.self.inside.slots.items c.args.key.slot).generation ≡ c.args.key.generation =
    (held_index-held c.self.inside.slots.items c.args.key.slot c.args.key.generation c.in-Some.place place).0 in
    let later : c.self.inside.first ≤ c.args.key.generation =
    rw (← gen) (c.self.invariant.from_first c.args.key.slot (held_made c.self.inside.slots.items c.args.key.slot c.in-Some.place here)) in
    let was : value (record { slots = seen_slots c.self.inside.held c.self.inside.slots.items; first = c.self.inside.first; limit = c.self.inside.limit })
    c.args.key.slot c.args.key.generation ≡ Some c.remove-value.result = seen_value c.self.inside.held c.self.inside.slots.items c.args.key.slot
    c.args.key.generation ∙ (ap (held_at c.self.inside.held) (sym place) ∙ c.remove-value.ensures.value) in
    let one : seen_slots c.remove-value.new.self (slice_set c.self.inside.slots.items c.args.key.slot (placed (c.args.key.generation + 1) Free))
    ≡ slice_set (seen_slots c.self.inside.held c.self.inside.slots.items) c.args.key.slot (left c.args.key.generation) =
    seen_left c.self.inside.held c.remove-value.new.self c.self.inside.slots.items c.self.inside.free.items (vec_capacity c.self.inside.free)
    c.self.inside.first c.self.inside.limit c.self.inside.live c.self.inside.retired c.args.key.slot c.in-Some.place (c.args.key.generation + 1) Free
    c.self.invariant here c.remove-value.ensures.updates refl (omega (arith, later))
    ∙ ap (slice_set (seen_slots c.self.inside.held c.self.inside.slots.items) c.args.key.slot)
    (left_more c.args.key.generation c.if-key-eq4294967295.false) in
    rw (← c.self.view_is, c.leave-2.ensures)
    (subst (λ l. NoneComesBack (record {
      slots = seen_slots c.self.inside.held c.self.inside.slots.items;
      first = c.self.inside.first;
      limit = c.self.inside.limit;
    }) (record { slots = l; first = c.self.inside.first; limit = c.self.inside.limit })) (sym one)
    (dead-without (record { slots = seen_slots c.self.inside.held c.self.inside.slots.items; first = c.self.inside.first; limit = c.self.inside.limit })
    c.args.key.slot c.args.key.generation c.remove-value.result was))
