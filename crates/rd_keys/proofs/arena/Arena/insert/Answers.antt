use Rattle.std.proofs.Common.{rules, ◌≡◌, ◌<◌, ◌+◌, ◌∙◌, sym, refl, length}
use Rattle.std.specs.Prelude.{vec_capacity, slice_set}
use Rattle.rd_keys.specs.Arena.{Enters, occupied}
use Rattle.rd_keys.specs.Internal.Fields.{seen_slots, place_at, held_in}
use Rattle.rd_keys.proofs.Filling.{Ready, filled}
use Rattle.rd_keys.proofs.Taking.{taken, inserted, occupied_seen, not_used, on_ok}
use Rattle.rd_keys.proofs.Calls.{dead-enters}
use Rattle.rd_keys.proofs.arena.Arena.insert.Goals as goal

pub returns-then-self-clause-refused : goal.returns-then-self-clause-refused
returns-then-self-clause-refused g c =
    let n : occupied (record { slots = seen_slots c.self.inside.held c.self.inside.slots.items; first = c.self.inside.first; limit = c.self.inside.limit })
    ≡ c.self.inside.live + c.self.inside.retired =
    occupied_seen c.self.inside.held c.self.inside.slots.items c.self.inside.free.items (vec_capacity c.self.inside.free) c.self.inside.first
    c.self.inside.limit c.self.inside.live c.self.inside.retired c.self.invariant in
    (refl, (refl, rw (← c.self.view_is, n) c.if-self.true))

pub fill-generation-requires : goal.fill-generation-requires
fill-generation-requires g c =
    let r : Ready c.reserve-2.new.self c.take-slot.new.slots.items c.take-slot.new.free.items (vec_capacity c.take-slot.new.free) c.self.inside.first
    c.self.inside.limit c.self.inside.live c.self.inside.retired c.take-slot.result =
    taken c.self.inside.held c.reserve-2.new.self c.self.inside.slots.items c.reserve.new.slots.items c.take-slot.new.slots.items c.self.inside.free.items
    c.reserve.new.free.items c.take-slot.new.free.items (vec_capacity c.self.inside.free) (vec_capacity c.take-slot.new.free) c.self.inside.first
    c.self.inside.limit c.self.inside.live c.self.inside.retired c.take-slot.result c.self.invariant c.if-self.false c.reserve.ensures.slots
    c.reserve.ensures.free c.reserve-2.ensures.rest_kept
    (let room : length c.reserve.new.slots.items < vec_capacity c.reserve.new.free = on_ok c.reserve.result (length c.reserve.new.slots.items
    < vec_capacity c.reserve.new.free) (sym c.is_err.ensures.value ∙ c.if-is_err.false) c.reserve.ensures.free_room in
    rw c.take-slot.ensures.free_room room) c.take-slot.ensures.taken in
    r.taken_made

pub invariant_of-self-2 : goal.invariant_of-self-2
invariant_of-self-2 g c =
    let r : Ready c.reserve-2.new.self c.take-slot.new.slots.items c.take-slot.new.free.items (vec_capacity c.take-slot.new.free) c.self.inside.first
    c.self.inside.limit c.self.inside.live c.self.inside.retired c.take-slot.result =
    taken c.self.inside.held c.reserve-2.new.self c.self.inside.slots.items c.reserve.new.slots.items c.take-slot.new.slots.items c.self.inside.free.items
    c.reserve.new.free.items c.take-slot.new.free.items (vec_capacity c.self.inside.free) (vec_capacity c.take-slot.new.free) c.self.inside.first
    c.self.inside.limit c.self.inside.live c.self.inside.retired c.take-slot.result c.self.invariant c.if-self.false c.reserve.ensures.slots
    c.reserve.ensures.free c.reserve-2.ensures.rest_kept
    (let room : length c.reserve.new.slots.items < vec_capacity c.reserve.new.free = on_ok c.reserve.result (length c.reserve.new.slots.items
    < vec_capacity c.reserve.new.free) (sym c.is_err.ensures.value ∙ c.if-is_err.false) c.reserve.ensures.free_room in
    rw c.take-slot.ensures.free_room room) c.take-slot.ensures.taken in
    rw c.fill-generation.ensures.filled (filled c.reserve-2.new.self c.insert_reserved-place.new.self c.take-slot.new.slots.items c.take-slot.new.free.items
    (vec_capacity c.take-slot.new.free) c.self.inside.first c.self.inside.limit c.self.inside.live c.self.inside.retired c.take-slot.result
    c.insert_reserved-place.result c.args.entry r c.insert_reserved-place.ensures.updates c.insert_reserved-place.ensures.was_vacant)

pub returns-clause-unused : goal.returns-clause-unused
returns-clause-unused g c =
    let r : Ready c.reserve-2.new.self c.take-slot.new.slots.items c.take-slot.new.free.items (vec_capacity c.take-slot.new.free) c.self.inside.first
    c.self.inside.limit c.self.inside.live c.self.inside.retired c.take-slot.result =
    taken c.self.inside.held c.reserve-2.new.self c.self.inside.slots.items c.reserve.new.slots.items c.take-slot.new.slots.items c.self.inside.free.items
    c.reserve.new.free.items c.take-slot.new.free.items (vec_capacity c.self.inside.free) (vec_capacity c.take-slot.new.free) c.self.inside.first
    c.self.inside.limit c.self.inside.live c.self.inside.retired c.take-slot.result c.self.invariant c.if-self.false c.reserve.ensures.slots
    c.reserve.ensures.free c.reserve-2.ensures.rest_kept
    (let room : length c.reserve.new.slots.items < vec_capacity c.reserve.new.free = on_ok c.reserve.result (length c.reserve.new.slots.items
    < vec_capacity c.reserve.new.free) (sym c.is_err.ensures.value ∙ c.if-is_err.false) c.reserve.ensures.free_room in
    rw c.take-slot.ensures.free_room room) c.take-slot.ensures.taken in
    let e : Enters (record { slots = seen_slots c.self.inside.held c.self.inside.slots.items; first = c.self.inside.first; limit = c.self.inside.limit })
    (record {
      slots = seen_slots c.insert_reserved-place.new.self (slice_set c.take-slot.new.slots.items c.take-slot.result
          (held_in (place_at c.take-slot.new.slots.items c.take-slot.result).generation c.insert_reserved-place.result));
      first = c.self.inside.first;
      limit =
          c.self.inside.limit;
    }) c.take-slot.result (place_at c.take-slot.new.slots.items c.take-slot.result).generation c.args.entry =
    inserted c.self.inside.held c.reserve-2.new.self c.insert_reserved-place.new.self c.self.inside.slots.items c.reserve.new.slots.items
    c.take-slot.new.slots.items c.reserve.new.free.items c.take-slot.new.free.items (vec_capacity c.take-slot.new.free) c.self.inside.first
    c.self.inside.limit c.self.inside.live c.self.inside.retired c.take-slot.result c.insert_reserved-place.result c.args.entry r
    c.reserve.ensures.slots c.reserve-2.ensures.rest_kept c.take-slot.ensures.taken c.insert_reserved-place.ensures.updates
    c.insert_reserved-place.ensures.was_vacant in
    rw (← c.self.view_is, c.fill-generation.ensures.generation) (not_used _ _ _ _ _ e)

pub returns-clause-stored : goal.returns-clause-stored
returns-clause-stored g c =
    let r : Ready c.reserve-2.new.self c.take-slot.new.slots.items c.take-slot.new.free.items (vec_capacity c.take-slot.new.free) c.self.inside.first
    c.self.inside.limit c.self.inside.live c.self.inside.retired c.take-slot.result =
    taken c.self.inside.held c.reserve-2.new.self c.self.inside.slots.items c.reserve.new.slots.items c.take-slot.new.slots.items c.self.inside.free.items
    c.reserve.new.free.items c.take-slot.new.free.items (vec_capacity c.self.inside.free) (vec_capacity c.take-slot.new.free) c.self.inside.first
    c.self.inside.limit c.self.inside.live c.self.inside.retired c.take-slot.result c.self.invariant c.if-self.false c.reserve.ensures.slots
    c.reserve.ensures.free c.reserve-2.ensures.rest_kept
    (let room : length c.reserve.new.slots.items < vec_capacity c.reserve.new.free = on_ok c.reserve.result (length c.reserve.new.slots.items
    < vec_capacity c.reserve.new.free) (sym c.is_err.ensures.value ∙ c.if-is_err.false) c.reserve.ensures.free_room in
    rw c.take-slot.ensures.free_room room) c.take-slot.ensures.taken in
    let e : Enters (record { slots = seen_slots c.self.inside.held c.self.inside.slots.items; first = c.self.inside.first; limit = c.self.inside.limit })
    (record {
      slots = seen_slots c.insert_reserved-place.new.self (slice_set c.take-slot.new.slots.items c.take-slot.result
          (held_in (place_at c.take-slot.new.slots.items c.take-slot.result).generation c.insert_reserved-place.result));
      first = c.self.inside.first;
      limit =
          c.self.inside.limit;
    }) c.take-slot.result (place_at c.take-slot.new.slots.items c.take-slot.result).generation c.args.entry =
    inserted c.self.inside.held c.reserve-2.new.self c.insert_reserved-place.new.self c.self.inside.slots.items c.reserve.new.slots.items
    c.take-slot.new.slots.items c.reserve.new.free.items c.take-slot.new.free.items (vec_capacity c.take-slot.new.free) c.self.inside.first
    c.self.inside.limit c.self.inside.live c.self.inside.retired c.take-slot.result c.insert_reserved-place.result c.args.entry r
    c.reserve.ensures.slots c.reserve-2.ensures.rest_kept c.take-slot.ensures.taken c.insert_reserved-place.ensures.updates
    c.insert_reserved-place.ensures.was_vacant in
    rw (← c.self.view_is, c.fill-generation.ensures.filled, c.fill-generation.ensures.generation) e

pub returns-clause-dead : goal.returns-clause-dead
returns-clause-dead g c =
    let r : Ready c.reserve-2.new.self c.take-slot.new.slots.items c.take-slot.new.free.items (vec_capacity c.take-slot.new.free) c.self.inside.first
    c.self.inside.limit c.self.inside.live c.self.inside.retired c.take-slot.result =
    taken c.self.inside.held c.reserve-2.new.self c.self.inside.slots.items c.reserve.new.slots.items c.take-slot.new.slots.items c.self.inside.free.items
    c.reserve.new.free.items c.take-slot.new.free.items (vec_capacity c.self.inside.free) (vec_capacity c.take-slot.new.free) c.self.inside.first
    c.self.inside.limit c.self.inside.live c.self.inside.retired c.take-slot.result c.self.invariant c.if-self.false c.reserve.ensures.slots
    c.reserve.ensures.free c.reserve-2.ensures.rest_kept
    (let room : length c.reserve.new.slots.items < vec_capacity c.reserve.new.free = on_ok c.reserve.result (length c.reserve.new.slots.items
    < vec_capacity c.reserve.new.free) (sym c.is_err.ensures.value ∙ c.if-is_err.false) c.reserve.ensures.free_room in
    rw c.take-slot.ensures.free_room room) c.take-slot.ensures.taken in
    let e : Enters (record { slots = seen_slots c.self.inside.held c.self.inside.slots.items; first = c.self.inside.first; limit = c.self.inside.limit })
    (record {
      slots = seen_slots c.insert_reserved-place.new.self (slice_set c.take-slot.new.slots.items c.take-slot.result
          (held_in (place_at c.take-slot.new.slots.items c.take-slot.result).generation c.insert_reserved-place.result));
      first = c.self.inside.first;
      limit =
          c.self.inside.limit;
    }) c.take-slot.result (place_at c.take-slot.new.slots.items c.take-slot.result).generation c.args.entry =
    inserted c.self.inside.held c.reserve-2.new.self c.insert_reserved-place.new.self c.self.inside.slots.items c.reserve.new.slots.items
    c.take-slot.new.slots.items c.reserve.new.free.items c.take-slot.new.free.items (vec_capacity c.take-slot.new.free) c.self.inside.first
    c.self.inside.limit c.self.inside.live c.self.inside.retired c.take-slot.result c.insert_reserved-place.result c.args.entry r
    c.reserve.ensures.slots c.reserve-2.ensures.rest_kept c.take-slot.ensures.taken c.insert_reserved-place.ensures.updates
    c.insert_reserved-place.ensures.was_vacant in
    rw (← c.self.view_is, c.fill-generation.ensures.filled) (dead-enters _ _ _ _ _ e)

pub returns-clause-room : goal.returns-clause-room
returns-clause-room g c =
    let n : occupied (record { slots = seen_slots c.self.inside.held c.self.inside.slots.items; first = c.self.inside.first; limit = c.self.inside.limit })
    ≡ c.self.inside.live + c.self.inside.retired =
    occupied_seen c.self.inside.held c.self.inside.slots.items c.self.inside.free.items (vec_capacity c.self.inside.free) c.self.inside.first
    c.self.inside.limit c.self.inside.live c.self.inside.retired c.self.invariant in
    rw (← c.self.view_is, n) c.if-self.false

pub returns-then-is_err-clause-refused : goal.returns-then-is_err-clause-refused
returns-then-is_err-clause-refused g c =
    let n : occupied (record { slots = seen_slots c.self.inside.held c.self.inside.slots.items; first = c.self.inside.first; limit = c.self.inside.limit })
    ≡ c.self.inside.live + c.self.inside.retired =
    occupied_seen c.self.inside.held c.self.inside.slots.items c.self.inside.free.items (vec_capacity c.self.inside.free) c.self.inside.first
    c.self.inside.limit c.self.inside.live c.self.inside.retired c.self.invariant in
    (search rules, (refl, rw (← c.self.view_is, n) c.if-self.false))

pub returns-then-is_err-2-clause-refused : goal.returns-then-is_err-2-clause-refused
returns-then-is_err-2-clause-refused g c =
    let n : occupied (record { slots = seen_slots c.self.inside.held c.self.inside.slots.items; first = c.self.inside.first; limit = c.self.inside.limit })
    ≡ c.self.inside.live + c.self.inside.retired =
    occupied_seen c.self.inside.held c.self.inside.slots.items c.self.inside.free.items (vec_capacity c.self.inside.free) c.self.inside.first
    c.self.inside.limit c.self.inside.live c.self.inside.retired c.self.invariant in
    (search rules, (refl, rw (← c.self.view_is, n) c.if-self.false))
