-- What is seen of the slots where one of them changed.
use Rattle.std.proofs.Common.{◌≡◌, ◌≢◌, refl, ap, ◌∙◌, sym, subst, ℕ, zero, suc, ◌<◌, ◌==◌, Bool, true, false, cond, arith, List, [], ◌∷◌, length, map, ◌⊎◌, inl, inr}
use Rattle.std.specs.Prelude.{Option, Some, None, IsSome, is_some, slice_index_or, slice_set}
use Rattle.std.proofs.lemmas.Bool.{cases_eq}
use Rattle.std.proofs.lemmas.List.{get_or-set_other, get_or-set_same, set-get_or}
use Rattle.std.proofs.lemmas.Grind.{common_steps}
use Rattle.std.proofs.Math.ListN.{get_or-map}
use Rattle.slab.specs.Slab.{Slab, get, Updates, with_value}
use Rattle.rd_keys.specs.declared.arena.Place as inner
use Rattle.rd_keys.specs.Arena.{Slot, unmade, value_in}
use Rattle.rd_keys.specs.Internal.Fields.{unmade_place, place_at, held_place, is_retired, held_index, held_at, seen_slot, seen_slots, IsLaidOut}

-- an element that changed, and the others
pub at_set : {A : Type 0} (xs : List A) (s : ℕ) (x d : A) (t : ℕ) → s < length xs →
    ((t ≡ s) × (slice_index_or (slice_set xs s x) t d ≡ x)) ⊎ ((t ≢ s) × (slice_index_or (slice_set xs s x) t d ≡ slice_index_or xs t d))
at_set xs s x d t l = elim (cases_eq t s) [
  | inl e ↦ inl (e, ap (λ n. slice_index_or (slice_set xs s x) n d) e ∙ get_or-set_same xs s x d l)
  | inr n ↦ inr (n, get_or-set_other xs s t x d n)
]

pub never_some : {A : Type 0} {o : Option A} → o ≡ None → IsSome o → ⊥
never_some e i = cc (ap is_some e, i)

module _ {A B : Type 0} (f g : A → B) (d : A) where
  map_same : (xs : List A) → ((j : ℕ) → j < length xs → f (slice_index_or xs j d) ≡ g (slice_index_or xs j d)) → map f xs ≡ map g xs
  map_same [] h = refl
  map_same (x ∷ xs) h =
      let r : map f xs ≡ map g xs = map_same xs (λ j l. h (suc j) (omega arith)) in
      let e : f x ≡ g x = h 0 (omega arith) in
      rw (e, r) refl

  pub map_change : (xs : List A) (k : ℕ) (x : A) → ((j : ℕ) → j ≢ k → j < length xs → f (slice_index_or xs j d) ≡ g (slice_index_or xs j d))
      → map f (slice_set xs k x) ≡ slice_set (map g xs) k (f x)
  map_change [] k x h = refl
  map_change (y ∷ ys) zero x h =
      let r : map f ys ≡ map g ys = map_same ys (λ j l. h (suc j) (λ e. omega (arith, e)) (omega arith)) in
      rw r refl
  map_change (y ∷ ys) (suc k) x h =
      let r : map f (slice_set ys k x) ≡ slice_set (map g ys) k (f x) = map_change ys k x (λ j n l. h (suc j) (λ e. n (omega (arith, e))) (omega arith)) in
      let e : f y ≡ g y = h 0 (λ e. omega (arith, e)) (omega arith) in
      rw (e, r) refl

pub if_some : {A : Type 0} (b : Bool) (o : Option A) (p : A) → Some p ≡ cond b o None → (b ≡ true) × (o ≡ Some p)
if_some true o p e = (refl, sym e)
if_some false o p e = cc

pub held_index-held : (slots : List inner.Place) (s g p : ℕ) → Some p ≡ held_index slots s g → ((place_at slots s).generation ≡ g)
    × (held_place (place_at slots s).state ≡ Some p)
held_index-held slots s g p e =
    let t : (((place_at slots s).generation == g) ≡ true) × (held_place (place_at slots s).state ≡ Some p) =
    if_some ((place_at slots s).generation == g) (held_place (place_at slots s).state) p e in
    (grind arith, t.1)

module _ {T : Type 0} where
  -- a value that changed elsewhere
  held_other : (h1 h2 : Slab T) (p : ℕ) (v : Option T) → Updates h1 h2 p v → (o : Option ℕ) → ((q : ℕ) → o ≡ Some q → q ≢ p) → held_at h2 o ≡ held_at h1 o
  held_other h1 h2 p v u None n = refl
  held_other h1 h2 p v u (Some q) n = u.others q (n q refl)

  pub get_updated : (h1 h2 : Slab T) (p : ℕ) (v : Option T) (q : ℕ) → Updates h1 h2 p v → (get h2 q ≡ v) ⊎ (get h2 q ≡ get h1 q)
  get_updated h1 h2 p v q u = elim (cases_eq q p) [
    | inl e ↦ inl (ap (get h2) e ∙ u.changed)
    | inr n ↦ inr (u.others q n)
  ]

  pub seen_change : (h1 h2 : Slab T) (slots : List inner.Place) (s p : ℕ) (v : Option T) (new : inner.Place) → Updates h1 h2 p v →
      ((j q : ℕ) → j ≢ s → held_place (place_at slots j).state ≡ Some q → q ≢ p) →
      seen_slots h2 (slice_set slots s new) ≡ slice_set (seen_slots h1 slots) s (seen_slot h2 new)
  seen_change h1 h2 slots s p v new u apart =
      map_change (seen_slot h2) (seen_slot h1) unmade_place slots s new
      (λ j n l. let of : Option T → Slot T = λ o. record {
        generation = (place_at slots j).generation;
        holds = o;
        retired = is_retired (place_at slots j).state;
      } in ap of (held_other h1 h2 p v u (held_place (place_at slots j).state) (λ q e. apart j q n e)))

  -- what is seen of one slot
  pub seen_at : (h : Slab T) (slots : List inner.Place) (s : ℕ) → slice_index_or (seen_slots h slots) s unmade ≡ seen_slot h (place_at slots s)
  seen_at h slots s = get_or-map (seen_slot h) slots s unmade_place

  get_below : (h : Slab T) (p : ℕ) → IsSome (get h p) → p < length h.slots
  get_below h p i = grind (arith, common_steps)

  pub with_value-updates : (h : Slab T) (p : ℕ) (w : T) → IsSome (get h p) → Updates h (with_value h p w) p (Some w)
  with_value-updates h p w i = record {
    changed = get_or-set_same h.slots p (Some w) None (get_below h p i);
    others = λ q n.
        get_or-set_other h.slots p q (Some w) None n;
  }

  -- A value that is written is seen in its slot.
  pub seen_written : (h : Slab T) (slots : List inner.Place) (free : List ℕ) (room first limit live retired s g p : ℕ)
      → IsLaidOut h slots free room first limit live retired → Some p ≡ held_index slots s g →
      (w : T) → seen_slots (with_value h p w) slots
      ≡ slice_set (seen_slots h slots) s (record (slice_index_or (seen_slots h slots) s unmade) { holds = Some w })
  seen_written h slots free room first limit live retired s g p x e w =
      let held : held_place (place_at slots s).state ≡ Some p = (held_index-held slots s g p e).1 in
      let u : Updates h (with_value h p w) p (Some w) = with_value-updates h p w (x.holding s p held) in
      let c : seen_slots (with_value h p w) (slice_set slots s (place_at slots s))
      ≡ slice_set (seen_slots h slots) s (seen_slot (with_value h p w) (place_at slots s)) =
      seen_change h (with_value h p w) slots s p (Some w) (place_at slots s) u (λ j q n e. λ same.
      n (x.apart j s p (subst (λ y. held_place (place_at slots j).state ≡ Some y) same e) held)) in
      let same : slice_set slots s (place_at slots s) ≡ slots = set-get_or slots s unmade_place in
      let new : held_at (with_value h p w) (held_place (place_at slots s).state) ≡ Some w = ap (held_at (with_value h p w)) held ∙ u.changed in
      let of : Option T → Slot T = λ o. record { generation = (place_at slots s).generation; holds = o; retired = is_retired (place_at slots s).state } in
      let put : Slot T → Slot T = λ y. record y { holds = Some w } in
      let slot : seen_slot (with_value h p w) (place_at slots s) ≡ record (slice_index_or (seen_slots h slots) s unmade) { holds = Some w } = ap of new
      ∙ ap put (sym (seen_at h slots s)) in
      ap (seen_slots (with_value h p w)) (sym same) ∙ (c ∙ ap (slice_set (seen_slots h slots) s) slot)

  -- The value under a key is where it is held.
  pub seen_value : (h : Slab T) (slots : List inner.Place) (s g : ℕ) → value_in (seen_slots h slots) s g ≡ held_at h (held_index slots s g)
  seen_value h slots s g = ap (λ y. cond (y.generation == g) y.holds None) (seen_at h slots s) ∙ pushed ((place_at slots s).generation == g) where
    pushed : (b : Bool) → cond b (held_at h (held_place (place_at slots s).state)) None ≡ held_at h (cond b (held_place (place_at slots s).state) None)
    pushed true = refl
    pushed false = refl

  pub sound_written : (h : Slab T) (slots : List inner.Place) (free : List ℕ) (room first limit live retired p : ℕ) (w : T)
      → IsLaidOut h slots free room first limit live retired → IsSome (get h p) → IsLaidOut (with_value h p w) slots free room first limit live retired
  sound_written h slots free room first limit live retired p w x i =
      let u : Updates h (with_value h p w) p (Some w) = with_value-updates h p w i in
      record {
        small = x.small;
        within = x.within;
        roomy = x.roomy;
        free_made = x.free_made;
        is_free = x.is_free;
        free_apart = x.free_apart;
        holding = λ s q e. still (get_updated h (with_value h p w) p (Some w) q u) (x.holding s q e);
        apart = x.apart;
        live_is = x.live_is;
        retired_is = x.retired_is;
        counted = x.counted;
        from_first = x.from_first;
      } where
        still : {a b : Option T} → (b ≡ Some w) ⊎ (b ≡ a) → IsSome a → IsSome b
        still (inl e) i = rw e refl
        still (inr e) i = rw e i
