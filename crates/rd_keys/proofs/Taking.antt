-- A slot is taken, and what is seen once it is filled.
use Rattle.std.proofs.Common.{◌≡◌, refl, ap, ◌∙◌, sym, subst, ℕ, suc, ◌||◌, ◌+◌, ◌<◌, ◌≤◌, true, false, arith, List, [], ◌∷◌, ◌++◌, length, count_by, ◌⊎◌, inl, inr, length-append}
use Rattle.std.specs.Prelude.{Option, Some, None, IsSome, is_some, slice_index_or, slice_index, slice_set, nat_lt}
use Rattle.std.specs.Prelude.{Result, Ok, Err, OnOk}
use Rattle.std.specs.Result.{is_err}
use Rattle.std.proofs.lemmas.List.{get_or_append_left, length-map, map-append}
use Rattle.std.proofs.lemmas.List.Sums.{sum_by-append, sum_by-cons}
use Rattle.std.proofs.Math.Seq.{get_or-append_seam, set-append_seam}
use Rattle.std.proofs.Math.ListN.{get_or-eq_default}
use Rattle.std.proofs.lemmas.Bool.{cases_order}
use Rattle.slab.specs.Slab.{Slab, get, Updates}
use Rattle.rd_keys.specs.declared.arena.Place as inner
use Rattle.rd_keys.specs.declared.arena.State.{State}
use Rattle.rd_keys.specs.declared.arena.State.TheVariants.{Free, Held, Retired}
use Rattle.rd_keys.specs.Arena.{Arena, Slot, unmade, slot_at, live, retired, occupied, is_taken, IsUsed, with_slot, Enters}
use Rattle.rd_keys.specs.Internal.Fields.{unmade_place, place_at, held_place, is_retired, is_held, held_at, seen_slot, seen_slots, IsLaidOut, TakesSlot}
use Rattle.rd_keys.proofs.Slots.{never_some, seen_at, seen_change}
use Rattle.rd_keys.proofs.Filling.{bit, Ready}

abbrev new_place : ℕ → inner.Place
new_place first = record { generation = first; state = Free }

-- a slot more, and what is in it
at_more : (slots : List inner.Place) (first t : ℕ) →
    ((t < length slots) × (place_at (slots ++ new_place first ∷ []) t ≡ place_at slots t))
    ⊎ (((t ≡ length slots) × (place_at (slots ++ new_place first ∷ []) t ≡ new_place first))
    ⊎ ((length slots < t) × (place_at (slots ++ new_place first ∷ []) t ≡ unmade_place)))
at_more slots first t = elim (cases_order t (length slots)) [
  | inl e ↦ inr (inl (e, ap (place_at (slots ++ new_place first ∷ [])) e ∙ get_or-append_seam slots (new_place first) [] unmade_place))
  | inr (inl l) ↦ inl (l, get_or_append_left slots (new_place first ∷ []) unmade_place t l)
  | inr (inr l) ↦
      let n : length (slots ++ new_place first ∷ []) ≡ length slots + 1 = length-append slots (new_place first ∷ []) in
      inr (inr (l, get_or-eq_default (slots ++ new_place first ∷ []) unmade_place (omega (arith, n))))
]

module _ {T : Type 0} where
  ready_old : (h : Slab T) (slots : List inner.Place) (free : List ℕ) (room0 room first limit live retired s : ℕ)
      → IsLaidOut h slots (free ++ s ∷ []) room0 first limit live retired → length slots ≤ room → Ready h slots free room first limit live retired s
  ready_old h slots free room0 room first limit live retired s x r =
      let n : length (free ++ s ∷ []) ≡ length free + 1 = length-append free (s ∷ []) in
      let last : slice_index (free ++ s ∷ []) (length free) ≡ s = get_or-append_seam free s [] 0 in
      let same : (i : ℕ) → i < length free → slice_index (free ++ s ∷ []) i ≡ slice_index free i = λ i l. get_or_append_left free (s ∷ []) 0 i l in
      record {
        small = x.small;
        within = x.within;
        roomy = r;
        free_made = λ i l. subst (λ y. y < length slots) (same i l) (x.free_made i (omega (arith, n)));
        is_free = λ i l. subst (λ y. (place_at slots y).state ≡ Free) (same i l) (x.is_free i (omega (arith, n)));
        free_apart = λ i j a b e. x.free_apart i j a (omega (arith, n)) (same i (omega arith) ∙ (e ∙ sym (same j b)));
        holding = x.holding;
        apart = x.apart;
        live_is = x.live_is;
        retired_is = x.retired_is;
        counted = omega (arith, x.counted, n);
        from_first = x.from_first;
        taken_free = subst (λ y. (place_at slots y).state ≡ Free) last (x.is_free (length free) (omega (arith, n)));
        taken_made = subst (λ y. y < length slots) last (x.free_made (length free) (omega (arith, n)));
        taken_out = λ i l e. x.free_apart i (length free) l (omega (arith, n)) (same i l ∙ (e ∙ sym last));
      }

  ready_new : (h : Slab T) (slots : List inner.Place) (room0 room first limit live retired : ℕ) → IsLaidOut h slots [] room0 first limit live retired
      → length slots < room → live + retired < limit →
      Ready h (slots ++ new_place first ∷ []) [] room first limit live retired (length slots)
  ready_new h slots room0 room first limit live retired x r less =
      let new : List inner.Place = slots ++ new_place first ∷ [] in
      let n : length new ≡ length slots + 1 = length-append slots (new_place first ∷ []) in
      let c1 : count_by is_held new ≡ count_by is_held slots + 0 = sum_by-append (λ y. bit (is_held y)) slots (new_place first ∷ []) in
      let c2 : count_by (λ y. is_retired y.state) new ≡ count_by (λ y. is_retired y.state) slots + 0 =
      sum_by-append (λ y. bit (is_retired y.state)) slots (new_place first ∷ []) in
      let old : (t p : ℕ) → held_place (place_at new t).state ≡ Some p → held_place (place_at slots t).state ≡ Some p = λ t p e.
      elim (at_more slots first t) [
        | inl a ↦ sym (ap (λ y. held_place y.state) a.1) ∙ e
        | inr b ↦ elim b [
          | inl a ↦ let f : None ≡ Some p = sym (ap (λ y. held_place y.state) a.1) ∙ e in cc (f)
          | inr a ↦ let f : None ≡ Some p = sym (ap (λ y. held_place y.state) a.1) ∙ e in cc (f)
        ]
      ] in
      record {
        small = x.small;
        within = omega (arith, n, x.counted, less);
        roomy = omega (arith, n, r);
        free_made = λ i l. absurd (omega arith);
        is_free = λ i l. absurd (omega arith);
        free_apart = λ i j a b. absurd (omega arith);
        holding = λ t p e. x.holding t p (old t p e);
        apart = λ a b p e f. x.apart a b p (old a p e) (old b p f);
        live_is = omega (arith, c1, x.live_is);
        retired_is = omega (arith, c2, x.retired_is);
        counted = omega (arith, n, x.counted);
        from_first = λ t l. elim (at_more slots first t) [
          | inl a ↦ rw a.1 (x.from_first t a.0)
          | inr b ↦ elim b [
            | inl a ↦ rw a.1 (omega arith)
            | inr a ↦ absurd (omega (arith, n))
          ]
        ];
        taken_free = ap (λ y. y.state) (get_or-append_seam slots (new_place first) [] unmade_place);
        taken_made = omega (arith, n);
        taken_out = λ i l. absurd (omega arith);
      }

  pub ready : (h : Slab T) (slots0 slots : List inner.Place) (free0 free : List ℕ) (room0 room first limit live retired s : ℕ)
      → IsLaidOut h slots0 free0 room0 first limit live retired → TakesSlot first slots0 free0 slots free s →
      length slots0 < room → live + retired < limit → Ready h slots free room first limit live retired s
  ready h slots0 slots free0 free room0 room first limit live retired s x (inl t) r less =
      let x2 : IsLaidOut h slots (free ++ s ∷ []) room0 first limit live retired = subst (λ f. IsLaidOut h slots f room0 first limit live retired) t.0
      (subst (λ l. IsLaidOut h l free0 room0 first limit live retired) (sym t.1) x) in
      ready_old h slots free room0 room first limit live retired s x2 (rw t.1 (omega arith))
  ready h slots0 slots free0 free room0 room first limit live retired s x (inr t) r less =
      let x2 : IsLaidOut h slots0 [] room0 first limit live retired = subst (λ f. IsLaidOut h slots0 f room0 first limit live retired) t.0 x in
      let y : Ready h (slots0 ++ new_place first ∷ []) [] room first limit live retired (length slots0) =
      ready_new h slots0 room0 room first limit live retired x2 r less in
      subst (λ n. Ready h slots free room first limit live retired n) (sym t.3) (subst (λ l. Ready h l free room first limit live retired (length slots0))
      (sym t.2) (subst (λ f. Ready h (slots0 ++ new_place first ∷ []) f room first limit live retired (length slots0)) (sym t.1) y))

  -- what is seen once the slot is filled
  pub entered : (h1 h2 : Slab T) (slots0 slots : List inner.Place) (free0 free : List ℕ) (room first limit live retired s p : ℕ) (x : T)
      → TakesSlot first slots0 free0 slots free s → Ready h1 slots free room first limit live retired s →
      Updates h1 h2 p (Some x) → get h1 p ≡ None →
      Enters (record { slots = seen_slots h1 slots0; first = first; limit = limit })
      (record {
        slots = seen_slots h2 (slice_set slots s (record { generation = (place_at slots s).generation; state = Held p }));
        first = first;
        limit = limit;
      }) s (place_at slots s).generation x
  entered h1 h2 slots0 slots free0 free room first limit live retired s p x t r u none =
      let g : ℕ = (place_at slots s).generation in
      let n : inner.Place = record { generation = g; state = Held p } in
      let y : Slot T = record { generation = g; holds = Some x; retired = false } in
      let of : Option T → Slot T = λ o. record { generation = g; holds = o; retired = false } in
      let is : seen_slot h2 n ≡ y = ap of u.changed in
      let c : seen_slots h2 (slice_set slots s n) ≡ slice_set (seen_slots h1 slots) s y =
      seen_change h1 h2 slots s p (Some x) n u (λ j q _ e f. never_some (ap (get h1) f ∙ none) (r.holding j q e)) ∙ ap (slice_set (seen_slots h1 slots) s) is in
      at t c where
        at : TakesSlot first slots0 free0 slots free s →
            seen_slots h2 (slice_set slots s (record { generation = (place_at slots s).generation; state = Held p }))
            ≡ slice_set (seen_slots h1 slots) s (record { generation = (place_at slots s).generation; holds = Some x; retired = false }) →
            Enters (record { slots = seen_slots h1 slots0; first = first; limit = limit })
            (record {
              slots = seen_slots h2 (slice_set slots s (record { generation = (place_at slots s).generation; state = Held p }));
              first = first;
              limit = limit;
            }) s (place_at slots s).generation x
        at (inl v) c =
            let arena : List (Slot T) → Arena T = λ l. record { slots = l; first = first; limit = limit } in
            let g : ℕ = (place_at slots s).generation in
            let y : Slot T = record { generation = g; holds = Some x; retired = false } in
            let len : length (seen_slots h1 slots0) ≡ length slots = length-map slots0 (seen_slot h1) ∙ ap length (sym v.1) in
            let below : s < length (seen_slots h1 slots0) = omega (arith, len, r.taken_made) in
            let of_state : State → Slot T = λ t. record { generation = g; holds = held_at h1 (held_place t); retired = is_retired t } in
            let was : slice_index_or (seen_slots h1 slots0) s unmade ≡ record { generation = g; holds = None; retired = false } =
            seen_at h1 slots0 s ∙ (ap (λ l. seen_slot h1 (place_at l s)) (sym v.1) ∙ ap of_state r.taken_free) in
            let test : nat_lt s (length (seen_slots h1 slots0)) ≡ true = grind arith in
            let one : slice_set (seen_slots h1 slots) s y ≡ with_slot (seen_slots h1 slots0) s y = ap (λ l. slice_set (seen_slots h1 l) s y) v.1
            ∙ rw test refl in
            record { place = inl (below, was); result = ap arena (c ∙ one) }
        at (inr v) c =
            let arena : List (Slot T) → Arena T = λ l. record { slots = l; first = first; limit = limit } in
            let g : ℕ = (place_at slots s).generation in
            let y : Slot T = record { generation = g; holds = Some x; retired = false } in
            let len : length (seen_slots h1 slots0) ≡ length slots0 = length-map slots0 (seen_slot h1) in
            let end : s ≡ length (seen_slots h1 slots0) = v.3 ∙ sym len in
            let test : nat_lt s (length (seen_slots h1 slots0)) ≡ false = grind arith in
            let gen : g ≡ first = ap (λ l. (place_at l s).generation) v.2 ∙ (ap (λ n. (place_at (slots0 ++ new_place first ∷ []) n).generation) v.3
            ∙ ap (λ q. q.generation) (get_or-append_seam slots0 (new_place first) [] unmade_place)) in
            let more : seen_slots h1 slots ≡ seen_slots h1 slots0 ++ seen_slot h1 (new_place first) ∷ [] = ap (seen_slots h1) v.2
            ∙ map-append (seen_slot h1) slots0 (new_place first ∷ []) in
            let one : slice_set (seen_slots h1 slots) s y ≡ seen_slots h1 slots0 ++ y ∷ [] =
            ap (λ l. slice_set l s y) more ∙ (ap (λ n. slice_set (seen_slots h1 slots0 ++ seen_slot h1 (new_place first) ∷ []) n y) end
            ∙ set-append_seam (seen_slots h1 slots0) (seen_slot h1 (new_place first)) [] y) in
            let two : seen_slots h1 slots0 ++ y ∷ [] ≡ with_slot (seen_slots h1 slots0) s y = rw test refl in
            record { place = inr (end, gen); result = ap arena (c ∙ (one ∙ two)) }

  -- A key that enters was not used.
  pub not_used : (old new : Arena T) (s g : ℕ) (x : T) → Enters old new s g x → IsUsed old s g → ⊥
  not_used old new s g x e u = at e.place where
    at : ((s < length old.slots) × (slot_at old s ≡ record { generation = g; holds = None; retired = false })) ⊎ ((s ≡ length old.slots) × (g ≡ old.first)) → ⊥
    at (inr v) = omega (arith, u.0)
    at (inl v) = elim u.2 [
      | inl l ↦ let n : (slot_at old s).generation ≡ g = ap (λ y. y.generation) v.1 in omega arith
      | inr l ↦ let n : is_taken (slot_at old s) ≡ false = ap is_taken v.1 in cc (n, l.1)
    ]

  -- room for more values changes no value
  roomier : (h0 h1 : Slab T) (slots : List inner.Place) (free : List ℕ) (room first limit live retired : ℕ) → h1 ≡ record h0 { capacity = h1.capacity }
      → IsLaidOut h0 slots free room first limit live retired → IsLaidOut h1 slots free room first limit live retired
  roomier h0 h1 slots free room first limit live retired e x = subst (λ h. IsLaidOut h slots free room first limit live retired) (sym e) (record {
    small = x.small;
    within = x.within;
    roomy = x.roomy;
    free_made = x.free_made;
    is_free = x.is_free;
    free_apart = x.free_apart;
    holding = x.holding;
    apart = x.apart;
    live_is = x.live_is;
    retired_is = x.retired_is;
    counted = x.counted;
    from_first = x.from_first;
  })

  pub roomier_free : (h : Slab T) (slots : List inner.Place) (free : List ℕ) (room0 room first limit live retired : ℕ) → room0 ≤ room
      → IsLaidOut h slots free room0 first limit live retired → IsLaidOut h slots free room first limit live retired
  roomier_free h slots free room0 room first limit live retired r x = record {
    small = x.small;
    within = x.within;
    roomy = omega (arith, x.roomy);
    free_made = x.free_made;
    is_free = x.is_free;
    free_apart = x.free_apart;
    holding = x.holding;
    apart = x.apart;
    live_is = x.live_is;
    retired_is = x.retired_is;
    counted = x.counted;
    from_first = x.from_first;
  }

  -- What an insertion does, step by step.
  pub taken : (h0 h1 : Slab T) (slots0 slots1 slots2 : List inner.Place) (free0 free1 free2 : List ℕ) (room0 room1 first limit live retired s : ℕ)
      → IsLaidOut h0 slots0 free0 room0 first limit live retired → live + retired < limit →
      slots1 ≡ slots0 → free1 ≡ free0 → h1 ≡ record h0 { capacity = h1.capacity } → length slots1 < room1 → TakesSlot first slots1 free1 slots2 free2 s
      → Ready h1 slots2 free2 room1 first limit live retired s
  taken h0 h1 slots0 slots1 slots2 free0 free1 free2 room0 room1 first limit live retired s x less es ef eh r t =
      ready h1 slots1 slots2 free1 free2 room0 room1 first limit live retired s
      (subst (λ l. IsLaidOut h1 l free1 room0 first limit live retired) (sym es) (subst (λ f. IsLaidOut h1 slots0 f room0 first limit live retired) (sym ef)
      (roomier h0 h1 slots0 free0 room0 first limit live retired eh x))) t r less

  pub inserted : (h0 h1 h2 : Slab T) (slots0 slots1 slots2 : List inner.Place) (free1 free2 : List ℕ) (room1 first limit live retired s p : ℕ) (x : T)
      → Ready h1 slots2 free2 room1 first limit live retired s →
      slots1 ≡ slots0 → h1 ≡ record h0 { capacity = h1.capacity } → TakesSlot first slots1 free1 slots2 free2 s → Updates h1 h2 p (Some x) → get h1 p ≡ None →
      Enters (record { slots = seen_slots h0 slots0; first = first; limit = limit })
      (record {
        slots = seen_slots h2 (slice_set slots2 s (record { generation = (place_at slots2 s).generation; state = Held p }));
        first = first;
        limit = limit;
      }) s (place_at slots2 s).generation x
  inserted h0 h1 h2 slots0 slots1 slots2 free1 free2 room1 first limit live retired s p x r es eh t u none =
      let e : seen_slots h1 slots1 ≡ seen_slots h0 slots0 = ap (seen_slots h1) es ∙ ap (λ h. seen_slots h slots0) eh in
      subst (λ l. Enters (record { slots = l; first = first; limit = limit })
      (record {
        slots = seen_slots h2 (slice_set slots2 s (record { generation = (place_at slots2 s).generation; state = Held p }));
        first = first;
        limit = limit;
      }) s (place_at slots2 s).generation x) e
      (entered h1 h2 slots1 slots2 free1 free2 room1 first limit live retired s p x t r u none)

  -- no slot is both live and retired
  one_of : (h : Slab T) (t : State) → ((p : ℕ) → held_place t ≡ Some p → IsSome (get h p)) → bit (is_some (held_at h (held_place t)) || is_retired t)
      ≡ bit (is_some (held_place t)) + bit (is_retired t)
  one_of h Free k = refl
  one_of h Retired k = refl
  one_of h (Held p) k = let i : is_some (get h p) ≡ true = k p refl in rw i refl

  taken_seen : (h : Slab T) (slots : List inner.Place) → ((s p : ℕ) → held_place (place_at slots s).state ≡ Some p → IsSome (get h p))
      → count_by is_taken (seen_slots h slots) ≡ count_by is_held slots + count_by (λ s. is_retired s.state) slots
  taken_seen h [] k = refl
  taken_seen h (y ∷ ys) k =
      let r : count_by is_taken (seen_slots h ys) ≡ count_by is_held ys + count_by (λ s. is_retired s.state) ys = taken_seen h ys (λ s p e. k (suc s) p e) in
      let e : bit (is_some (held_at h (held_place y.state)) || is_retired y.state) ≡ bit (is_some (held_place y.state)) + bit (is_retired y.state) =
      one_of h y.state (λ p e. k 0 p e) in
      let a : count_by is_taken (seen_slots h (y ∷ ys)) ≡ bit (is_some (held_at h (held_place y.state)) || is_retired y.state)
      + count_by is_taken (seen_slots h ys) = sum_by-cons (λ y. bit (is_taken y)) (seen_slot h y) (seen_slots h ys) in
      let b : count_by is_held (y ∷ ys) ≡ bit (is_some (held_place y.state)) + count_by is_held ys = sum_by-cons (λ s. bit (is_held s)) y ys in
      let c : count_by (λ s. is_retired s.state) (y ∷ ys) ≡ bit (is_retired y.state) + count_by (λ s. is_retired s.state) ys =
      sum_by-cons (λ s. bit (is_retired s.state)) y ys in
      omega (arith, r, e, a, b, c)

  pub occupied_seen : (h : Slab T) (slots : List inner.Place) (free : List ℕ) (room first limit live0 retired0 : ℕ)
      → IsLaidOut h slots free room first limit live0 retired0 → occupied (record { slots = seen_slots h slots; first = first; limit = limit })
      ≡ live0 + retired0
  occupied_seen h slots free room first limit live0 retired0 x =
      let a : count_by is_taken (seen_slots h slots) ≡ count_by is_held slots + count_by (λ s. is_retired s.state) slots = taken_seen h slots x.holding in
      omega (arith, a, x.live_is, x.retired_is)

-- What holds of an `Ok` holds of what is no error.
pub on_ok : {A E : Type 0} (r : Result A E) (P : Type 0) → is_err r ≡ false → OnOk r P → P
on_ok (Ok a) P e h = h
on_ok (Err a) P e h = cc
