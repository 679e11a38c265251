-- A value leaves its slot.
use Rattle.std.proofs.Common.{◌≡◌, ◌≢◌, refl, ap, ◌∙◌, sym, subst, ℕ, ◌+◌, ◌-◌, ◌<◌, ◌≤◌, ◌==◌, true, false, arith, List, [], ◌∷◌, ◌++◌, length, count_by, ◌⊎◌, inl, inr, length-append}
use Rattle.std.specs.Prelude.{Option, Some, None, IsSome, is_some, slice_index, slice_set}
use Rattle.std.proofs.lemmas.Bool.{cases_lt}
use Rattle.std.proofs.lemmas.List.{get_or-set_other, get_or-set_same, get_or_append_left}
use Rattle.std.proofs.lemmas.List.Sums.{sum_by-set}
use Rattle.std.proofs.Math.ListN.{length-set, get_or-eq_default}
use Rattle.std.proofs.Math.Seq.{get_or-append_seam}
use Rattle.slab.specs.Slab.{Slab, get, Updates}
use Rattle.rd_keys.specs.declared.arena.Place as inner
use Rattle.rd_keys.specs.declared.arena.State.{State}
use Rattle.rd_keys.specs.declared.arena.State.TheVariants.{Free, Held, Retired}
use Rattle.rd_keys.specs.Arena.{Slot, left}
use Rattle.rd_keys.specs.Internal.Fields.{unmade_place, place_at, held_place, is_retired, is_held, placed, seen_slots, IsLaidOut}
use Rattle.rd_keys.proofs.Slots.{at_set, seen_change}
use Rattle.rd_keys.proofs.Filling.{bit}

-- a held slot is made
pub held_made : (slots : List inner.Place) (s p : ℕ) → held_place (place_at slots s).state ≡ Some p → s < length slots
held_made slots s p e = elim (cases_lt s (length slots)) [
  | inl l ↦ l
  | inr l ↦ cc (sym (ap (λ y. held_place y.state) (get_or-eq_default slots unmade_place l)) ∙ e)
]

-- a held slot is not free
held_busy : (t : State) (p : ℕ) → held_place t ≡ Some p → t ≡ Free → ⊥
held_busy t p e f = cc (sym (ap held_place f) ∙ e)

module _ {T : Type 0} (h1 h2 : Slab T) (slots : List inner.Place) (free : List ℕ) (room first limit live retired s p g : ℕ) (t : State)
    (x : IsLaidOut h1 slots free room first limit live retired) (here : held_place (place_at slots s).state ≡ Some p) (u : Updates h1 h2 p None)
    (none : held_place t ≡ None) (later : first ≤ g) where
  made : s < length slots
  made = held_made slots s p here

  new : List inner.Place
  new = slice_set slots s (placed g t)

  live_less : live ≡ count_by is_held (slice_set slots s (placed g t)) + 1
  live_less =
      let c : count_by is_held (slice_set slots s (placed g t)) + bit (is_held (place_at slots s)) ≡ count_by is_held slots + bit (is_some (held_place t)) =
      sum_by-set (λ y. bit (is_held y)) slots s (placed g t) unmade_place made in
      let a : bit (is_held (place_at slots s)) ≡ 1 = ap (λ o. bit (is_some o)) here in
      let b : bit (is_some (held_place t)) ≡ 0 = ap (λ o. bit (is_some o)) none in
      omega (arith, c, a, b, x.live_is)

  pub some_live : 1 ≤ live
  some_live = omega (arith, live_less)

  never : is_retired (place_at slots s).state ≡ false
  never = held_not (place_at slots s).state here where
    held_not : (t : State) → held_place t ≡ Some p → is_retired t ≡ false
    held_not (Held q) e = refl
    held_not Free e = refl
    held_not Retired e = cc (e)

  retired_more : count_by (λ y. is_retired y.state) (slice_set slots s (placed g t)) ≡ retired + bit (is_retired t)
  retired_more =
      let c : count_by (λ y. is_retired y.state) (slice_set slots s (placed g t)) + bit (is_retired (place_at slots s).state)
      ≡ count_by (λ y. is_retired y.state) slots + bit (is_retired t) = sum_by-set (λ y. bit (is_retired y.state)) slots s (placed g t) unmade_place made in
      let a : bit (is_retired (place_at slots s).state) ≡ 0 = ap bit never in
      omega (arith, c, a, x.retired_is)

  old_place : (j q : ℕ) → held_place (place_at (slice_set slots s (placed g t)) j).state ≡ Some q → (j ≢ s) × (held_place (place_at slots j).state ≡ Some q)
  old_place j q e = elim (at_set slots s (placed g t) unmade_place j made) [
    | inl a ↦ let f : None ≡ Some q = sym (ap (λ y. held_place y.state) a.1 ∙ none) ∙ e in cc (f)
    | inr a ↦ (a.0, sym (ap (λ y. held_place y.state) a.1) ∙ e)
  ]

  still_holding : (j q : ℕ) → held_place (place_at (slice_set slots s (placed g t)) j).state ≡ Some q → IsSome (get h2 q)
  still_holding j q e =
      let o : (j ≢ s) × (held_place (place_at slots j).state ≡ Some q) = old_place j q e in
      let n : q ≢ p = λ f. o.0 (x.apart j s p (subst (λ y. held_place (place_at slots j).state ≡ Some y) f o.1) here) in
      ap is_some (u.others q n) ∙ x.holding j q o.1

  generations : (j : ℕ) → j < length (slice_set slots s (placed g t)) → first ≤ (place_at (slice_set slots s (placed g t)) j).generation
  generations j l = elim (at_set slots s (placed g t) unmade_place j made) [
    | inl a ↦ rw a.1 later
    | inr a ↦ let len : length (slice_set slots s (placed g t)) ≡ length slots = length-set slots s (placed g t) in rw a.1 (x.from_first j (rw len at l))
  ]

  busy : (i : ℕ) → i < length free → slice_index free i ≢ s
  busy i l e = held_busy (place_at slots s).state p here (subst (λ y. (place_at slots y).state ≡ Free) e (x.is_free i l))

  pub retires : t ≡ Retired → IsLaidOut h2 (slice_set slots s (placed g t)) free room first limit (live - 1) (retired + 1)
  retires r =
      let len : length (slice_set slots s (placed g t)) ≡ length slots = length-set slots s (placed g t) in
      let one : bit (is_retired t) ≡ 1 = ap (λ y. bit (is_retired y)) r in
      record {
        small = x.small;
        within = rw len x.within;
        roomy = rw len x.roomy;
        free_made = λ i l. rw len (x.free_made i l);
        is_free = λ i l. ap (λ y. y.state) (get_or-set_other slots s (slice_index free i) (placed g t) unmade_place (busy i l)) ∙ x.is_free i l;
        free_apart = x.free_apart;
        holding = still_holding;
        apart = λ a b q e f. x.apart a b q (old_place a q e).1 (old_place b q f).1;
        live_is = omega (arith, live_less);
        retired_is = omega (arith, retired_more, one);
        counted = omega (arith, len, x.counted, some_live);
        from_first = generations;
      }

  pub releases : t ≡ Free → IsLaidOut h2 (slice_set slots s (placed g t)) (free ++ s ∷ []) room first limit (live - 1) retired
  releases r =
      let len : length (slice_set slots s (placed g t)) ≡ length slots = length-set slots s (placed g t) in
      let zero : bit (is_retired t) ≡ 0 = ap (λ y. bit (is_retired y)) r in
      let n : length (free ++ s ∷ []) ≡ length free + 1 = length-append free (s ∷ []) in
      let last : slice_index (free ++ s ∷ []) (length free) ≡ s = get_or-append_seam free s [] 0 in
      let same : (i : ℕ) → i < length free → slice_index (free ++ s ∷ []) i ≡ slice_index free i = λ i l. get_or_append_left free (s ∷ []) 0 i l in
      let which : (i : ℕ) → i < length (free ++ s ∷ []) → ((i < length free) × (slice_index (free ++ s ∷ []) i ≡ slice_index free i))
      ⊎ ((i ≡ length free) × (slice_index (free ++ s ∷ []) i ≡ s)) =
      λ i l. elim (cases_lt i (length free)) [
        | inl b ↦ inl (b, same i b)
        | inr b ↦ let e : i ≡ length free = omega (arith, n) in inr (e, ap (slice_index (free ++ s ∷ [])) e ∙ last)
      ] in
      record {
        small = x.small;
        within = rw len x.within;
        roomy = rw len x.roomy;
        free_made = λ i l. elim (which i l) [
          | inl v ↦ rw (len, v.1) (x.free_made i v.0)
          | inr v ↦ rw (len, v.1) made
        ];
        is_free = λ i l. elim (which i l) [
          | inl v ↦ rw v.1 (ap (λ y. y.state) (get_or-set_other slots s (slice_index free i) (placed g t) unmade_place (busy i v.0)) ∙ x.is_free i v.0)
          | inr v ↦ rw v.1 (ap (λ y. y.state) (get_or-set_same slots s (placed g t) unmade_place made) ∙ r)
        ];
        free_apart = λ i j a l e. elim (which j l) [
          | inl v ↦ x.free_apart i j a v.0 (sym (same i (omega (arith, v.0))) ∙ (e ∙ v.1))
          | inr v ↦ busy i (omega (arith, v.0)) (sym (same i (omega (arith, v.0))) ∙ (e ∙ v.1))
        ];
        holding = still_holding;
        apart = λ a b q e f. x.apart a b q (old_place a q e).1 (old_place b q f).1;
        live_is = omega (arith, live_less);
        retired_is = omega (arith, retired_more, zero);
        counted = omega (arith, len, n, x.counted, some_live);
        from_first = generations;
      }

  -- what is seen
  pub seen_left : seen_slots h2 (slice_set slots s (placed g t))
      ≡ slice_set (seen_slots h1 slots) s (record { generation = g; holds = None; retired = is_retired t })
  seen_left =
      let of : Option ℕ → Slot T = λ o. record { generation = g; holds = seen_held o; retired = is_retired t } in
      seen_change h1 h2 slots s p None (placed g t) u (λ j q n e f. n (x.apart j s p (subst (λ y. held_place (place_at slots j).state ≡ Some y) f e) here))
      ∙ ap (slice_set (seen_slots h1 slots) s) (ap of none) where
        seen_held : Option ℕ → Option T
        seen_held None = None
        seen_held (Some q) = get h2 q

module _ {T : Type 0} where
  pub left_last : (g : ℕ) → g ≡ 4294967295 → record { generation = g; holds = None; retired = true } ≡ left {T = T} g
  left_last g e = let test : (g == 4294967295) ≡ true = grind arith in rw test refl

  pub left_more : (g : ℕ) → (g ≡ 4294967295 → ⊥) → record { generation = g + 1; holds = None; retired = false } ≡ left {T = T} g
  left_more g e = let test : (g == 4294967295) ≡ false = grind arith in rw test refl
