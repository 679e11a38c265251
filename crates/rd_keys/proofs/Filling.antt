-- A slot is taken and filled.
use Rattle.std.proofs.Common.{◌≡◌, ◌≢◌, refl, ap, ◌∙◌, sym, ℕ, suc, ◌+◌, ◌<◌, ◌≤◌, Bool, cond, arith, List, [], ◌∷◌, length, count_by, inl, inr}
use Rattle.std.specs.Prelude.{Option, Some, None, IsSome, is_some, slice_index, slice_set}
use Rattle.std.proofs.lemmas.List.{get_or-set_other}
use Rattle.std.proofs.lemmas.List.Sums.{sum_by-set, sum_by-cons}
use Rattle.std.proofs.Math.ListN.{length-set}
use Rattle.slab.specs.Slab.{Slab, get, Updates}
use Rattle.rd_keys.specs.declared.arena.Place as inner
use Rattle.rd_keys.specs.declared.arena.State.TheVariants.{Free, Held}
use Rattle.rd_keys.specs.Arena.{live, retired}
use Rattle.rd_keys.specs.Internal.Fields.{unmade_place, place_at, held_place, is_retired, is_held, held_at, seen_slot, seen_slots, IsLaidOut}
use Rattle.rd_keys.proofs.Slots.{at_set, never_some}

abbrev pub bit : Bool → ℕ
bit b = cond b 1 0

module _ {T : Type 0} where
  same_bit : (h : Slab T) (o : Option ℕ) → ((p : ℕ) → o ≡ Some p → IsSome (get h p)) → is_some (held_at h o) ≡ is_some o
  same_bit h None k = refl
  same_bit h (Some p) k = k p refl

  pub live_seen : (h : Slab T) (slots : List inner.Place) → ((s p : ℕ) → held_place (place_at slots s).state ≡ Some p → IsSome (get h p))
      → count_by (λ y. is_some y.holds) (seen_slots h slots) ≡ count_by is_held slots
  live_seen h [] k = refl
  live_seen h (y ∷ ys) k =
      let r : count_by (λ y. is_some y.holds) (seen_slots h ys) ≡ count_by is_held ys = live_seen h ys (λ s p e. k (suc s) p e) in
      let e : is_some (held_at h (held_place y.state)) ≡ is_some (held_place y.state) = same_bit h (held_place y.state) (λ p e. k 0 p e) in
      let a : count_by (λ y. is_some y.holds) (seen_slots h (y ∷ ys)) ≡ bit (is_some (held_at h (held_place y.state))) + count_by (λ y. is_some y.holds)
      (seen_slots h ys) = sum_by-cons (λ y. bit (is_some y.holds)) (seen_slot h y) (seen_slots h ys) in
      let b : count_by is_held (y ∷ ys) ≡ bit (is_some (held_place y.state)) + count_by is_held ys = sum_by-cons (λ s. bit (is_held s)) y ys in
      a ∙ (rw (e, r) refl ∙ sym b)

  pub retired_seen : (h : Slab T) (slots : List inner.Place) → count_by (λ y. y.retired) (seen_slots h slots) ≡ count_by (λ s. is_retired s.state) slots
  retired_seen h [] = refl
  retired_seen h (y ∷ ys) =
      let r : count_by (λ y. y.retired) (seen_slots h ys) ≡ count_by (λ s. is_retired s.state) ys = retired_seen h ys in
      let a : count_by (λ y. y.retired) (seen_slots h (y ∷ ys)) ≡ bit (is_retired y.state) + count_by (λ y. y.retired) (seen_slots h ys) =
      sum_by-cons (λ y. bit y.retired) (seen_slot h y) (seen_slots h ys) in
      let b : count_by (λ s. is_retired s.state) (y ∷ ys) ≡ bit (is_retired y.state) + count_by (λ s. is_retired s.state) ys =
      sum_by-cons (λ s. bit (is_retired s.state)) y ys in
      a ∙ (rw r refl ∙ sym b)

  -- a slot that was taken, and has no value yet
  pub record Ready (held : Slab T) (slots : List inner.Place) (free : List ℕ) (room first limit live retired s : ℕ) : Type 0 where
    pub small : limit ≤ 2147483647
    pub within : length slots ≤ limit
    pub roomy : length slots ≤ room
    pub free_made : (i : ℕ) → i < length free → slice_index free i < length slots
    pub is_free : (i : ℕ) → i < length free → (place_at slots (slice_index free i)).state ≡ Free
    pub free_apart : (i j : ℕ) → i < j → j < length free → slice_index free i ≢ slice_index free j
    pub holding : (s p : ℕ) → held_place (place_at slots s).state ≡ Some p → IsSome (get held p)
    pub apart : (s t p : ℕ) → held_place (place_at slots s).state ≡ Some p → held_place (place_at slots t).state ≡ Some p → s ≡ t
    pub live_is : live ≡ count_by is_held slots
    pub retired_is : retired ≡ count_by (λ s. is_retired s.state) slots
    pub counted : live + retired + (length free + 1) ≡ length slots
    pub from_first : (s : ℕ) → s < length slots → first ≤ (place_at slots s).generation
    pub taken_free : (place_at slots s).state ≡ Free
    pub taken_made : s < length slots
    pub taken_out : (i : ℕ) → i < length free → slice_index free i ≢ s

  pub filled : (h1 h2 : Slab T) (slots : List inner.Place) (free : List ℕ) (room first limit live retired s p : ℕ) (x : T)
      → Ready h1 slots free room first limit live retired s →
      Updates h1 h2 p (Some x) → get h1 p ≡ None →
      IsLaidOut h2 (slice_set slots s (record { generation = (place_at slots s).generation; state = Held p })) free room first limit (live + 1) retired
  filled h1 h2 slots free room first limit live retired s p x r u none =
      let n : inner.Place = record { generation = (place_at slots s).generation; state = Held p } in
      let new : List inner.Place = slice_set slots s n in
      let len : length new ≡ length slots = length-set slots s n in
      let off : (q : ℕ) → IsSome (get h1 q) → q ≢ p = λ q i e. never_some (ap (get h1) e ∙ none) i in
      let c1 : count_by is_held new + bit (is_held (place_at slots s)) ≡ count_by is_held slots + 1 =
      sum_by-set (λ y. bit (is_held y)) slots s n unmade_place r.taken_made in
      let z1 : bit (is_held (place_at slots s)) ≡ 0 = ap (λ t. bit (is_some (held_place t))) r.taken_free in
      let c2 : count_by (λ y. is_retired y.state) new + bit (is_retired (place_at slots s).state) ≡ count_by (λ y. is_retired y.state) slots + 0 =
      sum_by-set (λ y. bit (is_retired y.state)) slots s n unmade_place r.taken_made in
      let z2 : bit (is_retired (place_at slots s).state) ≡ 0 = ap (λ t. bit (is_retired t)) r.taken_free in
      record {
        small = r.small;
        within = rw len r.within;
        roomy = rw len r.roomy;
        free_made = λ i l. rw len (r.free_made i l);
        is_free = λ i l. ap (λ y. y.state) (get_or-set_other slots s (slice_index free i) n unmade_place (r.taken_out i l)) ∙ r.is_free i l;
        free_apart = r.free_apart;
        holding = λ t q e. elim (at_set slots s n unmade_place t r.taken_made) [
          | inl a ↦ let f : Some p ≡ Some q = sym (ap (λ y. held_place y.state) a.1) ∙ e in let g : p ≡ q = cc (f) in
              ap is_some (ap (get h2) (sym g) ∙ u.changed)
          | inr a ↦
              let f : held_place (place_at slots t).state ≡ Some q = sym (ap (λ y. held_place y.state) a.1) ∙ e in
              let i : IsSome (get h1 q) = r.holding t q f in
              ap is_some (u.others q (off q i)) ∙ i
        ];
        apart = λ a b q e f. elim (at_set slots s n unmade_place a r.taken_made) [
          | inl v ↦ elim (at_set slots s n unmade_place b r.taken_made) [
            | inl w ↦ v.0 ∙ sym w.0
            | inr w ↦
                let g : Some p ≡ Some q = sym (ap (λ y. held_place y.state) v.1) ∙ e in
                let i : IsSome (get h1 q) = r.holding b q (sym (ap (λ y. held_place y.state) w.1) ∙ f) in
                absurd (off q i (cc (g)))
          ]
          | inr v ↦ elim (at_set slots s n unmade_place b r.taken_made) [
            | inl w ↦
                let g : Some p ≡ Some q = sym (ap (λ y. held_place y.state) w.1) ∙ f in
                let i : IsSome (get h1 q) = r.holding a q (sym (ap (λ y. held_place y.state) v.1) ∙ e) in
                absurd (off q i (cc (g)))
            | inr w ↦ r.apart a b q (sym (ap (λ y. held_place y.state) v.1) ∙ e) (sym (ap (λ y. held_place y.state) w.1) ∙ f)
          ]
        ];
        live_is = omega (arith, c1, z1, r.live_is);
        retired_is = omega (arith, c2, z2, r.retired_is);
        counted = omega (arith, len, r.counted);
        from_first = λ t l. elim (at_set slots s n unmade_place t r.taken_made) [
          | inl a ↦ rw a.1 (r.from_first s r.taken_made)
          | inr a ↦ rw a.1 (r.from_first t (rw len at l))
        ];
      }
