-- What is read of each slot as a value is written, enters or goes.
use Rattle.std.proofs.Common.{◌≡◌, ◌≢◌, refl, ap, ◌∙◌, sym, subst, ℕ, zero, suc, ◌+◌, ◌<◌, Bool, true, false, cond, arith, List, [], ◌∷◌, ◌++◌, length, inl, inr}
use Rattle.std.specs.Prelude.{Option, Some, None, option_map, slice_index_or, slice_set, nat_lt}
use Rattle.std.specs.Option.{option_map_or}
use Rattle.std.proofs.lemmas.List.{length-set, length-append}
use Rattle.std.proofs.Math.Seq.{get_or-append_seam}
use Rattle.rd_keys.specs.Arena.{Arena, Slot, unmade, slot_at, value, with_value, without_value, left, Enters}
use Rattle.rd_keys.proofs.Slots.{at_set}
use Rattle.rd_keys.proofs.Calls.{live_within, live_slot, slot-enters}
use Rattle.rd_tree.specs.declared.node.Node as inner
use Rattle.rd_tree.specs.declared.glance.Glance.{Glance}
use Rattle.rd_tree.specs.Document.{BoxKey}
use Rattle.rd_tree.specs.Internal.Glances.{unseen, glance_of, glance_in, seen_at, with_glance, AreGlances}

-- what is read of a slot
abbrev read_of : Slot inner.Node → Glance
read_of y = glance_in y.generation y.holds

-- One slot is changed, and what is read of it.
one_changed : (a b : Arena inner.Node) (gs : List Glance) (s : ℕ) (y : Slot inner.Node) (new : Glance) → AreGlances a gs → s < length a.slots
    → b.slots ≡ slice_set a.slots s y → new ≡ read_of y → AreGlances b (slice_set gs s new)
one_changed a b gs s y new r l is e = record {
  all = length-set gs s new ∙ (r.all ∙ sym (ap length is ∙ length-set a.slots s y));
  right = λ t. elim (at_set gs s new unseen t (omega (arith, l, r.all))) [
    | inl p ↦ p.1 ∙ (e ∙ sym (ap read_of (ap (λ n. slot_at b n) p.0 ∙ here)))
    | inr p ↦ p.1 ∙ (r.right t ∙ sym (ap read_of (there t p.0)))
  ];
} where
  here : slot_at b s ≡ y
  here = elim (at_set a.slots s y unmade s l) [ inl p ↦ ap (λ l. slice_index_or l s unmade) is ∙ p.1 | inr p ↦ absurd (p.0 refl) ]

  there : (t : ℕ) → t ≢ s → slot_at b t ≡ slot_at a t
  there t n = elim (at_set a.slots s y unmade t l) [ inl p ↦ absurd (n p.0) | inr p ↦ ap (λ l. slice_index_or l t unmade) is ∙ p.1 ]

-- A value takes the place of another, and what is read of it.
pub glances_written : (a : Arena inner.Node) (gs l : List Glance) (k : BoxKey) (s g : ℕ) (x y : inner.Node) (new : Glance) → AreGlances a gs → Some y
    ≡ value a k.slot k.generation → s ≡ k.slot → g ≡ k.generation → new ≡ glance_of g x → l ≡ slice_set gs s new → AreGlances (with_value a k.slot x) l
glances_written a gs l k s g x y new r v at of e is =
    subst (λ n. AreGlances (with_value a k.slot x) n) (sym (is ∙ ap (λ n. slice_set gs n new) at))
    (one_changed a (with_value a k.slot x) gs k.slot (record (slot_at a k.slot) { holds = Some x }) new r
    (live_within a k.slot k.generation y (sym v)) refl
    (e ∙ ap (λ n. glance_of n x) (of ∙ sym (live_slot a k.slot k.generation y (sym v)).0)))

-- The slot of a live key is read.
pub read_live : (a : Arena inner.Node) (gs : List Glance) (k : BoxKey) (s : ℕ) (y : inner.Node) → AreGlances a gs → Some y ≡ value a k.slot k.generation
    → s ≡ k.slot → s < length gs
read_live a gs k s y r v at = rw (at, r.all) (live_within a k.slot k.generation y (sym v))

-- A live key dies.
pub glances_without : (a b : Arena inner.Node) (gs : List Glance) (s g : ℕ) (y : inner.Node) (new : Glance) → AreGlances a gs → Some y ≡ value a s g
    → b ≡ without_value a s g → new ≡ unseen → AreGlances b (slice_set gs s new)
glances_without a b gs s g y new r v is e =
    subst (λ c. AreGlances c (slice_set gs s new)) (sym is) (one_changed a (without_value a s g) gs s (left g) new r (live_within a s g y (sym v)) refl (e ∙ sym
    (nothing_read (left g) (left_holds (left g) refl)))) where
      nothing_read : (z : Slot inner.Node) → z.holds ≡ None → read_of z ≡ unseen
      nothing_read z h = ap (glance_in z.generation) h

      if_empty : (b : Bool) (z w : Slot inner.Node) → z.holds ≡ None → w.holds ≡ None → (cond b z w).holds ≡ None
      if_empty true z w h k = h
      if_empty false z w h k = k

      left_holds : (z : Slot inner.Node) → z ≡ left g → z.holds ≡ None
      left_holds z h = ap (λ w. w.holds) h ∙ if_empty _ (record { generation = g; holds = None; retired = true })
          (record { generation = g + 1; holds = None; retired = false }) refl refl

-- A key enters.
pub glances_enter : (a b : Arena inner.Node) (gs : List Glance) (s g : ℕ) (x : inner.Node) (new : Glance) → AreGlances a gs → Enters a b s g x → new
    ≡ glance_of g x → AreGlances b (with_glance gs s new)
glances_enter a b gs s g x new r e is = elim e.place [
  | inl p ↦
      let t : nat_lt s (length a.slots) ≡ true = grind arith in
      let u : nat_lt s (length gs) ≡ true = ap (nat_lt s) r.all ∙ t in
      let slots : b.slots ≡ slice_set a.slots s y = ap (λ c. c.slots) e.result ∙ rw t refl in
      rw u (one_changed a b gs s y new r p.0 slots is)
  | inr p ↦
      let t : nat_lt s (length a.slots) ≡ false = grind arith in
      let u : nat_lt s (length gs) ≡ false = ap (nat_lt s) r.all ∙ t in
      let slots : b.slots ≡ a.slots ++ y ∷ [] = ap (λ c. c.slots) e.result ∙ rw t refl in
      rw u (record {
        all = length-append gs (new ∷ []) ∙ (ap (λ n. n + 1) r.all ∙ sym (ap length slots ∙ length-append a.slots (y ∷ [])));
        right = λ t. elim (slot-enters a b s g x e t) [
          | inl q ↦ ap (λ n. seen_at (gs ++ new ∷ []) n) (q.0 ∙ (p.0 ∙ sym r.all)) ∙ (get_or-append_seam gs new [] unseen ∙ (is ∙ sym (ap read_of q.1)))
          | inr q ↦ elsewhere gs new t (λ h. q.0 (h ∙ (r.all ∙ sym p.0))) ∙ (r.right t ∙ sym (ap read_of q.1))
        ];
      })
] where
  y : Slot inner.Node
  y = record { generation = g; holds = Some x; retired = false }

  elsewhere : (l : List Glance) (z : Glance) (t : ℕ) → t ≢ length l → seen_at (l ++ z ∷ []) t ≡ seen_at l t
  elsewhere [] z zero n = absurd (n refl)
  elsewhere [] z (suc t) n = refl
  elsewhere (w ∷ l) z zero n = refl
  elsewhere (w ∷ l) z (suc t) n = elsewhere l z t (λ e. n (ap (λ k. suc k) e))

-- A node is touched where its item is.
pub touched_item : (o : Option inner.Node) → option_map_or (λ n. n.item.touched) o true ≡ option_map_or (λ d. d.touched) (option_map (λ n. n.item) o) true
touched_item None = refl
touched_item (Some n) = refl

-- where nothing is read, there is no node
pub no_glance : (g : ℕ) (o : Option inner.Node) (r : Option Glance) → r ≡ None → r ≡ option_map (glance_of g) o → None ≡ o
no_glance g None r n e = refl
no_glance g (Some x) r n e = cc

-- A key of which something is read is that of a slot that was made.
pub glance_within : (a : Arena inner.Node) (k : BoxKey) (y : Glance) → Some y ≡ option_map (glance_of k.generation) (value a k.slot k.generation)
    → k.slot < length a.slots
glance_within a k y e = at (value a k.slot k.generation) refl e where
  at : (o : Option inner.Node) → value a k.slot k.generation ≡ o → Some y ≡ option_map (glance_of k.generation) o → k.slot < length a.slots
  at None h e = cc
  at (Some x) h e = live_within a k.slot k.generation x h
