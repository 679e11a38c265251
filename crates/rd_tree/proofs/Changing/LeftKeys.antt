-- How many slots are taken once boxes go: as many less as boxes go, where no slot gives its last key.
use Rattle.std.proofs.Common.{◌≡◌, refl, ap, ◌∙◌, sym, subst, ℕ, ◌+◌, ◌<◌, Bool, true, false, ◌||◌, cond, arith, inl, inr, List, [], ◌∷◌, ◌++◌, length}
use Rattle.std.specs.Prelude.{◌==◌, slice_set}
use Rattle.std.proofs.lemmas.List.{length-set, get_or-set_other}
use Rattle.std.proofs.lemmas.List.Sums.{sum_by-set}
use Rattle.rd_keys.specs.Keys.{same_key}
use Rattle.rd_keys.proofs.Keys.{same_key-sound, same_key-refl}
use Rattle.rd_tree.specs.Forest.{empty, tree, keys, size, has, starting_at, branch, without_siblings, IsApart}
use Rattle.rd_tree.specs.Document.{BoxKey, BoxForest, Slot, Document, taken, slot_of, with_left, with_all_left, IsKeyed}
use Rattle.rd_tree.specs.Changes.{removal, after}
use Rattle.rd_tree.proofs.Linking.Standing.{cases, never, either, from_left, from_right, apart_back}
use Rattle.rd_tree.proofs.Changing.NextKeys.{count}

-- The key is that of a taken slot.
record IsTaken (slots : List Slot) (k : BoxKey) : Type 0 where
  made : k.slot < length slots
  is : slot_of slots k ≡ record { generation = k.generation; taken = true }

abbrev AreTaken : List Slot → BoxForest → Type 0
AreTaken slots f = (j : BoxKey) → has same_key j f ≡ true → IsTaken slots j

-- No box has the last key of its slot.
abbrev pub NoneLast : BoxForest → Type 0
NoneLast f = (j : BoxKey) → has same_key j f ≡ true → j.generation < 4294967295

-- Two boxes have two slots.
other_slot : (slots : List Slot) (j k : BoxKey) → IsTaken slots j → IsTaken slots k → same_key j k ≡ false → j.slot ≡ k.slot → ⊥
other_slot slots j k a b n e =
    let same : slot_of slots j ≡ slot_of slots k = ap (λ s. slot_of slots (record k { slot = s })) e in
    let g : j.generation ≡ k.generation = ap (λ y. y.generation) (sym a.is ∙ (same ∙ b.is)) in
    let t : same_key j k ≡ true = rw (e, g) (same_key-refl k) in
    never (same_key j k) t n

left_other : (slots : List Slot) (k j : BoxKey) → (j.slot ≡ k.slot → ⊥) → slot_of (with_left slots k) j ≡ slot_of slots j
left_other slots k j n = get_or-set_other slots k.slot j.slot _ (record { generation = 0; taken = false }) n

still_taken : (slots : List Slot) (k j : BoxKey) → IsTaken slots k → IsTaken slots j → same_key j k ≡ false → IsTaken (with_left slots k) j
still_taken slots k j a b n =
    let l : length (with_left slots k) ≡ length slots = length-set slots k.slot _ in
    record { made = omega (arith, l, b.made); is = left_other slots k j (other_slot slots j k b a n) ∙ b.is }

not_last : (n : ℕ) → n < 4294967295 → (n == 4294967295) ≡ false
not_last n h = grind arith

left_count : (slots : List Slot) (k : BoxKey) → IsTaken slots k → k.generation < 4294967295 → count (with_left slots k) + 1 ≡ count slots
left_count slots k a h =
    let c : Bool → ℕ = λ x. cond x 1 0 in
    let y : Slot = cond (k.generation == 4294967295) (record { generation = k.generation; taken = true }) (record {
      generation = k.generation + 1;
      taken =
          false;
    }) in
    let s : count (slice_set slots k.slot y) + c (slot_of slots k).taken ≡ count slots + c y.taken = sum_by-set (λ z. cond z.taken 1 0) slots k.slot y
    (record { generation = 0; taken = false }) a.made in
    let t : c (slot_of slots k).taken ≡ c true = ap (λ z. c z.taken) a.is in
    let u : c y.taken ≡ c false = ap (λ b. c (of b).taken) (not_last k.generation h) in
    omega (arith, s, t, u)
  where
    of : Bool → Slot
    of b = cond b (record { generation = k.generation; taken = true }) (record { generation = k.generation + 1; taken = false })

left_append : (slots : List Slot) (a b : List BoxKey) → with_all_left slots (a ++ b) ≡ with_all_left (with_all_left slots a) b
left_append slots [] b = refl
left_append slots (k ∷ a) b = left_append (with_left slots k) a b

-- The boxes of a forest are gone from the slots.
record AreLeft (slots : List Slot) (f : BoxForest) : Type 0 where
  counted : count (with_all_left slots (keys f)) + size f ≡ count slots
  others : (j : BoxKey) → IsTaken slots j → has same_key j f ≡ false → IsTaken (with_all_left slots (keys f)) j

all_left : (slots : List Slot) (f : BoxForest) → AreTaken slots f → IsApart same_key f → NoneLast f → AreLeft slots f
all_left slots empty taken apart last = record { counted = omega arith; others = λ j a n. a }
all_left slots (tree k d below rest) taken apart last =
    let here : IsTaken slots k = taken k (from_left (same_key k k) _ (same_key-refl k)) in
    let s1 : List Slot = with_left slots k in
    let low : (j : BoxKey) → has same_key j below ≡ true → has same_key j (tree k d below rest) ≡ true = λ j u. from_right (same_key j k) (has same_key j
    below || has same_key j rest) (from_left (has same_key j below) (has same_key j rest) u) in
    let later : (j : BoxKey) → has same_key j rest ≡ true → has same_key j (tree k d below rest) ≡ true = λ j u. from_right (same_key j k) (has same_key j
    below || has same_key j rest) (from_right (has same_key j below) (has same_key j rest) u) in
    let b : AreLeft s1 below = all_left s1 below (λ j u. still_taken slots k j here (taken j (low j u)) (away j below u apart.0)) apart.3 (λ j u. last j
    (low j u)) in
    let s2 : List Slot = with_all_left s1 (keys below) in
    let r : AreLeft s2 rest = all_left s2 rest
    (λ j u. b.others j (still_taken slots k j here (taken j (later j u)) (away j rest u apart.1)) (apart_back same_key same_key-sound same_key-refl below
    rest apart.2 j u)) apart.4 (λ j u. last j (later j u)) in
    let e : with_all_left s1 (keys below ++ keys rest) ≡ with_all_left s2 (keys rest) = left_append s1 (keys below) (keys rest) in
    let n : count s1 + 1 ≡ count slots = left_count slots k here (last k (from_left (same_key k k) _ (same_key-refl k))) in
    let c : count (with_all_left s1 (keys below ++ keys rest)) ≡ count (with_all_left s2 (keys rest)) = ap count e in
    record {
      counted = omega (arith, c, n, b.counted, r.counted);
      others = λ j a o.
          let p : (same_key j k ≡ false) × ((has same_key j below || has same_key j rest) ≡ false) = either (same_key j k) (has same_key j below || has
          same_key j rest) o in
          let q : (has same_key j below ≡ false) × (has same_key j rest ≡ false) = either (has same_key j below) (has same_key j rest) p.1 in
          subst (λ l. IsTaken l j) (sym e) (r.others j (b.others j (still_taken slots k j here a p.0) q.0) q.1);
    } where
      away : (j : BoxKey) (f : BoxForest) → has same_key j f ≡ true → has same_key k f ≡ false → same_key j k ≡ false
      away j f u o = elim (cases (same_key j k)) [
        | inl e ↦ absurd (never (has same_key j f) u (subst (λ x. has same_key x f ≡ false) (sym (same_key-sound j k e)) o))
        | inr e ↦ e
      ]

-- A branch has no key that the forest has not, and none twice.
in_from : (j k : BoxKey) (f : BoxForest) → has same_key j (without_siblings (starting_at same_key k f)) ≡ true → has same_key j f ≡ true
in_from j k empty h = h
in_from j k (tree i d low rest) h =
    elim (cases (same_key k i)) [
      | inl e ↦ first (rw e at h)
      | inr e ↦ elim (cases (has same_key k low)) [
        | inl u ↦ from_right (same_key j i) (has same_key j low || has same_key j rest) (from_left (has same_key j low) (has same_key j rest) (in_from j k
            low (rw (e, u) at h)))
        | inr u ↦ from_right (same_key j i) (has same_key j low || has same_key j rest) (from_right (has same_key j low) (has same_key j rest) (in_from j k
            rest (rw (e, u) at h)))
      ]
    ] where
      by : (a b c : Bool) → (a || (b || false)) ≡ true → (a || (b || c)) ≡ true
      by true b c g = refl
      by false true c g = refl
      by false false c g = absurd (cc (g))

      first : (same_key j i || (has same_key j low || false)) ≡ true → (same_key j i || (has same_key j low || has same_key j rest)) ≡ true
      first g = by (same_key j i) (has same_key j low) (has same_key j rest) g

apart_from : (k : BoxKey) (f : BoxForest) → IsApart same_key f → IsApart same_key (without_siblings (starting_at same_key k f))
apart_from k empty a = tt
apart_from k (tree i d low rest) a =
    elim (cases (same_key k i)) [
      | inl e ↦ rw e (a.0, refl, (λ j u. refl), a.3, tt)
      | inr e ↦ elim (cases (has same_key k low)) [ inl u ↦ rw (e, u) (apart_from k low a.3) | inr u ↦ rw (e, u) (apart_from k rest a.4) ]
    ]

-- A removal takes no slot for good where no box of the branch has the last key of its slot.
pub taken-removed : (k : BoxKey) (t : Document) → IsKeyed t → IsApart same_key t.boxes → NoneLast (branch same_key k t.boxes) → taken (after (removal k) t)
    + size (branch same_key k t.boxes) ≡ taken t
taken-removed k t keyed apart last =
    (all_left t.slots (branch same_key k t.boxes) (λ j u. let y = keyed j (in_from j k t.boxes u) in record { made = y.0; is = y.1 }) (apart_from k t.boxes
    apart) last).counted
