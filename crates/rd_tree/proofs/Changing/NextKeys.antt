-- The key of a new box: it is of no box, it was never given, and one slot more is taken.
use Rattle.std.proofs.Common.{◌≡◌, ap, ◌∙◌, ℕ, ◌+◌, ◌<◌, Bool, true, false, cond, arith, List, [], ◌∷◌, ◌++◌, length, count_by, ◌⊎◌, inl, inr}
use Rattle.std.specs.Prelude.{slice_set, nat_lt}
use Rattle.std.proofs.lemmas.List.Sums.{sum_by-cons, sum_by-set}
use Rattle.rd_tree.specs.Document.{BoxKey, Slot, Document, contains, taken, slot_of, with_taken, IsNext, IsKeyed}
use Rattle.rd_tree.proofs.Linking.Standing.{refute}

-- Was this key ever given to a box?
abbrev pub IsUsed : Document → BoxKey → Type 0
IsUsed t k =
    (k.slot < length t.slots)
    × ((k.generation < (slot_of t.slots k).generation) ⊎ ((k.generation ≡ (slot_of t.slots k).generation) × ((slot_of t.slots k).taken ≡ true)))

pub next-absent : (t : Document) (k : BoxKey) → IsKeyed t → IsNext t k → contains t k ≡ false
next-absent t k keyed next = refute (contains t k) (λ m. at (keyed k m).0 (keyed k m).1 next) where
  at : k.slot < length t.slots → slot_of t.slots k ≡ record { generation = k.generation; taken = true } → IsNext t k → ⊥
  at l e (inr v) = let w : k.slot ≡ length t.slots = v.0 in omega (arith, l, w)
  at l e (inl v) =
      let a : (slot_of t.slots k).taken ≡ true = ap (λ y. y.taken) e in
      let b : (slot_of t.slots k).taken ≡ false = ap (λ y. y.taken) v.1 in
      cc (a, b)

pub next-unused : (t : Document) (k : BoxKey) → IsNext t k → IsUsed t k → ⊥
next-unused t k (inr v) used = let w : k.slot ≡ length t.slots = v.0 in let l : k.slot < length t.slots = used.0 in omega (arith, l, w)
next-unused t k (inl v) used = elim used.1 [
  | inl l ↦ let n : (slot_of t.slots k).generation ≡ k.generation = ap (λ y. y.generation) v.1 in omega (arith, l, n)
  | inr l ↦ let n : (slot_of t.slots k).taken ≡ false = ap (λ y. y.taken) v.1 in cc (n, l.1)
]

-- how many are taken
abbrev pub count : List Slot → ℕ
count slots = count_by (λ y. y.taken) slots

-- one slot more
count-more : (slots : List Slot) (y : Slot) → count (slots ++ y ∷ []) ≡ count slots + cond y.taken 1 0
count-more [] y = sum_by-cons (λ z. cond z.taken 1 0) y [] ∙ omega arith
count-more (x ∷ slots) y =
    let a : count (x ∷ (slots ++ y ∷ [])) ≡ cond x.taken 1 0 + count (slots ++ y ∷ []) = sum_by-cons (λ z. cond z.taken 1 0) x (slots ++ y ∷ []) in
    let b : count (x ∷ slots) ≡ cond x.taken 1 0 + count slots = sum_by-cons (λ z. cond z.taken 1 0) x slots in
    let r : count (slots ++ y ∷ []) ≡ count slots + cond y.taken 1 0 = count-more slots y in
    omega (arith, a, b, r)

before : (m n : ℕ) → m < n → nat_lt m n ≡ true
before m n h = grind arith

not_before : (m n : ℕ) → m ≡ n → nat_lt m n ≡ false
not_before m n h = grind arith

-- A new box takes one slot more.
pub taken-next : (t : Document) (k : BoxKey) → IsNext t k → count (with_taken t.slots k) ≡ taken t + 1
taken-next t k (inl v) =
    let y : Slot = record { generation = k.generation; taken = true } in
    let s : count (slice_set t.slots k.slot y) + cond (slot_of t.slots k).taken 1 0 ≡ count t.slots + 1 = sum_by-set (λ z. cond z.taken 1 0) t.slots k.slot
    y (record { generation = 0; taken = false }) v.0 in
    let b : (slot_of t.slots k).taken ≡ false = ap (λ z. z.taken) v.1 in
    let c : Bool → ℕ = λ x. cond x 1 0 in
    let f : c (slot_of t.slots k).taken ≡ c false = ap c b in
    rw (before k.slot (length t.slots) v.0) (omega (arith, s, f))
taken-next t k (inr v) =
    rw (not_before k.slot (length t.slots) v.0) (count-more t.slots (record { generation = k.generation; taken = true }))
