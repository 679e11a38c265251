-- Which places of a level stay, by bits.
use Rattle.std.proofs.Common.{◌≡◌, ◌≢◌, refl, ap, ◌∙◌, sym, subst, ℕ, zero, suc, ◌+◌, ◌*◌, ◌/◌, ◌%◌, ◌<◌, ◌≤◌, ◌==◌, Bool, true, false, List, length, get_or, set, inl, inr, arith, get_or-set_other, get_or-set_same}
use Rattle.std.specs.Int.{bit_at}
use Rattle.std.proofs.lemmas.Bool.{cases_lt}
use Rattle.std.proofs.lemmas.Nat.Bits.{bit_at-zero}
use Rattle.rd_graph.specs.Internal.Stays.{is_clear, stay_from}
use Rattle.rd_graph.specs.Internal.Walks.{stays_at}

pub stay_count : (words : List ℕ) (p n : ℕ) → length (stay_from words p n) ≡ n
stay_count words p zero = refl
stay_count words p (suc n) = ap suc (stay_count words (p + 1) n)

stay_read : (words : List ℕ) (p n k : ℕ) → k < n → get_or (stay_from words p n) k false ≡ is_clear words (p + k)
stay_read words p zero k l = absurd (omega (arith, l))
stay_read words p (suc n) zero l = ap (is_clear words) (let e : p ≡ p + 0 = omega arith in e)
stay_read words p (suc n) (suc k) l = stay_read words (p + 1) n k (omega (arith, l)) ∙ ap (is_clear words) (let e : p + 1 + k ≡ p + suc k = omega arith in e)

stay_past : (words : List ℕ) (p n k : ℕ) → n ≤ k → get_or (stay_from words p n) k false ≡ false
stay_past words p zero k l = refl
stay_past words p (suc n) zero l = absurd (omega (arith, l))
stay_past words p (suc n) (suc k) l = stay_past words (p + 1) n k (omega (arith, l))

-- a place stays where its bit is not set
pub stays_by : (words : List ℕ) (n k : ℕ) → k < n → stays_at (stay_from words 0 n) k ≡ is_clear words k
stays_by words n k l = stay_read words 0 n k l ∙ ap (is_clear words) (let e : 0 + k ≡ k = omega arith in e)

pub stays_past : (words : List ℕ) (n k : ℕ) → n ≤ k → stays_at (stay_from words 0 n) k ≡ false
stays_past words n k l = stay_past words 0 n k l

-- a word without bits
pub clear_word : (words : List ℕ) (k : ℕ) → get_or words (k / 64) 0 ≡ 0 → is_clear words k ≡ true
clear_word words k e = ap (λ w. bit_at w (k % 64) == 0) e ∙ ap (λ b. b == 0) (bit_at-zero (k % 64))

-- ---- a bit is set

module _ (words : List ℕ) (place new : ℕ) (l : place / 64 < length words) where
  pub set_here : bit_at new (place % 64) ≡ 1 → is_clear (set words (place / 64) new) place ≡ false
  set_here s =
      let e : get_or (set words (place / 64) new) (place / 64) 0 ≡ new = get_or-set_same words (place / 64) new 0 l in
      ap (λ w. bit_at w (place % 64) == 0) e ∙ ap (λ b. b == 0) s

  pub set_other : (old : ℕ) → old ≡ get_or words (place / 64) 0 → ((i : ℕ) → i ≢ place % 64 → bit_at new i ≡ bit_at old i) → (k : ℕ) → k ≢ place → is_clear (set words (place / 64) new) k ≡ is_clear words k
  set_other old is same k d = elim (cases_lt (place / 64) (k / 64)) [
    | inl v ↦ apart (let n : k / 64 ≢ place / 64 = omega (arith, v) in n)
    | inr v ↦ elim (cases_lt (k / 64) (place / 64)) [
      | inl w ↦ apart (let n : k / 64 ≢ place / 64 = omega (arith, w) in n)
      | inr w ↦ near (let e : k / 64 ≡ place / 64 = omega (arith, v, w) in e)
    ]
  ]
    where
      apart : (k / 64 ≢ place / 64) → is_clear (set words (place / 64) new) k ≡ is_clear words k
      apart n = ap (λ w. bit_at w (k % 64) == 0) (get_or-set_other words (place / 64) (k / 64) new 0 n)

      near : k / 64 ≡ place / 64 → is_clear (set words (place / 64) new) k ≡ is_clear words k
      near e =
          let r : k % 64 ≢ place % 64 = omega (arith, e, d) in
          let here : get_or (set words (place / 64) new) (k / 64) 0 ≡ new = subst (λ i. get_or (set words (place / 64) new) i 0 ≡ new) (sym e) (get_or-set_same words (place / 64) new 0 l) in
          let was : old ≡ get_or words (k / 64) 0 = is ∙ ap (λ i. get_or words i 0) (sym e) in
          ap (λ w. bit_at w (k % 64) == 0) here ∙ ap (λ b. b == 0) (same (k % 64) r) ∙ ap (λ w. bit_at w (k % 64) == 0) was

-- words that tell the same of a place
pub stays_other : (us ws : List ℕ) (n k : ℕ) → is_clear us k ≡ is_clear ws k → stays_at (stay_from us 0 n) k ≡ stays_at (stay_from ws 0 n) k
stays_other us ws n k e = elim (cases_lt k n) [
  | inl l ↦ stays_by us n k l ∙ e ∙ sym (stays_by ws n k l)
  | inr l ↦ stays_past us n k l ∙ sym (stays_past ws n k l)
]

-- the word of a place that is shown
pub word_there : (ws : List ℕ) (n p : ℕ) (shown : List Bool) → n < 64 * length ws → stay_from ws 0 n ≡ shown → p < length shown → (p < n) × (p / 64 < length ws)
word_there ws n p shown v e l =
    let c = stay_count ws 0 n in
    let w = ap length e in
    let there : p < n = omega (arith, c, w, l) in
    (there, omega (arith, v, there))
