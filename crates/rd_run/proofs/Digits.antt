-- Digits, one after another.
use Rattle.std.proofs.Common.{◌≡◌, ℕ, zero, suc, ◌+◌, ◌-◌, ◌*◌, ◌^◌, ◌<◌, ◌≤◌, Bool, true, false, ◌&&◌, nat_le, List, [], ◌∷◌, ◌++◌, length, take, get_or, refl, sym, ◌∙◌, ap, arith}
use Rattle.std.proofs.lemmas.List.{take_more}
use Rattle.std.proofs.lemmas.Bool.{lt-leb, le-leb, leb-true}
use native.Mathlib.Numerals.{unary_clauses}
use Rattle.rd_run.specs.Words.{is_digit, all_digits, number_after}

second : (a b : Bool) → (a && b) ≡ true → b ≡ true
second true b h = h
second false b h = cc

-- where all are digits, each is
pub digit_at : (ds : List ℕ) (i z c : ℕ) → all_digits ds ≡ true → i < length ds → c ≡ get_or ds i z → is_digit c ≡ true
digit_at [] i z c h l e = absurd (omega arith)
digit_at (d ∷ ds) zero z c h l e = rw e (first (is_digit d) (all_digits ds) h)
  where
    first : (a b : Bool) → (a && b) ≡ true → a ≡ true
    first true b h = refl
    first false b h = cc
digit_at (d ∷ ds) (suc i) z c h l e = digit_at ds i z c (second (is_digit d) (all_digits ds) h) (omega arith) e

-- where one is no digit, not all are
pub no_digit_at : (ds : List ℕ) (i z c : ℕ) → is_digit c ≡ false → i < length ds → c ≡ get_or ds i z → all_digits ds ≡ false
no_digit_at [] i z c h l e = absurd (omega arith)
no_digit_at (d ∷ ds) zero z c h l e = rw (sym e, h) refl
no_digit_at (d ∷ ds) (suc i) z c h l e = rw (no_digit_at ds i z c h (omega arith) e) (never (is_digit d))
  where
    never : (a : Bool) → (a && false) ≡ false
    never true = refl
    never false = refl

-- one more digit
pub digits_more : (ds : List ℕ) (c : ℕ) → all_digits ds ≡ true → is_digit c ≡ true → all_digits (ds ++ c ∷ []) ≡ true
digits_more [] c h d = rw d refl
digits_more (x ∷ ds) c h d = rw (first (is_digit x) (all_digits ds) h, digits_more ds c (second (is_digit x) (all_digits ds) h) d) refl
  where
    first : (a b : Bool) → (a && b) ≡ true → a ≡ true
    first true b h = refl
    first false b h = cc

pub number_more : (n : ℕ) (ds : List ℕ) (c : ℕ) → number_after n (ds ++ c ∷ []) ≡ number_after n ds * 10 + (c - 48)
number_more n [] c = refl
number_more n (d ∷ ds) c = number_more (n * 10 + (d - 48)) ds c

never : (a : Bool) → (a && false) ≡ false
never true = refl
never false = refl

first_of_two : (a b : Bool) → (a && b) ≡ true → a ≡ true
first_of_two true b h = refl
first_of_two false b h = cc

pub is_below : (c : ℕ) → c < 48 → is_digit c ≡ false
is_below c h = rw (lt-leb 48 c h) refl

pub is_above : (c : ℕ) → 57 < c → is_digit c ≡ false
is_above c h = rw (lt-leb c 57 h) (never (nat_le 48 c))

pub is_within : (c : ℕ) → 48 ≤ c → c ≤ 57 → is_digit c ≡ true
is_within c h i = rw (le-leb 48 c h, le-leb c 57 i) refl

pub at_least : (c : ℕ) → is_digit c ≡ true → (48 ≤ c) × (c ≤ 57)
at_least c h = (
  leb-true 48 c (first_of_two (nat_le 48 c) (nat_le c 57) h),
  leb-true c 57 (second (nat_le 48 c) (nat_le c 57) h),
)

-- the bytes of a front and the next one are digits
pub digits_on : (ds : List ℕ) (i z c : ℕ) → i < length ds → c ≡ get_or ds i z → 48 ≤ c → c ≤ 57
    → all_digits (take i ds) ≡ true → all_digits (take (i + 1) ds) ≡ true
digits_on ds i z c l e h k d =
    let more : take (i + 1) ds ≡ take i ds ++ c ∷ [] = take_more ds i z l ∙ ap (λ y. take i ds ++ y ∷ []) (sym e) in
    ap all_digits more ∙ digits_more (take i ds) c d (is_within c h k)

-- the number of a front and the next digit
pub number_on : (ds : List ℕ) (i z c n d : ℕ) → i < length ds → c ≡ get_or ds i z → all_digits ds ≡ true → d + 48 ≡ c
    → (n ≡ number_after 0 (take i ds)) × (n < 10 ^ i)
    → (n * 10 + d ≡ number_after 0 (take (i + 1) ds)) × (n * 10 + d < 10 ^ (i + 1))
number_on ds i z c n d l e h k q =
    let more : take (i + 1) ds ≡ take i ds ++ c ∷ [] = take_more ds i z l ∙ ap (λ y. take i ds ++ y ∷ []) (sym e) in
    let within = at_least c (digit_at ds i z c h l e) in
    let w0 = within.0 in
    let w1 = within.1 in
    let is : d ≡ c - 48 = omega (arith, k) in
    let q1 = q.1 in
    let ten : 10 ^ (i + 1) ≡ 10 ^ i * 10 = power_more i in (
      ap (λ m. m * 10 + d) q.0 ∙ ap (λ m. number_after 0 (take i ds) * 10 + m) is ∙ sym (number_more 0 (take i ds) c) ∙ ap (number_after 0) (sym more),
      rw ten (omega (arith, q1, w1, k)),
    )
  where
    power_more : (j : ℕ) → 10 ^ (j + 1) ≡ 10 ^ j * 10
    power_more j = simp unary_clauses omega arith
