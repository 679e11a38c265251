-- Bits of words: set, taken away, and of two words at once.
use Rattle.std.proofs.Common.{◌≡◌, ◌≢◌, ap, ◌∙◌, sym, ℕ, ◌-◌, ◌*◌, ◌%◌, ◌^◌, ◌<◌, min, arith, w64}
use Rattle.std.specs.Int.{bit_at}
use Rattle.std.specs.Int.Bits.{bit_and, bit_or}
use Rattle.std.proofs.lemmas.Nat.Bits.{bit_at-lt, bit_at-zero, bit_at_and, bit_at_clear_other, bit_at_or, bit_at_set_other, bit_at_set_same}

pub bit_left : (a b i : ℕ) → bit_at a i ≡ 1 → bit_at (bit_or a b) i ≡ 1
bit_left a b i h = let m = bit_at_or a b i in let s = bit_at-lt b i in omega (arith, m, h, s)

pub bit_right : (a b i : ℕ) → bit_at b i ≡ 1 → bit_at (bit_or a b) i ≡ 1
bit_right a b i h = let m = bit_at_or a b i in let s = bit_at-lt a i in omega (arith, m, h, s)

-- bits that are among others
pub bit_among : (a b i : ℕ) → bit_or a b ≡ a → bit_at b i ≡ 1 → bit_at a i ≡ 1
bit_among a b i e h = sym (ap (λ n. bit_at n i) e) ∙ bit_right a b i h

-- bits that share none with others that have one
pub bit_apart : (a b i : ℕ) → bit_and a b ≡ 0 → bit_at b i ≡ 1 → bit_at a i ≡ 0
bit_apart a b i e h =
    let m : min (bit_at a i) (bit_at b i) ≡ 0 = sym (bit_at_and a b i) ∙ (ap (λ n. bit_at n i) e ∙ bit_at-zero i) in
    omega (arith, m, h)

-- the bit of a number is set, and the others are as they were
pub bit_set : (n j : ℕ) → bit_at (bit_or n (1 * 2 ^ (j % 64) % 18446744073709551616)) (j % 64) ≡ 1
bit_set n j = bit_at_set_same w64 n (j % 64) (omega arith)

pub bit_kept : (n j i : ℕ) → i ≢ j % 64 → bit_at (bit_or n (1 * 2 ^ (j % 64) % 18446744073709551616)) i ≡ bit_at n i
bit_kept n j i a = bit_at_set_other w64 n (j % 64) (omega arith) i a

-- the bit of a number is taken away, and the others are as they were
pub bit_cleared : (n j i : ℕ) → i < 64 → i ≢ j % 64 → bit_at (bit_and n (18446744073709551615 - 1 * 2 ^ (j % 64) % 18446744073709551616)) i ≡ bit_at n i
bit_cleared n j i l a = bit_at_clear_other w64 n (j % 64) (omega arith) i l a
