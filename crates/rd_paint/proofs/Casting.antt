-- Differences and sums of numbers of 32 bits that fit.
use Rattle.std.proofs.Common.{◌≡◌, ℕ, ℤ, pos, ◌≤◌, ◌+ℤ◌, ◌≤ℤ◌, ◌<ℤ◌, false, FitsSigned, to_z, of_z, w32, arith}
use Rattle.std.specs.Prelude.{◌-ℤ◌, int_le}
use Rattle.std.proofs.lemmas.Int.{to_z-of_z, ints}

pub fits : (a : ℤ) → pos 0 ≤ℤ a → a ≤ℤ pos 1000000000 → FitsSigned w32 a
fits a l m = omega (arith, ints, l, m)

pub diff_is : (a b : ℤ) → FitsSigned w32 a → FitsSigned w32 b → b ≤ℤ a → (a -ℤ b) ≤ℤ pos 1000000000
    → to_z w32 (of_z w32 (to_z w32 (of_z w32 a) -ℤ to_z w32 (of_z w32 b))) ≡ (a -ℤ b)
diff_is a b fa fb l m = rw (to_z-of_z w32 a fa, to_z-of_z w32 b fb) (to_z-of_z w32 (a -ℤ b) (fits (a -ℤ b) (omega (arith, ints, l)) m))

pub nat_is : (n : ℕ) → n ≤ 1000000000 → to_z w32 n ≡ pos n
nat_is n h = omega (arith, ints, h)

pub sum_is : (b : ℤ) (n : ℕ) → FitsSigned w32 b → pos 0 ≤ℤ b → n ≤ 1000000000 → (b +ℤ pos n) ≤ℤ pos 1000000000
    → to_z w32 (of_z w32 (to_z w32 (of_z w32 b) +ℤ to_z w32 n)) ≡ (b +ℤ pos n)
sum_is b n fb z h m = rw (to_z-of_z w32 b fb, nat_is n h) (to_z-of_z w32 (b +ℤ pos n) (fits (b +ℤ pos n) (omega (arith, ints, z)) m))

pub lt_from : (a b : ℤ) → int_le b a ≡ false → a <ℤ b
lt_from a b h = grind (arith, ints)
