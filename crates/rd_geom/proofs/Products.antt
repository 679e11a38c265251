use Rattle.std.proofs.Common.{◌≡◌, ℕ, ◌*◌, ◌≤◌, arith}
use Rattle.std.proofs.Math.Nat.{mul-le-mul_left, mul-le-mul_right}
use Rattle.rd_geom.specs.Colors.{times}

-- products of two channels
pub product_fits : (a b : ℕ) → a ≤ 255 → b ≤ 255 → a * b ≤ 65025
product_fits a b p q = let h = mul-le-mul_left a q in let k = mul-le-mul_right 255 p in omega (arith, h, k)

-- a product is at most its second factor
pub times_fits : (a b : ℕ) → a ≤ 255 → times a b ≤ b
times_fits a b p = let h = mul-le-mul_right b p in omega (arith, h)

-- and rises with its first
pub times_rises : (a b k : ℕ) → a ≤ b → times a k ≤ times b k
times_rises a b k p = let h = mul-le-mul_right k p in omega (arith, h)

pub times_whole : (b : ℕ) → times 255 b ≡ b
times_whole b = omega arith

pub times_by_whole : (a : ℕ) → times a 255 ≡ a
times_by_whole a = omega arith

pub times_none : (b : ℕ) → times 0 b ≡ 0
times_none b = omega arith

pub times_by_none : (a : ℕ) → times a 0 ≡ 0
times_by_none a = omega arith
