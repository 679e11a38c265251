-- Ids are ASCII text.
use Rattle.std.proofs.Common.{◌≡◌, ℕ, zero, suc, ◌<◌, ◌≤◌, Bool, true, false, List, [], ◌∷◌, length, None, refl, arith}
use Rattle.std.specs.Prelude.{◌&&◌, ◌||◌, nat_le, nat_lt}
use Rattle.std.specs.List.{list_all}
use Rattle.std.proofs.lemmas.Bool.{ltb-true, ltb-false, lt-leb, ne_eqb}
use Rattle.std.specs.Str.{IsAscii, IsUtf8}
use Rattle.std.proofs.lemmas.Str.{IsUtf8-from_ascii}
use Rattle.rd_tree.specs.Ids.{is_id, is_id_byte}
use Rattle.rd_check.specs.Internal.Reading.{id_word}

second : (a b : Bool) → (a && b) ≡ true → b ≡ true
second true b h = h
second false b h = absurd cc

first : (a b : Bool) → (a && b) ≡ true → a ≡ true
first true b h = refl
first false b h = absurd cc

-- a byte of an id is none of those above 127
byte_ascii : (c : ℕ) → is_id_byte c ≡ true → c < 128
byte_ascii c h = by_test (nat_lt c 128) refl
  where
    by_test : (b : Bool) → nat_lt c 128 ≡ b → c < 128
    by_test true e = ltb-true c 128 e
    by_test false e =
        let high : 128 ≤ c = ltb-false c 128 e in
        let never : is_id_byte c ≡ false =
        rw (
          lt-leb c 57 (omega (arith, high)),
          lt-leb c 90 (omega (arith, high)),
          lt-leb c 122 (omega (arith, high)),
          ne_eqb c 95 (λ q. omega (arith, high, q)),
          ne_eqb c 45 (λ q. omega (arith, high, q)),
          ne_eqb c 46 (λ q. omega (arith, high, q)),
          ne_eqb c 58 (λ q. omega (arith, high, q)),
        )
        (ends (nat_le 48 c) (nat_le 65 c) (nat_le 97 c)) in
        absurd cc
      where
        ends : (x y z : Bool) → ((((((((x && false) || (y && false)) || (z && false)) || false) || false) || false) || false)) ≡ false
        ends true true true = refl
        ends true true false = refl
        ends true false true = refl
        ends true false false = refl
        ends false true true = refl
        ends false true false = refl
        ends false false true = refl
        ends false false false = refl

bytes_ascii : (w : List ℕ) → list_all is_id_byte w ≡ true → IsAscii w
bytes_ascii [] h i = omega arith
bytes_ascii (c ∷ w) h zero = byte_ascii c (first (is_id_byte c) (list_all is_id_byte w) h)
bytes_ascii (c ∷ w) h (suc i) = bytes_ascii w (second (is_id_byte c) (list_all is_id_byte w) h) i

pub id_ascii : (w : List ℕ) → is_id w ≡ true → IsAscii w
id_ascii w h = bytes_ascii w (second (nat_le 1 (length w) && nat_le (length w) 64) (list_all is_id_byte w) h)

pub id_no_text : (w : List ℕ) → (IsUtf8 w → ⊥) → id_word w ≡ None
id_no_text w never = by_test (is_id w) refl
  where
    by_test : (b : Bool) → is_id w ≡ b → id_word w ≡ None
    by_test true e = absurd (never (IsUtf8-from_ascii w (id_ascii w e)))
    by_test false e = rw e refl
