-- The names of boxes are ids, and those of different numbers differ.
use Rattle.std.proofs.Common.{◌≡◌, ℕ, ◌+◌, ◌%◌, ◌<◌, ◌≤◌, ◌^◌, true, ◌&&◌, nat_le, [], ◌∷◌, length, decimal, arith, refl, ap, ◌∙◌}
use Rattle.std.specs.List.{list_all}
use Rattle.std.proofs.lemmas.Bool.{le-leb}
use Rattle.std.proofs.lemmas.List.Folds.{list_all-append}
use Rattle.std.proofs.lemmas.Fmt.{decimal_by_steps, decimal_injective, length-decimal-le}
use Rattle.rd_tree.specs.Ids.{is_id_byte, is_id}
use Rattle.rd_gen.specs.Names.{box_id, new_id}

digit_is_id_byte : (c : ℕ) → 48 ≤ c → c ≤ 57 → is_id_byte c ≡ true
digit_is_id_byte c a b =
    let e : nat_le 48 c ≡ true = le-leb 48 c a in
    let f : nat_le c 57 ≡ true = le-leb c 57 b in
    rw (e, f) refl

one_digit : (n : ℕ) → n < 10 → list_all is_id_byte ((48 + n) ∷ []) ≡ true
one_digit n h =
    let e : is_id_byte (48 + n) ≡ true = digit_is_id_byte (48 + n) (omega arith) (omega arith) in
    ap (λ b. b && true) e

digits_are_id_bytes : (n : ℕ) → n < 2 ^ 64 → list_all is_id_byte (decimal n) ≡ true
digits_are_id_bytes = decimal_by_steps (λ n ds. list_all is_id_byte ds ≡ true) one_digit
    (λ n ds h so_far. list_all-append is_id_byte ds _ ∙ ap (λ b. b && list_all is_id_byte ((48 + n % 10) ∷ [])) so_far
    ∙ one_digit (n % 10) (omega arith))

few_digits : (n : ℕ) → n < 2 ^ 32 → length (decimal n) ≤ 10
few_digits n h = length-decimal-le 10 n (omega arith) (omega arith) (omega arith)

named : (letter : ℕ) → is_id_byte letter ≡ true → (n : ℕ) → n < 2 ^ 32 → is_id (letter ∷ decimal n) ≡ true
named letter ok n h =
    let few = few_digits n h in
    let e : nat_le 1 (length (letter ∷ decimal n)) ≡ true = le-leb _ _ (omega arith) in
    let f : nat_le (length (letter ∷ decimal n)) 64 ≡ true = le-leb _ _ (omega arith) in
    let g : list_all is_id_byte (decimal n) ≡ true = digits_are_id_bytes n (omega arith) in
    rw (e, f, ok, g) refl

pub box_id_form : (i : ℕ) → i < 2 ^ 32 → is_id (box_id i) ≡ true
unfolding box_id
box_id_form i h = named 98 refl i h

pub new_id_form : (i : ℕ) → i < 2 ^ 32 → is_id (new_id i) ≡ true
unfolding new_id
new_id_form i h = named 110 refl i h

pub box_id_apart : (i j : ℕ) → i < 2 ^ 32 → j < 2 ^ 32 → box_id i ≡ box_id j → i ≡ j
unfolding box_id
box_id_apart i j h k e = decimal_injective i j (omega arith) (omega arith) (let f : 98 ∷ decimal i ≡ 98 ∷ decimal j = e in cc)
