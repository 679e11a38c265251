-- The words of a dump, read and spelled.
use Rattle.std.proofs.Common.{◌≡◌, ℕ, ◌^◌, ◌<◌, Bool, true, false, cond, List, Option, Some, None, Result, Ok, Err, refl, sym, ap, subst, ◌∙◌}
use Rattle.std.specs.Prelude.{◌&&◌, nat_lt, decimal}
use Rattle.std.specs.Str.{bytes_eq, IsUtf8}
use Rattle.std.specs.Str.Parse.{digits_value, ParsesUnsigned}
use Rattle.std.proofs.lemmas.Bool.{lt-ltb, ltb-true}
use Rattle.std.proofs.lemmas.Fmt.{decimal_is_IsNumeral, IsAscii-decimal, parse-decimal}
use Rattle.std.proofs.lemmas.Str.{IsUtf8-from_ascii}
use Rattle.std.proofs.lemmas.Slice.Eq.{bytes_eq-Decides}
use Rattle.rd_check.specs.Internal.Reading.{number_of}

pub bytes_same : (a b : List ℕ) → bytes_eq a b ≡ true → a ≡ b
bytes_same a b h = (bytes_eq-Decides a b).0 h

pub bytes_refl : (a : List ℕ) → bytes_eq a a ≡ true
bytes_refl a = (bytes_eq-Decides a a).1 refl

-- the digits of a number are read as it
pub number_again : (n : ℕ) → n < 2 ^ 64 → number_of (decimal n) ≡ Some n
number_again n h =
    let v : digits_value 10 (decimal n) ≡ n = (decimal_is_IsNumeral n h).1 in
    rw (v, lt-ltb n (2 ^ 64) h, bytes_refl (decimal n)) refl

pub number_found : (n : ℕ) (w : List ℕ) → n < 2 ^ 64 → decimal n ≡ w → number_of w ≡ Some n
number_found n w h e = ap number_of (sym e) ∙ number_again n h

-- a word that is read is the digits of its number
pub number_back : (w : List ℕ) (n : ℕ) → number_of w ≡ Some n → (w ≡ decimal n) × (n < 2 ^ 64)
number_back w n h = by_test (nat_lt (digits_value 10 w) (2 ^ 64)) (bytes_eq (decimal (digits_value 10 w)) w) refl refl h
  where
    by_test : (a b : Bool) → nat_lt (digits_value 10 w) (2 ^ 64) ≡ a → bytes_eq (decimal (digits_value 10 w)) w ≡ b
        → cond (a && b) (Some (digits_value 10 w)) None ≡ Some n → (w ≡ decimal n) × (n < 2 ^ 64)
    by_test true true p q e =
        let is : digits_value 10 w ≡ n = cc in
        (sym (bytes_same (decimal (digits_value 10 w)) w q) ∙ ap decimal is, subst (λ k. k < 2 ^ 64) is (ltb-true (digits_value 10 w) (2 ^ 64) p))
    by_test true false p q e = absurd cc
    by_test false b p q e = absurd cc

-- a word that is the digits of no number
pub number_none : (w : List ℕ) → ((n : ℕ) → n < 2 ^ 64 → decimal n ≡ w → ⊥) → number_of w ≡ None
number_none w never = by_case (number_of w) refl
  where
    by_case : (r : Option ℕ) → number_of w ≡ r → r ≡ None
    by_case None e = refl
    by_case (Some n) e = let b = number_back w n e in absurd (never n b.1 (sym b.0))

-- what is no text is the digits of no number
pub number_no_text : (w : List ℕ) → (IsUtf8 w → ⊥) → number_of w ≡ None
number_no_text w never = number_none w (λ n h e. never (subst IsUtf8 e (IsUtf8-from_ascii (decimal n) (IsAscii-decimal n h))))

-- nor is what is not parsed
pub number_no_parse : {E : Type 0} (w text : List ℕ) (r : Result ℕ E) (e : E) → text ≡ w → ParsesUnsigned 64 10 text r → r ≡ Err e → number_of w ≡ None
number_no_parse w text r e same parses fails =
    number_none w (λ n h d. let ok : r ≡ Ok n = parse-decimal 64 n text r h h (same ∙ sym d) parses in absurd cc)

-- nor is what is parsed as a number of other digits
pub number_other : {E : Type 0} (w text digits : List ℕ) (r : Result ℕ E) (m : ℕ) → text ≡ w → ParsesUnsigned 64 10 text r → r ≡ Ok m
    → digits ≡ decimal m → bytes_eq digits w ≡ false → number_of w ≡ None
number_other w text digits r m same parses read written unlike =
    number_none w (λ n h d.
    let ok : r ≡ Ok n = parse-decimal 64 n text r h h (same ∙ sym d) parses in
    let is : m ≡ n = cc in
    let alike : bytes_eq digits w ≡ true = rw (written ∙ ap decimal is ∙ d) (bytes_refl w) in
    absurd cc)
