-- What is read of a word is what the word spells.
use Rattle.std.proofs.Common.{◌≡◌, ℕ, zero, suc, ◌+◌, ◌-◌, ◌%◌, ◌^◌, ◌<◌, ◌≤◌, ℤ, pos, negsuc, Bool, true, false, cond, eqb, List, [], ◌∷◌, length, Option, Some, None, refl, sym, ap, subst, ◌∙◌, arith, inl, inr}
use Rattle.std.specs.Prelude.{◌&&◌, not, nat_le, nat_lt, codes, decimal}
use Rattle.std.specs.Fmt.{signed_decimal}
use Rattle.std.specs.Str.{bytes_eq}
use Rattle.std.specs.List.{list_all}
use Rattle.std.proofs.lemmas.Bool.{eqb-true, ne_eqb, ltb-true, lt-ltb, leb-true, le-leb, and_parts, and_from, or_cases}
use Rattle.std.proofs.lemmas.List.Folds.{list_all-append}
use Rattle.std.proofs.lemmas.Fmt.{decimal_by_steps, decimal_nonempty}
use Rattle.rd_geom.specs.declared.blend.Blend.{Blend}
use Rattle.rd_geom.specs.declared.blend.Blend.TheVariants.{Normal, Multiply, Screen, Darken, Lighten}
use Rattle.rd_keys.specs.declared.entry.Part.{Part}
use Rattle.rd_keys.specs.declared.entry.Part.TheVariants.{Back, Border, Content, Outline}
use Rattle.rd_tree.specs.Ids.{is_id, is_id_byte}
use Rattle.rd_report.specs.Words.{part_text, pointer_text}
use Rattle.rd_check.specs.Internal.Reading.{is_gap, number_of, byte_of, id_word, negative, positive, signed_of, part_of, pointer_of, mode_of}
use Rattle.rd_check.proofs.Spelled.{bytes_same, number_again, number_back}
use Rattle.rd_check.proofs.Readers.{bind_some, IsWord, IsWordCode}

-- ---- numbers

-- a test that digits pass
digits_pass : (p : ℕ → Bool) → ((d : ℕ) → d < 10 → p (48 + d) ≡ true) → (n : ℕ) → n < 2 ^ 64 → list_all p (decimal n) ≡ true
digits_pass p each = decimal_by_steps (λ n ds. list_all p ds ≡ true) (λ n h. and_from (p (48 + n)) true (each n h) refl)
    (λ n ds h all. list_all-append p ds ((48 + n % 10) ∷ []) ∙ and_from (list_all p ds) (p (48 + n % 10) && true) all (and_from (p (48 + n % 10)) true (each (n % 10) (omega arith)) refl))

digit_no_gap : (d : ℕ) → d < 10 → not (is_gap (48 + d)) ≡ true
digit_no_gap d h = rw (ne_eqb (48 + d) 32 (λ e. omega (arith, e)), ne_eqb (48 + d) 10 (λ e. omega (arith, e))) refl

decimal_word : (n : ℕ) → n < 2 ^ 64 → IsWord (decimal n)
decimal_word = digits_pass (λ b. not (is_gap b)) digit_no_gap

pub number_code : IsWordCode number_of decimal (λ n. n < 2 ^ 64)
number_code = record { back = number_back; again = number_again; whole = decimal_word }

byte_back : (w : List ℕ) (n : ℕ) → byte_of w ≡ Some n → (w ≡ decimal n) × (n < 256)
byte_back w n e =
    let a = bind_some (number_of w) (λ n. cond (nat_lt n 256) (Some n) None) n e in
    let b = number_back w a.0 a.1 in
    by_test a.0 b.0 (nat_lt a.0 256) refl a.2
  where
    by_test : (k : ℕ) → w ≡ decimal k → (t : Bool) → nat_lt k 256 ≡ t → cond t (Some k) None ≡ Some n → (w ≡ decimal n) × (n < 256)
    by_test k b true f g = let same : k ≡ n = cc in (b ∙ ap decimal same, subst (λ m. m < 256) same (ltb-true k 256 f))
    by_test k b false f g = absurd cc

byte_again : (n : ℕ) → n < 256 → byte_of (decimal n) ≡ Some n
byte_again n h = rw (number_again n (omega (arith, h)), lt-ltb n 256 h) refl

pub byte_code : IsWordCode byte_of decimal (λ n. n < 256)
byte_code = record { back = byte_back; again = byte_again; whole = λ n h. decimal_word n (omega (arith, h)) }

-- how far from 0 a number of a rectangle may be
abbrev pub IsNear : ℤ → Type 0
IsNear (pos n) = n ≤ 2000000000
IsNear (negsuc n) = n ≤ 1999999999

positive_back : (w : List ℕ) (z : ℤ) (r : Option ℕ) → number_of w ≡ r → positive r ≡ Some z → (w ≡ signed_decimal z) × IsNear z
positive_back w z None e f = absurd cc
positive_back w z (Some n) e f = by_test (nat_le n 2000000000) refl f
  where
    by_test : (t : Bool) → nat_le n 2000000000 ≡ t → cond t (Some (pos n)) None ≡ Some z → (w ≡ signed_decimal z) × IsNear z
    by_test true g h = let same : pos n ≡ z = cc in
        subst (λ y. (w ≡ signed_decimal y) × IsNear y) same ((number_back w n e).0, leb-true n 2000000000 g)
    by_test false g h = absurd cc

negative_back : (w : List ℕ) (z : ℤ) (r : Option ℕ) → number_of w ≡ r → negative r ≡ Some z → (45 ∷ w ≡ signed_decimal z) × IsNear z
negative_back w z None e f = absurd cc
negative_back w z (Some zero) e f = absurd cc
negative_back w z (Some (suc n)) e f = by_test (nat_le n 1999999999) refl f
  where
    by_test : (t : Bool) → nat_le n 1999999999 ≡ t → cond t (Some (negsuc n)) None ≡ Some z → (45 ∷ w ≡ signed_decimal z) × IsNear z
    by_test true g h = let same : negsuc n ≡ z = cc in
        subst (λ y. (45 ∷ w ≡ signed_decimal y) × IsNear y) same (ap (λ v. 45 ∷ v) (number_back w (suc n) e).0, leb-true n 1999999999 g)
    by_test false g h = absurd cc

signed_back : (w : List ℕ) (z : ℤ) → signed_of w ≡ Some z → (w ≡ signed_decimal z) × IsNear z
signed_back [] z e = absurd cc
signed_back (c ∷ w) z e = by_test (eqb c 45) refl e
  where
    by_test : (t : Bool) → eqb c 45 ≡ t → cond t (negative (number_of w)) (positive (number_of (c ∷ w))) ≡ Some z → (c ∷ w ≡ signed_decimal z) × IsNear z
    by_test true f g = let b = negative_back w z (number_of w) refl g in (ap (λ d. d ∷ w) (eqb-true c 45 f) ∙ b.0, b.1)
    by_test false f g = positive_back (c ∷ w) z (number_of (c ∷ w)) refl g

-- no digit is a minus
no_minus : (n : ℕ) → n < 2 ^ 64 → list_all (λ b. not (eqb b 45)) (decimal n) ≡ true
no_minus = digits_pass (λ b. not (eqb b 45)) (λ d h. not_from_true_of (48 + d) (λ e. omega (arith, e)))
  where
    not_from_true_of : (b : ℕ) → (b ≡ 45 → ⊥) → not (eqb b 45) ≡ true
    not_from_true_of b h = rw (ne_eqb b 45 h) refl

plain : (w : List ℕ) → 0 < length w → list_all (λ b. not (eqb b 45)) w ≡ true → signed_of w ≡ positive (number_of w)
plain [] h all = absurd (omega (arith, h))
plain (c ∷ w) h all = by_test (eqb c 45) refl (and_parts (not (eqb c 45)) (list_all (λ b. not (eqb b 45)) w) all).0
  where
    by_test : (t : Bool) → eqb c 45 ≡ t → not t ≡ true → cond (eqb c 45) (negative (number_of w)) (positive (number_of (c ∷ w))) ≡ positive (number_of (c ∷ w))
    by_test true f g = absurd cc
    by_test false f g = rw f refl

signed_again : (z : ℤ) → IsNear z → signed_of (signed_decimal z) ≡ Some z
signed_again (pos n) h =
    plain (decimal n) (decimal_nonempty n (omega (arith, h))) (no_minus n (omega (arith, h)))
    ∙ ap positive (number_again n (omega (arith, h))) ∙ rw (le-leb n 2000000000 h) refl
signed_again (negsuc n) h = ap negative (number_again (suc n) (omega (arith, h))) ∙ rw (le-leb n 1999999999 h) refl

signed_word : (z : ℤ) → IsNear z → IsWord (signed_decimal z)
signed_word (pos n) h = decimal_word n (omega (arith, h))
signed_word (negsuc n) h = decimal_word (suc n) (omega (arith, h))

pub signed_code : IsWordCode signed_of signed_decimal IsNear
signed_code = record { back = signed_back; again = signed_again; whole = signed_word }

-- ---- ids

id_back : (w i : List ℕ) → id_word w ≡ Some i → (w ≡ i) × (is_id i ≡ true)
id_back w i e = by_test (is_id w) refl e
  where
    by_test : (t : Bool) → is_id w ≡ t → cond t (Some w) None ≡ Some i → (w ≡ i) × (is_id i ≡ true)
    by_test true f g = let same : w ≡ i = cc in (same, subst (λ v. is_id v ≡ true) same f)
    by_test false f g = absurd cc

byte_no_gap : (c : ℕ) → is_id_byte c ≡ true → not (is_gap c) ≡ true
byte_no_gap c h = by_test (is_gap c) refl
  where
    by_test : (t : Bool) → is_gap c ≡ t → not t ≡ true
    by_test false e = refl
    by_test true e = elim (or_cases (eqb c 32) (eqb c 10) e) [
      | inl p ↦ let q : is_id_byte 32 ≡ true = subst (λ b. is_id_byte b ≡ true) (eqb-true c 32 p) h in absurd cc
      | inr p ↦ let q : is_id_byte 10 ≡ true = subst (λ b. is_id_byte b ≡ true) (eqb-true c 10 p) h in absurd cc
    ]

bytes_no_gap : (w : List ℕ) → list_all is_id_byte w ≡ true → IsWord w
bytes_no_gap [] h = refl
bytes_no_gap (c ∷ w) h = let p = and_parts (is_id_byte c) (list_all is_id_byte w) h in
    and_from (not (is_gap c)) (list_all (λ b. not (is_gap b)) w) (byte_no_gap c p.0) (bytes_no_gap w p.1)

pub id_code : IsWordCode id_word (λ i. i) (λ i. is_id i ≡ true)
id_code = record {
  back = id_back;
  again = λ i h. rw h refl;
  whole = λ i h. bytes_no_gap i (and_parts (nat_le 1 (length i) && nat_le (length i) 64) (list_all is_id_byte i) h).1;
}

-- ---- parts and pointers

part_back : (w : List ℕ) (p : Part) → part_of w ≡ Some p → (w ≡ part_text p) × Unit {0}
part_back w p e = back (bytes_eq w (codes "back")) refl e
  where
    named : (q : Part) (t : List ℕ) → bytes_eq w t ≡ true → t ≡ part_text q → Some q ≡ Some p → (w ≡ part_text p) × Unit {0}
    named q t f g h = let same : q ≡ p = cc in (bytes_same w t f ∙ g ∙ ap part_text same, tt)

    outline : (t : Bool) → bytes_eq w (codes "outline") ≡ t → cond t (Some Outline) None ≡ Some p → (w ≡ part_text p) × Unit {0}
    outline true f g = named Outline (codes "outline") f refl g
    outline false f g = absurd cc

    content : (t : Bool) → bytes_eq w (codes "content") ≡ t → cond t (Some Content) (cond (bytes_eq w (codes "outline")) (Some Outline) None) ≡ Some p → (w ≡ part_text p) × Unit {0}
    content true f g = named Content (codes "content") f refl g
    content false f g = outline (bytes_eq w (codes "outline")) refl g

    border : (t : Bool) → bytes_eq w (codes "border") ≡ t
        → cond t (Some Border) (cond (bytes_eq w (codes "content")) (Some Content) (cond (bytes_eq w (codes "outline")) (Some Outline) None)) ≡ Some p → (w ≡ part_text p) × Unit {0}
    border true f g = named Border (codes "border") f refl g
    border false f g = content (bytes_eq w (codes "content")) refl g

    back : (t : Bool) → bytes_eq w (codes "back") ≡ t
        → cond t (Some Back) (cond (bytes_eq w (codes "border")) (Some Border) (cond (bytes_eq w (codes "content")) (Some Content) (cond (bytes_eq w (codes "outline")) (Some Outline) None))) ≡ Some p
        → (w ≡ part_text p) × Unit {0}
    back true f g = named Back (codes "back") f refl g
    back false f g = border (bytes_eq w (codes "border")) refl g

part_again : (p : Part) → part_of (part_text p) ≡ Some p
part_again Back = refl
part_again Border = refl
part_again Content = refl
part_again Outline = refl

part_word : (p : Part) → IsWord (part_text p)
part_word Back = refl
part_word Border = refl
part_word Content = refl
part_word Outline = refl

pub part_code : IsWordCode part_of part_text (λ p. Unit {0})
part_code = record { back = part_back; again = λ p h. part_again p; whole = λ p h. part_word p }

pointer_back : (w : List ℕ) (p : Bool) → pointer_of w ≡ Some p → (w ≡ pointer_text p) × Unit {0}
pointer_back w p e = auto (bytes_eq w (codes "auto")) refl e
  where
    named : (q : Bool) (t : List ℕ) → bytes_eq w t ≡ true → t ≡ pointer_text q → Some q ≡ Some p → (w ≡ pointer_text p) × Unit {0}
    named q t f g h = let same : q ≡ p = cc in (bytes_same w t f ∙ g ∙ ap pointer_text same, tt)

    none : (t : Bool) → bytes_eq w (codes "none") ≡ t → cond t (Some false) None ≡ Some p → (w ≡ pointer_text p) × Unit {0}
    none true f g = named false (codes "none") f refl g
    none false f g = absurd cc

    auto : (t : Bool) → bytes_eq w (codes "auto") ≡ t → cond t (Some true) (cond (bytes_eq w (codes "none")) (Some false) None) ≡ Some p → (w ≡ pointer_text p) × Unit {0}
    auto true f g = named true (codes "auto") f refl g
    auto false f g = none (bytes_eq w (codes "none")) refl g

pointer_again : (p : Bool) → pointer_of (pointer_text p) ≡ Some p
pointer_again true = refl
pointer_again false = refl

pointer_word : (p : Bool) → IsWord (pointer_text p)
pointer_word true = refl
pointer_word false = refl

pub pointer_code : IsWordCode pointer_of pointer_text (λ p. Unit {0})
pointer_code = record { back = pointer_back; again = λ p h. pointer_again p; whole = λ p h. pointer_word p }

-- ---- blend modes

abbrev pub is_normal : Blend → Bool
is_normal Normal = true
is_normal Multiply = false
is_normal Screen = false
is_normal Darken = false
is_normal Lighten = false

-- the word of a mode that is named
abbrev pub mode_word : Blend → List ℕ
mode_word Normal = []
mode_word Multiply = codes "multiply"
mode_word Screen = codes "screen"
mode_word Darken = codes "darken"
mode_word Lighten = codes "lighten"

mode_back : (w : List ℕ) (m : Blend) → mode_of w ≡ Some m → (w ≡ mode_word m) × (is_normal m ≡ false)
mode_back w m e = multiply (bytes_eq w (codes "multiply")) refl e
  where
    named : (n : Blend) (t : List ℕ) → bytes_eq w t ≡ true → t ≡ mode_word n → is_normal n ≡ false → Some n ≡ Some m → (w ≡ mode_word m) × (is_normal m ≡ false)
    named n t f g p h = let same : n ≡ m = cc in (bytes_same w t f ∙ g ∙ ap mode_word same, sym (ap is_normal same) ∙ p)

    lighten : (t : Bool) → bytes_eq w (codes "lighten") ≡ t → cond t (Some Lighten) None ≡ Some m → (w ≡ mode_word m) × (is_normal m ≡ false)
    lighten true f g = named Lighten (codes "lighten") f refl refl g
    lighten false f g = absurd cc

    darken : (t : Bool) → bytes_eq w (codes "darken") ≡ t → cond t (Some Darken) (cond (bytes_eq w (codes "lighten")) (Some Lighten) None) ≡ Some m → (w ≡ mode_word m) × (is_normal m ≡ false)
    darken true f g = named Darken (codes "darken") f refl refl g
    darken false f g = lighten (bytes_eq w (codes "lighten")) refl g

    screen : (t : Bool) → bytes_eq w (codes "screen") ≡ t → cond t (Some Screen) (cond (bytes_eq w (codes "darken")) (Some Darken) (cond (bytes_eq w (codes "lighten")) (Some Lighten) None)) ≡ Some m → (w ≡ mode_word m) × (is_normal m ≡ false)
    screen true f g = named Screen (codes "screen") f refl refl g
    screen false f g = darken (bytes_eq w (codes "darken")) refl g

    multiply : (t : Bool) → bytes_eq w (codes "multiply") ≡ t
        → cond t (Some Multiply) (cond (bytes_eq w (codes "screen")) (Some Screen) (cond (bytes_eq w (codes "darken")) (Some Darken) (cond (bytes_eq w (codes "lighten")) (Some Lighten) None))) ≡ Some m
        → (w ≡ mode_word m) × (is_normal m ≡ false)
    multiply true f g = named Multiply (codes "multiply") f refl refl g
    multiply false f g = screen (bytes_eq w (codes "screen")) refl g

mode_again : (m : Blend) → is_normal m ≡ false → mode_of (mode_word m) ≡ Some m
mode_again Normal h = absurd cc
mode_again Multiply h = refl
mode_again Screen h = refl
mode_again Darken h = refl
mode_again Lighten h = refl

mode_is_word : (m : Blend) → IsWord (mode_word m)
mode_is_word Normal = refl
mode_is_word Multiply = refl
mode_is_word Screen = refl
mode_is_word Darken = refl
mode_is_word Lighten = refl

pub mode_code : IsWordCode mode_of mode_word (λ m. is_normal m ≡ false)
mode_code = record { back = mode_back; again = mode_again; whole = λ m h. mode_is_word m }

-- a number is a word
pub number_word : (n : ℕ) → n < 2 ^ 64 → IsWord (decimal n)
number_word = decimal_word
