-- The colours that eight digits spell.
use Rattle.std.proofs.Common.{◌≡◌, ℕ, ◌+◌, ◌-◌, ◌*◌, ◌/◌, ◌%◌, ◌<◌, ◌≤◌, Bool, true, false, cond, List, [], ◌∷◌, ◌++◌, Some, None, refl, sym, ap, subst, ◌∙◌, arith, inl, inr}
use Rattle.std.specs.Prelude.{◌&&◌, not, nat_le}
use Rattle.std.specs.Fmt.{digit_glyph}
use Rattle.std.proofs.lemmas.Bool.{ne_eqb, lt-ltb, le-ltb, leb-true, le-leb, lt-leb, and_parts, cases_lt}
use Rattle.rd_geom.specs.declared.color.Color.{Color}
use Rattle.rd_report.specs.Words.{color_text, hex}
use Rattle.rd_check.specs.Dumped.{IsBytes}
use Rattle.rd_check.specs.Internal.Reading.{◌>>=◌, is_gap, digit_of, hex_of, color_of}
use Rattle.rd_check.proofs.Readers.{bind_some, IsWord, IsWordCode}

glyph_low : (d : ℕ) → d < 10 → digit_glyph false d ≡ 48 + d
glyph_low d h = rw (lt-ltb d 10 h) refl

glyph_high : (d : ℕ) → 10 ≤ d → digit_glyph false d ≡ 87 + d
glyph_high d h = rw (le-ltb d 10 h) refl

digit_again : (d : ℕ) → d < 16 → digit_of (digit_glyph false d) ≡ Some d
digit_again d h = elim (cases_lt d 10) [
  | inl l ↦ ap digit_of (glyph_low d l)
      ∙ rw (le-leb 48 (48 + d) (omega arith), le-leb (48 + d) 57 (omega (arith, l))) (ap (λ n. Some n) (omega arith))
  | inr l ↦ ap digit_of (glyph_high d l)
      ∙ rw (le-leb 48 (87 + d) (omega arith), lt-leb (87 + d) 57 (omega (arith, l)), le-leb 97 (87 + d) (omega (arith, l)), le-leb (87 + d) 102 (omega (arith, h)))
      (ap (λ n. Some n) (omega arith))
]

digit_back : (c d : ℕ) → digit_of c ≡ Some d → (c ≡ digit_glyph false d) × (d < 16)
digit_back c d e = low (nat_le 48 c && nat_le c 57) refl e
  where
    high : (t : Bool) → (nat_le 97 c && nat_le c 102) ≡ t → cond t (Some (c - 87)) None ≡ Some d → (c ≡ digit_glyph false d) × (d < 16)
    high true f g =
        let p = and_parts (nat_le 97 c) (nat_le c 102) f in
        let a = leb-true 97 c p.0 in
        let b = leb-true c 102 p.1 in
        let same : c - 87 ≡ d = cc in
        (sym (glyph_high d (omega (arith, a, same)) ∙ omega (arith, a, same)), omega (arith, b, same))
    high false f g = absurd cc

    low : (t : Bool) → (nat_le 48 c && nat_le c 57) ≡ t → cond t (Some (c - 48)) (cond (nat_le 97 c && nat_le c 102) (Some (c - 87)) None) ≡ Some d → (c ≡ digit_glyph false d) × (d < 16)
    low true f g =
        let p = and_parts (nat_le 48 c) (nat_le c 57) f in
        let a = leb-true 48 c p.0 in
        let b = leb-true c 57 p.1 in
        let same : c - 48 ≡ d = cc in
        (sym (glyph_low d (omega (arith, b, same)) ∙ omega (arith, a, same)), omega (arith, b, same))
    low false f g = high (nat_le 97 c && nat_le c 102) refl g

hex_again : (n : ℕ) → n < 256 → hex_of (digit_glyph false (n / 16)) (digit_glyph false (n % 16)) ≡ Some n
hex_again n h =
    ap (λ r. r >>= λ x. digit_of (digit_glyph false (n % 16)) >>= λ y. Some (x * 16 + y)) (digit_again (n / 16) (omega (arith, h)))
    ∙ ap (λ r. r >>= λ y. Some (n / 16 * 16 + y)) (digit_again (n % 16) (omega arith))
    ∙ ap (λ m. Some m) (omega arith)

hex_back : (a b n : ℕ) → hex_of a b ≡ Some n → (a ≡ digit_glyph false (n / 16)) × (b ≡ digit_glyph false (n % 16)) × (n < 256)
hex_back a b n e =
    let x = bind_some (digit_of a) (λ x. digit_of b >>= λ y. Some (x * 16 + y)) n e in
    let y = bind_some (digit_of b) (λ y. Some (x.0 * 16 + y)) n x.2 in
    let p = digit_back a x.0 x.1 in
    let q = digit_back b y.0 y.1 in
    let p1 = p.1 in
    let q1 = q.1 in
    let same : x.0 * 16 + y.0 ≡ n = cc in (
      p.0 ∙ ap (digit_glyph false) (omega (arith, same, q1)),
      q.0 ∙ ap (digit_glyph false) (omega (arith, same, q1)),
      omega (arith, same, p1, q1),
    )

color_again : (c : Color) → IsBytes c → color_of (color_text c) ≡ Some c
unfolding color_text
color_again c h =
    ap (λ r. r >>= λ red. hex_of (digit_glyph false (c.g / 16)) (digit_glyph false (c.g % 16)) >>= λ green.
    hex_of (digit_glyph false (c.b / 16)) (digit_glyph false (c.b % 16)) >>= λ blue. hex_of (digit_glyph false (c.a / 16)) (digit_glyph false (c.a % 16)) >>= λ alpha.
    Some (record { r = red; g = green; b = blue; a = alpha })) (hex_again c.r h.red)
    ∙ ap (λ r. r >>= λ green. hex_of (digit_glyph false (c.b / 16)) (digit_glyph false (c.b % 16)) >>= λ blue. hex_of (digit_glyph false (c.a / 16)) (digit_glyph false (c.a % 16)) >>= λ alpha.
    Some (record { r = c.r; g = green; b = blue; a = alpha })) (hex_again c.g h.green)
    ∙ ap (λ r. r >>= λ blue. hex_of (digit_glyph false (c.a / 16)) (digit_glyph false (c.a % 16)) >>= λ alpha. Some (record { r = c.r; g = c.g; b = blue; a = alpha })) (hex_again c.b h.blue)
    ∙ ap (λ r. r >>= λ alpha. Some (record { r = c.r; g = c.g; b = c.b; a = alpha })) (hex_again c.a h.alpha)

eight : (a b c d e f g h i j k l m n o p : ℕ) → a ≡ i → b ≡ j → c ≡ k → d ≡ l → e ≡ m → f ≡ n → g ≡ o → h ≡ p
    → a ∷ b ∷ c ∷ d ∷ e ∷ f ∷ g ∷ h ∷ [] ≡ i ∷ j ∷ k ∷ l ∷ m ∷ n ∷ o ∷ p ∷ []
eight a b c d e f g h i j k l m n o p q r s t u v w x = cc

color_back : (w : List ℕ) (x : Color) → color_of w ≡ Some x → (w ≡ color_text x) × IsBytes x
unfolding color_text
color_back (a ∷ b ∷ c ∷ d ∷ e ∷ f ∷ g ∷ h ∷ []) x is =
    let r = bind_some (hex_of a b) (λ red. hex_of c d >>= λ green. hex_of e f >>= λ blue. hex_of g h >>= λ alpha. Some (record { r = red; g = green; b = blue; a = alpha })) x is in
    let s = bind_some (hex_of c d) (λ green. hex_of e f >>= λ blue. hex_of g h >>= λ alpha. Some (record { r = r.0; g = green; b = blue; a = alpha })) x r.2 in
    let t = bind_some (hex_of e f) (λ blue. hex_of g h >>= λ alpha. Some (record { r = r.0; g = s.0; b = blue; a = alpha })) x s.2 in
    let u = bind_some (hex_of g h) (λ alpha. Some (record { r = r.0; g = s.0; b = t.0; a = alpha })) x t.2 in
    let p = hex_back a b r.0 r.1 in
    let q = hex_back c d s.0 s.1 in
    let m = hex_back e f t.0 t.1 in
    let n = hex_back g h u.0 u.1 in
    let made : Color = record { r = r.0; g = s.0; b = t.0; a = u.0 } in
    let same : made ≡ x = cc in
    subst (λ (y : Color). (a ∷ b ∷ c ∷ d ∷ e ∷ f ∷ g ∷ h ∷ [] ≡ hex y.r ++ hex y.g ++ hex y.b ++ hex y.a) × IsBytes y) same
    (eight a b c d e f g h _ _ _ _ _ _ _ _ p.0 p.1 q.0 q.1 m.0 m.1 n.0 n.1, record { red = p.2; green = q.2; blue = m.2; alpha = n.2 })
color_back _ x is = absurd cc

glyph_no_gap : (d : ℕ) → d < 16 → not (is_gap (digit_glyph false d)) ≡ true
glyph_no_gap d h = elim (cases_lt d 10) [
  | inl l ↦ ap (λ b. not (is_gap b)) (glyph_low d l) ∙ rw (ne_eqb (48 + d) 32 (λ e. omega (arith, e)), ne_eqb (48 + d) 10 (λ e. omega (arith, e))) refl
  | inr l ↦ ap (λ b. not (is_gap b)) (glyph_high d l) ∙ rw (ne_eqb (87 + d) 32 (λ e. omega (arith, e)), ne_eqb (87 + d) 10 (λ e. omega (arith, e))) refl
]

color_word : (c : Color) → IsBytes c → IsWord (color_text c)
unfolding color_text
color_word c h =
    rw (
      glyph_no_gap (c.r / 16) (omega (arith, h.red)),
      glyph_no_gap (c.r % 16) (omega arith),
      glyph_no_gap (c.g / 16) (omega (arith, h.green)),
      glyph_no_gap (c.g % 16) (omega arith),
      glyph_no_gap (c.b / 16) (omega (arith, h.blue)),
      glyph_no_gap (c.b % 16) (omega arith),
      glyph_no_gap (c.a / 16) (omega (arith, h.alpha)),
      glyph_no_gap (c.a % 16) (omega arith),
    ) refl

pub color_code : IsWordCode color_of color_text IsBytes
color_code = record { back = color_back; again = color_again; whole = color_word }
