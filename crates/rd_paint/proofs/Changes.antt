-- Changes of some pixels of a canvas, one after another.
use Rattle.std.proofs.Common.{◌≡◌, ℕ, pos, ◌+◌, ◌-◌, ◌<◌, ◌≤◌, Bool, true, false, ◌&&◌, ◌||◌, cond, nat_eq, nat_le, nat_lt, List, length, get_or, Some, refl, sym, ap, ◌∙◌, arith}
use Rattle.std.proofs.lemmas.Bool.{eqb-true, leb-true, ltb-true}
use Rattle.rd_geom.specs.Colors.{Premultiplied, clear}
use Rattle.rd_paint.specs.Lending.{HasSpan}
use Rattle.rd_paint.specs.Pictures.{Picture, pixel_at}
use Rattle.rd_paint.specs.Changed.{IsChanged}
use Rattle.rd_paint.proofs.SpanTests.{and_left, and_right, cond_same}

-- nothing has changed
pub unchanged : (f : ℕ → ℕ → Premultiplied) (test : ℕ → ℕ → Bool) (c : Picture)
    → ((x y : ℕ) → x < c.width → y < c.height → test x y ≡ false) → IsChanged f test c c
unchanged f test c h = record { width = refl; height = refl; pixels = λ x y a b. rw (h x y a b) refl }

-- one change after another
pub changed_then : (f : ℕ → ℕ → Premultiplied) (p q r : ℕ → ℕ → Bool) (old mid new : Picture)
    → ((x y : ℕ) → x < old.width → y < old.height → r x y ≡ (p x y || q x y))
    → IsChanged f p old mid → IsChanged f q mid new → IsChanged f r old new
changed_then f p q r old mid new h a b = record {
  width = b.width ∙ a.width;
  height = b.height ∙ a.height;
  pixels = λ x y u v.
      b.pixels x y (omega (arith, a.width)) (omega (arith, a.height))
      ∙ ap (λ o. cond (q x y) (Some (f x y)) o) (a.pixels x y u v)
      ∙ either (p x y) (q x y) (Some (f x y)) (pixel_at old (pos x) (pos y))
      ∙ ap (λ t. cond t (Some (f x y)) (pixel_at old (pos x) (pos y))) (sym (h x y u v));
}
  where
    either : {A : Type 0} (p q : Bool) (v o : A) → cond q v (cond p v o) ≡ cond (p || q) v o
    either true true v o = refl
    either true false v o = refl
    either false true v o = refl
    either false false v o = refl

-- the same change in other words
pub changed_as : (f g : ℕ → ℕ → Premultiplied) (p q : ℕ → ℕ → Bool) (old new : Picture)
    → ((x y : ℕ) → x < old.width → y < old.height → p x y ≡ q x y)
    → ((x y : ℕ) → x < old.width → y < old.height → q x y ≡ true → f x y ≡ g x y)
    → IsChanged f p old new → IsChanged g q old new
changed_as f g p q old new t e h = record {
  width = h.width;
  height = h.height;
  pixels = λ x y a b.
      h.pixels x y a b
      ∙ ap (λ b. cond b (Some (f x y)) (pixel_at old (pos x) (pos y))) (t x y a b)
      ∙ cond_same (q x y) (Some (f x y)) (Some (g x y)) (pixel_at old (pos x) (pos y)) (λ u. ap Some (e x y a b u));
}

-- a span of a row that is written over
pub span_changed : (f : ℕ → ℕ → Premultiplied) (test : ℕ → ℕ → Bool) (old new : Picture) (y a : ℕ) (ps : List Premultiplied)
    → HasSpan old y a ps new → ((k : ℕ) → k < length ps → get_or ps k clear ≡ f (a + k) y)
    → ((x row : ℕ) → x < old.width → row < old.height → (nat_eq row y && nat_le a x && nat_lt x (a + length ps)) ≡ test x row)
    → IsChanged f test old new
span_changed f test old new y a ps h px t = record {
  width = h.width;
  height = h.height;
  pixels = λ x row u v.
      h.pixels x row u v
      ∙ cond_same (nat_eq row y && nat_le a x && nat_lt x (a + length ps)) (Some (get_or ps (x - a) clear)) (Some (f x row)) (pixel_at old (pos x) (pos row)) (value x row)
      ∙ ap (λ b. cond b (Some (f x row)) (pixel_at old (pos x) (pos row))) (t x row u v);
}
  where
    value : (x row : ℕ) → (nat_eq row y && nat_le a x && nat_lt x (a + length ps)) ≡ true → Some (get_or ps (x - a) clear) ≡ Some (f x row)
    value x row b =
        let r : row ≡ y = eqb-true row y (and_left (nat_eq row y) (nat_le a x) (and_left (nat_eq row y && nat_le a x) (nat_lt x (a + length ps)) b)) in
        let l : a ≤ x = leb-true a x (and_right (nat_eq row y) (nat_le a x) (and_left (nat_eq row y && nat_le a x) (nat_lt x (a + length ps)) b)) in
        let s : x < a + length ps = ltb-true x (a + length ps) (and_right (nat_eq row y && nat_le a x) (nat_lt x (a + length ps)) b) in
        let e : a + (x - a) ≡ x = omega arith in
        ap Some (px (x - a) (omega arith) ∙ ap (λ n. f n y) e ∙ ap (f x) (sym r))
