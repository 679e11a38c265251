-- Tests of pixels, and spans of a row.
use Rattle.std.proofs.Common.{◌≡◌, ℕ, zero, suc, ℤ, pos, ◌+◌, ◌<◌, Bool, true, false, ◌&&◌, ◌||◌, cond, nat_lt, nat_le, List, [], ◌∷◌, take, length, get_or, refl, sym, ap, ◌∙◌, arith, add-one}
use Rattle.std.specs.Prelude.{int_le, int_lt}
use Rattle.std.proofs.lemmas.Int.{ints}
use Rattle.rd_geom.specs.Areas.{in_span, in_spans}
use Rattle.rd_geom.specs.declared.span.Span.{Span}

pub cond_same : {A : Type 0} (b : Bool) (p q r : A) → (b ≡ true → p ≡ q) → cond b p r ≡ cond b q r
cond_same true p q r h = h refl
cond_same false p q r h = refl

pub and_assoc : (a b c : Bool) → (a && (b && c)) ≡ ((a && b) && c)
and_assoc true b c = refl
and_assoc false b c = refl

or_false : (a : Bool) → (a || false) ≡ a
or_false true = refl
or_false false = refl

pub and_left : (a b : Bool) → (a && b) ≡ true → a ≡ true
and_left true b h = refl
and_left false b h = h

pub and_right : (a b : Bool) → (a && b) ≡ true → b ≡ true
and_right true b h = h
and_right false b h = cc

pub span_test : (a b x : ℕ) → (nat_le a x && nat_lt x b) ≡ (int_le (pos a) (pos x) && int_lt (pos x) (pos b))
span_test a b x = grind (arith, ints)

-- one span more of a row
pub in_spans-more : (ss : List Span) (i : ℕ) (s : Span) (x : ℤ) → i < length ss → s ≡ get_or ss i s → in_spans (take (i + 1) ss) x ≡ (in_spans (take i ss) x || in_span s x)
in_spans-more ss i s x h e = rw add-one (go ss i s x h e)
  where
    go : (ss : List Span) (i : ℕ) (s : Span) (x : ℤ) → i < length ss → s ≡ get_or ss i s → in_spans (take (suc i) ss) x ≡ (in_spans (take i ss) x || in_span s x)
    go [] i s x h e = absurd (omega arith)
    go (t ∷ ss) zero s x h e = or_false (in_span t x) ∙ ap (λ u. in_span u x) (sym e)
    go (t ∷ ss) (suc i) s x h e = ap (λ b. in_span t x || b) (go ss i s x (omega arith) e) ∙ or_assoc (in_span t x) (in_spans (take i ss) x) (in_span s x)
      where
        or_assoc : (a b c : Bool) → (a || (b || c)) ≡ ((a || b) || c)
        or_assoc true b c = refl
        or_assoc false b c = refl
