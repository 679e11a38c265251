use Rattle.std.proofs.Common.{◌≡◌, ℤ, pos, ◌+ℤ◌, ◌≤ℤ◌, ◌<ℤ◌, Bool, true, false, ◌||◌, if◌then◌else◌, List, [], ◌∷◌, IsTrue, arith, refl, ◌∙◌, ap}
use Rattle.std.specs.Prelude.{int_lt, int_le}
use Rattle.std.specs.Int.{int_max, int_min}
use Rattle.std.proofs.lemmas.Int.{ints, clamps}
use Rattle.rd_geom.specs.Areas.{in_span, in_spans}
use Rattle.rd_geom.specs.declared.span.Span.{Span}
use Rattle.rd_area.specs.Internal.Joining.{Joins, overlaps, row_meets, with_span, absorbing}
use Rattle.rd_area.specs.Rows.{IsRising}

-- a column of a row that is in the span
pub record SharesColumn (row : List Span) (span : Span) : Type 0 where
  pub x : ℤ
  pub first : IsTrue (in_spans row x)
  pub second : IsTrue (in_span span x)

-- spans that rise from a column on rise from an earlier one
pub rising_from : (low low' high : ℤ) (ss : List Span) → low ≤ℤ low' → IsRising low' high ss → IsRising low high ss
rising_from low low' high [] h r = r
rising_from low low' high (s ∷ ss) h r = (omega (arith, ints), r.1, r.2, r.3)

or_assoc : (a b c : Bool) → ((a || b) || c) ≡ (a || (b || c))
or_assoc true b c = refl
or_assoc false b c = refl

or_swap : (a b c : Bool) → (a || (b || c)) ≡ (b || (a || c))
or_swap true true c = refl
or_swap true false c = refl
or_swap false true c = refl
or_swap false false c = refl

left_or : (a b : Bool) → IsTrue a → IsTrue (a || b)
left_or a b h = grind arith

right_or : (a b : Bool) → IsTrue b → IsTrue (a || b)
right_or a b h = grind arith

left_true : (a b : Bool) → a ≡ true → (a || b) ≡ true
left_true a b h = grind arith

right_true : (a b : Bool) → b ≡ true → (a || b) ≡ true
right_true a b h = grind arith

no_truth : false ≡ true → ⊥
no_truth e = cc

same : {low : ℤ} → low ≤ℤ low
same {low} = omega (arith, ints)

not_after : (a b : ℤ) → int_lt a b ≡ false → b ≤ℤ a
not_after a b e = grind (arith, ints)

after : (a b : ℤ) → int_lt a b ≡ true → (a +ℤ pos 1) ≤ℤ b
after a b e = grind (arith, ints)

not_before : (a b : ℤ) → int_le a b ≡ true → a ≤ℤ b
not_before a b e = grind (arith, ints)

later : (a b : ℤ) → int_le a b ≡ false → (b +ℤ pos 1) ≤ℤ a
later a b e = grind (arith, ints)

in_first : (s t : Span) → overlaps s t ≡ true → IsTrue (in_span s (int_max s.x0 t.x0))
in_first s t o = grind (arith, ints, clamps)

in_second : (s t : Span) → overlaps s t ≡ true → IsTrue (in_span t (int_max s.x0 t.x0))
in_second s t o = grind (arith, ints, clamps)

common_column : (s t : Span) (x : ℤ) → in_span s x ≡ true → IsTrue (in_span t x) → overlaps s t ≡ true
common_column s t x i h = grind (arith, ints, clamps)

-- two spans that touch make one
pub one_span : (s t : Span) (x : ℤ) → s.x0 <ℤ s.x1 → t.x0 <ℤ t.x1 → t.x0 ≤ℤ s.x1 → s.x0 ≤ℤ t.x1
    → in_span (record { x0 = int_min s.x0 t.x0; x1 = int_max s.x1 t.x1 }) x ≡ (in_span s x || in_span t x)
one_span s t x hs ht a b = grind (arith, ints, clamps)

-- a span with one that it touches, and with all that this one reaches further
abbrev both : Span → Span → Span
both t s = record { x0 = int_min t.x0 s.x0; x1 = int_max t.x1 s.x1 }

-- what a span and the spans that it touches cover, where none of those begins before it
pub merged_pixels : (t : Span) (low high : ℤ) (ss : List Span) (x : ℤ) → t.x0 <ℤ t.x1 → t.x0 ≤ℤ low → IsRising low high ss
    → in_spans (absorbing t ss) x ≡ (in_span t x || in_spans ss x)
merged_pixels t low high [] x some from r = refl
merged_pixels t low high (s ∷ ss) x some from r =
    elim (int_lt t.x1 s.x0) as (λ b. int_lt t.x1 s.x0 ≡ b → in_spans (if b then t ∷ s ∷ ss else absorbing (both t s) ss) x
    ≡ (in_span t x || (in_span s x || in_spans ss x))) [
      | true ↦ λ e. refl
      | false ↦ λ e.
          let hs : s.x0 <ℤ s.x1 = r.1 in
          let touch : s.x0 ≤ℤ t.x1 = not_after t.x1 s.x0 e in
          let reach : t.x0 ≤ℤ s.x1 = omega (arith, ints, r.0) in
          let some' : (both t s).x0 <ℤ (both t s).x1 = omega (arith, ints, clamps) in
          let from' : (both t s).x0 ≤ℤ (s.x1 +ℤ pos 1) = omega (arith, ints, clamps) in
          merged_pixels (both t s) (s.x1 +ℤ pos 1) high ss x some' from' r.3
          ∙ (ap (λ v. v || in_spans ss x) (one_span t s x some hs touch reach) ∙ or_assoc (in_span t x) (in_span s x) (in_spans ss x))
    ] refl

-- the same where the first span may begin before it
first_merged : (t s : Span) (high : ℤ) (ss : List Span) (x : ℤ) → t.x0 <ℤ t.x1 → s.x0 <ℤ s.x1 → t.x0 ≤ℤ s.x1 → IsRising (s.x1 +ℤ pos 1) high ss
    → in_spans (absorbing t (s ∷ ss)) x ≡ (in_span t x || (in_span s x || in_spans ss x))
first_merged t s high ss x some hs reach r =
    elim (int_lt t.x1 s.x0) as (λ b. int_lt t.x1 s.x0 ≡ b → in_spans (if b then t ∷ s ∷ ss else absorbing (both t s) ss) x
    ≡ (in_span t x || (in_span s x || in_spans ss x))) [
      | true ↦ λ e. refl
      | false ↦ λ e.
          let touch : s.x0 ≤ℤ t.x1 = not_after t.x1 s.x0 e in
          let some' : (both t s).x0 <ℤ (both t s).x1 = omega (arith, ints, clamps) in
          let from' : (both t s).x0 ≤ℤ (s.x1 +ℤ pos 1) = omega (arith, ints, clamps) in
          merged_pixels (both t s) (s.x1 +ℤ pos 1) high ss x some' from' r
          ∙ (ap (λ v. v || in_spans ss x) (one_span t s x some hs touch reach) ∙ or_assoc (in_span t x) (in_span s x) (in_spans ss x))
    ] refl

pub joined_pixels : (t : Span) (low high : ℤ) (ss : List Span) (x : ℤ) → t.x0 <ℤ t.x1 → IsRising low high ss
    → in_spans (with_span t ss) x ≡ (in_span t x || in_spans ss x)
joined_pixels t low high [] x some r = refl
joined_pixels t low high (s ∷ ss) x some r =
    elim (int_le t.x0 s.x1) as (λ b. int_le t.x0 s.x1 ≡ b → in_spans (if b then absorbing t (s ∷ ss) else s ∷ with_span t ss) x
    ≡ (in_span t x || (in_span s x || in_spans ss x))) [
      | true ↦ λ e. first_merged t s high ss x some r.1 (not_before t.x0 s.x1 e) r.3
      | false ↦ λ e. ap (λ v. in_span s x || v) (joined_pixels t (s.x1 +ℤ pos 1) high ss x some r.3) ∙ or_swap (in_span s x) (in_span t x) (in_spans ss x)
    ] refl

pub merged_rising : (t : Span) (start low high : ℤ) (ss : List Span) → t.x0 <ℤ t.x1 → start ≤ℤ t.x0 → start ≤ℤ low → t.x1 ≤ℤ high → IsRising low high ss
    → IsRising start high (absorbing t ss)
merged_rising t start low high [] some from below to r = (from, some, to, tt)
merged_rising t start low high (s ∷ ss) some from below to r =
    elim (int_lt t.x1 s.x0) as (λ b. int_lt t.x1 s.x0 ≡ b → IsRising start high (if b then t ∷ s ∷ ss else absorbing (both t s) ss)) [
      | true ↦ λ e. (from, some, to, (after t.x1 s.x0 e, r.1, r.2, r.3))
      | false ↦ λ e.
          let hs : s.x0 <ℤ s.x1 = r.1 in
          let some' : (both t s).x0 <ℤ (both t s).x1 = omega (arith, ints, clamps) in
          let from' : start ≤ℤ (both t s).x0 = omega (arith, ints, clamps, r.0) in
          let below' : start ≤ℤ (s.x1 +ℤ pos 1) = omega (arith, ints, r.0) in
          let to' : (both t s).x1 ≤ℤ high = omega (arith, ints, clamps, r.2) in
          merged_rising (both t s) start (s.x1 +ℤ pos 1) high ss some' from' below' to' r.3
    ] refl

pub joined_rising : (t : Span) (low high : ℤ) (ss : List Span) → t.x0 <ℤ t.x1 → low ≤ℤ t.x0 → t.x1 ≤ℤ high → IsRising low high ss
    → IsRising low high (with_span t ss)
joined_rising t low high [] some from to r = (from, some, to, tt)
joined_rising t low high (s ∷ ss) some from to r =
    elim (int_le t.x0 s.x1) as (λ b. int_le t.x0 s.x1 ≡ b → IsRising low high (if b then absorbing t (s ∷ ss) else s ∷ with_span t ss)) [
      | true ↦ λ e. merged_rising t low low high (s ∷ ss) some from same to r
      | false ↦ λ e. (r.0, r.1, r.2, joined_rising t (s.x1 +ℤ pos 1) high ss some (later t.x0 s.x1 e) to r.3)
    ] refl

-- a span put where it belongs joins the row
pub joined_joins : (t : Span) (ss : List Span) → t.x0 <ℤ t.x1 → Joins ss (with_span t ss) t
joined_joins t ss some = record {
  pixels = λ low high r x. joined_pixels t low high ss x some r;
  rising = λ low high from to r. joined_rising t low high ss some from to r;
}

-- a row meets a span exactly where they have a common column
pub meets_shares : (ss : List Span) (t : Span) → row_meets ss t ≡ true → SharesColumn ss t
meets_shares [] t e = absurd (no_truth e)
meets_shares (s ∷ ss) t e =
    elim (overlaps s t) as (λ b. overlaps s t ≡ b → (b || row_meets ss t) ≡ true → SharesColumn (s ∷ ss) t) [
      | true ↦ λ o h. record { x = int_max s.x0 t.x0; first = left_or _ _ (in_first s t o); second = in_second s t o }
      | false ↦ λ o h. let m : SharesColumn ss t = meets_shares ss t h in record { x = m.x; first = right_or (in_span s m.x) _ m.first; second = m.second }
    ] refl e

pub shares_meets : (ss : List Span) (t : Span) (x : ℤ) → IsTrue (in_spans ss x) → IsTrue (in_span t x) → row_meets ss t ≡ true
shares_meets [] t x f g = absurd (grind arith)
shares_meets (s ∷ ss) t x f g =
    elim (in_span s x) as (λ b. in_span s x ≡ b → IsTrue (b || in_spans ss x) → (overlaps s t || row_meets ss t) ≡ true) [
      | true ↦ λ i h. left_true (overlaps s t) (row_meets ss t) (common_column s t x i g)
      | false ↦ λ i h. right_true (overlaps s t) (row_meets ss t) (shares_meets ss t x h g)
    ] refl f
