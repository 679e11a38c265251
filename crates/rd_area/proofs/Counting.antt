use Rattle.std.proofs.Common.{◌≡◌, ℕ, zero, suc, ℤ, pos, ◌+◌, ◌+ℤ◌, ◌-ℤ◌, ◌≤ℤ◌, ◌<ℤ◌, ◌<◌, true, false, ◌||◌, if◌then◌else◌, List, [], ◌∷◌, take, get_or, length, arith, refl, ap}
use Rattle.std.specs.Int.{int_max, int_min}
use Rattle.std.proofs.lemmas.Int.{ints, clamps}
use Rattle.rd_geom.specs.Areas.{in_span, in_spans, columns_in}
use Rattle.rd_geom.specs.declared.span.Span.{Span}
use Rattle.rd_area.specs.Rows.{IsRising}

-- how many columns spans have that do not overlap
abbrev pub widths : List Span → ℤ
widths [] = pos 0
widths (s ∷ ss) = (s.x1 -ℤ s.x0) +ℤ widths ss

-- each span of a rising row
pub record IsSpan (low high : ℤ) (s : Span) : Type 0 where
  pub from : low ≤ℤ s.x0
  pub some : s.x0 <ℤ s.x1
  pub to : s.x1 ≤ℤ high

pub rising_at : (low high : ℤ) (ss : List Span) (i : ℕ) (d : Span) → i < length ss → IsRising low high ss → IsSpan low high (get_or ss i d)
rising_at low high [] i d h r = absurd (omega arith)
rising_at low high (s ∷ ss) zero d h r = record { from = r.0; some = r.1; to = r.2 }
rising_at low high (s ∷ ss) (suc i) d h r =
    let k : IsSpan (s.x1 +ℤ pos 1) high (get_or ss i d) = rising_at (s.x1 +ℤ pos 1) high ss i d (omega arith) r.3 in
    record { from = omega (arith, ints, k.from, r.0, r.1); some = k.some; to = k.to }

pub widths_more : (ss : List Span) (i : ℕ) (d : Span) → i < length ss → widths (take (suc i) ss)
    ≡ widths (take i ss) +ℤ ((get_or ss i d).x1 -ℤ (get_or ss i d).x0)
widths_more [] i d h = absurd (omega arith)
widths_more (s ∷ ss) zero d h = omega (arith, ints)
widths_more (s ∷ ss) (suc i) d h = let k = widths_more ss i d (omega arith) in omega (arith, ints, k)

pub widths_bound : (low high : ℤ) (ss : List Span) (i : ℕ) → low ≤ℤ (high +ℤ pos 1) → IsRising low high ss → (low +ℤ widths (take i ss)) ≤ℤ (high +ℤ pos 1)
widths_bound low high [] zero h r = omega (arith, ints)
widths_bound low high [] (suc i) h r = omega (arith, ints)
widths_bound low high (s ∷ ss) zero h r = omega (arith, ints)
widths_bound low high (s ∷ ss) (suc i) h r =
    let k = widths_bound (s.x1 +ℤ pos 1) high ss i (omega (arith, ints, r.2)) r.3 in
    omega (arith, ints, k, r.0, r.1)

none_in : (n : ℕ) → columns_in [] n ≡ 0
unfolding columns_in
none_in zero = refl
none_in (suc n) = omega (arith, none_in n)

not_in : (s : Span) (x : ℤ) → x <ℤ s.x0 → in_span s x ≡ false
not_in s x h = grind (arith, ints)

inside_from : (s : Span) (x : ℤ) → in_span s x ≡ true → s.x0 ≤ℤ x
inside_from s x e = grind (arith, ints)

inside_below : (s : Span) (x : ℤ) → in_span s x ≡ true → x <ℤ (s.x1 +ℤ pos 1)
inside_below s x e = grind (arith, ints)

inside_before : (s : Span) (x : ℤ) → in_span s x ≡ true → x <ℤ s.x1
inside_before s x e = grind (arith, ints)

outside_more : (s : Span) (n k : ℕ) → pos 0 ≤ℤ s.x0 → s.x0 <ℤ s.x1 → in_span s (pos n) ≡ false → pos k ≡ int_max (pos 0) (int_min (pos n) s.x1 -ℤ s.x0)
    → pos (0 + k) ≡ int_max (pos 0) (int_min (pos (suc n)) s.x1 -ℤ s.x0)
outside_more s n k from some e h = grind (arith, ints, clamps)

-- a row's spans are apart
apart : (low high : ℤ) (ss : List Span) (x : ℤ) → x <ℤ low → IsRising low high ss → in_spans ss x ≡ false
apart low high [] x h r = refl
apart low high (s ∷ ss) x h r =
    let a : in_span s x ≡ false = not_in s x (omega (arith, ints, r.0)) in
    let b : in_spans ss x ≡ false = apart (s.x1 +ℤ pos 1) high ss x (omega (arith, ints, r.0, r.1)) r.3 in
    rw (a, b) refl

one_more : (s : Span) (high : ℤ) (ss : List Span) (x : ℤ) → IsRising (s.x1 +ℤ pos 1) high ss
    → (if in_span s x || in_spans ss x then 1 else 0) ≡ (if in_span s x || false then 1 else 0) + (if in_spans ss x then 1 else 0)
one_more s high ss x r =
    elim (in_span s x) as (λ b. in_span s x ≡ b → (if b || in_spans ss x then 1 else 0) ≡ (if b || false then 1 else 0) + (if in_spans ss x then 1 else 0)) [
      | true ↦ λ e. let f : in_spans ss x ≡ false = apart (s.x1 +ℤ pos 1) high ss x (inside_below s x e) r in rw f refl
      | false ↦ λ e. omega arith
    ] refl

columns_more : (s : Span) (high : ℤ) (ss : List Span) (n : ℕ) → IsRising (s.x1 +ℤ pos 1) high ss → columns_in (s ∷ ss) n
    ≡ columns_in (s ∷ []) n + columns_in ss n
unfolding columns_in
columns_more s high ss zero r = refl
columns_more s high ss (suc n) r = let k = columns_more s high ss n r in let o = one_more s high ss (pos n) r in omega (arith, k, o)

one_span : (s : Span) (n : ℕ) → pos 0 ≤ℤ s.x0 → s.x0 <ℤ s.x1 → pos (columns_in (s ∷ []) n) ≡ int_max (pos 0) (int_min (pos n) s.x1 -ℤ s.x0)
unfolding columns_in
one_span s zero from some = omega (arith, ints, clamps)
one_span s (suc n) from some =
    let k = one_span s n from some in
    elim (in_span s (pos n)) as (λ b. in_span s (pos n) ≡ b → pos ((if b || false then 1 else 0) + columns_in (s ∷ []) n)
    ≡ int_max (pos 0) (int_min (pos (suc n)) s.x1 -ℤ s.x0)) [
      | true ↦ λ e. let a = inside_from s (pos n) e in let b = inside_before s (pos n) e in omega (arith, ints, clamps, k)
      | false ↦ λ e. outside_more s n (columns_in (s ∷ []) n) from some e k
    ] refl

pub columns_widths : (low : ℤ) (n : ℕ) (ss : List Span) → pos 0 ≤ℤ low → IsRising low (pos n) ss → pos (columns_in ss n) ≡ widths ss
columns_widths low n [] h r = ap (λ k. pos k) (none_in n)
columns_widths low n (s ∷ ss) h r =
    let a = columns_more s (pos n) ss n r.3 in
    let b = one_span s n (omega (arith, ints, r.0)) r.1 in
    let k = columns_widths (s.x1 +ℤ pos 1) n ss (omega (arith, ints, r.0, r.1)) r.3 in
    omega (arith, ints, clamps, a, b, k, r.0, r.1, r.2)

-- spans up to a column end before a later one too
pub rising_to : (low high high' : ℤ) (ss : List Span) → high ≤ℤ high' → IsRising low high ss → IsRising low high' ss
rising_to low high high' [] h r = r
rising_to low high high' (s ∷ ss) h r = (r.0, r.1, omega (arith, ints, r.2), rising_to (s.x1 +ℤ pos 1) high high' ss h r.3)
