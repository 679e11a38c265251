-- A span of a list of pixels that is written over.
use Rattle.std.proofs.Common.{◌≡◌, ℕ, ◌+◌, ◌-◌, ◌*◌, ◌<◌, ◌≤◌, Bool, true, false, ◌&&◌, cond, nat_eq, nat_lt, nat_le, List, ◌++◌, take, drop, length, get_or, ◌⊎◌, inl, inr, Some, refl, ap, ◌∙◌, arith, length-append, length-take, length-drop}
use Rattle.std.proofs.lemmas.List.{append-nil, drop_all, get_or-take, get_or-drop, get_or_append_left, get_or-append_right, length-take-le}
use Rattle.std.proofs.lemmas.Bool.{cases_lt, cases_order, le-leb, lt-leb, lt-ltb, le-ltb, eq-eqb, ne_eqb}
use Rattle.std.proofs.Math.Nat.{mul-le-mul_right}
use Rattle.rd_geom.specs.Colors.{Premultiplied, clear}
use Rattle.rd_paint.specs.Pictures.{Picture, with_span}
use Rattle.rd_paint.specs.Lending.{HasSpan}

-- what a Vec has after such a write
pub over_at-refill : {X : Type 0} (xs ws : List X) (i n : ℕ) → i ≤ length xs → n ≡ length xs
    → (let all = take i xs ++ (ws ++ drop (length ws) (drop i xs)) in take n (all ++ drop (length all) xs)) ≡ take (length xs) (take i xs ++ (ws ++ drop (length ws) (drop i xs)))
over_at-refill xs ws i n h e =
    let all : List _ = take i xs ++ (ws ++ drop (length ws) (drop i xs)) in
    let long : length xs ≤ length all = simp (length-append, length-take, length-drop) (omega arith) in
    rw (drop_all (length all) xs long, append-nil all, e) refl

pub over_at-within : {X : Type 0} (xs ws : List X) (i j : ℕ) (d : X) → i + length ws ≤ length xs → j < length xs → i ≤ j → j < i + length ws
    → get_or (take (length xs) (take i xs ++ (ws ++ drop (length ws) (drop i xs)))) j d ≡ get_or ws (j - i) d
over_at-within xs ws i j d h l a b =
    get_or-take (length xs) (take i xs ++ (ws ++ drop (length ws) (drop i xs))) j d l
    ∙ get_or-append_right (take i xs) (ws ++ drop (length ws) (drop i xs)) i j d (length-take-le i xs (omega arith)) a
    ∙ get_or_append_left ws (drop (length ws) (drop i xs)) d (j - i) (omega arith)

pub over_at-below : {X : Type 0} (xs ws : List X) (i j : ℕ) (d : X) → i + length ws ≤ length xs → j < length xs → j < i
    → get_or (take (length xs) (take i xs ++ (ws ++ drop (length ws) (drop i xs)))) j d ≡ get_or xs j d
over_at-below xs ws i j d h l a =
    get_or-take (length xs) (take i xs ++ (ws ++ drop (length ws) (drop i xs))) j d l
    ∙ get_or_append_left (take i xs) (ws ++ drop (length ws) (drop i xs)) d j (let e = length-take-le i xs (omega arith) in omega (arith, e))
    ∙ get_or-take i xs j d a

pub over_at-above : {X : Type 0} (xs ws : List X) (i j : ℕ) (d : X) → i + length ws ≤ length xs → j < length xs → i + length ws ≤ j
    → get_or (take (length xs) (take i xs ++ (ws ++ drop (length ws) (drop i xs)))) j d ≡ get_or xs j d
over_at-above xs ws i j d h l a =
    get_or-take (length xs) (take i xs ++ (ws ++ drop (length ws) (drop i xs))) j d l
    ∙ get_or-append_right (take i xs) (ws ++ drop (length ws) (drop i xs)) i j d (length-take-le i xs (omega arith)) (omega arith)
    ∙ get_or-append_right ws (drop (length ws) (drop i xs)) (length ws) (j - i) d refl (omega arith)
    ∙ get_or-drop (length ws) (drop i xs) (j - i - length ws) d
    ∙ get_or-drop i xs (length ws + (j - i - length ws)) d
    ∙ ap (λ k. get_or xs k d) (omega arith)

-- the rows of a canvas lie one after the other
pub rows_apart : (w a b : ℕ) → a < b → a * w + w ≤ b * w
rows_apart w a b h = let m = mul-le-mul_right w (let k : a + 1 ≤ b = omega arith in k) in omega (arith, m)

-- the three tests of a place in a span
pub tests_in : (row y x0 x n : ℕ) → row ≡ y → x0 ≤ x → x < x0 + n → (nat_eq row y && nat_le x0 x && nat_lt x (x0 + n)) ≡ true
tests_in row y x0 x n e a b = rw (eq-eqb row y e, le-leb x0 x a, lt-ltb x (x0 + n) b) refl

pub tests_row : (row y x0 x n : ℕ) → (row ≡ y → ⊥) → (nat_eq row y && nat_le x0 x && nat_lt x (x0 + n)) ≡ false
tests_row row y x0 x n e = rw (ne_eqb row y e) refl

pub tests_left : (row y x0 x n : ℕ) → x < x0 → (nat_eq row y && nat_le x0 x && nat_lt x (x0 + n)) ≡ false
tests_left row y x0 x n e = rw (lt-leb x0 x e) (elim (nat_eq row y) as (λ b. (b && false && nat_lt x (x0 + n)) ≡ false) [ true ↦ refl | false ↦ refl ])

pub tests_right : (row y x0 x n : ℕ) → x0 + n ≤ x → (nat_eq row y && nat_le x0 x && nat_lt x (x0 + n)) ≡ false
tests_right row y x0 x n e = rw (le-ltb x (x0 + n) e) (last (nat_eq row y && nat_le x0 x))
  where
    last : (b : Bool) → (b && false) ≡ false
    last true = refl
    last false = refl

pub on_canvas : (w h n row x : ℕ) → n ≡ h * w → row < h → x < w → row * w + x < n
on_canvas w h n row x e a b = let m = rows_apart w row h a in omega (arith, e, m)

-- by the place of a pixel left of the span, in it or right of it, and in a row above, in its row or below
at_place : (xs ps : List Premultiplied) (w y x0 row x : ℕ) → y * w + x0 + length ps ≤ length xs → row * w + x < length xs → x < w → x0 + length ps ≤ w
    → (x < x0) ⊎ (x0 ≤ x) → (x < x0 + length ps) ⊎ (x0 + length ps ≤ x) → (row ≡ y) ⊎ ((row < y) ⊎ (y < row))
    → Some (get_or (take (length xs) (take (y * w + x0) xs ++ (ps ++ drop (length ps) (drop (y * w + x0) xs)))) (row * w + x) clear)
    ≡ cond (nat_eq row y && nat_le x0 x && nat_lt x (x0 + length ps)) (Some (get_or ps (x - x0) clear)) (Some (get_or xs (row * w + x) clear))
at_place xs ps w y x0 row x fits short a within p q (inr (inl r)) =
    let m = rows_apart w row y r in
    rw (tests_row row y x0 x (length ps) (λ e. omega (arith, e, r))) (ap Some (over_at-below xs ps (y * w + x0) (row * w + x) clear fits short (omega (arith, m))))
at_place xs ps w y x0 row x fits short a within p q (inr (inr r)) =
    let m = rows_apart w y row r in
    rw (tests_row row y x0 x (length ps) (λ e. omega (arith, e, r))) (ap Some (over_at-above xs ps (y * w + x0) (row * w + x) clear fits short (omega (arith, m))))
at_place xs ps w y x0 row x fits short a within (inl p) q (inl r) =
    let e : row * w ≡ y * w = ap (λ k. k * w) r in
    rw (tests_left row y x0 x (length ps) p) (ap Some (over_at-below xs ps (y * w + x0) (row * w + x) clear fits short (omega (arith, e))))
at_place xs ps w y x0 row x fits short a within (inr p) (inr q) (inl r) =
    let e : row * w ≡ y * w = ap (λ k. k * w) r in
    rw (tests_right row y x0 x (length ps) q) (ap Some (over_at-above xs ps (y * w + x0) (row * w + x) clear fits short (omega (arith, e))))
at_place xs ps w y x0 row x fits short a within (inr p) (inl q) (inl r) =
    let e : row * w ≡ y * w = ap (λ k. k * w) r in
    rw (tests_in row y x0 x (length ps) r p q)
    (ap Some (over_at-within xs ps (y * w + x0) (row * w + x) clear fits short (omega (arith, e)) (omega (arith, e)) ∙ ap (λ k. get_or ps k clear) (omega (arith, e))))

-- a canvas with a span written over differs in that span alone
pub spans_apart : (c : Picture) (y x0 : ℕ) (ps : List Premultiplied) → length c.pixels ≡ c.height * c.width → y < c.height → x0 + length ps ≤ c.width → HasSpan c y x0 ps (with_span c y x0 ps)
spans_apart c y x0 ps count on within =
    let fits : y * c.width + x0 + length ps ≤ length c.pixels = let m = rows_apart c.width y c.height on in omega (arith, count, m) in
    record {
      width = refl;
      height = refl;
      pixels = λ x row a b. rw (lt-ltb x c.width a, lt-ltb row c.height b) (at_place c.pixels ps c.width y x0 row x fits (on_canvas c.width c.height (length c.pixels) row x count b a) a within (cases_lt x x0) (cases_lt x (x0 + length ps)) (cases_order row y));
    }
