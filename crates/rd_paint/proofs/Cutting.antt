-- Spans cut to the columns of a rectangle, and its rows.
use Rattle.std.proofs.Common.{◌≡◌, ℕ, ℤ, pos, ◌+◌, ◌<◌, ◌+ℤ◌, ◌≤ℤ◌, ◌<ℤ◌, Bool, true, false, ◌&&◌, ◌||◌, nat_eq, nat_le, nat_lt, IsTrue, List, [], ◌∷◌, length, get_or, take, refl, sym, ap, ◌∙◌, inl, inr, arith}
use Rattle.std.specs.Prelude.{int_le, int_lt, ◌-ℤ◌}
use Rattle.std.specs.Int.{int_max, int_min}
use Rattle.std.proofs.lemmas.Bool.{cases_order, eq-eqb, ne_eqb, lt-ltb, le-ltb}
use Rattle.std.proofs.lemmas.Int.{ints, clamps}
use Rattle.rd_geom.specs.Areas.{Region, in_area, in_span, in_spans, meets_area, spans_at}
use Rattle.rd_geom.specs.Plane.{Rectangle, holds_pixel, right}
use Rattle.rd_geom.specs.declared.span.Span.{Span}
use Rattle.rd_geom.proofs.Pixels.{at_holds}
use Rattle.rd_paint.specs.Pictures.{Picture}
use Rattle.rd_paint.specs.Changed.{Fits, in_part}
use Rattle.rd_paint.specs.Internal.Bands.{in_row, in_rows}
use Rattle.rd_paint.proofs.Banding.{no_share}
use Rattle.rd_paint.proofs.SpanTests.{and_assoc, in_spans-more}

or_false : (a : Bool) → (a || false) ≡ a
or_false true = refl
or_false false = refl

from_left : (s p : ℤ) (x a : ℕ) → pos a ≡ int_max s p -ℤ p → nat_le a x ≡ int_le s (p +ℤ pos x)
from_left s p x a e = grind (arith, ints, clamps)

to_right : (s p w : ℤ) (x b : ℕ) → pos b ≡ int_min s (p +ℤ w) -ℤ p → pos x <ℤ w → nat_lt x b ≡ int_lt (p +ℤ pos x) s
to_right s p w x b e h = grind (arith, ints, clamps)

-- the columns of a span that a rectangle has, from its left on
pub cut_columns : (s : Span) (r : Rectangle) (x a b : ℕ) → pos a ≡ int_max s.x0 r.x -ℤ r.x → pos b ≡ int_min s.x1 (right r) -ℤ r.x → pos x <ℤ r.w
    → (nat_le a x && nat_lt x b) ≡ in_span s (r.x +ℤ pos x)
cut_columns s r x a b ea eb h =
    ap (λ t. t && nat_lt x b) (from_left s.x0 r.x x a ea) ∙ ap (λ t. int_le s.x0 (r.x +ℤ pos x) && t) (to_right s.x1 r.x r.w x b eb h)

pub cut_row : (s : Span) (r : Rectangle) (row x y a b : ℕ) → pos a ≡ int_max s.x0 r.x -ℤ r.x → pos b ≡ int_min s.x1 (right r) -ℤ r.x → pos x <ℤ r.w
    → (nat_eq y row && nat_le a x && nat_lt x b) ≡ in_row r (s ∷ []) row x y
cut_row s r row x y a b ea eb h =
    sym (and_assoc (nat_eq y row) (nat_le a x) (nat_lt x b))
    ∙ ap (λ t. nat_eq y row && t) (cut_columns s r x a b ea eb h ∙ sym (or_false (in_span s (r.x +ℤ pos x))))

-- a span beside the rectangle has none of its columns
pub cut_none : (s : Span) (r : Rectangle) (row x y : ℕ) → int_min s.x1 (right r) ≤ℤ int_max s.x0 r.x → pos x <ℤ r.w → in_row r (s ∷ []) row x y ≡ false
cut_none s r row x y h w = none (nat_eq y row) (in_span s (r.x +ℤ pos x)) (beside s r x h w)
  where
    beside : (s : Span) (r : Rectangle) (x : ℕ) → int_min s.x1 (right r) ≤ℤ int_max s.x0 r.x → pos x <ℤ r.w → in_span s (r.x +ℤ pos x) ≡ false
    beside s r x h w = grind (arith, ints, clamps)

    none : (a b : Bool) → b ≡ false → (a && (b || false)) ≡ false
    none true b e = or_false b ∙ e
    none false b e = refl

-- one span more
pub row_more : (ss : List Span) (i : ℕ) (s : Span) (r : Rectangle) (row x y : ℕ) → i < length ss → s ≡ get_or ss i s
    → in_row r (take (i + 1) ss) row x y ≡ (in_row r (take i ss) row x y || in_row r (s ∷ []) row x y)
row_more ss i s r row x y h e =
    ap (λ t. nat_eq y row && t) (in_spans-more ss i s (r.x +ℤ pos x) h e) ∙ apart (nat_eq y row) (in_spans (take i ss) (r.x +ℤ pos x)) (in_span s (r.x +ℤ pos x))
  where
    apart : (a b c : Bool) → (a && (b || c)) ≡ ((a && b) || (a && (c || false)))
    apart true b true = refl
    apart true b false = refl
    apart false b c = refl

-- no row
pub rows_none : (area : Region) (r : Rectangle) (x y : ℕ) → in_rows r area 0 x y ≡ false
rows_none area r x y = rw (le-ltb y 0 (omega arith)) refl

-- one row more
pub rows_more : (area : Region) (r : Rectangle) (n x y : ℕ) (spans : List Span) (yz : ℤ) → spans ≡ spans_at area.rows yz → yz ≡ (r.y +ℤ pos n)
    → in_rows r area (n + 1) x y ≡ (in_rows r area n x y || in_row r spans n x y)
rows_more area r n x y spans yz at z = elim (cases_order y n) [
  | inl s ↦
      rw (lt-ltb y (n + 1) (omega (arith, s)), le-ltb y n (omega (arith, s)), eq-eqb y n s)
      (ap (λ k. in_spans (spans_at area.rows (r.y +ℤ pos k)) (r.x +ℤ pos x)) s ∙ ap (λ ss. in_spans ss (r.x +ℤ pos x)) (sym (at ∙ ap (spans_at area.rows) z)))
  | inr (inl l) ↦
      rw (lt-ltb y (n + 1) (omega (arith, l)), lt-ltb y n l, ne_eqb y n (λ s. omega (arith, s, l)))
      (sym (or_false (in_area area (r.x +ℤ pos x) (r.y +ℤ pos y))))
  | inr (inr l) ↦ rw (le-ltb y (n + 1) (omega (arith, l)), le-ltb y n (omega (arith, l)), ne_eqb y n (λ s. omega (arith, s, l))) refl
]

-- all rows
pub rows_all : (area : Region) (r : Rectangle) (n x y : ℕ) → y < n → in_rows r area n x y ≡ in_part r area x y
rows_all area r n x y h = rw (lt-ltb y n h) refl

-- a pixel of a canvas that shows a rectangle lies in it
pub in_place : (r : Rectangle) (c : Picture) (x y : ℕ) → Fits r c → x < c.width → y < c.height → IsTrue (holds_pixel r (r.x +ℤ pos x) (r.y +ℤ pos y))
in_place r c x y f a b =
    let w = f.width in
    let h = f.height in
    at_holds r (r.x +ℤ pos x) (r.y +ℤ pos y) (record {
      left = omega (arith, ints);
      right = omega (arith, ints, a, w);
      top = omega (arith, ints);
      bottom = omega (arith, ints, b, h);
    })

-- of one without a pixel in the area none is in it
pub part_none : (area : Region) (r : Rectangle) (c : Picture) (x y : ℕ) → Fits r c → meets_area area r ≡ false → x < c.width → y < c.height → in_part r area x y ≡ false
part_none area r c x y f m a b = no_share area r (meets_area area r) (r.x +ℤ pos x) (r.y +ℤ pos y) refl m (in_place r c x y f a b)
