-- Spans of a row that are painted on a canvas which shows a rectangle.
use Rattle.std.proofs.Common.{◌≡◌, ℕ, ℤ, pos, ◌+◌, ◌-◌, ◌<◌, ◌+ℤ◌, ◌≤ℤ◌, ◌<ℤ◌, ◌&&◌, nat_eq, nat_le, nat_lt, IsTrue, List, [], ◌∷◌, length, get_or, sym, ap, ◌∙◌, subst, FitsSigned, to_z, of_z, w32, arith}
use Rattle.std.specs.Prelude.{unsigned_abs, ◌-ℤ◌}
use Rattle.std.specs.Int.{int_max, int_min}
use Rattle.std.proofs.lemmas.Int.{ints, clamps}
use Rattle.rd_geom.specs.Canvas.{IsCanvas}
use Rattle.rd_geom.specs.Colors.{Premultiplied, clear, white}
use Rattle.rd_geom.specs.declared.rect.Size.{Size}
use Rattle.rd_geom.specs.Plane.{Rectangle, holds_pixel, right}
use Rattle.rd_geom.specs.declared.span.Span.{Span}
use Rattle.rd_item.specs.declared.leaf.Leaf.{Leaf}
use Rattle.rd_list.specs.Wrappers.{Wrapper}
use Rattle.rd_list.specs.Entries.{Entries}
use Rattle.rd_list.specs.Lists.{composed, pixel}
use Rattle.rd_paint.specs.Changed.{Fits, IsChanged, IsOn, ShowsFrom, list_at}
use Rattle.rd_paint.specs.Internal.Bands.{in_row}
use Rattle.rd_paint.specs.Lending.{HasSpan}
use Rattle.rd_paint.specs.Parts.{entries_from}
use Rattle.rd_paint.specs.Pictures.{Picture}
use Rattle.rd_paint.proofs.Casting.{diff_is}
use Rattle.rd_paint.proofs.Changes.{span_changed}
use Rattle.rd_paint.proofs.Cutting.{cut_row, in_place}

-- a span cut to a rectangle, whose pixels are those of the list
pub span_painted : (es : Entries Wrapper Leaf) (from : ℕ) (s : Span) (r : Rectangle) (row : ℕ) (ya xa xb x0 yb : ℤ) (ps : List Premultiplied) (old new : Picture)
    → HasSpan old (unsigned_abs ya) (unsigned_abs xa) ps new
    → ((k : ℕ) → k < length ps → get_or ps k clear ≡ composed (x0 +ℤ pos k) yb white (entries_from from es))
    → length ps ≡ unsigned_abs xb - unsigned_abs xa
    → ShowsFrom es from r → Fits r old → row < old.height
    → (u v p q t : ℤ) → ya ≡ pos row → xa ≡ (u -ℤ p) → xb ≡ (v -ℤ q) → x0 ≡ u → yb ≡ (t +ℤ pos row) → p ≡ r.x → q ≡ r.x → t ≡ r.y
    → u ≡ int_max s.x0 r.x → v ≡ int_min s.x1 (right r) → u <ℤ v
    → IsChanged (list_at es r) (in_row r (s ∷ []) row) old new
span_painted es from s r row ya xa xb x0 yb ps old new h px len shows fits on u v p q t ey exa exb exu eyt ep eq et mx mn lt =
    span_changed (list_at es r) (in_row r (s ∷ []) row) old new (unsigned_abs ya) (unsigned_abs xa) ps h value tests
  where
    low : r.x ≤ℤ u
    low = omega (arith, ints, clamps, mx)

    high : v ≤ℤ right r
    high = omega (arith, ints, clamps, mn)

    left : pos (unsigned_abs xa) ≡ (u -ℤ r.x)
    left = omega (arith, ints, exa, ep, low)

    end_at : pos (unsigned_abs xb) ≡ (v -ℤ r.x)
    end_at = omega (arith, ints, exb, eq, low, lt)

    ea : pos (unsigned_abs xa) ≡ (int_max s.x0 r.x -ℤ r.x)
    ea = left ∙ ap (λ z. z -ℤ r.x) mx

    eb : pos (unsigned_abs xb) ≡ (int_min s.x1 (right r) -ℤ r.x)
    eb = end_at ∙ ap (λ z. z -ℤ r.x) mn

    ex : x0 ≡ (r.x +ℤ pos (unsigned_abs xa))
    ex = omega (arith, ints, exu, left)

    ez : yb ≡ (r.y +ℤ pos row)
    ez = eyt ∙ ap (λ z. z +ℤ pos row) et

    order : unsigned_abs xa < unsigned_abs xb
    order = omega (arith, ints, left, end_at, lt)

    within : pos (unsigned_abs xb) ≤ℤ r.w
    within = omega (arith, ints, end_at, high)

    down : unsigned_abs ya ≡ row
    down = omega (arith, ints, ey)

    end : unsigned_abs xa + length ps ≡ unsigned_abs xb
    end = omega (arith, len, order)

    column : (k : ℕ) → (x0 +ℤ pos k) ≡ (r.x +ℤ pos (unsigned_abs xa + k))
    column k = omega (arith, ints, ex)

    line : yb ≡ (r.y +ℤ pos (unsigned_abs ya))
    line = ez ∙ ap (λ n. r.y +ℤ pos n) (sym down)

    inside : (k : ℕ) → k < length ps → IsTrue (holds_pixel r (x0 +ℤ pos k) yb)
    inside k l =
        let w = fits.width in
        subst (λ z. IsTrue (holds_pixel r z yb)) (sym (column k))
        (subst (λ z. IsTrue (holds_pixel r (r.x +ℤ pos (unsigned_abs xa + k)) z)) (sym ez) (in_place r old (unsigned_abs xa + k) row fits (omega (arith, ints, end, l, within, w)) on))

    value : (k : ℕ) → k < length ps → get_or ps k clear ≡ list_at es r (unsigned_abs xa + k) (unsigned_abs ya)
    value k l =
        px k l ∙ shows (x0 +ℤ pos k) yb (inside k l) ∙ ap (λ z. pixel es z yb) (column k) ∙ ap (λ z. pixel es (r.x +ℤ pos (unsigned_abs xa + k)) z) line

    tests : (x z : ℕ) → x < old.width → z < old.height → (nat_eq z (unsigned_abs ya) && nat_le (unsigned_abs xa) x && nat_lt x (unsigned_abs xa + length ps)) ≡ in_row r (s ∷ []) row x z
    tests x z p q =
        let w = fits.width in
        ap (λ n. nat_eq z n && nat_le (unsigned_abs xa) x && nat_lt x (unsigned_abs xa + length ps)) down
        ∙ ap (λ n. nat_eq z row && nat_le (unsigned_abs xa) x && nat_lt x n) end
        ∙ cut_row s r row x z (unsigned_abs xa) (unsigned_abs xb) ea eb (omega (arith, ints, w, p))

-- a span cut to a rectangle ends on the canvas
pub span_right : (s : Span) (r : Rectangle) (u v x0 p q : ℤ) (n : ℕ) (size : Size) → u ≡ int_max s.x0 r.x → v ≡ int_min s.x1 (right r) → u <ℤ v → p ≡ r.x → q ≡ r.x
    → FitsSigned w32 u → FitsSigned w32 v → FitsSigned w32 p → FitsSigned w32 q → IsOn size r → IsCanvas size
    → n ≡ unsigned_abs (to_z w32 (of_z w32 (to_z w32 (of_z w32 v) -ℤ to_z w32 (of_z w32 q)))) - unsigned_abs (to_z w32 (of_z w32 (to_z w32 (of_z w32 u) -ℤ to_z w32 (of_z w32 p))))
    → x0 ≡ u → (x0 +ℤ pos n) ≤ℤ size.w
span_right s r u v x0 p q n size mx mn lt ep eq fu fv fp fq o c len e = omega (arith, ints, e, last, inside)
  where
    low : r.x ≤ℤ u
    low = omega (arith, ints, clamps, mx)

    high : v ≤ℤ right r
    high = omega (arith, ints, clamps, mn)

    from_left : pos 0 ≤ℤ r.x
    from_left = o.left

    inside : v ≤ℤ size.w
    inside = let a = o.right in omega (arith, ints, high, a)

    few : v ≤ℤ pos 4096
    few = let a = c.wide in omega (arith, ints, inside, a)

    last : (u +ℤ pos n) ≤ℤ v
    last =
        let d = diff_is v q fv fq (omega (arith, ints, eq, low, lt)) (omega (arith, ints, eq, few, from_left)) in
        let b = diff_is u p fu fp (omega (arith, ints, ep, low)) (omega (arith, ints, ep, few, lt, from_left)) in
        let m : n ≡ unsigned_abs (v -ℤ q) - unsigned_abs (u -ℤ p) = len ∙ ap (λ z. unsigned_abs z - unsigned_abs (to_z w32 (of_z w32 (to_z w32 (of_z w32 u) -ℤ to_z w32 (of_z w32 p))))) d ∙ ap (λ z. unsigned_abs (v -ℤ q) - unsigned_abs z) b in
        omega (arith, ints, m, ep, eq, low, lt)
