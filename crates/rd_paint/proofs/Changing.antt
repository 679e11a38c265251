-- Rectangles of pixels that change, a row or a list after another.
use Rattle.std.proofs.Common.{◌≡◌, ℕ, suc, ℤ, pos, ◌+◌, ◌-◌, ◌*◌, ◌+ℤ◌, ◌<◌, ◌≤◌, ◌≤ℤ◌, ◌<ℤ◌, Bool, true, false, not, ◌&&◌, ◌||◌, ◌⊎◌, inl, inr, cond, nat_eq, nat_lt, nat_le, List, [], ◌∷◌, take, drop, length, get_or, replicate, Option, Some, None, refl, sym, ap, ◌∙◌, arith}
use Rattle.std.specs.Prelude.{int_le, int_lt}
use Rattle.std.specs.Int.{int_max, int_min}
use Rattle.std.proofs.lemmas.Int.{ints, clamps}
use Rattle.std.proofs.lemmas.List.{get_or-take, get_or-drop}
use Rattle.std.proofs.lemmas.Bool.{cases_lt, le-leb, lt-leb, lt-ltb, le-ltb, eqb-true, leb-true, ltb-true}
use Rattle.rd_geom.specs.Areas.{Region, in_area, in_span, in_spans, spans_at}
use Rattle.rd_geom.specs.Colors.{Premultiplied, clear, white, laid_over}
use Rattle.rd_geom.specs.Plane.{IsWithin, holds_pixel, is_among, right, bottom}
use Rattle.rd_geom.specs.declared.span.Span.{Span}
use Rattle.rd_item.specs.declared.leaf.Leaf.{Leaf}
use Rattle.rd_list.specs.Wrappers.{Wrapper}
use Rattle.rd_list.specs.Entries.{Entries, nil, ◌▷◌}
use Rattle.rd_list.specs.Lists.{composed, pixel}
use Rattle.rd_list.proofs.Composing.{composed-join}
use Rattle.rd_paint.specs.Pictures.{Picture, pixel_at, span_of}
use Rattle.rd_paint.specs.declared.corner.Corner.{Corner}
use Rattle.rd_paint.specs.Lending.{HasSpan}
use Rattle.rd_paint.specs.Internal.Bands.{IsBandPainted}
use Rattle.rd_paint.specs.Internal.Rects.{in_rect, on_canvas, IsRectChanged, IsRectLaid, IsRunPainted, over_around, over_leaf}
use Rattle.rd_paint.specs.Internal.Runs.{each_from, each_at}
use Rattle.rd_paint.proofs.Pieces.{seen_covers}
use Rattle.rd_paint.proofs.Places.{get_or-each_at, length-each_from}
use Rattle.rd_paint.proofs.SpanTests.{cond_same, and_assoc, and_left, and_right, span_test, in_spans-more}

abbrev pub Change : Type 0
Change = ℕ → ℕ → Premultiplied → Premultiplied

pub at_on : (c : Picture) (x row : ℕ) → x < c.width → row < c.height → pixel_at c (pos x) (pos row) ≡ Some (on_canvas c x row)
at_on c x row h k = rw (lt-ltb x c.width h, lt-ltb row c.height k) refl

value_of : Option Premultiplied → Premultiplied
value_of None = clear
value_of (Some p) = p

cond_some : (t : Bool) (p q : Premultiplied) → cond t (Some p) (Some q) ≡ Some (cond t p q)
cond_some true p q = refl
cond_some false p q = refl

-- what a pixel is once a span was written over
span_value : (old new : Picture) (y a : ℕ) (ps : List Premultiplied) (x row : ℕ) → HasSpan old y a ps new → x < old.width → row < old.height
    → on_canvas new x row ≡ cond (nat_eq row y && nat_le a x && nat_lt x (a + length ps)) (get_or ps (x - a) clear) (on_canvas old x row)
unfolding value_of
span_value old new y a ps x row h p q =
    let n = at_on new x row (omega (arith, h.width)) (omega (arith, h.height)) in
    let o = at_on old x row p q in
    ap value_of (sym n ∙ h.pixels x row p q ∙ ap (λ v. cond (nat_eq row y && nat_le a x && nat_lt x (a + length ps)) (Some (get_or ps (x - a) clear)) v) o
    ∙ cond_some (nat_eq row y && nat_le a x && nat_lt x (a + length ps)) (get_or ps (x - a) clear) (on_canvas old x row))

one_row : (row y : ℕ) → nat_eq row y ≡ (nat_le y row && nat_lt row (y + 1))
one_row row y = grind arith

-- a place in a span of a row, from the first pixel of the canvas on and from that of the list on
shifted : (l t a y n x row : ℕ) → l ≤ a → t ≤ y → (nat_eq row (y - t) && nat_le (a - l) x && nat_lt x (a - l + n)) ≡ (nat_eq (t + row) y && nat_le a (l + x) && nat_lt (l + x) (a + n))
shifted l t a y n x row h k =
    ap (λ b. b && nat_le (a - l) x && nat_lt x (a - l + n)) (in_row t y row k)
    ∙ ap (λ b. nat_eq (t + row) y && b && nat_lt x (a - l + n)) (from l a x h)
    ∙ ap (λ b. nat_eq (t + row) y && nat_le a (l + x) && b) (up_to l a n x h)
  where
    in_row : (t y row : ℕ) → t ≤ y → nat_eq row (y - t) ≡ nat_eq (t + row) y
    in_row t y row k = grind arith

    from : (l a x : ℕ) → l ≤ a → nat_le (a - l) x ≡ nat_le a (l + x)
    from l a x h = grind arith

    up_to : (l a n x : ℕ) → l ≤ a → nat_lt x (a - l + n) ≡ nat_lt (l + x) (a + n)
    up_to l a n x h = grind arith

-- a row of a rectangle
pub row_changed : (o : Corner) (f : Change) (s : Span) (y a b : ℕ) (ps : List Premultiplied) (old new : Picture) → s.x0 ≡ pos a → s.x1 ≡ pos b → o.left ≤ a → a ≤ b → o.top ≤ y → length ps ≡ b - a
    → ((k : ℕ) → k < length ps → get_or ps k clear ≡ f (a + k) y (on_canvas old (a - o.left + k) (y - o.top))) → HasSpan old (y - o.top) (a - o.left) ps new → IsRectChanged o f s y (y + 1) old new
row_changed o f s y a b ps old new ea eb left order top len px h = record { width = h.width; height = h.height; pixels = at }
  where
    wide : a + length ps ≡ b
    wide = omega (arith, len)

    in_list : (x row : ℕ) → (nat_eq row y && nat_le a x && nat_lt x (a + length ps)) ≡ in_rect s y (y + 1) x row
    in_list x row =
        sym (and_assoc (nat_eq row y) (nat_le a x) (nat_lt x (a + length ps)))
        ∙ ap (λ t. nat_eq row y && t) (ap (λ n. nat_le a x && nat_lt x n) wide ∙ span_test a b x ∙ ap (λ z. int_le z (pos x) && int_lt (pos x) (pos b)) (sym ea) ∙ ap (λ z. int_le s.x0 (pos x) && int_lt (pos x) z) (sym eb))
        ∙ ap (λ t. t && in_span s (pos x)) (one_row row y)

    test : (x row : ℕ) → (nat_eq row (y - o.top) && nat_le (a - o.left) x && nat_lt x (a - o.left + length ps)) ≡ in_rect s y (y + 1) (o.left + x) (o.top + row)
    test x row = shifted o.left o.top a y (length ps) x row left top ∙ in_list (o.left + x) (o.top + row)

    value : (x row : ℕ) → (nat_eq row (y - o.top) && nat_le (a - o.left) x && nat_lt x (a - o.left + length ps)) ≡ true → get_or ps (x - (a - o.left)) clear ≡ f (o.left + x) (o.top + row) (on_canvas old x row)
    value x row t =
        let r : row ≡ y - o.top = eqb-true row (y - o.top) (and_left (nat_eq row (y - o.top)) (nat_le (a - o.left) x) (and_left (nat_eq row (y - o.top) && nat_le (a - o.left) x) (nat_lt x (a - o.left + length ps)) t)) in
        let l : a - o.left ≤ x = leb-true (a - o.left) x (and_right (nat_eq row (y - o.top)) (nat_le (a - o.left) x) (and_left (nat_eq row (y - o.top) && nat_le (a - o.left) x) (nat_lt x (a - o.left + length ps)) t)) in
        let u : x < a - o.left + length ps = ltb-true x (a - o.left + length ps) (and_right (nat_eq row (y - o.top) && nat_le (a - o.left) x) (nat_lt x (a - o.left + length ps)) t) in
        let k = x - (a - o.left) in
        let e : a + k ≡ o.left + x = omega (arith, left, l) in
        let e' : a - o.left + k ≡ x = omega (arith, l) in
        let ey : y ≡ o.top + row = omega (arith, top, r) in
        px k (omega (arith, l, u)) ∙ ap (λ n. f n y (on_canvas old (a - o.left + k) (y - o.top))) e ∙ ap (λ n. f (o.left + x) y (on_canvas old n (y - o.top))) e'
        ∙ ap (λ n. f (o.left + x) n (on_canvas old x (y - o.top))) ey ∙ ap (λ n. f (o.left + x) (o.top + row) (on_canvas old x n)) (sym r)

    at : (x row : ℕ) → x < old.width → row < old.height
        → on_canvas new x row ≡ cond (in_rect s y (y + 1) (o.left + x) (o.top + row)) (f (o.left + x) (o.top + row) (on_canvas old x row)) (on_canvas old x row)
    at x row p q =
        span_value old new (y - o.top) (a - o.left) ps x row h p q
        ∙ cond_same (nat_eq row (y - o.top) && nat_le (a - o.left) x && nat_lt x (a - o.left + length ps)) (get_or ps (x - (a - o.left)) clear) (f (o.left + x) (o.top + row) (on_canvas old x row)) (on_canvas old x row) (value x row)
        ∙ ap (λ t. cond t (f (o.left + x) (o.top + row) (on_canvas old x row)) (on_canvas old x row)) (test x row)

span_pixel : (c : Picture) (y a b k : ℕ) → k < b - a → get_or (span_of c y a b) k clear ≡ on_canvas c (a + k) y
span_pixel c y a b k h =
    get_or-take (b - a) (drop (y * c.width + a) c.pixels) k clear h ∙ get_or-drop (y * c.width + a) c.pixels k clear
    ∙ ap (λ n. get_or c.pixels n clear) (let e : y * c.width + a + k ≡ y * c.width + (a + k) = omega arith in e)

-- a row whose pixels were changed by their places
pub row_by : (o : Corner) (f : Change) (s : Span) (y a b : ℕ) (g : ℕ → Premultiplied → Premultiplied) (out ps : List Premultiplied) (old new : Picture) → s.x0 ≡ pos a → s.x1 ≡ pos b → o.left ≤ a → a ≤ b → o.top ≤ y
    → out ≡ span_of old (y - o.top) (a - o.left) (b - o.left) → length out ≡ b - a → ps ≡ each_at g out → ((k : ℕ) (p : Premultiplied) → k < b - a → g k p ≡ f (a + k) y p) → HasSpan old (y - o.top) (a - o.left) ps new
    → IsRectChanged o f s y (y + 1) old new
row_by o f s y a b g out ps old new ea eb left order top eo len ep same h =
    let long : length ps ≡ b - a = ap length ep ∙ length-each_from 0 g out ∙ len in
    row_changed o f s y a b ps old new ea eb left order top long
    (λ k l. ap (λ qs. get_or qs k clear) ep ∙ get_or-each_at g out k clear (omega (arith, l, long, len)) ∙ ap (λ qs. g k (get_or qs k clear)) eo ∙ ap (g k) (span_pixel old (y - o.top) (a - o.left) (b - o.left) k (omega (arith, l, long, left, order))) ∙ same k (on_canvas old (a - o.left + k) (y - o.top)) (omega (arith, l, long))) h

pub replicate_each : (q : Premultiplied) (i : ℕ) (ps : List Premultiplied) → replicate (length ps) q ≡ each_from i (λ k p. q) ps
replicate_each q i [] = refl
replicate_each q i (p ∷ ps) = ap (λ t. q ∷ t) (replicate_each q (suc i) ps)

-- no row yet, and rows after others
pub rect_off : (o : Corner) (f : Change) (s : Span) (y0 y1 : ℕ) (c : Picture) → (y1 ≤ y0) ⊎ (s.x1 ≤ℤ s.x0) → IsRectChanged o f s y0 y1 c c
rect_off o f s y0 y1 c h = record { width = refl; height = refl; pixels = λ x row p q. rw (off (o.left + x) (o.top + row) h) refl }
  where
    no_rows : (row : ℕ) → y1 ≤ y0 → (nat_le y0 row && nat_lt row y1) ≡ false
    no_rows row h = grind arith

    no_columns : (x : ℕ) → s.x1 ≤ℤ s.x0 → in_span s (pos x) ≡ false
    no_columns x h = grind (arith, ints)

    right_false : (b : Bool) → (b && false) ≡ false
    right_false true = refl
    right_false false = refl

    off : (x row : ℕ) → (y1 ≤ y0) ⊎ (s.x1 ≤ℤ s.x0) → in_rect s y0 y1 x row ≡ false
    off x row (inl h) = rw (no_rows row h) refl
    off x row (inr h) = rw (no_columns x h) (right_false (nat_le y0 row && nat_lt row y1))

pub rect_more : (o : Corner) (f : Change) (s : Span) (y0 y1 y2 : ℕ) (old mid new : Picture) → y0 ≤ y1 → y1 ≤ y2 → IsRectChanged o f s y0 y1 old mid → IsRectChanged o f s y1 y2 mid new → IsRectChanged o f s y0 y2 old new
rect_more o f s y0 y1 y2 old mid new h k a b = record {
  width = b.width ∙ a.width;
  height = b.height ∙ a.height;
  pixels = λ x row p q.
      b.pixels x row (omega (arith, a.width, p)) (omega (arith, a.height, q))
      ∙ ap (λ v. cond (in_rect s y1 y2 (o.left + x) (o.top + row)) (f (o.left + x) (o.top + row) v) v) (a.pixels x row p q)
      ∙ by_row (o.left + x) (o.top + row) (f (o.left + x) (o.top + row)) (on_canvas old x row) (cases_lt (o.top + row) y1);
}
  where
    by_row : (x row : ℕ) (g : Premultiplied → Premultiplied) (o : Premultiplied) → (row < y1) ⊎ (y1 ≤ row)
        → (let v = cond (in_rect s y0 y1 x row) (g o) o in cond (in_rect s y1 y2 x row) (g v) v) ≡ cond (in_rect s y0 y2 x row) (g o) o
    by_row x row g o (inl l) = rw (lt-ltb row y1 l, lt-leb y1 row l, lt-ltb row y2 (let m : row < y2 = omega arith in m)) refl
    by_row x row g o (inr l) = rw (le-ltb row y1 l, le-leb y1 row l, le-leb y0 row (let m : y0 ≤ row = omega arith in m)) refl

-- one change after another, and the same change
pub rect_then : (o : Corner) (f g : Change) (s : Span) (y0 y1 : ℕ) (old mid new : Picture) → IsRectChanged o f s y0 y1 old mid → IsRectChanged o g s y0 y1 mid new → IsRectChanged o (λ x y p. g x y (f x y p)) s y0 y1 old new
rect_then o f g s y0 y1 old mid new a b = record {
  width = b.width ∙ a.width;
  height = b.height ∙ a.height;
  pixels = λ x row p q.
      b.pixels x row (omega (arith, a.width, p)) (omega (arith, a.height, q))
      ∙ ap (λ v. cond (in_rect s y0 y1 (o.left + x) (o.top + row)) (g (o.left + x) (o.top + row) v) v) (a.pixels x row p q)
      ∙ both (in_rect s y0 y1 (o.left + x) (o.top + row)) (f (o.left + x) (o.top + row)) (g (o.left + x) (o.top + row)) (on_canvas old x row);
}
  where
    both : (t : Bool) (f g : Premultiplied → Premultiplied) (o : Premultiplied) → (let v = cond t (f o) o in cond t (g v) v) ≡ cond t (g (f o)) o
    both true f g o = refl
    both false f g o = refl

pub rect_same : (o : Corner) (f g : Change) (s : Span) (y0 y1 : ℕ) (old new : Picture) → ((x row : ℕ) (p : Premultiplied) → in_rect s y0 y1 x row ≡ true → f x row p ≡ g x row p) → IsRectChanged o f s y0 y1 old new → IsRectChanged o g s y0 y1 old new
rect_same o f g s y0 y1 old new e a = record {
  width = a.width;
  height = a.height;
  pixels = λ x row p q.
      a.pixels x row p q
      ∙ cond_same (in_rect s y0 y1 (o.left + x) (o.top + row)) (f (o.left + x) (o.top + row) (on_canvas old x row)) (g (o.left + x) (o.top + row) (on_canvas old x row)) (on_canvas old x row) (e (o.left + x) (o.top + row) (on_canvas old x row));
}

-- the columns of a span that are on the canvas
pub rect_cut : (o : Corner) (f : Change) (s part : Span) (y0 y1 : ℕ) (old new : Picture) → ((x : ℕ) → x < old.width → in_span part (pos (o.left + x)) ≡ in_span s (pos (o.left + x))) → IsRectChanged o f part y0 y1 old new → IsRectChanged o f s y0 y1 old new
rect_cut o f s part y0 y1 old new e a = record {
  width = a.width;
  height = a.height;
  pixels = λ x row p q.
      a.pixels x row p q
      ∙ ap (λ t. cond ((nat_le y0 (o.top + row) && nat_lt (o.top + row) y1) && t) (f (o.left + x) (o.top + row) (on_canvas old x row)) (on_canvas old x row)) (e x p);
}

abbrev cut_to : Span → Span → Span
cut_to s t = record { x0 = int_max s.x0 t.x0; x1 = int_min s.x1 t.x1 }

pub columns_cut : (o : Corner) (s part columns : Span) (n w : ℕ) → part ≡ record { x0 = int_max s.x0 columns.x0; x1 = int_min s.x1 columns.x1 } → columns ≡ record { x0 = pos o.left; x1 = pos (o.left + w) } → w ≡ n
    → (x : ℕ) → x < n → in_span part (pos (o.left + x)) ≡ in_span s (pos (o.left + x))
columns_cut o s part columns n w e ec ew x h =
    ap (λ (t : Span). in_span t (pos (o.left + x))) (e ∙ ap (cut_to s) ec ∙ ap (λ k. cut_to s (record { x0 = pos o.left; x1 = pos (o.left + k) })) ew) ∙ inside s.x0 s.x1 o.left n x h
  where
    inside : (u v : ℤ) (l n x : ℕ) → x < n → (int_le (int_max u (pos l)) (pos (l + x)) && int_lt (pos (l + x)) (int_min v (pos (l + n)))) ≡ (int_le u (pos (l + x)) && int_lt (pos (l + x)) v)
    inside u v l n x h = ap (λ t. t && int_lt (pos (l + x)) (int_min v (pos (l + n)))) (from u l x) ∙ ap (λ t. int_le u (pos (l + x)) && t) (up_to v l n x h)
      where
        from : (u : ℤ) (l x : ℕ) → int_le (int_max u (pos l)) (pos (l + x)) ≡ int_le u (pos (l + x))
        from u l x = grind (arith, ints, clamps)

        up_to : (v : ℤ) (l n x : ℕ) → x < n → int_lt (pos (l + x)) (int_min v (pos (l + n))) ≡ int_lt (pos (l + x)) v
        up_to v l n x h = grind (arith, ints, clamps)

-- one list laid after another
pub laid_then : (o : Corner) (one rest left : Entries Wrapper Leaf) (s : Span) (y0 y1 : ℕ) (old mid new : Picture) → left ≡ one ▷ rest → IsRectLaid o one s y0 y1 old mid → IsRectLaid o rest s y0 y1 mid new → IsRectLaid o left s y0 y1 old new
laid_then o one rest left s y0 y1 old mid new e a b =
    rect_same o (λ x y p. composed (pos x) (pos y) (composed (pos x) (pos y) p one) rest) (λ x y p. composed (pos x) (pos y) p left) s y0 y1 old new
    (λ x row p t. sym (ap (composed (pos x) (pos row) p) e ∙ composed-join (pos x) (pos row) p one rest))
    (rect_then o (λ x y p. composed (pos x) (pos y) p one) (λ x y p. composed (pos x) (pos y) p rest) s y0 y1 old mid new a b)

pub laid_as : (o : Corner) (es fs : Entries Wrapper Leaf) (s : Span) (y0 y1 : ℕ) (old new : Picture) → es ≡ fs → IsRectLaid o es s y0 y1 old new → IsRectLaid o fs s y0 y1 old new
laid_as o es fs s y0 y1 old new e a = rect_same o (λ x y p. composed (pos x) (pos y) p es) (λ x y p. composed (pos x) (pos y) p fs) s y0 y1 old new (λ x row p t. ap (composed (pos x) (pos row) p) e) a

pub laid_nil : (o : Corner) (es : Entries Wrapper Leaf) (s : Span) (y0 y1 : ℕ) (c : Picture) → es ≡ nil → IsRectLaid o es s y0 y1 c c
laid_nil o es s y0 y1 c e = record { width = refl; height = refl; pixels = λ x row p q. rw e (sym (same (in_rect s y0 y1 (o.left + x) (o.top + row)) (on_canvas c x row))) }
  where
    same : (t : Bool) (p : Premultiplied) → cond t p p ≡ p
    same true p = refl
    same false p = refl

-- the part of a span that has the columns of another
part_is : (s part c : Span) (a b l r : ℕ) → s.x0 ≡ pos a → s.x1 ≡ pos b → part.x0 ≡ pos (a + l) → part.x1 ≡ pos (a + r) → r ≤ b - a
    → ((k : ℕ) → k < b - a → in_span c (pos (a + k)) ≡ (nat_le l k && nat_lt k r)) → (x : ℕ) → in_span part (pos x) ≡ (in_span s (pos x) && in_span c (pos x))
part_is s part c a b l r ea eb el er h places x =
    at_part ∙ go (cases_lt x a) (cases_lt x b) ∙ sym (ap (λ t. t && in_span c (pos x)) at_whole)
  where
    at_part : in_span part (pos x) ≡ (nat_le (a + l) x && nat_lt x (a + r))
    at_part = ap (λ z. int_le z (pos x) && int_lt (pos x) part.x1) el ∙ ap (λ z. int_le (pos (a + l)) (pos x) && int_lt (pos x) z) er ∙ sym (span_test (a + l) (a + r) x)

    at_whole : in_span s (pos x) ≡ (nat_le a x && nat_lt x b)
    at_whole = ap (λ z. int_le z (pos x) && int_lt (pos x) s.x1) ea ∙ ap (λ z. int_le (pos a) (pos x) && int_lt (pos x) z) eb ∙ sym (span_test a b x)

    left_of : x < a → (nat_le (a + l) x && nat_lt x (a + r)) ≡ false
    left_of u = grind arith

    right_of : b ≤ x → a ≤ x → (nat_le (a + l) x && nat_lt x (a + r)) ≡ false
    right_of u v = grind arith

    shifted : a ≤ x → (nat_le (a + l) x && nat_lt x (a + r)) ≡ (nat_le l (x - a) && nat_lt (x - a) r)
    shifted u = grind arith

    go : (x < a) ⊎ (a ≤ x) → (x < b) ⊎ (b ≤ x) → (nat_le (a + l) x && nat_lt x (a + r)) ≡ ((nat_le a x && nat_lt x b) && in_span c (pos x))
    go (inl u) v = left_of u ∙ rw (lt-leb a x u) refl
    go (inr u) (inr v) = right_of v u ∙ rw (le-leb a x u, le-ltb x b v) refl
    go (inr u) (inl v) =
        let e : a + (x - a) ≡ x = omega arith in
        shifted u ∙ sym (places (x - a) (omega arith)) ∙ ap (λ n. in_span c (pos n)) e ∙ rw (le-leb a x u, lt-ltb x b v) refl

-- a leaf where it may be seen of a rectangle
pub leaf_laid : (o : Corner) (l : Leaf) (q : Premultiplied) (s part columns rows : Span) (y0 y1 a b left to top end : ℕ) (old new : Picture) → IsWithin l.visible l.shape.outer
    → s.x0 ≡ pos a → s.x1 ≡ pos b → part.x0 ≡ pos (a + left) → part.x1 ≡ pos (a + to) → to ≤ b - a → end ≤ y1 - y0
    → columns ≡ record { x0 = l.visible.x; x1 = right l.visible } → rows ≡ record { x0 = l.visible.y; x1 = bottom l.visible }
    → ((k : ℕ) → k < b - a → in_span columns (pos (a + k)) ≡ (nat_le left k && nat_lt k to))
    → ((k : ℕ) → k < y1 - y0 → in_span rows (pos (y0 + k)) ≡ (nat_le top k && nat_lt k end))
    → IsRectChanged o (over_around q l.shape.inner) part (y0 + top) (y0 + end) old new → IsRectChanged o (over_leaf q l) s y0 y1 old new
leaf_laid o l q s part columns rows y0 y1 a b left to top end old new w ea eb el er ht he ec ew across down h = record { width = h.width; height = h.height; pixels = λ x row p k. h.pixels x row p k ∙ seen (o.left + x) (o.top + row) (on_canvas old x row) }
  where
    run : (y0 y1 : ℕ) → Span
    run y0 y1 = record { x0 = pos y0; x1 = pos y1 }

    of_columns : (x : ℕ) → in_span part (pos x) ≡ (in_span s (pos x) && is_among l.visible.x l.visible.w (pos x))
    of_columns x = part_is s part columns a b left to ea eb el er ht across x ∙ ap (λ t. in_span s (pos x) && in_span t (pos x)) ec

    of_rows : (row : ℕ) → (nat_le (y0 + top) row && nat_lt row (y0 + end)) ≡ ((nat_le y0 row && nat_lt row y1) && is_among l.visible.y l.visible.h (pos row))
    of_rows row =
        span_test (y0 + top) (y0 + end) row
        ∙ part_is (record { x0 = pos y0; x1 = pos y1 }) (record { x0 = pos (y0 + top); x1 = pos (y0 + end) }) rows y0 y1 top end refl refl refl refl he down row
        ∙ ap (λ t. t && in_span rows (pos row)) (sym (span_test y0 y1 row)) ∙ ap (λ t. (nat_le y0 row && nat_lt row y1) && in_span t (pos row)) ew

    by_parts : (r v i u n : Bool) (f o : Premultiplied) → cond ((r && v) && (i && u)) (cond n f o) o ≡ cond (r && i) (cond ((u && v) && n) f o) o
    by_parts true true true true n f o = refl
    by_parts true true true false n f o = refl
    by_parts true true false u n f o = refl
    by_parts true false true true n f o = refl
    by_parts true false true false n f o = refl
    by_parts true false false u n f o = refl
    by_parts false v i u n f o = refl

    seen : (x row : ℕ) (v : Premultiplied) → cond (in_rect part (y0 + top) (y0 + end) x row) (over_around q l.shape.inner x row v) v ≡ cond (in_rect s y0 y1 x row) (over_leaf q l x row v) v
    seen x row v =
        ap (λ t. cond (t && in_span part (pos x)) (over_around q l.shape.inner x row v) v) (of_rows row)
        ∙ ap (λ t. cond (((nat_le y0 row && nat_lt row y1) && is_among l.visible.y l.visible.h (pos row)) && t) (over_around q l.shape.inner x row v) v) (of_columns x)
        ∙ by_parts (nat_le y0 row && nat_lt row y1) (is_among l.visible.y l.visible.h (pos row)) (in_span s (pos x)) (is_among l.visible.x l.visible.w (pos x)) (not (holds_pixel l.shape.inner (pos x) (pos row))) (laid_over q v) v
        ∙ ap (λ t. cond (in_rect s y0 y1 x row) (cond t (laid_over q v) v) v) (sym (seen_covers l (pos x) (pos row) w))

-- where a list was laid over what does not show
pub rect_hidden : (o : Corner) (rest whole : Entries Wrapper Leaf) (s : Span) (y0 y1 a b : ℕ) (old new : Picture) → s.x0 ≡ pos a → s.x1 ≡ pos b
    → ((k : ℕ) (y : ℤ) (d e : Premultiplied) → k < b - a → pos y0 ≤ℤ y → y <ℤ pos y1 → composed (pos a +ℤ pos k) y d rest ≡ composed (pos a +ℤ pos k) y e whole)
    → IsRectLaid o rest s y0 y1 old new → IsRectChanged o (λ x y p. pixel whole (pos x) (pos y)) s y0 y1 old new
rect_hidden o rest whole s y0 y1 a b old new ea eb hides h =
    rect_same o (λ x y p. composed (pos x) (pos y) p rest) (λ x y p. pixel whole (pos x) (pos y)) s y0 y1 old new
    (λ x row p t.
    let r = and_left (nat_le y0 row && nat_lt row y1) (in_span s (pos x)) t in
    let i = span_test a b x ∙ ap (λ z. int_le z (pos x) && int_lt (pos x) (pos b)) (sym ea) ∙ ap (λ z. int_le s.x0 (pos x) && int_lt (pos x) z) (sym eb) ∙ and_right (nat_le y0 row && nat_lt row y1) (in_span s (pos x)) t in
    let up : y0 ≤ row = leb-true y0 row (and_left (nat_le y0 row) (nat_lt row y1) r) in
    let down : row < y1 = ltb-true row y1 (and_right (nat_le y0 row) (nat_lt row y1) r) in
    let l : a ≤ x = leb-true a x (and_left (nat_le a x) (nat_lt x b) i) in
    let u : x < b = ltb-true x b (and_right (nat_le a x) (nat_lt x b) i) in
    let e : pos a +ℤ pos (x - a) ≡ pos x = omega (arith, ints) in
    ap (λ z. composed z (pos row) p rest) (sym e) ∙ hides (x - a) (pos row) p white (omega arith) (omega (arith, ints)) (omega (arith, ints)) ∙ ap (λ z. composed z (pos row) white whole) e) h

-- one span more of a run of rows
pub run_more : (o : Corner) (list : Entries Wrapper Leaf) (ss : List Span) (i : ℕ) (s : Span) (y0 y1 : ℕ) (old mid new : Picture) → i < length ss → s ≡ get_or ss i s
    → IsRunPainted o list (take i ss) y0 y1 old mid → IsRectChanged o (λ x y p. pixel list (pos x) (pos y)) s y0 y1 mid new → IsRunPainted o list (take (i + 1) ss) y0 y1 old new
run_more o list ss i s y0 y1 old mid new h e a b = record {
  width = b.width ∙ a.width;
  height = b.height ∙ a.height;
  pixels = λ x row p q.
      b.pixels x row (omega (arith, a.width, p)) (omega (arith, a.height, q))
      ∙ ap (λ v. cond (in_rect s y0 y1 (o.left + x) (o.top + row)) (pixel list (pos (o.left + x)) (pos (o.top + row))) v) (a.pixels x row p q)
      ∙ more (o.left + x) (o.top + row) (on_canvas old x row);
}
  where
    either : (r u v : Bool) (p o : Premultiplied) → cond (r && v) p (cond (r && u) p o) ≡ cond (r && (u || v)) p o
    either true true true p o = refl
    either true true false p o = refl
    either true false true p o = refl
    either true false false p o = refl
    either false u v p o = refl

    more : (x row : ℕ) (v : Premultiplied) → cond (in_rect s y0 y1 x row) (pixel list (pos x) (pos row)) (cond ((nat_le y0 row && nat_lt row y1) && in_spans (take i ss) (pos x)) (pixel list (pos x) (pos row)) v)
        ≡ cond ((nat_le y0 row && nat_lt row y1) && in_spans (take (i + 1) ss) (pos x)) (pixel list (pos x) (pos row)) v
    more x row v =
        either (nat_le y0 row && nat_lt row y1) (in_spans (take i ss) (pos x)) (in_span s (pos x)) (pixel list (pos x) (pos row)) v
        ∙ ap (λ t. cond ((nat_le y0 row && nat_lt row y1) && t) (pixel list (pos x) (pos row)) v) (sym (in_spans-more ss i s (pos x) h e))

-- a run of rows that have the same spans, below those of a band
pub band_more : (o : Corner) (list : Entries Wrapper Leaf) (area : Region) (ss : List Span) (y0 y z : ℕ) (old mid new : Picture) → y0 ≤ y → y ≤ z → ((row : ℕ) → y ≤ row → row < z → spans_at area.rows (pos row) ≡ ss)
    → IsBandPainted o list area y0 y old mid → IsRunPainted o list ss y z mid new → IsBandPainted o list area y0 z old new
band_more o list area ss y0 y z old mid new h k alike a b = record {
  width = b.width ∙ a.width;
  height = b.height ∙ a.height;
  pixels = λ x row p q.
      let p' : x < mid.width = omega (arith, a.width, p) in
      let q' : row < mid.height = omega (arith, a.height, q) in
      let x' = o.left + x in
      let row' = o.top + row in
      at_on new x row (omega (arith, b.width, p')) (omega (arith, b.height, q'))
      ∙ ap Some (b.pixels x row p' q')
      ∙ sym (cond_some (test x' row') (pixel list (pos x') (pos row')) (on_canvas mid x row))
      ∙ ap (λ v. cond (test x' row') (Some (pixel list (pos x') (pos row'))) v) (sym (at_on mid x row p' q') ∙ a.pixels x row p q)
      ∙ by_row x' row' (Some (pixel list (pos x') (pos row'))) (pixel_at old (pos x) (pos row)) (cases_lt row' y) (cases_lt row' z);
}
  where
    test : ℕ → ℕ → Bool
    test x row = (nat_le y row && nat_lt row z) && in_spans ss (pos x)

    by_row : (x row : ℕ) (p o : Option Premultiplied) → (row < y) ⊎ (y ≤ row) → (row < z) ⊎ (z ≤ row)
        → cond (test x row) p (cond (nat_le y0 row && nat_lt row y && in_area area (pos x) (pos row)) p o) ≡ cond (nat_le y0 row && nat_lt row z && in_area area (pos x) (pos row)) p o
    by_row x row p o (inl l) v = rw (lt-ltb row y l, lt-leb y row l, lt-ltb row z (let m : row < z = omega arith in m)) refl
    by_row x row p o (inr l) (inl m) =
        rw (le-ltb row y l, le-leb y row l, lt-ltb row z m, le-leb y0 row (let n : y0 ≤ row = omega arith in n))
        (ap (λ (qs : List Span). cond (in_spans qs (pos x)) p o) (sym (alike row l m)))
    by_row x row p o (inr l) (inr m) = rw (le-ltb row y l, le-leb y row l, le-ltb row z m, le-leb y0 row (let n : y0 ≤ row = omega arith in n)) refl
