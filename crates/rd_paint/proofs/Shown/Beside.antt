-- Leaves beside a rectangle, and leaves alone in a group.
use Rattle.std.proofs.Common.{◌≡◌, ℕ, ℤ, pos, ◌+◌, ◌-◌, ◌<◌, ◌≤◌, Bool, true, false, ◌&&◌, cond, nat_lt, nat_le, refl, sym, ap, ◌∙◌, arith}
use Rattle.std.specs.Prelude.{int_le, int_lt}
use Rattle.std.proofs.lemmas.Bool.{leb-true, ltb-true}
use Rattle.rd_geom.specs.Areas.{in_span}
use Rattle.rd_geom.specs.Colors.{Premultiplied, clear, laid_over, scaled}
use Rattle.rd_geom.specs.declared.blend.Blend.TheVariants.{Normal}
use Rattle.rd_geom.specs.declared.span.Span.{Span}
use Rattle.rd_geom.proofs.Mixing.{nothing_blended}
use Rattle.rd_item.specs.declared.leaf.Leaf.{Leaf}
use Rattle.rd_item.specs.Leaves.{covers}
use Rattle.rd_list.specs.Wrappers.{Wrapper}
use Rattle.rd_list.specs.Entries.{Entries, nil, leaf}
use Rattle.rd_list.specs.Lists.{composed}
use Rattle.rd_paint.specs.Pictures.{Picture}
use Rattle.rd_paint.specs.declared.corner.Corner.{Corner}
use Rattle.rd_paint.specs.Internal.Rects.{IsRectChanged, group_over, over_leaf}
use Rattle.rd_paint.proofs.Changing.{rect_same, laid_nil}
use Rattle.rd_paint.proofs.Depths.{over_clear}
use Rattle.rd_paint.proofs.SpanTests.{and_left, and_right, span_test}

-- a rectangle that a leaf covers no pixel of
pub uncovered : (o : Corner) (q : Premultiplied) (l : Leaf) (s : Span) (y0 y1 a b : ℕ) (c : Picture) → s.x0 ≡ pos a → s.x1 ≡ pos b
    → ((k row : ℕ) → k < b - a → y0 ≤ row → row < y1 → covers l (pos (a + k)) (pos row) ≡ false) → IsRectChanged o (over_leaf q l) s y0 y1 c c
uncovered o q l s y0 y1 a b c ea eb none = rect_same o (λ x y p. p) (over_leaf q l) s y0 y1 c c (λ x row p t. off x row p (and_left (nat_le y0 row && nat_lt row y1) (in_span s (pos x)) t) (and_right (nat_le y0 row && nat_lt row y1) (in_span s (pos x)) t)) (laid_nil o nil s y0 y1 c refl)
  where
    off : (x row : ℕ) (p : Premultiplied) → (nat_le y0 row && nat_lt row y1) ≡ true → in_span s (pos x) ≡ true → p ≡ over_leaf q l x row p
    off x row p r i =
        let h : (nat_le a x && nat_lt x b) ≡ true = span_test a b x ∙ ap (λ z. int_le z (pos x) && int_lt (pos x) (pos b)) (sym ea) ∙ ap (λ z. int_le s.x0 (pos x) && int_lt (pos x) z) (sym eb) ∙ i in
        let u = leb-true a x (and_left (nat_le a x) (nat_lt x b) h) in
        let v = ltb-true x b (and_right (nat_le a x) (nat_lt x b) h) in
        let e : a + (x - a) ≡ x = omega (arith, u) in
        let n = none (x - a) row (omega (arith, u, v)) (leb-true y0 row (and_left (nat_le y0 row) (nat_lt row y1) r)) (ltb-true row y1 (and_right (nat_le y0 row) (nat_lt row y1) r)) in
        let m : covers l (pos x) (pos row) ≡ false = ap (λ k. covers l (pos k) (pos row)) (sym e) ∙ n in
        sym (ap (λ t. cond t (laid_over q p) p) m)

-- a leaf on its own in a group is its pixel with the opacity of the group
alone : (t : Bool) (q p : Premultiplied) (opacity : ℕ) → cond t (laid_over (scaled q opacity) p) p ≡ laid_over (scaled (cond t (laid_over q clear) clear) opacity) p
alone true q p opacity = ap (λ z. laid_over (scaled z opacity) p) (sym (over_clear q))
alone false q p opacity = sym (nothing_blended Normal opacity p)

-- such a leaf laid over a rectangle, where the group is of normal mode
pub leaf_alone : (o : Corner) (l : Leaf) (q z : Premultiplied) (opacity : ℕ) (es : Entries Wrapper Leaf) (s : Span) (y0 y1 : ℕ) (old new : Picture) → es ≡ leaf l nil → q ≡ scaled z opacity
    → ((x y : ℤ) (d : Premultiplied) → composed x y d (leaf l nil) ≡ cond (covers l x y) (laid_over z d) d)
    → IsRectChanged o (over_leaf q l) s y0 y1 old new → IsRectChanged o (group_over Normal opacity es) s y0 y1 old new
leaf_alone o l q z opacity es s y0 y1 old new e c own h =
    rect_same o (over_leaf q l) (group_over Normal opacity es) s y0 y1 old new
    (λ x row p t.
    ap (λ w. cond (covers l (pos x) (pos row)) (laid_over w p) p) c ∙ alone (covers l (pos x) (pos row)) z p opacity
    ∙ ap (λ w. laid_over (scaled w opacity) p) (sym (own (pos x) (pos row) clear) ∙ ap (composed (pos x) (pos row) clear) (sym e))) h
