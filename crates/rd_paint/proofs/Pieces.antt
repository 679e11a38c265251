-- Parts of a row.
use Rattle.std.proofs.Common.{◌≡◌, ℕ, ℤ, pos, ◌+◌, ◌-◌, ◌+ℤ◌, ◌<◌, ◌≤◌, ◌≤ℤ◌, Bool, true, false, not, ◌&&◌, ◌||◌, cond, nat_le, nat_lt, ◌⊎◌, inl, inr, zero, suc, List, [], ◌∷◌, ◌++◌, take, drop, length, get_or, replicate, refl, sym, ap, ◌∙◌, arith}
use Rattle.std.specs.Prelude.{int_le, int_lt, IsTrue}
use Rattle.std.proofs.lemmas.Int.{ints}
use Rattle.std.proofs.lemmas.List.{same_lists, length-take-le, length-append, length-drop, get_or-take, get_or-drop, get_or_append_left, get_or-append_right, length-replicate, take-replicate, drop-replicate}
use Rattle.std.proofs.lemmas.Bool.{cases_lt, le-leb, lt-leb, lt-ltb, le-ltb}
use Rattle.rd_geom.specs.Colors.{Premultiplied, laid_over, premultiplied, clear}
use Rattle.rd_geom.specs.Areas.{in_span}
use Rattle.rd_geom.specs.Plane.{Rectangle, IsPlaced, IsWithin, holds_pixel, is_among, right}
use Rattle.rd_geom.specs.declared.span.Span.{Span}
use Rattle.rd_geom.proofs.Products.{times_by_none}
use Rattle.rd_item.specs.declared.leaf.Leaf.{Leaf}
use Rattle.rd_item.specs.Leaves.{covers}
use Rattle.rd_list.specs.Entries.{nil, leaf}
use Rattle.rd_list.specs.Lists.{composed}
use Rattle.rd_paint.specs.Internal.Runs.{each_from, tinted, piece_laid, round_laid, holed_laid, laid_along, laid_around}
use Rattle.rd_paint.proofs.Depths.{over_clear}
use Rattle.rd_paint.proofs.Places.{each_from-none, each_from-same, each_from-each_from, get_or-each_at, length-each_from, each_at-same_within}

-- what a leaf covers of a row where it may not be seen
pub unseen : (o i v oy iy vy : Bool) → vy ≡ false → ((o && oy) && not (i && iy) && (v && vy)) ≡ false
unseen o i v oy iy vy h = rw h (last ((o && oy) && not (i && iy)) v)
  where
    last : (b v : Bool) → (b && (v && false)) ≡ false
    last true true = refl
    last true false = refl
    last false v = refl

pub outside : (a b x : ℤ) → a ≤ℤ b → not (int_le a x && int_lt x b) ≡ (int_lt x a || int_le b x)
outside a b x h = grind (arith, ints)

apart_sides : (a b x : ℤ) → a ≤ℤ b → (int_lt x a && int_le b x) ≡ false
apart_sides a b x h = grind (arith, ints)

and_true : (a : Bool) → (a && true) ≡ a
and_true true = refl
and_true false = refl

and_false : (a : Bool) → (a && false) ≡ false
and_false true = refl
and_false false = refl

pub unshown : (l : Leaf) (y : ℤ) → is_among l.visible.y l.visible.h y ≡ false → (x : ℤ) → covers l x y ≡ false
unshown l y h x = unseen (is_among l.shape.outer.x l.shape.outer.w x) (is_among l.shape.inner.x l.shape.inner.w x) (is_among l.visible.x l.visible.w x) (is_among l.shape.outer.y l.shape.outer.h y) (is_among l.shape.inner.y l.shape.inner.h y) (is_among l.visible.y l.visible.h y) h

-- a leaf covers what may be seen of it, but for its hole
pub seen_covers : (l : Leaf) (x y : ℤ) → IsWithin l.visible l.shape.outer → covers l x y ≡ (holds_pixel l.visible x y && not (holds_pixel l.shape.inner x y))
seen_covers l x y w = by_parts (holds_pixel l.shape.outer x y) (holds_pixel l.shape.inner x y) (holds_pixel l.visible x y) (w x y)
  where
    by_parts : (o i v : Bool) → (IsTrue v → IsTrue o) → (o && not i && v) ≡ (v && not i)
    by_parts true true true h = refl
    by_parts true true false h = refl
    by_parts true false true h = refl
    by_parts true false false h = refl
    by_parts false i true h = absurd (grind arith)
    by_parts false i false h = refl

-- the same in a row where it may be seen
pub shown_covers : (l : Leaf) (s : Span) (y : ℤ) → IsWithin l.visible l.shape.outer → is_among l.visible.y l.visible.h y ≡ true → s ≡ record { x0 = l.visible.x; x1 = right l.visible }
    → (x : ℤ) → (in_span s x && not (holds_pixel l.shape.inner x y)) ≡ covers l x y
shown_covers l s y w r e x =
    ap (λ t. in_span t x && not (holds_pixel l.shape.inner x y)) e
    ∙ sym (seen_covers l x y w ∙ ap (λ b. (is_among l.visible.x l.visible.w x && b) && not (holds_pixel l.shape.inner x y)) r ∙ ap (λ b. b && not (holds_pixel l.shape.inner x y)) (and_true (is_among l.visible.x l.visible.w x)))

-- an opaque pixel takes the place of what is below
pub opaque_over : (q p : Premultiplied) → q.a ≡ 255 → laid_over q p ≡ q
opaque_over q p h = grind (arith, times_by_none)

pub opaque_tinted : (q : Premultiplied) (ps : List Premultiplied) → q.a ≡ 255 → replicate (length ps) q ≡ tinted q ps
opaque_tinted q ps h = from 0 ps
  where
    from : (i : ℕ) (ps : List Premultiplied) → replicate (length ps) q ≡ each_from i (λ k p. laid_over q p) ps
    from i [] = refl
    from i (p ∷ ps) = rw (opaque_over q p h) (ap (λ t. q ∷ t) (from (suc i) ps))

-- the places from a up to b changed, and the others as they were
pub part_laid : (s : Span) (q : Premultiplied) (x : ℤ) (ps mid : List Premultiplied) (a b : ℕ) → a ≤ b → b ≤ length ps
    → ((k : ℕ) → k < length ps → in_span s (x +ℤ pos k) ≡ (nat_le a k && nat_lt k b)) → mid ≡ tinted q (take (b - a) (drop a ps))
    → take a ps ++ (mid ++ drop (b - a) (drop a ps)) ≡ piece_laid s q x ps
part_laid s q x ps mid a b h l t m = rw m (same_lists _ _ size at)
  where
    count : length (tinted q (take (b - a) (drop a ps))) ≡ b - a
    count = length-each_from 0 (λ k p. laid_over q p) (take (b - a) (drop a ps)) ∙ length-take-le (b - a) (drop a ps) (rw length-drop (omega arith))

    front : length (take a ps) ≡ a
    front = length-take-le a ps (omega arith)

    size : length (take a ps ++ (tinted q (take (b - a) (drop a ps)) ++ drop (b - a) (drop a ps))) ≡ length (piece_laid s q x ps)
    size =
        let n = length-each_from 0 (λ k p. cond (in_span s (x +ℤ pos k)) (laid_over q p) p) ps in
        let m1 = length-append (take a ps) (tinted q (take (b - a) (drop a ps)) ++ drop (b - a) (drop a ps)) in
        let m2 = length-append (tinted q (take (b - a) (drop a ps))) (drop (b - a) (drop a ps)) in
        let m3 = length-drop (b - a) (drop a ps) in
        let m4 = length-drop a ps in
        omega (arith, n, m1, m2, m3, m4, count, front)

    whole : (k : ℕ) (d : Premultiplied) → k < length ps → get_or (piece_laid s q x ps) k d ≡ cond (nat_le a k && nat_lt k b) (laid_over q (get_or ps k d)) (get_or ps k d)
    whole k d short = get_or-each_at (λ k p. cond (in_span s (x +ℤ pos k)) (laid_over q p) p) ps k d short ∙ ap (λ c. cond c (laid_over q (get_or ps k d)) (get_or ps k d)) (t k short)

    by_place : (k : ℕ) (d : Premultiplied) → k < length ps → (k < a) ⊎ (a ≤ k) → (k < b) ⊎ (b ≤ k)
        → get_or (take a ps ++ (tinted q (take (b - a) (drop a ps)) ++ drop (b - a) (drop a ps))) k d ≡ cond (nat_le a k && nat_lt k b) (laid_over q (get_or ps k d)) (get_or ps k d)
    by_place k d short (inl u) v =
        get_or_append_left (take a ps) (tinted q (take (b - a) (drop a ps)) ++ drop (b - a) (drop a ps)) d k (omega (arith, front))
        ∙ get_or-take a ps k d u ∙ rw (lt-leb a k u) refl
    by_place k d short (inr u) (inl v) =
        let e : a + (k - a) ≡ k = omega arith in
        get_or-append_right (take a ps) (tinted q (take (b - a) (drop a ps)) ++ drop (b - a) (drop a ps)) a k d front u
        ∙ get_or_append_left (tinted q (take (b - a) (drop a ps))) (drop (b - a) (drop a ps)) d (k - a) (omega (arith, count))
        ∙ get_or-each_at (λ k p. laid_over q p) (take (b - a) (drop a ps)) (k - a) d (let n = length-each_from 0 (λ k p. laid_over q p) (take (b - a) (drop a ps)) in omega (arith, count, n))
        ∙ ap (λ p. laid_over q p) (get_or-take (b - a) (drop a ps) (k - a) d (omega arith) ∙ get_or-drop a ps (k - a) d ∙ ap (λ n. get_or ps n d) e)
        ∙ rw (le-leb a k u, lt-ltb k b v) refl
    by_place k d short (inr u) (inr v) =
        let e : a + (b - a + (k - a - (b - a))) ≡ k = omega arith in
        get_or-append_right (take a ps) (tinted q (take (b - a) (drop a ps)) ++ drop (b - a) (drop a ps)) a k d front u
        ∙ get_or-append_right (tinted q (take (b - a) (drop a ps))) (drop (b - a) (drop a ps)) (b - a) (k - a) d count (omega arith)
        ∙ get_or-drop (b - a) (drop a ps) (k - a - (b - a)) d ∙ get_or-drop a ps (b - a + (k - a - (b - a))) d ∙ ap (λ n. get_or ps n d) e
        ∙ rw (le-leb a k u, le-ltb k b v) refl

    at : (k : ℕ) (d : Premultiplied) → k < length (take a ps ++ (tinted q (take (b - a) (drop a ps)) ++ drop (b - a) (drop a ps)))
        → get_or (take a ps ++ (tinted q (take (b - a) (drop a ps)) ++ drop (b - a) (drop a ps))) k d ≡ get_or (piece_laid s q x ps) k d
    at k d short =
        let n = length-each_from 0 (λ k p. cond (in_span s (x +ℤ pos k)) (laid_over q p) p) ps in
        let l : k < length ps = omega (arith, n, size) in
        by_place k d l (cases_lt k a) (cases_lt k b) ∙ sym (whole k d l)

clear_tinted : (q : Premultiplied) (i n : ℕ) → replicate n q ≡ each_from i (λ k p. laid_over q p) (replicate n clear)
clear_tinted q i zero = refl
clear_tinted q i (suc n) = ap (λ p. p ∷ replicate n q) (sym (over_clear q)) ∙ ap (λ t. laid_over q clear ∷ t) (clear_tinted q (suc i) n)

-- clear pixels, of which the places from a up to b changed
pub part_begun : (s : Span) (q : Premultiplied) (x : ℤ) (n a b i j k : ℕ) (before inside after : List Premultiplied) → a ≤ b → b ≤ n
    → ((k : ℕ) → k < n → in_span s (x +ℤ pos k) ≡ (nat_le a k && nat_lt k b)) → before ≡ replicate i clear → i ≡ a → inside ≡ replicate j q → j ≡ b - a → after ≡ replicate k clear → k ≡ n - b
    → before ++ (inside ++ after) ≡ piece_laid s q x (replicate n clear)
part_begun s q x n a b i j k before inside after h l t first i-is mid j-is last k-is =
    ap (λ xs. xs ++ (inside ++ after)) front ∙ ap (λ xs. take a (replicate n clear) ++ (inside ++ xs)) back
    ∙ part_laid s q x (replicate n clear) inside a b h (let m = length-replicate n clear in omega (arith, m, l)) (λ k u. t k (let m = length-replicate n clear in omega (arith, m, u))) middle
  where
    behind : drop a (replicate n clear) ≡ replicate (n - a) clear
    behind = drop-replicate a n clear

    front : before ≡ take a (replicate n clear)
    front = first ∙ ap (λ m. replicate m clear) i-is ∙ sym (take-replicate a n clear (omega (arith, h, l)))

    back : after ≡ drop (b - a) (drop a (replicate n clear))
    back =
        let e : k ≡ n - a - (b - a) = omega (arith, h, l, k-is) in
        last ∙ ap (λ m. replicate m clear) e ∙ sym (ap (drop (b - a)) behind ∙ drop-replicate (b - a) (n - a) clear)

    middle : inside ≡ tinted q (take (b - a) (drop a (replicate n clear)))
    middle =
        mid ∙ ap (λ m. replicate m q) j-is ∙ clear_tinted q 0 (b - a)
        ∙ ap (tinted q) (sym (ap (take (b - a)) behind ∙ take-replicate (b - a) (n - a) clear (omega (arith, h, l))))

-- a leaf in a row where it may not be seen
pub row_missed : (l : Leaf) (y x : ℤ) (ps : List Premultiplied) → is_among l.visible.y l.visible.h y ≡ false → ps ≡ laid_along y x (leaf l nil) ps
row_missed l y x ps h = sym (each_from-none 0 (λ k p. composed (x +ℤ pos k) y p (leaf l nil)) ps (λ k p. rw (unshown l y h (x +ℤ pos k)) refl))

-- a leaf in a row where it may be seen
pub row_shown : (l : Leaf) (s : Span) (q : Premultiplied) (y x : ℤ) (ps : List Premultiplied) → IsWithin l.visible l.shape.outer → is_among l.visible.y l.visible.h y ≡ true
    → s ≡ record { x0 = l.visible.x; x1 = right l.visible } → q ≡ premultiplied l.color → holed_laid s l.shape.inner q y x ps ≡ laid_along y x (leaf l nil) ps
row_shown l s q y x ps w r e c =
    each_from-same 0 (λ k p. cond (in_span s (x +ℤ pos k) && not (holds_pixel l.shape.inner (x +ℤ pos k) y)) (laid_over q p) p) (λ k p. composed (x +ℤ pos k) y p (leaf l nil)) ps
    (λ k p. ap (λ b. cond b (laid_over q p) p) (shown_covers l s y w r e (x +ℤ pos k)) ∙ ap (λ t. cond (covers l (x +ℤ pos k) y) (laid_over t p) p) c)

pub hole_order : (h : Rectangle) → IsPlaced h → h.x ≤ℤ right h
hole_order h p = let w = p.wide in grind (arith, ints)

-- the columns left of a hole, and those right of it
pub round_pieces : (s before after : Span) (h : Rectangle) (q : Premultiplied) (x : ℤ) (ps : List Premultiplied) → h.x ≤ℤ right h
    → ((x : ℤ) → in_span before x ≡ (in_span s x && int_lt x h.x)) → ((x : ℤ) → in_span after x ≡ (in_span s x && int_le (right h) x))
    → piece_laid after q x (piece_laid before q x ps) ≡ round_laid s h q x ps
round_pieces s before after h q x ps w eb ea =
    each_from-each_from 0 (λ k p. cond (in_span before (x +ℤ pos k)) (laid_over q p) p) (λ k p. cond (in_span after (x +ℤ pos k)) (laid_over q p) p) ps
    ∙ each_from-same 0 (λ k p. cond (in_span after (x +ℤ pos k)) (laid_over q (cond (in_span before (x +ℤ pos k)) (laid_over q p) p)) (cond (in_span before (x +ℤ pos k)) (laid_over q p) p))
    (λ k p. cond (in_span s (x +ℤ pos k) && not (is_among h.x h.w (x +ℤ pos k))) (laid_over q p) p) ps
    (λ k p. rw (eb (x +ℤ pos k), ea (x +ℤ pos k), outside h.x (right h) (x +ℤ pos k) w) (one (in_span s (x +ℤ pos k)) (int_lt (x +ℤ pos k) h.x) (int_le (right h) (x +ℤ pos k)) p (apart_sides h.x (right h) (x +ℤ pos k) w)))
  where
    one : (v a b : Bool) (p : Premultiplied) → (a && b) ≡ false
        → cond (v && b) (laid_over q (cond (v && a) (laid_over q p) p)) (cond (v && a) (laid_over q p) p) ≡ cond (v && (a || b)) (laid_over q p) p
    one true true true p h = cc
    one true true false p h = refl
    one true false true p h = refl
    one true false false p h = refl
    one false a b p h = refl

-- a row that a hole meets, and one that it does not
pub hole_met : (s : Span) (h : Rectangle) (q : Premultiplied) (y x : ℤ) (ps : List Premultiplied) → is_among h.y h.h y ≡ true → round_laid s h q x ps ≡ holed_laid s h q y x ps
hole_met s h q y x ps r =
    each_from-same 0 (λ k p. cond (in_span s (x +ℤ pos k) && not (is_among h.x h.w (x +ℤ pos k))) (laid_over q p) p) (λ k p. cond (in_span s (x +ℤ pos k) && not (holds_pixel h (x +ℤ pos k) y)) (laid_over q p) p) ps
    (λ k p. ap (λ b. cond (in_span s (x +ℤ pos k) && not b) (laid_over q p) p) (sym (ap (λ b. is_among h.x h.w (x +ℤ pos k) && b) r ∙ and_true (is_among h.x h.w (x +ℤ pos k)))))

pub hole_missed : (s : Span) (h : Rectangle) (q : Premultiplied) (y x : ℤ) (ps : List Premultiplied) → is_among h.y h.h y ≡ false → piece_laid s q x ps ≡ holed_laid s h q y x ps
hole_missed s h q y x ps r =
    each_from-same 0 (λ k p. cond (in_span s (x +ℤ pos k)) (laid_over q p) p) (λ k p. cond (in_span s (x +ℤ pos k) && not (holds_pixel h (x +ℤ pos k) y)) (laid_over q p) p) ps
    (λ k p. ap (λ b. cond b (laid_over q p) p) (sym (ap (λ b. in_span s (x +ℤ pos k) && not b) (ap (λ b. is_among h.x h.w (x +ℤ pos k) && b) r ∙ and_false (is_among h.x h.w (x +ℤ pos k))) ∙ and_true (in_span s (x +ℤ pos k)))))

-- the same of all columns
pub around_met : (s : Span) (h : Rectangle) (q : Premultiplied) (y x : ℤ) (ps : List Premultiplied) → s ≡ record { x0 = x; x1 = x +ℤ pos (length ps) } → is_among h.y h.h y ≡ true
    → round_laid s h q x ps ≡ laid_around h q y x ps
around_met s h q y x ps e r =
    each_at-same_within (λ k p. cond (in_span s (x +ℤ pos k) && not (is_among h.x h.w (x +ℤ pos k))) (laid_over q p) p) (λ k p. cond (not (holds_pixel h (x +ℤ pos k) y)) (laid_over q p) p) ps
    (λ k p l. rw (inside k l, r, and_true (is_among h.x h.w (x +ℤ pos k))) refl)
  where
    inside : (k : ℕ) → k < length ps → in_span s (x +ℤ pos k) ≡ true
    inside k l = rw e (grind (arith, ints))

pub around_missed : (h : Rectangle) (q : Premultiplied) (y x : ℤ) (ps : List Premultiplied) → is_among h.y h.h y ≡ false → tinted q ps ≡ laid_around h q y x ps
around_missed h q y x ps r =
    each_from-same 0 (λ k p. laid_over q p) (λ k p. cond (not (holds_pixel h (x +ℤ pos k) y)) (laid_over q p) p) ps
    (λ k p. rw (r, and_false (is_among h.x h.w (x +ℤ pos k))) refl)
