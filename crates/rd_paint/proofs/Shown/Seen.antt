-- The columns that entries may show in.
use Rattle.std.proofs.Common.{◌≡◌, refl, ◌∙◌, sym, ap, ℤ, pos, ℕ, ◌+◌, ◌-◌, ◌+ℤ◌, ◌<◌, ◌≤◌, ◌≤ℤ◌, Bool, true, false, not, ◌&&◌, nat_le, nat_lt, ◌⊎◌, inl, inr, List, ◌++◌, length, take, drop, get_or, arith}
use Rattle.std.specs.Prelude.{int_le, int_lt, Option, Some, None, IfSome}
use Rattle.std.proofs.lemmas.Int.{ints}
use Rattle.std.proofs.lemmas.List.{drop_all, same_lists, length-take-le, length-append, length-drop, get_or-take, get_or-drop, get_or_append_left, get_or-append_right}
use Rattle.std.proofs.lemmas.Bool.{cases_lt, le-leb, lt-leb, lt-ltb, le-ltb}
use Rattle.rd_geom.specs.Blends.{blended}
use Rattle.rd_geom.specs.Colors.{Premultiplied, scaled, clear}
use Rattle.rd_geom.specs.Areas.{in_span}
use Rattle.rd_geom.specs.Plane.{holds_pixel, is_among, right}
use Rattle.rd_geom.specs.declared.blend.Blend.{Blend}
use Rattle.rd_geom.specs.declared.span.Span.{Span}
use Rattle.rd_geom.proofs.Mixing.{nothing_blended}
use Rattle.rd_item.specs.declared.leaf.Leaf as item
use Rattle.rd_item.specs.Leaves.{covers}
use Rattle.rd_list.specs.Entries.{Entries, nil, leaf, ◌▷◌}
use Rattle.rd_list.specs.Lists.{composed}
use Rattle.rd_list.specs.Wrappers.{Wrapper}
use Rattle.rd_list.proofs.Composing.{composed-join}
use Rattle.rd_paint.specs.Internal.Picks.{OffSpan, SameWhere, picked}
use Rattle.rd_paint.specs.Internal.Runs.{each_at, laid_along_group}
use Rattle.rd_paint.specs.declared.picks.Pick.{Pick}
use Rattle.rd_paint.proofs.Picking.{picked-none}
use Rattle.rd_paint.proofs.Pieces.{unshown}
use Rattle.rd_paint.proofs.Places.{each_from-none, each_from-same, each_at-same_within, get_or-each_at, length-each_from}

-- a span that reaches further on both sides
pub wider : (a b s t x : ℤ) → s ≤ℤ a → b ≤ℤ t → (int_le s x && int_lt x t) ≡ false → (int_le a x && int_lt x b) ≡ false
wider a b s t x h k e = grind (arith, ints)

no_column : (a b v vy : Bool) → v ≡ false → (a && b && (v && vy)) ≡ false
no_column true true v vy h = rw h refl
no_column true false v vy h = refl
no_column false b v vy h = refl

pub columns_uncovered : (l : item.Leaf) (x y : ℤ) → in_span (record { x0 = l.visible.x; x1 = right l.visible }) x ≡ false → covers l x y ≡ false
columns_uncovered l x y h = no_column (holds_pixel l.shape.outer x y) (not (holds_pixel l.shape.inner x y)) (is_among l.visible.x l.visible.w x) (is_among l.visible.y l.visible.h y) h

-- a leaf shows only in the columns and rows where it may be seen
pub leaf_off_columns : (l : item.Leaf) (x y : ℤ) (d : Premultiplied) → in_span (record { x0 = l.visible.x; x1 = right l.visible }) x ≡ false → d ≡ composed x y d (leaf l nil)
leaf_off_columns l x y d h = sym (rw (columns_uncovered l x y h) refl)

pub leaf_off_row : (l : item.Leaf) (x y : ℤ) (d : Premultiplied) → is_among l.visible.y l.visible.h y ≡ false → d ≡ composed x y d (leaf l nil)
leaf_off_row l x y d h = sym (rw (unshown l y h x) refl)

-- one entry less to be looked at
pub unseen_more : (s o t : Span) (y : ℤ) (left one rest whole : Entries Wrapper item.Leaf) → ((x : ℤ) → in_span t x ≡ false → in_span s x ≡ false) → ((x : ℤ) → in_span t x ≡ false → in_span o x ≡ false)
    → left ≡ one ▷ rest → SameWhere (OffSpan s y) left whole → SameWhere (OffSpan o y) nil one → SameWhere (OffSpan t y) rest whole
unseen_more s o t y left one rest whole f g e w u x r d h =
    ap (λ q. composed x r q rest) (u x r d (h.0, g x h.1)) ∙ sym (composed-join x r d one rest) ∙ sym (ap (composed x r d) e) ∙ w x r d (h.0, f x h.1)

-- none is left
pub unseen_last : (s : Span) (y : ℤ) (ps : List Pick) (i : ℕ) (es whole : Entries Wrapper item.Leaf) → length ps ≤ i → SameWhere (OffSpan s y) (picked (drop i ps) es) whole → SameWhere (OffSpan s y) nil whole
unseen_last s y ps i es whole l w x r d h = sym (ap (λ qs. composed x r d (picked qs es)) (drop_all i ps l) ∙ ap (composed x r d) (picked-none es)) ∙ w x r d h

-- the places from a up to b changed, where no other place would change
pub inner_changed : {A : Type 0} (f : ℕ → A → A) (ps mid : List A) (a b : ℕ) → a ≤ b → b ≤ length ps → mid ≡ each_at (λ k p. f (a + k) p) (take (b - a) (drop a ps))
    → ((k : ℕ) (p : A) → k < length ps → (nat_le a k && nat_lt k b) ≡ false → f k p ≡ p) → take a ps ++ (mid ++ drop (b - a) (drop a ps)) ≡ each_at f ps
inner_changed f ps mid a b h l m none = same_lists _ _ size at
  where
    count : length mid ≡ b - a
    count = ap length m ∙ length-each_from 0 (λ k p. f (a + k) p) (take (b - a) (drop a ps)) ∙ length-take-le (b - a) (drop a ps) (rw length-drop (omega arith))

    front : length (take a ps) ≡ a
    front = length-take-le a ps (omega arith)

    size : length (take a ps ++ (mid ++ drop (b - a) (drop a ps))) ≡ length (each_at f ps)
    size =
        let n = length-each_from 0 f ps in
        let m1 = length-append (take a ps) (mid ++ drop (b - a) (drop a ps)) in
        let m2 = length-append mid (drop (b - a) (drop a ps)) in
        let m3 = length-drop (b - a) (drop a ps) in
        let m4 = length-drop a ps in
        omega (arith, n, m1, m2, m3, m4, count, front)

    by_place : (k : ℕ) (d : _) → k < length ps → (k < a) ⊎ (a ≤ k) → (k < b) ⊎ (b ≤ k) → get_or (take a ps ++ (mid ++ drop (b - a) (drop a ps))) k d ≡ f k (get_or ps k d)
    by_place k d short (inl u) v =
        get_or_append_left (take a ps) (mid ++ drop (b - a) (drop a ps)) d k (omega (arith, front))
        ∙ get_or-take a ps k d u ∙ sym (none k (get_or ps k d) short (rw (lt-leb a k u) refl))
    by_place k d short (inr u) (inl v) =
        let e : a + (k - a) ≡ k = omega arith in
        get_or-append_right (take a ps) (mid ++ drop (b - a) (drop a ps)) a k d front u
        ∙ get_or_append_left mid (drop (b - a) (drop a ps)) d (k - a) (omega (arith, count))
        ∙ ap (λ qs. get_or qs (k - a) d) m
        ∙ get_or-each_at (λ k p. f (a + k) p) (take (b - a) (drop a ps)) (k - a) d (let n = length-take-le (b - a) (drop a ps) (rw length-drop (omega arith)) in omega (arith, n))
        ∙ ap (f (a + (k - a))) (get_or-take (b - a) (drop a ps) (k - a) d (omega arith) ∙ get_or-drop a ps (k - a) d)
        ∙ ap (λ n. f n (get_or ps n d)) e
    by_place k d short (inr u) (inr v) =
        let e : a + (b - a + (k - a - (b - a))) ≡ k = omega arith in
        get_or-append_right (take a ps) (mid ++ drop (b - a) (drop a ps)) a k d front u
        ∙ get_or-append_right mid (drop (b - a) (drop a ps)) (b - a) (k - a) d count (omega arith)
        ∙ get_or-drop (b - a) (drop a ps) (k - a - (b - a)) d ∙ get_or-drop a ps (b - a + (k - a - (b - a))) d ∙ ap (λ n. get_or ps n d) e
        ∙ sym (none k (get_or ps k d) short (rw (le-leb a k u, le-ltb k b v) refl))

    at : (k : ℕ) (d : _) → k < length (take a ps ++ (mid ++ drop (b - a) (drop a ps))) → get_or (take a ps ++ (mid ++ drop (b - a) (drop a ps))) k d ≡ get_or (each_at f ps) k d
    at k d short =
        let n = length-each_from 0 f ps in
        let l : k < length ps = omega (arith, n, size) in
        by_place k d l (cases_lt k a) (cases_lt k b) ∙ sym (get_or-each_at f ps k d l)

-- a group changes nothing where its list shows nothing
group_off : (y x : ℤ) (m : Blend) (opacity : ℕ) (es : Entries Wrapper item.Leaf) (p : Premultiplied) → composed x y clear es ≡ clear → blended m (scaled (composed x y clear es) opacity) p ≡ p
group_off y x m opacity es p u = ap (λ q. blended m (scaled q opacity) p) u ∙ nothing_blended m opacity p

further : (x : ℤ) (a k : ℕ) → (x +ℤ pos a) +ℤ pos k ≡ x +ℤ pos (a + k)
further x a k = omega (arith, ints)

-- outside the places from a up to b nothing of a list shows
abbrev pub UnseenOff : ℤ → ℤ → ℕ → ℕ → ℕ → Entries Wrapper item.Leaf → Type 0
UnseenOff y x n a b es = (k : ℕ) (d : Premultiplied) → k < n → (nat_le a k && nat_lt k b) ≡ false → composed (x +ℤ pos k) y d es ≡ d

-- a group laid over those places alone
pub seen_laid : (y x start : ℤ) (m : Blend) (opacity : ℕ) (es : Entries Wrapper item.Leaf) (ps mid : List Premultiplied) (a b : ℕ) → a ≤ b → b ≤ length ps → start ≡ x +ℤ pos a
    → UnseenOff y x (length ps) a b es → mid ≡ laid_along_group y start m opacity es (take (b - a) (drop a ps))
    → take a ps ++ (mid ++ drop (b - a) (drop a ps)) ≡ laid_along_group y x m opacity es ps
seen_laid y x start m opacity es ps mid a b h l e u n =
    inner_changed (λ k p. blended m (scaled (composed (x +ℤ pos k) y clear es) opacity) p) ps mid a b h l
    (n ∙ each_from-same 0 (λ k p. blended m (scaled (composed (start +ℤ pos k) y clear es) opacity) p) (λ k p. blended m (scaled (composed (x +ℤ pos (a + k)) y clear es) opacity) p) (take (b - a) (drop a ps))
    (λ k p. ap (λ z. blended m (scaled (composed z y clear es) opacity) p) (ap (λ z. z +ℤ pos k) e ∙ further x a k)))
    (λ k p short q. group_off y (x +ℤ pos k) m opacity es p (u k clear short q))

-- a group over places where nothing of it shows
pub unseen_laid : (y x : ℤ) (m : Blend) (opacity : ℕ) (es : Entries Wrapper item.Leaf) (ps : List Premultiplied) (a b : ℕ) → b ≤ a → UnseenOff y x (length ps) a b es → ps ≡ laid_along_group y x m opacity es ps
unseen_laid y x m opacity es ps a b h u =
    sym (each_from-none 0 (λ k p. p) ps (λ k p. refl))
    ∙ each_at-same_within (λ k p. p) (λ k p. blended m (scaled (composed (x +ℤ pos k) y clear es) opacity) p) ps (λ k p short. sym (group_off y (x +ℤ pos k) m opacity es p (u k clear short (nowhere k (cases_lt k a)))))
  where
    nowhere : (k : ℕ) → (k < a) ⊎ (a ≤ k) → (nat_le a k && nat_lt k b) ≡ false
    nowhere k (inl v) = rw (lt-leb a k v) refl
    nowhere k (inr v) = rw (le-leb a k v, le-ltb k b (omega arith)) refl

-- places that are those of a span
pub off_places : (s : Span) (y x : ℤ) (n a b : ℕ) (es fs : Entries Wrapper item.Leaf) → es ≡ fs → SameWhere (OffSpan s y) nil es → ((k : ℕ) → k < n → in_span s (x +ℤ pos k) ≡ (nat_le a k && nat_lt k b)) → UnseenOff y x n a b fs
off_places s y x n a b es fs e u t k d short q = sym (u (x +ℤ pos k) y d (refl, t k short ∙ q) ∙ ap (composed (x +ℤ pos k) y d) e)

-- no place is outside all of them
pub all_places : (y x : ℤ) (n : ℕ) (es : Entries Wrapper item.Leaf) → UnseenOff y x n 0 n es
all_places y x n es k d short q =
    let e : nat_le 0 k ≡ true = le-leb 0 k (omega arith) in
    let f : nat_lt k n ≡ true = lt-ltb k n short in
    let h : true ≡ false = rw (e, f) at q in
    cc

-- where a span was found
pub where_found : (p q : Span → Type 0) (o : Option Span) → ((s : Span) → p s → q s) → IfSome o p → IfSome o q
where_found p q None f h = tt
where_found p q (Some s) f h = f s h
