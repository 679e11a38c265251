-- Entries that show nothing at some pixels, and picks that show the same.
use Rattle.std.proofs.Common.{◌≡◌, refl, ◌∙◌, sym, ap, ℤ, ℕ, ◌+◌, ◌+ℤ◌, ◌≤◌, ◌≤ℤ◌, ◌<ℤ◌, Bool, true, false, not, ◌&&◌, List, [], ◌∷◌, ◌++◌, length, take, drop, arith, subst}
use Rattle.std.specs.Prelude.{int_le, int_lt, IsTrue, Option, Some, None, IfSome}
use Rattle.std.proofs.lemmas.Int.{ints}
use Rattle.std.proofs.lemmas.List.{drop_all}
use Rattle.rd_geom.specs.Blends.{blended}
use Rattle.rd_geom.specs.Colors.{scaled, clear}
use Rattle.rd_geom.specs.Areas.{Region, meets_area}
use Rattle.rd_geom.specs.Plane.{Rectangle, holds_pixel, is_among}
use Rattle.rd_geom.specs.declared.span.Span.{Span}
use Rattle.rd_geom.proofs.Mixing.{nothing_blended}
use Rattle.rd_geom.proofs.Areas.{shares-meets_area}
use Rattle.rd_item.specs.declared.leaf.Leaf as item
use Rattle.rd_list.specs.Entries.{Entries, nil, leaf, group, ◌▷◌}
use Rattle.rd_list.specs.Lists.{composed}
use Rattle.rd_list.specs.Wrappers.{Wrapper}
use Rattle.rd_list.proofs.Composing.{composed-join}
use Rattle.rd_list.proofs.Joins.{join_assoc, join-nil}
use Rattle.rd_paint.specs.Internal.Picks.{InArea, InRows, InSpans, IsClosed, SameWhere, ServesWhere, ShowsFor, picked}
use Rattle.rd_paint.specs.declared.picks.Pick.{Pick}
use Rattle.rd_paint.proofs.Depths.{join_has, join_up, group_up, levels_by}
use Rattle.rd_paint.proofs.Picking.{picked-none, picked_one, closed_append, put_taken, entry_at-leaf, entry_at-group}
use Rattle.rd_paint.proofs.Pieces.{unshown}

pub below_rows : (top h y0 y : ℤ) → int_lt y0 (top +ℤ h) ≡ false → y0 ≤ℤ y → is_among top h y ≡ false
below_rows top h y0 y f a = grind (arith, ints)

module _ (p : ℤ → ℤ → Type 0) where
  pub same_by : (es fs : Entries Wrapper item.Leaf) → es ≡ fs → SameWhere p es fs
  same_by es fs e x y d h = ap (composed x y d) e

  pub same_then : (es fs gs : Entries Wrapper item.Leaf) → SameWhere p es fs → SameWhere p fs gs → SameWhere p es gs
  same_then es fs gs s t x y d h = s x y d h ∙ t x y d h

  pub same_join : (es bs cs ds : Entries Wrapper item.Leaf) → SameWhere p es bs → SameWhere p cs ds → SameWhere p (es ▷ cs) (bs ▷ ds)
  same_join es bs cs ds s t x y d h = composed-join x y d es cs ∙ ap (λ q. composed x y q cs) (s x y d h) ∙ t x y (composed x y d bs) h ∙ sym (composed-join x y d bs ds)

  pub same_group : (w : Wrapper) (xs ys : Entries Wrapper item.Leaf) → SameWhere p xs ys → SameWhere p (group w xs nil) (group w ys nil)
  same_group w xs ys s x y d h = ap (λ q. blended w.blend (scaled q w.opacity) d) (s x y clear h)

  pub group_unseen : (w : Wrapper) (ys : Entries Wrapper item.Leaf) → SameWhere p nil ys → SameWhere p nil (group w ys nil)
  group_unseen w ys s x y d h = sym (nothing_blended w.blend w.opacity d) ∙ ap (λ q. blended w.blend (scaled q w.opacity) d) (s x y clear h)

  pub serves_by : (es fs : Entries Wrapper item.Leaf) → es ≡ fs → ServesWhere p es fs
  serves_by es fs e = (same_by es fs e, levels_by es fs e)

  pub serves_then : (es fs gs : Entries Wrapper item.Leaf) → ServesWhere p es fs → ServesWhere p fs gs → ServesWhere p es gs
  serves_then es fs gs s t = let a = s.1 in let b = t.1 in (same_then es fs gs s.0 t.0, omega (arith, a, b))

  pub serves_join : (es bs cs ds : Entries Wrapper item.Leaf) → ServesWhere p es bs → ServesWhere p cs ds → ServesWhere p (es ▷ cs) (bs ▷ ds)
  serves_join es bs cs ds s t = (same_join es bs cs ds s.0 t.0, join_up es bs cs ds s.1 t.1)

  pub serves_group : (w : Wrapper) (xs ys : Entries Wrapper item.Leaf) → ServesWhere p xs ys → ServesWhere p (group w xs nil) (group w ys nil)
  serves_group w xs ys s = (same_group w xs ys s.0, group_up w xs ys s.1)

  -- a leaf that is named, alone
  pub leaf_named : (place : ℕ) (l : item.Leaf) (ps : List Pick) → ps ≡ record { place = place; inside = 0 } ∷ [] → ShowsFor p place (leaf l nil) (leaf l nil) ps
  leaf_named place l ps e es stands =
      serves_by (picked ps es) (leaf l nil)
      (ap (λ qs. picked qs es) e ∙ picked_one (record { place = place; inside = 0 }) [] es refl ∙ stands (picked []) ∙ entry_at-leaf (picked []) l)

  -- nothing is named of what does not show
  pub none_named : (place : ℕ) (one want : Entries Wrapper item.Leaf) → SameWhere p nil want → ShowsFor p place one want []
  none_named place one want s es stands = serves_then (picked [] es) nil want (serves_by (picked [] es) nil (picked-none es)) (s, omega arith)

  -- a group that is named, with picks of its list
  pub group_named : (place : ℕ) (w : Wrapper) (inner want : Entries Wrapper item.Leaf) (n : ℕ) (qs ps : List Pick) → length qs ≡ n → ps ≡ record { place = place; inside = n } ∷ qs → ServesWhere p (picked qs inner) want
      → ShowsFor p place (group w inner nil) (group w want nil) ps
  group_named place w inner want n qs ps l e s es stands =
      serves_then (picked ps es) (group w (picked qs inner) nil) (group w want nil)
      (serves_by (picked ps es) (group w (picked qs inner) nil) (ap (λ ts. picked ts es) e ∙ picked_one (record { place = place; inside = n }) qs es l ∙ stands (picked qs) ∙ entry_at-group (picked qs) w inner))
      (serves_group w (picked qs inner) want s)

  -- one more has been looked at
  pub same_more : (es one rest whole : Entries Wrapper item.Leaf) (done new : List Pick) → IsClosed done → ServesWhere p (picked done es ▷ (one ▷ rest)) whole → ServesWhere p (picked new es) one
      → ServesWhere p (picked (done ++ new) es ▷ rest) whole
  same_more es one rest whole done new c s t =
      serves_then (picked (done ++ new) es ▷ rest) (picked done es ▷ (picked new es ▷ rest)) whole
      (serves_by (picked (done ++ new) es ▷ rest) (picked done es ▷ (picked new es ▷ rest)) (ap (λ xs. xs ▷ rest) (c new es) ∙ join_assoc (picked done es) (picked new es) rest))
      (serves_then (picked done es ▷ (picked new es ▷ rest)) (picked done es ▷ (one ▷ rest)) whole
      (serves_join (picked done es) (picked done es) (picked new es ▷ rest) (one ▷ rest) (serves_by (picked done es) (picked done es) refl) (serves_join (picked new es) one rest rest t (serves_by rest rest refl))) s)

  -- one that shows nothing is passed over
  pub serves_past : (one rest left : Entries Wrapper item.Leaf) → left ≡ one ▷ rest → SameWhere p nil one → ServesWhere p rest left
  serves_past one rest left e s =
      let a = (join_has one rest).1 in
      let b = levels_by (one ▷ rest) left (sym e) in
      (λ x y d h. ap (λ q. composed x y q rest) (s x y d h) ∙ sym (composed-join x y d one rest) ∙ ap (composed x y d) (sym e), omega (arith, a, b))

  -- some of those that are left show nothing
  pub serves_less : (done rest left whole : Entries Wrapper item.Leaf) → ServesWhere p rest left → ServesWhere p (done ▷ left) whole → ServesWhere p (done ▷ rest) whole
  serves_less done rest left whole s t = serves_then (done ▷ rest) (done ▷ left) whole (serves_join done done rest left (serves_by done done refl) s) t

  -- none is left to be looked at
  pub same_last : (es whole : Entries Wrapper item.Leaf) (done ps : List Pick) (i : ℕ) → length ps ≤ i → ServesWhere p (picked done es ▷ picked (drop i ps) es) whole → ServesWhere p (picked done es) whole
  same_last es whole done ps i h s =
      serves_then (picked done es) (picked done es ▷ picked (drop i ps) es) whole
      (serves_by (picked done es) (picked done es ▷ picked (drop i ps) es) (sym (ap (λ qs. picked done es ▷ picked qs es) (drop_all i ps h) ∙ ap (λ xs. picked done es ▷ xs) (picked-none es) ∙ join-nil (picked done es)))) s

pub leaf_unseen : (l : item.Leaf) (y0 y1 : ℤ) → ((y : ℤ) → y0 ≤ℤ y → y <ℤ y1 → is_among l.visible.y l.visible.h y ≡ false) → SameWhere (InRows y0 y1) nil (leaf l nil)
leaf_unseen l y0 y1 h x y d r = sym (rw (unshown l y (h y r.0 r.1) x) refl)

module _ (p : ℤ → ℤ → Type 0) where
  -- none of the picks of a list is left
  pub nothing_inside : (n : ℕ) (qs own : List Pick) (es fs : Entries Wrapper item.Leaf) → n ≡ 0 → es ≡ fs → SameWhere p (picked (take n qs) es) (picked own es) → SameWhere p nil (picked own fs)
  nothing_inside n qs own es fs e f s x y d h = sym (ap (λ ts. composed x y d ts) (ap (λ k. picked (take k qs) es) e ∙ picked-none es)) ∙ s x y d h ∙ ap (λ ts. composed x y d (picked own ts)) f

  pub some_inside : (ps qs own : List Pick) (es fs : Entries Wrapper item.Leaf) → ps ≡ qs → es ≡ fs → ServesWhere p (picked ps es) (picked own es) → ServesWhere p (picked qs fs) (picked own fs)
  some_inside ps qs own es fs e f s = rw (← e, ← f) s

  -- the picks of one more entry have been written
  pub written_more : (es whole one rest left : Entries Wrapper item.Leaf) (room mid : List Pick) (count more n : ℕ) → count ≤ length room → more ≤ length mid → left ≡ one ▷ rest
      → IsClosed (take count room) → IsClosed (take more mid) → ServesWhere p (picked (take count room) es ▷ left) whole → ServesWhere p (picked (take more mid) es) one
      → IsClosed (take (count + more) (take count room ++ (mid ++ drop n (drop count room)))) × ServesWhere p (picked (take (count + more) (take count room ++ (mid ++ drop n (drop count room)))) es ▷ rest) whole
  written_more es whole one rest left room mid count more n h k e c d s t =
      let w = sym (put_taken count n more room mid h k) in (
        subst IsClosed w (closed_append (take count room) (take more mid) c d),
        subst (λ ts. ServesWhere p (picked ts es ▷ rest) whole) w (same_more p es one rest whole (take count room) (take more mid) c (subst (λ xs. ServesWhere p (picked (take count room) es ▷ xs) whole) e s) t),
      )

module _ (p : ℤ → ℤ → Type 0) where
  -- and some behind it show nothing
  pub written_past : (es whole one rest left less : Entries Wrapper item.Leaf) (room mid : List Pick) (count more n : ℕ) → count ≤ length room → more ≤ length mid → left ≡ one ▷ rest
      → IsClosed (take count room) → IsClosed (take more mid) → ServesWhere p (picked (take count room) es ▷ left) whole → ServesWhere p (picked (take more mid) es) one → ServesWhere p less rest
      → IsClosed (take (count + more) (take count room ++ (mid ++ drop n (drop count room)))) × ServesWhere p (picked (take (count + more) (take count room ++ (mid ++ drop n (drop count room)))) es ▷ less) whole
  written_past es whole one rest left less room mid count more n h k e c d s t u =
      let w = written_more p es whole one rest left room mid count more n h k e c d s t in
      (w.0, serves_less p (picked (take (count + more) (take count room ++ (mid ++ drop n (drop count room)))) es) less rest whole u w.1)

pub last_false : (a b v : Bool) → v ≡ false → (a && b && v) ≡ false
last_false true true v h = h
last_false true false v h = refl
last_false false b v h = refl

first_false : (a b : Bool) → a ≡ false → (a && b) ≡ false
first_false a b h = rw h refl

second_false : (a b : Bool) → b ≡ false → (a && b) ≡ false
second_false true b h = h
second_false false b h = refl

past : (a b l n v : ℤ) → b ≤ℤ l → IsTrue (int_le a v && int_lt v b) → is_among l n v ≡ false
past a b l n v h k = grind (arith, ints)

before : (a b l n v : ℤ) → (l +ℤ n) ≤ℤ a → IsTrue (int_le a v && int_lt v b) → is_among l n v ≡ false
before a b l n v h k = grind (arith, ints)

-- a leaf that may be seen in no pixel of an area
pub leaf_outside : (l : item.Leaf) (v : Rectangle) (a : Region) → v ≡ l.visible → meets_area a v ≡ false → SameWhere (InArea a) nil (leaf l nil)
leaf_outside l v a e f x y d h = sym (rw (last_false (holds_pixel l.shape.outer x y) (not (holds_pixel l.shape.inner x y)) (holds_pixel l.visible x y) (ap (λ q. holds_pixel q x y) (sym e) ∙ go (holds_pixel v x y) refl)) refl)
  where
    go : (t : Bool) → holds_pixel v x y ≡ t → holds_pixel v x y ≡ false
    go false k = k
    go true k = let m = shares-meets_area a v (record { x = x; y = y; first = h; second = k }) in cc

-- a leaf that may be seen in no pixel of some columns of some rows
pub leaf_beside : (l : item.Leaf) (v : Rectangle) (columns rows : Span) → v ≡ l.visible → ((x y : ℤ) → InSpans columns rows x y → holds_pixel v x y ≡ false) → SameWhere (InSpans columns rows) nil (leaf l nil)
leaf_beside l v columns rows e f x y d h = sym (rw (last_false (holds_pixel l.shape.outer x y) (not (holds_pixel l.shape.inner x y)) (holds_pixel l.visible x y) (ap (λ q. holds_pixel q x y) (sym e) ∙ f x y h)) refl)

-- a rectangle right of some columns, below some rows, left of the columns, or above the rows
pub right_of : (r : Rectangle) (columns rows : Span) → columns.x1 ≤ℤ r.x → (x y : ℤ) → InSpans columns rows x y → holds_pixel r x y ≡ false
right_of r columns rows l x y h = first_false (is_among r.x r.w x) (is_among r.y r.h y) (past columns.x0 columns.x1 r.x r.w x l h.0)

pub left_of : (r : Rectangle) (columns rows : Span) → (r.x +ℤ r.w) ≤ℤ columns.x0 → (x y : ℤ) → InSpans columns rows x y → holds_pixel r x y ≡ false
left_of r columns rows l x y h = first_false (is_among r.x r.w x) (is_among r.y r.h y) (before columns.x0 columns.x1 r.x r.w x l h.0)

pub below : (r : Rectangle) (columns rows : Span) → rows.x1 ≤ℤ r.y → (x y : ℤ) → InSpans columns rows x y → holds_pixel r x y ≡ false
below r columns rows l x y h = second_false (is_among r.x r.w x) (is_among r.y r.h y) (past rows.x0 rows.x1 r.y r.h y l h.1)

pub above : (r : Rectangle) (columns rows : Span) → (r.y +ℤ r.h) ≤ℤ rows.x0 → (x y : ℤ) → InSpans columns rows x y → holds_pixel r x y ≡ false
above r columns rows l x y h = second_false (is_among r.x r.w x) (is_among r.y r.h y) (before rows.x0 rows.x1 r.y r.h y l h.1)

module _ (p : ℤ → ℤ → Type 0) where
  -- no entry of a list may show
  pub nothing_left : (n : ℕ) (qs : List Pick) (es want fs : Entries Wrapper item.Leaf) → n ≡ 0 → want ≡ fs → SameWhere p (picked (take n qs) es) want → SameWhere p nil fs
  nothing_left n qs es want fs e f s x y d h = sym (ap (λ ts. composed x y d ts) (ap (λ k. picked (take k qs) es) e ∙ picked-none es)) ∙ s x y d h ∙ ap (composed x y d) f

  -- one of its groups at any wrapper
  pub some_group : (place : ℕ) (inner : Entries Wrapper item.Leaf) (ps : ℕ → List Pick) (o : Option ℕ) → IfSome o (λ n. (w : Wrapper) → ShowsFor p place (group w inner nil) (group w inner nil) (ps n)) → (w : Wrapper)
      → IfSome o (λ n. ShowsFor p place (group w inner nil) (group w inner nil) (ps n))
  some_group place inner ps None h w = tt
  some_group place inner ps (Some n) h w = h w
