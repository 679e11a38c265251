-- The inverse of each kind of edit leads back.
use Rattle.std.proofs.Common.{◌≡◌, refl, ap, ◌∙◌, sym, subst, ℕ, ℤ, ◌+◌, ◌<◌, ◌≤◌, Bool, true, false, ◌||◌, arith, List, ◌∷◌, ◌++◌, append-nil, bytes_eq, []}
use Rattle.std.specs.Prelude.{Option, Some, None, neg_ℤ}
use Rattle.std.specs.Option.{option_map_or}
use Rattle.rd_geom.specs.Plane.{Rectangle}
use Rattle.rd_style.specs.declared.styles.StyleChange.{StyleChange}
use Rattle.rd_style.specs.Limits.{fits_rect, fits}
use Rattle.rd_tree.specs.Figures.{max_depth}
use Rattle.rd_tree.specs.Forest.{empty, tree, size, height, depth, has, children, is_among, without_branch, branch, item_of, AllItems, AreApart, IsPlaceIn, IsApart}
use Rattle.rd_tree.specs.Places.{parent_of, next_of}
use Rattle.rd_tree.specs.declared.scroll.Scroll.{Scroll as Offset}
use Rattle.rd_tree.specs.ByIds.{Looks, IdForest}
use Rattle.rd_tree.proofs.Linking.Standing.{never, refute, either, from_left, from_right, differs, apart_back}
use Rattle.rd_tree.proofs.Linking.Cutting.{gone, in_children}
use Rattle.rd_tree.proofs.Forests.Without.{apart_without, stays, size-without_branch}
use Rattle.rd_tree.proofs.Forests.Restoring.{apart_children, branch_there, branch_off}
use Rattle.rd_tree.proofs.Nodes.Naming.{bytes_same, bytes_refl}
use Rattle.rd_edits.specs.declared.edit.Edit.{Edit}
use Rattle.rd_edits.specs.declared.edit.Edit.TheVariants.{Insert, Remove, Move, SetStyle, SetRect, Shift, Scroll}
use Rattle.rd_undo.specs.Inverse.{previous, insertions, rescrollings, restoration, inverse_in}
use Rattle.rd_undo.proofs.Put.{put, among-put, among_has, has-put, without-put}
use Rattle.rd_undo.proofs.Putting.{apart-put, size-put, there-put, branch-put, children-put, child-put}
use Rattle.rd_undo.proofs.Restoring.{has_parent, restore, depth-put, depth-new, height-put, fill}
use Rattle.rd_undo.proofs.Items.{change_all, holds_at, has-change, has-change_all, back_all, back_at, holds_back}
use Rattle.rd_undo.proofs.Found.{LooksFit, fits_moved}
use Rattle.rd_undo.proofs.Acting.{looks_as, new_looks, style_looks, place_looks, shift_looks, scroll_looks, acted, IsAdmitted}
use Rattle.rd_undo.proofs.Leading.{Leads, Comes, stilled, build, not_below, parent_stays, next_stays, item_there, item_holds, branch_holds}
use Rattle.rd_undo.proofs.Scrolling.{all_still, has-still, size-still, height-still, apart_still, insertions-still, still_fit, still_still, put_placed, scrolled_back}
use Rattle.rd_undo.proofs.Values.{style_back, previous_fits, rect_back}

-- what holds of every tree by ids
pub record IsSound (f : IdForest) : Type 0 where
  pub apart : IsApart bytes_eq f
  pub fit : AllItems LooksFit f
  pub shallow : height f ≤ max_depth

abbrev id_next : List ℕ → IdForest → Option (List ℕ)
id_next i f = next_of bytes_eq i f

-- A box that is not the first, with its parent, its branch, and what is left without it.
record Taken (i : List ℕ) (f : IdForest) : Type 0 where
  parent : List ℕ
  parent_is : parent_of bytes_eq i f ≡ Some parent
  item : Looks
  below : IdForest
  branch_is : branch bytes_eq i f ≡ tree i item below empty
  there : has bytes_eq parent (without_branch bytes_eq i f) ≡ true
  apart : IsApart bytes_eq (without_branch bytes_eq i f)
  out : has bytes_eq i (without_branch bytes_eq i f) ≡ false
  off : AreApart bytes_eq (without_branch bytes_eq i f) (tree i item below empty)
  own : has bytes_eq i below ≡ false
  below_apart : IsApart bytes_eq below
  back : put bytes_eq parent (id_next i f) (tree i item below empty) (without_branch bytes_eq i f) ≡ f
  deep : depth bytes_eq parent (without_branch bytes_eq i f) + (1 + height below) ≤ max_depth
  size_is : size (without_branch bytes_eq i f) + (1 + size below) ≡ size f
  place : IsPlaceIn bytes_eq (id_next i f) (children bytes_eq parent (without_branch bytes_eq i f))
  other : id_next i f ≡ Some i → ⊥
  item_fit : LooksFit item
  below_fit : AllItems LooksFit below

place_stays : (i p : List ℕ) (f : IdForest) → IsApart bytes_eq f → parent_of bytes_eq i f ≡ Some p → (o : Option (List ℕ)) → id_next i f ≡ o → IsPlaceIn bytes_eq o (children bytes_eq p (without_branch bytes_eq i f))
place_stays i p f a h None e = tt
place_stays i p f a h (Some x) e = next_stays bytes_eq bytes_same bytes_refl i p x f a h e

other_than : (i p : List ℕ) (f : IdForest) (o : Option (List ℕ)) → IsApart bytes_eq f → IsPlaceIn bytes_eq o (children bytes_eq p (without_branch bytes_eq i f)) → o ≡ Some i → ⊥
other_than i p f None a h e = cc
other_than i p f (Some x) a h e =
    let n : x ≡ i = cc (e) in
    let m : is_among bytes_eq i (children bytes_eq p (without_branch bytes_eq i f)) ≡ true = subst (λ z. is_among bytes_eq z (children bytes_eq p (without_branch bytes_eq i f)) ≡ true) n h in
    let c : has bytes_eq i (without_branch bytes_eq i f) ≡ true = in_children bytes_eq bytes_same bytes_refl i p (without_branch bytes_eq i f) (among_has bytes_eq i (children bytes_eq p (without_branch bytes_eq i f)) m) in
    never (has bytes_eq i (without_branch bytes_eq i f)) c (gone bytes_eq bytes_same bytes_refl i f a)

taken : (i : List ℕ) (f : IdForest) → IsSound f → has bytes_eq i f ≡ true → is_among bytes_eq i f ≡ false → Taken i f
taken i f s m n =
    let q : (p : List ℕ) × (parent_of bytes_eq i f ≡ Some p) = has_parent bytes_eq bytes_same bytes_refl i f m n in
    let p : List ℕ = q.0 in
    let b : (d : Looks) × (branch bytes_eq i f ≡ tree i d (children bytes_eq i f) empty) = branch_there bytes_eq bytes_same bytes_refl i f s.apart m in
    let c : IdForest = children bytes_eq i f in
    let g : IdForest = without_branch bytes_eq i f in
    let one : IdForest = tree i b.0 c empty in
    let there : has bytes_eq p g ≡ true = parent_stays bytes_eq bytes_same bytes_refl i p f s.apart q.1 in
    let away : AreApart bytes_eq g (branch bytes_eq i f) = branch_off bytes_eq bytes_same bytes_refl i f s.apart m in
    let back : put bytes_eq p (id_next i f) one g ≡ f = ap (λ z. put bytes_eq p (id_next i f) z g) (sym b.1) ∙ restore bytes_eq bytes_same bytes_refl i p f s.apart q.1 in
    let high : depth bytes_eq p g + height one ≤ height (put bytes_eq p (id_next i f) one g) = height-put bytes_eq bytes_same bytes_refl p (id_next i f) one g there in
    let high_is : height (put bytes_eq p (id_next i f) one g) ≡ height f = ap height back in
    let shallow : height f ≤ max_depth = s.shallow in
    let fits : AllItems LooksFit one = subst (λ z. AllItems LooksFit z) b.1 (branch_holds bytes_eq bytes_same bytes_refl LooksFit i f s.fit) in
    let place : IsPlaceIn bytes_eq (id_next i f) (children bytes_eq p g) = place_stays i p f s.apart q.1 (id_next i f) refl in
    record {
      parent = p;
      parent_is = q.1;
      item = b.0;
      below = c;
      branch_is = b.1;
      there = there;
      apart = apart_without bytes_eq bytes_same bytes_refl i f s.apart;
      out = gone bytes_eq bytes_same bytes_refl i f s.apart;
      off = subst (λ z. AreApart bytes_eq g z) b.1 away;
      own = below_own f s.apart m;
      below_apart = apart_children bytes_eq bytes_same bytes_refl i f s.apart;
      back = back;
      deep = omega (arith, high, high_is, shallow);
      size_is = size-without_branch bytes_eq bytes_same bytes_refl i f s.apart m;
      place = place;
      other = other_than i p f (id_next i f) s.apart place;
      item_fit = fits.0;
      below_fit = fits.1;
    }
  where
    below_own : (f : IdForest) → IsApart bytes_eq f → has bytes_eq i f ≡ true → has bytes_eq i (children bytes_eq i f) ≡ false
    below_own f a m = not_below bytes_eq bytes_same bytes_refl i f a

-- ---- insertion

pub lead_insert : (n : ℕ) (i parent : List ℕ) (before : Option (List ℕ)) (d : Looks) (f : IdForest) → has bytes_eq parent f ≡ true → has bytes_eq i f ≡ false
    → Leads n (Remove i ∷ []) (put bytes_eq parent before (tree i d empty empty) f) f
lead_insert n i parent before d f m o =
    let first : is_among bytes_eq i f ≡ false = refute (is_among bytes_eq i f) (λ u. never (has bytes_eq i f) (among_has bytes_eq i f u) o) in (
      (there-put bytes_eq bytes_same bytes_refl i parent d empty before f m, among-put bytes_eq i parent before (tree i d empty empty) f ∙ first),
      refl,
      without-put bytes_eq bytes_same bytes_refl i parent d empty before f o,
    )

-- ---- removal

comes : (n : ℕ) (i : List ℕ) (f : IdForest) (t : Taken i f) → size f ≤ n
    → Comes n i (all_still t.below) (put bytes_eq t.parent (id_next i f) (tree i (stilled t.item) empty empty) (without_branch bytes_eq i f))
comes n i f t room =
    let g : IdForest = without_branch bytes_eq i f in
    let alone : IdForest = tree i (stilled t.item) empty empty in
    let low : IdForest = all_still t.below in
    let f1 : IdForest = put bytes_eq t.parent (id_next i f) alone g in
    let alone_apart : IsApart bytes_eq alone = (refl, refl, (λ j u. refl), tt, tt) in
    let alone_off : AreApart bytes_eq g alone = λ j u. rw (differs bytes_eq bytes_same bytes_refl g j i u t.out) refl in
    let s1 : size f1 ≡ size g + size alone = size-put bytes_eq bytes_same bytes_refl t.parent (id_next i f) alone g t.apart alone_apart alone_off t.there in
    let d1 : depth bytes_eq i f1 ≡ 1 + depth bytes_eq t.parent g = depth-new bytes_eq bytes_same bytes_refl i t.parent (stilled t.item) empty (id_next i f) g t.there t.out in
    let deep : depth bytes_eq t.parent g + (1 + height t.below) ≤ max_depth = t.deep in
    let high : height low ≡ height t.below = height-still t.below in
    let size_is : size g + (1 + size t.below) ≡ size f = t.size_is in
    let sizes : size low ≡ size t.below = size-still t.below in
    record {
      there = there-put bytes_eq bytes_same bytes_refl i t.parent (stilled t.item) empty (id_next i f) g t.there;
      apart = apart-put bytes_eq bytes_same bytes_refl t.parent (id_next i f) alone g t.apart alone_apart alone_off;
      own = apart_still t.below t.below_apart;
      away = λ j u. has-put bytes_eq bytes_same bytes_refl j t.parent (id_next i f) alone g t.there ∙ off j (sym (has-still j t.below) ∙ u);
      deep = omega (arith, d1, deep, high);
      room = omega (arith, s1, size_is, sizes, room);
      fit = still_fit t.below t.below_fit;
      still = still_still t.below;
    }
  where
    in_one : (j : List ℕ) → has bytes_eq j t.below ≡ true → has bytes_eq j (tree i t.item t.below empty) ≡ true
    in_one j u = from_right (bytes_eq j i) (has bytes_eq j t.below || false) (from_left (has bytes_eq j t.below) false u)

    off : (j : List ℕ) → has bytes_eq j t.below ≡ true → (has bytes_eq j (without_branch bytes_eq i f) || has bytes_eq j (tree i (stilled t.item) empty empty)) ≡ false
    off j u = rw (
      apart_back bytes_eq bytes_same bytes_refl (without_branch bytes_eq i f) (tree i t.item t.below empty) t.off j (in_one j u),
      differs bytes_eq bytes_same bytes_refl t.below j i u t.own,
    ) refl

lead_remove : (n : ℕ) (i : List ℕ) (f : IdForest) (t : Taken i f) → size f ≤ n → Leads n (inverse_in f (Remove i)) (without_branch bytes_eq i f) f
lead_remove n i f t room =
    let g : IdForest = without_branch bytes_eq i f in
    let one : IdForest = tree i t.item t.below empty in
    let low : IdForest = all_still t.below in
    let back : List Edit = rescrollings one in
    let f1 : IdForest = put bytes_eq t.parent (id_next i f) (tree i (stilled t.item) empty empty) g in
    let one_apart : IsApart bytes_eq one = (t.own, refl, (λ j u. refl), t.below_apart, tt) in
    let scrolled : Leads n (back ++ []) (put bytes_eq t.parent (id_next i f) (all_still one) g) f =
    scrolled_back n one (λ y. put bytes_eq t.parent (id_next i f) y g) [] f one_apart (t.item_fit, t.below_fit, tt) (put_placed t.parent (id_next i f) one g t.there t.off) t.back in
    let filled : put bytes_eq i None low f1 ≡ put bytes_eq t.parent (id_next i f) (all_still one) g = fill bytes_eq bytes_same bytes_refl i t.parent (stilled t.item) low (id_next i f) g t.out in
    let last : Leads n back (put bytes_eq i None low f1) f = subst (λ z. Leads n back z f) (sym filled)
    (subst (λ z. Leads n z (put bytes_eq t.parent (id_next i f) (all_still one) g) f) (append-nil back) scrolled) in
    let rest : Leads n (insertions i low ++ back) f1 f = build n i low f1 f back (comes n i f t room) last in
    let later : Leads n (insertions i t.below ++ back) f1 f = subst (λ z. Leads n (z ++ back) f1 f) (insertions-still i t.below) rest in
    let deep : depth bytes_eq t.parent g + (1 + height t.below) ≤ max_depth = t.deep in
    let size_is : size g + (1 + size t.below) ≡ size f = t.size_is in
    let deep1 : depth bytes_eq t.parent g + 1 ≤ max_depth = omega (arith, deep) in
    let room1 : size g < n = omega (arith, size_is, room) in
    let whole : Leads n (restoration t.parent (id_next i f) one) g f =
    ((t.there, t.place, t.out, deep1, room1, t.item_fit.0, t.item_fit.1), tt, later) in
    subst (λ z. Leads n z g f) (sym (inverse_is (parent_of bytes_eq i f) t.parent_is ∙ ap (restoration t.parent (id_next i f)) t.branch_is)) whole
  where
    inverse_is : (o : Option (List ℕ)) → o ≡ Some t.parent → option_map_or (λ p. restoration p (id_next i f) (branch bytes_eq i f)) o [] ≡ restoration t.parent (id_next i f) (branch bytes_eq i f)
    inverse_is o e = ap (λ o. option_map_or (λ p. restoration p (id_next i f) (branch bytes_eq i f)) o []) e

-- ---- moving

lead_move : (n : ℕ) (i parent : List ℕ) (before : Option (List ℕ)) (f : IdForest) (t : Taken i f) → has bytes_eq parent (without_branch bytes_eq i f) ≡ true
    → Leads n (inverse_in f (Move i parent before)) (acted (Move i parent before) f) f
lead_move n i q before f t m =
    let g : IdForest = without_branch bytes_eq i f in
    let one : IdForest = tree i t.item t.below empty in
    let f1 : IdForest = put bytes_eq q before one g in
    let p_off : has bytes_eq t.parent one ≡ false = t.off t.parent t.there in
    let p_parts = either (bytes_eq t.parent i) (has bytes_eq t.parent t.below || false) p_off in
    let p_below : has bytes_eq t.parent t.below ≡ false = (either (has bytes_eq t.parent t.below) false p_parts.1).0 in
    let low : children bytes_eq i f1 ≡ t.below = children-put bytes_eq bytes_same bytes_refl i q t.item t.below before g t.apart m t.out in
    let d : depth bytes_eq t.parent f1 ≡ depth bytes_eq t.parent g = depth-put bytes_eq bytes_same bytes_refl t.parent q before one g t.there p_off in
    let first : is_among bytes_eq i g ≡ false = refute (is_among bytes_eq i g) (λ u. never (has bytes_eq i g) (among_has bytes_eq i g u) t.out) in
    let deep : depth bytes_eq t.parent f1 + (1 + height (children bytes_eq i f1)) ≤ max_depth =
    subst (λ x. x + (1 + height (children bytes_eq i f1)) ≤ max_depth) (sym d) (subst (λ z. depth bytes_eq t.parent g + (1 + height z) ≤ max_depth) (sym low) t.deep) in
    let admitted : IsAdmitted n (Move i t.parent (id_next i f)) f1 = (
      there-put bytes_eq bytes_same bytes_refl i q t.item t.below before g m,
      has-put bytes_eq bytes_same bytes_refl t.parent q before one g m ∙ from_left (has bytes_eq t.parent g) (has bytes_eq t.parent one) t.there,
      among-put bytes_eq i q before one g ∙ first,
      neither (bytes_eq t.parent i) (has bytes_eq t.parent (children bytes_eq i f1)) p_parts.0 (ap (has bytes_eq t.parent) low ∙ p_below),
      kept (id_next i f) t.place,
      t.other,
      deep,
    ) in
    let acts : acted (Move i t.parent (id_next i f)) f1 ≡ f = ap (λ z. put bytes_eq t.parent (id_next i f) z (without_branch bytes_eq i f1)) (branch-put bytes_eq bytes_same bytes_refl i q t.item t.below before g m t.out)
    ∙ (ap (put bytes_eq t.parent (id_next i f) one) (without-put bytes_eq bytes_same bytes_refl i q t.item t.below before g t.out) ∙ t.back) in
    let all : Leads n (Move i t.parent (id_next i f) ∷ []) f1 f = (admitted, refl, acts) in
    let from : f1 ≡ acted (Move i q before) f = ap (λ z. put bytes_eq q before z g) (sym t.branch_is) in
    subst (λ z. Leads n z (acted (Move i q before) f) f) (sym (ap (λ o. option_map_or (λ p. Move i p (id_next i f) ∷ []) o []) t.parent_is))
    (subst (λ z. Leads n (Move i t.parent (id_next i f) ∷ []) z f) from all)
  where
    neither : (a b : Bool) → a ≡ false → b ≡ false → (a || b) ≡ false
    neither a b h k = rw (h, k) refl

    kept : (o : Option (List ℕ)) → IsPlaceIn bytes_eq o (children bytes_eq t.parent (without_branch bytes_eq i f))
        → IsPlaceIn bytes_eq o (children bytes_eq t.parent (put bytes_eq q before (tree i t.item t.below empty) (without_branch bytes_eq i f)))
    kept None h = tt
    kept (Some x) h = child-put bytes_eq bytes_same bytes_refl x t.parent q before (tree i t.item t.below empty) (without_branch bytes_eq i f) (t.off t.parent t.there) h

-- ---- items

lead_style : (n : ℕ) (i : List ℕ) (c : StyleChange) (f : IdForest) → IsSound f → has bytes_eq i f ≡ true → Leads n (inverse_in f (SetStyle i c)) (acted (SetStyle i c) f) f
lead_style n i c f s m =
    let d : (d : Looks) × (item_of bytes_eq i f ≡ Some d) = item_there bytes_eq bytes_same bytes_refl i f m in
    let x : StyleChange = previous d.0.style c in
    let fit : LooksFit d.0 = item_holds bytes_eq bytes_same bytes_refl LooksFit i d.0 f s.fit d.1 in
    let there : has bytes_eq i (acted (SetStyle i c) f) ≡ true = has-change bytes_eq i i (style_looks c) f ∙ m in
    let acts : acted (SetStyle i x) (acted (SetStyle i c) f) ≡ f = back_at bytes_eq bytes_same bytes_refl i (style_looks c) (style_looks x) (λ z. z) (λ z. z) (λ z. refl) f s.apart
    (λ e h. let n : d.0 ≡ e = some_same d.0 e (sym d.1 ∙ h) in subst (λ z. style_looks x (style_looks c z) ≡ z) n (ap (λ s. looks_as d.0.rect s d.0.scroll) (style_back d.0.style c))) in
    subst (λ z. Leads n z (acted (SetStyle i c) f) f) (sym (ap (λ o. option_map_or (λ d. SetStyle i (previous d.style c) ∷ []) o []) d.1))
    ((there, previous_fits d.0.style c fit.1), refl, acts)
  where
    some_same : (a b : Looks) → Some a ≡ Some b → a ≡ b
    some_same a b h = cc (h)

lead_rect : (n : ℕ) (i : List ℕ) (r : Rectangle) (f : IdForest) → IsSound f → has bytes_eq i f ≡ true → Leads n (inverse_in f (SetRect i r)) (acted (SetRect i r) f) f
lead_rect n i r f s m =
    let d : (d : Looks) × (item_of bytes_eq i f ≡ Some d) = item_there bytes_eq bytes_same bytes_refl i f m in
    let fit : LooksFit d.0 = item_holds bytes_eq bytes_same bytes_refl LooksFit i d.0 f s.fit d.1 in
    let there : has bytes_eq i (acted (SetRect i r) f) ≡ true = has-change bytes_eq i i (place_looks r) f ∙ m in
    let acts : acted (SetRect i d.0.rect) (acted (SetRect i r) f) ≡ f = back_at bytes_eq bytes_same bytes_refl i (place_looks r) (place_looks d.0.rect) (λ z. z) (λ z. z) (λ z. refl) f s.apart
    (λ e h. let n : d.0 ≡ e = some_same d.0 e (sym d.1 ∙ h) in subst (λ z. place_looks d.0.rect (place_looks r z) ≡ z) n refl) in
    subst (λ z. Leads n z (acted (SetRect i r) f) f) (sym (ap (λ o. option_map_or (λ d. SetRect i d.rect ∷ []) o []) d.1))
    ((there, fit.0), refl, acts)
  where
    some_same : (a b : Looks) → Some a ≡ Some b → a ≡ b
    some_same a b h = cc (h)

looks_back : (dx dy : ℤ) (l : Looks) → shift_looks (neg_ℤ dx) (neg_ℤ dy) (shift_looks dx dy l) ≡ l
looks_back dx dy l = ap (λ r. looks_as r l.style l.scroll) (rect_back dx dy l.rect)

lead_shift : (n : ℕ) (i : List ℕ) (dx dy : ℤ) (f : IdForest) → IsSound f → has bytes_eq i f ≡ true → Leads n (inverse_in f (Shift i dx dy)) (acted (Shift i dx dy) f) f
lead_shift n i dx dy f s m =
    let there : has bytes_eq i (acted (Shift i dx dy) f) ≡ true = has-change_all bytes_eq i i (shift_looks dx dy) f ∙ m in
    let fit : holds_at bytes_eq i (fits_moved (neg_ℤ dx) (neg_ℤ dy)) (acted (Shift i dx dy) f) ≡ true =
    holds_back bytes_eq i (fits_moved (neg_ℤ dx) (neg_ℤ dy)) (shift_looks dx dy) LooksFit (λ l h. ap fits_rect (rect_back dx dy l.rect) ∙ h.0) f s.fit in
    let g : Looks → Looks = shift_looks dx dy in
    let h : Looks → Looks = shift_looks (neg_ℤ dx) (neg_ℤ dy) in
    let acts : acted (Shift i (neg_ℤ dx) (neg_ℤ dy)) (acted (Shift i dx dy) f) ≡ f = back_at bytes_eq bytes_same bytes_refl i g h (change_all g) (change_all h) (back_all g h (looks_back dx dy)) f s.apart (λ e _. looks_back dx dy e) in
    ((there, fit), refl, acts)

lead_scroll : (n : ℕ) (i : List ℕ) (x y : ℤ) (f : IdForest) → IsSound f → has bytes_eq i f ≡ true → Leads n (inverse_in f (Scroll i x y)) (acted (Scroll i x y) f) f
lead_scroll n i x y f s m =
    let d : (d : Looks) × (item_of bytes_eq i f ≡ Some d) = item_there bytes_eq bytes_same bytes_refl i f m in
    let o : Offset = record { x = x; y = y } in
    let fit : LooksFit d.0 = item_holds bytes_eq bytes_same bytes_refl LooksFit i d.0 f s.fit d.1 in
    let there : has bytes_eq i (acted (Scroll i x y) f) ≡ true = has-change bytes_eq i i (scroll_looks o) f ∙ m in
    let acts : acted (Scroll i d.0.scroll.x d.0.scroll.y) (acted (Scroll i x y) f) ≡ f = back_at bytes_eq bytes_same bytes_refl i (scroll_looks o) (scroll_looks d.0.scroll) (λ z. z) (λ z. z) (λ z. refl) f s.apart
    (λ e h. let n : d.0 ≡ e = some_same d.0 e (sym d.1 ∙ h) in subst (λ z. scroll_looks d.0.scroll (scroll_looks o z) ≡ z) n refl) in
    subst (λ z. Leads n z (acted (Scroll i x y) f) f) (sym (ap (λ o. option_map_or (λ d. Scroll i d.scroll.x d.scroll.y ∷ []) o []) d.1))
    ((there, fit.2), tt, acts)
  where
    some_same : (a b : Looks) → Some a ≡ Some b → a ≡ b
    some_same a b h = cc (h)

-- ---- all kinds

pub leads_back : (e : Edit) (f : IdForest) → IsSound f → IsAdmitted (1 + size f) e f → Leads (size f) (inverse_in f e) (acted e f) f
leads_back (Insert i parent before rect style) f s a = lead_insert (size f) i parent before (new_looks rect style) f a.0 a.2
leads_back (Remove i) f s a = lead_remove (size f) i f (taken i f s a.0 a.1) (omega arith)
leads_back (Move i parent before) f s a =
    let o : (bytes_eq parent i ≡ false) × (has bytes_eq parent (children bytes_eq i f) ≡ false) = either (bytes_eq parent i) (has bytes_eq parent (children bytes_eq i f)) a.3 in
    lead_move (size f) i parent before f (taken i f s a.0 a.2) (stays bytes_eq bytes_same bytes_refl parent i f a.1 o.0 o.1)
leads_back (SetStyle i c) f s a = lead_style (size f) i c f s a.0
leads_back (SetRect i r) f s a = lead_rect (size f) i r f s a.0
leads_back (Shift i dx dy) f s a = lead_shift (size f) i dx dy f s a.0
leads_back (Scroll i x y) f s a = lead_scroll (size f) i x y f s a.0
