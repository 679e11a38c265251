-- What a tree keeps of what is handed to its boxes, once it is edited.
use Rattle.std.proofs.Common.{◌≡◌, refl, ap, ◌∙◌, sym, subst, ℕ, ℤ, ◌+◌, ◌≤◌, true, false, ◌||◌, List, length, inl, inr, arith}
use Rattle.std.specs.Prelude.{Option, Some, None, IfSome, option_map}
use Rattle.rd_geom.specs.Plane.{Rectangle}
use Rattle.rd_style.specs.Limits.{FitsRect}
use Rattle.rd_keys.specs.Keys.{same_key}
use Rattle.rd_keys.proofs.Keys.{same_key-sound, same_key-refl}
use Rattle.rd_tree.specs.declared.handed.ScrollSums.{ScrollSums}
use Rattle.rd_tree.specs.declared.scroll.Scroll.{Scroll}
use Rattle.rd_tree.specs.Figures.{max_depth}
use Rattle.rd_tree.specs.Forest.{empty, tree, has, height, depth, item_of, children, without_branch, branch, map_where, at_box, in_subtree, keys, AllItems, IsApart}
use Rattle.rd_tree.specs.Document.{Document, BoxKey, Item, BoxForest, contains, AllFit, IsRooted, IsKeyed}
use Rattle.rd_tree.specs.Limits.{FitsScroll, IsNear}
use Rattle.rd_tree.specs.Internal.Works.{ShiftNear, ShiftFits}
use Rattle.rd_tree.specs.Changes.{removal, placing, shifting, with_rect, shifted, shift_item, CanShift}
use Rattle.rd_tree.specs.Drawn.{scrolled_by}
use Rattle.rd_tree.specs.Touching.{touch, settled, touched_by, edited}
use Rattle.rd_tree.specs.Internal.Handing.{offset_in, IsFar, IsWithin}
use Rattle.rd_tree.specs.Internal.Hands.{hand_at, HasHands}
use Rattle.rd_tree.specs.Internal.Laid.{laid_at, laid_by, laid_tree, unhanded, own_from, passed_from, AreHanded, AllWithin, ScrollFits, IsHanding}
use Rattle.rd_tree.proofs.Linking.Standing.{cases, never, from_left, from_right}
use Rattle.rd_tree.proofs.Linking.Cutting.{in_children}
use Rattle.rd_tree.proofs.Drawing.{drawn_shift}
use Rattle.rd_tree.proofs.Nodes.Shifts.{shift_fits}
use Rattle.rd_tree.proofs.Forests.All.{all_item}
use Rattle.rd_tree.proofs.Forests.ByKey.{apart_by, children-by, item-by}
use Rattle.rd_tree.proofs.Tables.Removed.{length-left}
use Rattle.rd_tree.proofs.Offsets.{far_none, far_offset}
use Rattle.rd_tree.proofs.Laying.Laid.{removed-laid, placed-laid, shifted-laid, settled-laid}
use Rattle.rd_tree.proofs.Laying.Rows.{in_rest, inside_of, handed_where, handed_without, row_within, inside_within, is-drawn}
use Rattle.rd_tree.proofs.Laying.Near.{scrolls_fit, near_far, still-drawn}
use Rattle.rd_tree.proofs.Laying.Fits.{fit_removed, fit_placed, fit_shifted, fit_settled}

-- What is known of each tree.
pub record IsTold (t : Document) : Type 0 where
  pub rooted : IsRooted t
  pub apart : IsApart same_key t.boxes
  pub keyed : IsKeyed t
  pub shallow : height t.boxes ≤ max_depth

pub within_none : (n : ℕ) → IsWithin n unhanded
within_none n = record { flow = far_none n; absolute = far_none n }

-- how far a box may be scrolled
pub own_far : (own : ScrollSums) (o : Option Item) → IsWithin 256 own → IsFar 256 (own_from own o)
own_far own None w = far_none 256
own_far own (Some d) w = far_offset 256 own d.style.position w

module _ (t : Document) (rows : List ScrollSums) (k : IsTold t) (h : IsHanding t rows) where
  pub has_hands : HasHands rows t.boxes
  has_hands j m = let s = k.keyed j m in omega (arith, s.0, h.all_rows)

  pub all_within : AllWithin rows t.boxes
  all_within j m = row_within rows t.root 0 unhanded t.boxes (within_none 0) (omega (arith, k.shallow)) (scrolls_fit rows t.boxes h.fits) h.right j m

-- a box that is there, and what is handed to its children
pub there : (k : BoxKey) (f : BoxForest) → has same_key k f ≡ true → (d : Item) × (item_of same_key k f ≡ Some d)
there k empty m = absurd (never false m refl)
there k (tree i d low rest) m =
    elim (cases (same_key k i)) [
      | inl s ↦ (d, rw s refl)
      | inr s ↦ elim (cases (has same_key k low)) [
        | inl u ↦ let w = there k low u in (w.0, rw (s, u) w.1)
        | inr u ↦ let w = there k rest (in_rest k i low rest s u m) in (w.0, rw (s, u) w.1)
      ]
    ]

module _ (t : Document) (rows : List ScrollSums) (k : IsTold t) (h : IsHanding t rows) (j : BoxKey) where
  pub scroll_here : ScrollFits (item_of same_key j t.boxes)
  scroll_here = at (item_of same_key j t.boxes) refl where
    at : (o : Option Item) → item_of same_key j t.boxes ≡ o → ScrollFits o
    at None e = tt
    at (Some d) e = all_item (λ d. FitsScroll d.scroll) same_key j d t.boxes (scrolls_fit rows t.boxes h.fits) e

  pub passed_within : contains t j ≡ true → (q : ScrollSums) → q ≡ passed_from (same_key j t.root) (hand_at rows j) (item_of same_key j t.boxes) → IsWithin (depth same_key j t.boxes) q
  passed_within m q e =
      let w : (d : Item) × (item_of same_key j t.boxes ≡ Some d) = there j t.boxes m in
      let n : 0 + depth same_key j t.boxes ≡ depth same_key j t.boxes = omega arith in
      let x : IsWithin (0 + depth same_key j t.boxes) (inside_of rows t.root j w.0) =
      inside_within rows t.root j w.0 0 unhanded t.boxes (within_none 0) (scrolls_fit rows t.boxes h.fits) h.right k.apart w.1 m in
      subst (λ z. IsWithin (depth same_key j t.boxes) z) (sym (e ∙ ap (passed_from (same_key j t.root) (hand_at rows j)) w.1)) (subst (λ z. IsWithin z (inside_of rows t.root j w.0)) n x)

-- The parts of what is kept.
pub handing : (t : Document) (rows : List ScrollSums) → IsRooted t → IsApart same_key t.boxes → length t.slots ≤ length rows → AreHanded rows t.root unhanded t.boxes → AllFit (laid_by rows t.boxes)
    → IsHanding t rows
handing t rows r a n w f = record { all_rows = n; right = w; fits = f; is_drawn = is-drawn rows t r a w }

module _ (t u : Document) (rows : List ScrollSums) (k : IsTold t) (h : IsHanding t rows) (r : IsRooted u) (a : IsApart same_key u.boxes) where
  laid_apart : IsApart same_key (laid_by rows t.boxes)
  laid_apart = apart_by _ same_key t.boxes k.apart

  -- A box that is taken away.
  pub removing : (j : BoxKey) → u ≡ edited (removal j) t → IsHanding u rows × (laid_tree rows u ≡ edited (removal j) (laid_tree rows t))
  removing j e =
      let same : laid_tree rows u ≡ edited (removal j) (laid_tree rows t) = ap (laid_tree rows) e ∙ removed-laid rows t j in
      let n : length u.slots ≡ length t.slots = ap (λ z. length z.slots) e ∙ length-left t.slots (keys (branch same_key j t.boxes)) in
      let w : AreHanded rows t.root unhanded (edited (removal j) t).boxes = handed_where rows t.root (touched_by (removal j) t) touch (λ d. refl) (λ d. refl) unhanded
      (without_branch same_key j t.boxes) (handed_without rows t.root unhanded j t.boxes h.right) in (
        handing u rows r a (omega (arith, n, h.all_rows)) (subst (λ z. AreHanded rows z.root unhanded z.boxes) (sym e) w)
            (subst (λ z. AllFit z.boxes) (sym same) (fit_removed (laid_tree rows t) h.fits j)),
        same,
      )

  -- Another rectangle.
  pub replacing : (j : BoxKey) (o : Scroll) (q : Rectangle) → FitsRect q → ((d : Item) → item_of same_key j t.boxes ≡ Some d → offset_in (hand_at rows j) d.style.position ≡ o)
      → u ≡ edited (placing j (scrolled_by o q)) t → IsHanding u rows × (laid_tree rows u ≡ edited (placing j q) (laid_tree rows t))
  replacing j o q f off e =
      let same : laid_tree rows u ≡ edited (placing j q) (laid_tree rows t) = ap (laid_tree rows) e ∙ placed-laid rows t j o q k.apart off in
      let n : length u.slots ≡ length t.slots = ap (λ z. length z.slots) e in
      let w : AreHanded rows t.root unhanded (edited (placing j (scrolled_by o q)) t).boxes =
      handed_where rows t.root (touched_by (placing j (scrolled_by o q)) t) touch (λ d. refl) (λ d. refl) unhanded (at_box same_key j (with_rect (scrolled_by o q)) t.boxes)
      (handed_where rows t.root (λ i. same_key i j) (with_rect (scrolled_by o q)) (λ d. refl) (λ d. refl) unhanded t.boxes h.right) in (
        handing u rows r a (omega (arith, n, h.all_rows)) (subst (λ z. AreHanded rows z.root unhanded z.boxes) (sym e) w)
            (subst (λ z. AllFit z.boxes) (sym same) (fit_placed (laid_tree rows t) h.fits laid_apart j q f)),
        same,
      )

  -- A shift.
  pub moving_by : (j : BoxKey) (dx dy : ℤ) → CanShift dx dy j (laid_by rows t.boxes) → u ≡ edited (shifting j dx dy) t
      → IsHanding u rows × (laid_tree rows u ≡ edited (shifting j dx dy) (laid_tree rows t))
  moving_by j dx dy can e =
      let same : laid_tree rows u ≡ edited (shifting j dx dy) (laid_tree rows t) = ap (laid_tree rows) e ∙ shifted-laid rows t j dx dy in
      let n : length u.slots ≡ length t.slots = ap (λ z. length z.slots) e in
      let w : AreHanded rows t.root unhanded (edited (shifting j dx dy) t).boxes =
      handed_where rows t.root (touched_by (shifting j dx dy) t) touch (λ d. refl) (λ d. refl) unhanded (map_where (λ i. in_subtree same_key i j t.boxes) (shift_item dx dy) t.boxes)
      (handed_where rows t.root (λ i. in_subtree same_key i j t.boxes) (shift_item dx dy) (λ d. refl) (λ d. refl) unhanded t.boxes h.right) in (
        handing u rows r a (omega (arith, n, h.all_rows)) (subst (λ z. AreHanded rows z.root unhanded z.boxes) (sym e) w)
            (subst (λ z. AllFit z.boxes) (sym same) (fit_shifted (laid_tree rows t) h.fits laid_apart j dx dy can)),
        same,
      )

  -- The marks taken away.
  pub settling : u ≡ record t { boxes = map_where (λ _. true) settled t.boxes }
      → IsHanding u rows × (laid_tree rows u ≡ record t { boxes = map_where (λ _. true) settled (laid_by rows t.boxes) })
  settling e =
      let same : laid_tree rows u ≡ record t { boxes = map_where (λ _. true) settled (laid_by rows t.boxes) } = ap (laid_tree rows) e ∙ settled-laid rows t in
      let n : length u.slots ≡ length t.slots = ap (λ z. length z.slots) e in
      let w : AreHanded rows t.root unhanded (map_where (λ _. true) settled t.boxes) = handed_where rows t.root (λ _. true) settled (λ d. refl) (λ d. refl) unhanded t.boxes h.right in (
        handing u rows r a (omega (arith, n, h.all_rows)) (subst (λ z. AreHanded rows z.root unhanded z.boxes) (sym e) w)
            (subst (λ z. AllFit z.boxes) (sym same) (fit_settled (laid_tree rows t) h.fits)),
        same,
      )

-- a box with an item is there
is_there : (j : BoxKey) (d : Item) (f : BoxForest) → item_of same_key j f ≡ Some d → has same_key j f ≡ true
is_there j d empty v = cc (v)
is_there j d (tree i e low rest) v =
    elim (cases (same_key j i)) [
      | inl s ↦ from_left (same_key j i) (has same_key j low || has same_key j rest) s
      | inr s ↦ elim (cases (has same_key j low)) [
        | inl u ↦ from_right (same_key j i) (has same_key j low || has same_key j rest) (from_left (has same_key j low) (has same_key j rest) u)
        | inr u ↦ from_right (same_key j i) (has same_key j low || has same_key j rest) (from_right (has same_key j low) (has same_key j rest) (is_there j d rest (rw (s, u) at v)))
      ]
    ]

-- Boxes that are within the limits once they are shifted are near then.
module _ (t : Document) (rows : List ScrollSums) (k : IsTold t) (h : IsHanding t rows) (j : BoxKey) (dx dy : ℤ) where
  near_one : (i : BoxKey) (d : Item) → IsWithin 256 (hand_at rows i) → FitsRect (shifted dx dy (laid_at (hand_at rows i) d).rect) → IsNear (shifted dx dy d.rect)
  near_one i d w f =
      let o : Scroll = offset_in (hand_at rows i) d.style.position in
      subst IsNear (drawn_shift dx dy o (laid_at (hand_at rows i) d).rect ∙ ap (shifted dx dy) (still-drawn (hand_at rows i) d))
      (near_far o (shifted dx dy (laid_at (hand_at rows i) d).rect) (far_offset 256 (hand_at rows i) d.style.position w) f)

  near_all : (f : BoxForest) → ((i : BoxKey) → has same_key i f ≡ true → IsWithin 256 (hand_at rows i)) → AllItems (λ d. FitsRect (shifted dx dy d.rect)) (laid_by rows f)
      → AllItems (λ d. IsNear (shifted dx dy d.rect)) f
  near_all empty w a = tt
  near_all (tree i d low rest) w a = (
    near_one i d (w i (from_left (same_key i i) (has same_key i low || has same_key i rest) (same_key-refl i))) a.0,
    near_all low (λ x u. w x (from_right (same_key x i) (has same_key x low || has same_key x rest) (from_left (has same_key x low) (has same_key x rest) u))) a.1,
    near_all rest (λ x u. w x (from_right (same_key x i) (has same_key x low || has same_key x rest) (from_right (has same_key x low) (has same_key x rest) u))) a.2,
  )

  pub shift_near : CanShift dx dy j (laid_by rows t.boxes) → ShiftNear dx dy j t.boxes
  shift_near can =
      let w : ShiftFits dx dy j (laid_by rows t.boxes) = shift_fits dx dy j (laid_by rows t.boxes) can in (
        one (item_of same_key j t.boxes) refl (subst (λ o. IfSome o (λ d. FitsRect (shifted dx dy d.rect))) (item-by (λ i d. laid_at (hand_at rows i) d) same_key same_key-sound j t.boxes) w.0),
        near_all (children same_key j t.boxes) (λ i u. all_within t rows k h i (in_children same_key same_key-sound same_key-refl i j t.boxes u))
            (subst (AllItems (λ d. FitsRect (shifted dx dy d.rect))) (children-by (λ i d. laid_at (hand_at rows i) d) same_key j t.boxes) w.1),
      ) where
        one : (o : Option Item) → item_of same_key j t.boxes ≡ o → IfSome (option_map (laid_at (hand_at rows j)) o) (λ d. FitsRect (shifted dx dy d.rect)) → IfSome o (λ d. IsNear (shifted dx dy d.rect))
        one None e f = tt
        one (Some d) e f = near_one j d (all_within t rows k h j (is_there j d t.boxes e)) f

-- A table with the same rows.
pub same_rows : (t : Document) (rows next : List ScrollSums) → next ≡ rows → IsHanding t rows → IsHanding t next
same_rows t rows next e h = subst (IsHanding t) (sym e) h
