-- Boxes within the limits, and where they are drawn.
use Rattle.std.proofs.Common.{◌≡◌, refl, ◌∙◌, sym, subst, ℕ, ℤ, ◌+◌, ◌≤◌, Bool, true, false, ◌||◌, cond, List, inl, inr, arith}
use Rattle.std.proofs.lemmas.Int.{ints}
use Rattle.std.specs.Prelude.{◌+ℤ◌, ◌-ℤ◌}
use Rattle.rd_geom.specs.Plane.{Rectangle, IsPlaced}
use Rattle.rd_style.specs.Limits.{FitsRect, Fits}
use Rattle.rd_style.proofs.Bounds.{RectBounds, fits_rect-open}
use Rattle.rd_keys.specs.Keys.{same_key}
use Rattle.rd_keys.proofs.Keys.{same_key-sound, same_key-refl}
use Rattle.rd_tree.specs.declared.handed.ScrollSums.{ScrollSums}
use Rattle.rd_tree.specs.declared.scroll.Scroll.{Scroll}
use Rattle.rd_tree.specs.Forest.{empty, tree, has, height, children, AllItems, IsApart}
use Rattle.rd_tree.specs.Document.{BoxKey, Item, BoxForest, AllFit}
use Rattle.rd_tree.specs.Limits.{FitsScroll, IsNear}
use Rattle.rd_tree.specs.Changes.{with_rect}
use Rattle.rd_tree.specs.Drawn.{scrolled_by, AllNear}
use Rattle.rd_tree.specs.Internal.Handing.{offset_in, IsFar, IsWithin}
use Rattle.rd_tree.specs.Internal.Hands.{hand_at, handed_to, passed}
use Rattle.rd_tree.specs.Internal.Redraws.{drawn_far, redrawn, AllRedraw}
use Rattle.rd_tree.specs.Internal.Laid.{each_by, laid_at, laid_by, drawn_again, relay, relaid, AllWithin}
use Rattle.rd_tree.proofs.Linking.Standing.{cases, never, from_left, from_right}
use Rattle.rd_tree.proofs.Forests.All.{all_found}
use Rattle.rd_tree.proofs.Forests.ByKey.{has-by, apart_by, by-by, by_items}
use Rattle.rd_tree.proofs.Offsets.{far_offset, entered_within, within_more}

-- what the limits say of one box
abbrev pub FitsItem : Item → Type 0
FitsItem d = FitsRect d.rect × Fits d.style × FitsScroll d.scroll

abbrev pub NearItem : Item → Type 0
NearItem d = IsNear d.rect × Fits d.style

pub to_items : (f : BoxForest) → AllFit f → AllItems FitsItem f
to_items empty h = tt
to_items (tree k d low rest) h = ((h.0, h.1, h.4), to_items low h.2, to_items rest h.3)

pub from_items : (f : BoxForest) → AllItems FitsItem f → AllFit f
from_items empty h = tt
from_items (tree k d low rest) h = (h.0.0, h.0.1, from_items low h.1, from_items rest h.2, h.0.2)

pub near_items : (f : BoxForest) → AllNear f → AllItems NearItem f
near_items empty h = tt
near_items (tree k d low rest) h = ((h.0, h.1), near_items low h.2, near_items rest h.3)

pub all_near : (f : BoxForest) → AllItems NearItem f → AllNear f
all_near empty h = tt
all_near (tree k d low rest) h = (h.0.0, h.0.1, all_near low h.1, all_near rest h.2)

-- Boxes that are laid out within the limits have scroll offsets within them.
pub scrolls_fit : (rows : List ScrollSums) (f : BoxForest) → AllFit (laid_by rows f) → AllItems (λ d. FitsScroll d.scroll) f
scrolls_fit rows empty h = tt
scrolls_fit rows (tree k d low rest) h = (h.4, scrolls_fit rows low h.2, scrolls_fit rows rest h.3)

-- where a box is drawn that is laid out within the limits
pub near_far : (s : Scroll) (r : Rectangle) → IsFar 256 s → FitsRect r → IsNear (scrolled_by s r)
near_far s r w f =
    let b : RectBounds r = fits_rect-open r f in
    record {
      left = omega (arith, ints, w.right, b.x.from);
      right = omega (arith, ints, w.left, b.x.to);
      up = omega (arith, ints, w.down, b.y.from);
      down = omega (arith, ints, w.up, b.y.to);
      wide = b.w.from;
      broad = b.w.to;
      high = b.h.from;
      tall = b.h.to;
    }

pub near_is_placed : (r : Rectangle) → IsNear r → IsPlaced r
near_is_placed r f = record {
  wide = f.wide;
  high = f.high;
  from_left = omega (arith, ints, f.left);
  from_top = omega (arith, ints, f.up);
  to_right = omega (arith, ints, f.right, f.broad);
  to_bottom = omega (arith, ints, f.down, f.tall);
}

there_and_back : (x o : ℤ) → (x +ℤ o) -ℤ o ≡ x
there_and_back x o = omega (arith, ints)

-- a box by where it is laid out
pub still-drawn : (h : ScrollSums) (d : Item) → scrolled_by (offset_in h d.style.position) (laid_at h d).rect ≡ d.rect
still-drawn h d =
    λ i. record d.rect { x = there_and_back d.rect.x (offset_in h d.style.position).x i; y = there_and_back d.rect.y (offset_in h d.style.position).y i }

-- What is handed to each box is within the limits.
pub handed_within : (n : ℕ) (h : ScrollSums) (f : BoxForest) → IsWithin n h → n + height f ≤ 256 → AllItems (λ d. FitsScroll d.scroll) f
    → (k : BoxKey) → has same_key k f ≡ true → IsWithin 256 (handed_to k h f)
handed_within n h empty w l s k m = absurd (never false m refl)
handed_within n h (tree i e low rest) w l s k m =
    elim (cases (same_key k i)) [
      | inl t ↦ rw t (within_more n h (omega (arith, l)) w)
      | inr t ↦ elim (cases (has same_key k low)) [
        | inl u ↦ rw (t, u) (handed_within (1 + n) (passed h e) low (entered_within n false e.style e.scroll h s.0 w) (omega (arith, l)) s.1 k u)
        | inr u ↦ rw (t, u) (handed_within n h rest w (omega (arith, l)) s.2 k (rw (t, u) at m))
      ]
    ]

-- Boxes that are laid out within the limits can be drawn anew.
pub can_redraw : (rows : List ScrollSums) (n : ℕ) (h : ScrollSums) (f : BoxForest) → IsWithin n h → n + height f ≤ 256 → AllFit (laid_by rows f) → AllWithin rows f → AllRedraw rows h f
can_redraw rows n h empty w l fit all = tt
can_redraw rows n h (tree k d low rest) w l fit all = (
  record {
    within = all k (from_left (same_key k k) (has same_key k low || has same_key k rest) (same_key-refl k));
    placed = near_is_placed (redrawn (hand_at rows k) h d).rect (near_far (offset_in h d.style.position) (laid_at (hand_at rows k) d).rect
        (far_offset 256 h d.style.position (within_more n h (omega (arith, l)) w)) fit.0);
  },
  can_redraw rows (1 + n) (passed h d) low (entered_within n false d.style d.scroll h fit.4 w) (omega (arith, l)) fit.2 (λ j u. all j (from_right (same_key j k)
      (has same_key j low || has same_key j rest) (from_left (has same_key j low) (has same_key j rest) u))),
  can_redraw rows n h rest w (omega (arith, l)) fit.3 (λ j u. all j (from_right (same_key j k) (has same_key j low || has same_key j rest) (from_right (has same_key j low)
      (has same_key j rest) u))),
)

module _ (rows : List ScrollSums) (k : BoxKey) (old new : Scroll) (h : ScrollSums) (f : BoxForest) (a : IsApart same_key f) where
  abbrev low : BoxForest
  low = children same_key k f

  -- a box that is drawn anew
  abbrev again : BoxKey → Item → Item
  again j d = cond (same_key j k) (drawn_far old new d) (cond (has same_key j low) (redrawn (hand_at rows j) (handed_to j h low) d) d)

  -- how far each box is scrolled now, and where it is drawn then
  abbrev far : BoxKey → Item → Scroll
  far j d = cond (same_key j k) new (cond (has same_key j low) (offset_in (handed_to j h low) d.style.position) (offset_in (hand_at rows j) d.style.position))

  abbrev follow : BoxKey → Item → Item
  follow j d = with_rect (scrolled_by (far j d) d.rect) d

  one : (b c : Bool) (j : BoxKey) (d : Item) → cond b (drawn_far old new d) (cond c (redrawn (hand_at rows j) (handed_to j h low) d) d)
      ≡ with_rect (scrolled_by (cond b new (cond c (offset_in (handed_to j h low) (cond b (with_rect (record d.rect { x = d.rect.x +ℤ old.x; y = d.rect.y +ℤ old.y }) d) (laid_at (hand_at rows j) d)).style.position)
      (offset_in (hand_at rows j) (cond b (with_rect (record d.rect { x = d.rect.x +ℤ old.x; y = d.rect.y +ℤ old.y }) d) (laid_at (hand_at rows j) d)).style.position)))
      (cond b (with_rect (record d.rect { x = d.rect.x +ℤ old.x; y = d.rect.y +ℤ old.y }) d) (laid_at (hand_at rows j) d)).rect)
      (cond b (with_rect (record d.rect { x = d.rect.x +ℤ old.x; y = d.rect.y +ℤ old.y }) d) (laid_at (hand_at rows j) d))
  one true c j d = refl
  one false true j d = refl
  one false false j d = λ i. with_rect (sym (still-drawn (hand_at rows j) d) i) d

  again-relaid : drawn_again rows k old new h f ≡ each_by follow (relaid rows k old f)
  again-relaid =
      by_items same_key same_key-refl again (λ j d. follow j (relay rows k old j d)) f (λ j d u. one (same_key j k) (has same_key j low) j d)
      ∙ sym (by-by follow (relay rows k old) f)

  bound : IsFar 256 new → ((j : BoxKey) → has same_key j low ≡ true → IsWithin 256 (handed_to j h low)) → AllWithin rows f → (j : BoxKey) (d : Item) → has same_key j f ≡ true
      → (b c : Bool) → has same_key j low ≡ c
      → IsFar 256 (cond b new (cond c (offset_in (handed_to j h low) d.style.position) (offset_in (hand_at rows j) d.style.position)))
  bound w inner outer j d u true c e = w
  bound w inner outer j d u false true e = far_offset 256 (handed_to j h low) d.style.position (inner j e)
  bound w inner outer j d u false false e = far_offset 256 (hand_at rows j) d.style.position (outer j u)

  -- What is laid out within the limits is drawn near.
  pub again_near : IsFar 256 new → ((j : BoxKey) → has same_key j low ≡ true → IsWithin 256 (handed_to j h low)) → AllWithin rows f → AllFit (relaid rows k old f)
      → AllNear (drawn_again rows k old new h f)
  again_near w inner outer fit =
      let parts : AllItems NearItem (each_by follow (relaid rows k old f)) =
      all_found same_key same_key-sound same_key-refl FitsItem NearItem follow (relaid rows k old f) (apart_by (relay rows k old) same_key f a)
      (λ j d u v p. (
        near_far (far j d) d.rect (bound w inner outer j d (sym (has-by (relay rows k old) same_key j f) ∙ u) (same_key j k) (has same_key j low) refl) p.0,
        p.1,
      )) (to_items (relaid rows k old f) fit) in
      subst AllNear (sym again-relaid) (all_near (each_by follow (relaid rows k old f)) parts)

-- A box within the limits that is not scrolled is drawn near.
pub near_unscrolled : (r : Rectangle) → FitsRect r → IsNear r
near_unscrolled r f =
    let b : RectBounds r = fits_rect-open r f in
    record {
      left = omega (arith, ints, b.x.from);
      right = omega (arith, ints, b.x.to);
      up = omega (arith, ints, b.y.from);
      down = omega (arith, ints, b.y.to);
      wide = b.w.from;
      broad = b.w.to;
      high = b.h.from;
      tall = b.h.to;
    }
