-- What it takes to draw a box elsewhere with all below it, and to hand on what follows from that.
use Rattle.std.proofs.Common.{◌≡◌, refl, ap, ◌∙◌, sym, subst, ◌+◌, Bool, true, false, cond, List, inl, inr, arith}
use Rattle.std.specs.Prelude.{◌+ℤ◌, Option, Some, None}
use Rattle.rd_keys.specs.Keys.{same_key}
use Rattle.rd_keys.proofs.Keys.{same_key-sound, same_key-refl}
use Rattle.rd_tree.specs.declared.handed.ScrollSums.{ScrollSums}
use Rattle.rd_tree.specs.declared.scroll.Scroll.{Scroll}
use Rattle.rd_tree.specs.Forest.{empty, tree, has, height, item_of, children, map_where, at_box, AllItems, IsApart}
use Rattle.rd_tree.specs.Document.{Document, BoxKey, Item, BoxForest, contains, AllFit}
use Rattle.rd_tree.specs.Limits.{FitsScroll}
use Rattle.rd_tree.specs.Changes.{with_rect}
use Rattle.rd_tree.specs.Touching.{touch}
use Rattle.rd_tree.specs.Drawn.{AllNear}
use Rattle.rd_tree.specs.Internal.Handing.{IsFar, IsWithin}
use Rattle.rd_tree.specs.Internal.Hands.{hand_at, handed_to, passed, CanHand, HasHands}
use Rattle.rd_tree.specs.Internal.Redraws.{drawn_far, redrawn, AllRedraw}
use Rattle.rd_tree.specs.Internal.Laid.{each_by, laid_at, laid_by, relay, relaid, own_from, passed_from, drawn_again, ScrollFits, CanDraw}
use Rattle.rd_tree.proofs.Linking.Standing.{cases, differs}
use Rattle.rd_tree.proofs.Linking.Cutting.{in_children}
use Rattle.rd_tree.proofs.Forests.All.{all_children, all_item}
use Rattle.rd_tree.proofs.Forests.ByKey.{by_items, children-by, has-by, height-by, where-by}
use Rattle.rd_tree.proofs.Nodes.Each.{children-each}
use Rattle.rd_tree.proofs.Summaries.Within.{not_own}
use Rattle.rd_tree.proofs.Tables.OneBranch.{box_kept}
use Rattle.rd_tree.proofs.Offsets.{far_none, far_offset, entered_within, within_more}
use Rattle.rd_tree.proofs.Laying.Near.{FitsItem, to_items, from_items, can_redraw, handed_within, again_near}
use Rattle.rd_tree.proofs.Laying.Kept.{IsTold, there}

-- Items that keep their scroll offsets, and their styles too.
module _ (g : BoxKey → Item → Item) (stays : (k : BoxKey) (d : Item) → (g k d).scroll ≡ d.scroll) where
  scrolls_by : (f : BoxForest) → AllItems (λ d. FitsScroll d.scroll) f → AllItems (λ d. FitsScroll d.scroll) (each_by g f)
  scrolls_by empty a = tt
  scrolls_by (tree k d low rest) a = (subst FitsScroll (sym (stays k d)) a.0, scrolls_by low a.1, scrolls_by rest a.2)

  pub can_hand_by : (h : ScrollSums) (f : BoxForest) → CanHand h f → CanHand h (each_by g f)
  can_hand_by h f c =
      let n : height (each_by g f) ≡ height f = height-by g f in
      record { levels = c.levels; within = c.within; shallow = omega (arith, n, c.shallow); scrolls = scrolls_by f c.scrolls }

  pub handed_to-by : ((k : BoxKey) (d : Item) → (g k d).style ≡ d.style) → (j : BoxKey) (h : ScrollSums) (f : BoxForest) → handed_to j h (each_by g f) ≡ handed_to j h f
  handed_to-by keeps j h empty = refl
  handed_to-by keeps j h (tree i d low rest) =
      let p : passed h (g i d) ≡ passed h d = (λ x. passed h (record (g i d) { style = keeps i d x; scroll = stays i d x })) in
      elim (cases (same_key j i)) [
        | inl s ↦ rw s refl
        | inr s ↦ elim (cases (has same_key j low)) [
          | inl u ↦ rw (s, has-by g same_key j low, u) (ap (λ z. handed_to j z (each_by g low)) p ∙ handed_to-by keeps j (passed h d) low)
          | inr u ↦ rw (s, has-by g same_key j low, u) (handed_to-by keeps j h rest)
        ]
      ]

-- Marks change nothing of what is handed down,
pub marked_to : (q : BoxKey → Bool) (j : BoxKey) (h : ScrollSums) (f : BoxForest) → handed_to j h (map_where q touch f) ≡ handed_to j h f
marked_to q j h f = ap (handed_to j h) (where-by q touch f)
    ∙ handed_to-by (λ i d. cond (q i) (touch d) d) (λ i d. scroll_at (q i) d) (λ i d. style_at (q i) d) j h f where
      scroll_at : (b : Bool) (d : Item) → (cond b (touch d) d).scroll ≡ d.scroll
      scroll_at true d = refl
      scroll_at false d = refl

      style_at : (b : Bool) (d : Item) → (cond b (touch d) d).style ≡ d.style
      style_at true d = refl
      style_at false d = refl

-- and a change of a box itself none of what is below it.
pub marked_low : (q : BoxKey → Bool) (e : Item → Item) (k : BoxKey) (f : BoxForest) → IsApart same_key f
    → children same_key k (map_where q touch (at_box same_key k e f)) ≡ map_where q touch (children same_key k f)
marked_low q e k f a = children-each q touch same_key k (at_box same_key k e f) ∙ ap (map_where q touch) (box_kept e k f a)

-- Boxes within the limits have such scroll offsets.
scrolls_relaid : (rows : List ScrollSums) (k : BoxKey) (old : Scroll) (f : BoxForest) → AllFit (relaid rows k old f) → AllItems (λ d. FitsScroll d.scroll) f
scrolls_relaid rows k old empty h = tt
scrolls_relaid rows k old (tree i d low rest) h = (one (same_key i k) h.4, scrolls_relaid rows k old low h.2, scrolls_relaid rows k old rest h.3) where
  one : (b : Bool) → FitsScroll (cond b (with_rect (record d.rect { x = d.rect.x +ℤ old.x; y = d.rect.y +ℤ old.y }) d) (laid_at (hand_at rows i) d)).scroll → FitsScroll d.scroll
  one true w = w
  one false w = w

-- A box that is drawn elsewhere keeps its style and its scroll offset.
module _ (t : Document) (rows : List ScrollSums) (k : BoxKey) (old : Scroll) (own : ScrollSums) where
  abbrev pub how : BoxKey → Item → Item
  how j d = cond (same_key j k) (drawn_far old (own_from own (item_of same_key k t.boxes)) d) (cond (has same_key j (children same_key k t.boxes))
      (redrawn (hand_at rows j) (handed_to j (passed_from (same_key k t.root) own (item_of same_key k t.boxes)) (children same_key k t.boxes)) d) d)

  pub style_kept : (j : BoxKey) (d : Item) → (how j d).style ≡ d.style
  style_kept j d = by (same_key j k) (has same_key j (children same_key k t.boxes)) where
    by : (x y : Bool) → (cond x (drawn_far old (own_from own (item_of same_key k t.boxes)) d) (cond y (redrawn (hand_at rows j) (handed_to j (passed_from (same_key k t.root) own
        (item_of same_key k t.boxes)) (children same_key k t.boxes)) d) d)).style ≡ d.style
    by true y = refl
    by false true = refl
    by false false = refl

  pub scroll_kept : (j : BoxKey) (d : Item) → (how j d).scroll ≡ d.scroll
  scroll_kept j d = by (same_key j k) (has same_key j (children same_key k t.boxes)) where
    by : (x y : Bool) → (cond x (drawn_far old (own_from own (item_of same_key k t.boxes)) d) (cond y (redrawn (hand_at rows j) (handed_to j (passed_from (same_key k t.root) own
        (item_of same_key k t.boxes)) (children same_key k t.boxes)) d) d)).scroll ≡ d.scroll
    by true y = refl
    by false true = refl
    by false false = refl

module _ (t : Document) (rows : List ScrollSums) (k : BoxKey) (old : Scroll) (own : ScrollSums) (told : IsTold t) (c : CanDraw t rows k old own) (m : contains t k ≡ true) where
  abbrev low : BoxForest
  low = children same_key k t.boxes

  abbrev new : Scroll
  new = own_from own (item_of same_key k t.boxes)

  abbrev inside : ScrollSums
  inside = passed_from (same_key k t.root) own (item_of same_key k t.boxes)

  scrolls : AllItems (λ d. FitsScroll d.scroll) t.boxes
  scrolls = scrolls_relaid rows k old t.boxes c.fits

  pub draw_hands : HasHands rows t.boxes
  draw_hands j u = let s = told.keyed j u in omega (arith, s.0, c.all_rows)

  pub draw_own : IsWithin 256 own
  draw_own = within_more c.levels own (omega (arith, c.shallow)) c.within_own

  pub draw_scrolls : ScrollFits (item_of same_key k t.boxes)
  draw_scrolls = at (item_of same_key k t.boxes) refl where
    at : (o : Option Item) → item_of same_key k t.boxes ≡ o → ScrollFits o
    at None e = tt
    at (Some d) e = all_item (λ d. FitsScroll d.scroll) same_key k d t.boxes scrolls e

  pub draw_far : IsFar 256 new
  draw_far = at (item_of same_key k t.boxes) where
    at : (o : Option Item) → IsFar 256 (own_from own o)
    at None = far_none 256
    at (Some d) = far_offset 256 own d.style.position draw_own

  inside_far : IsWithin (1 + c.levels) inside
  inside_far =
      let w : (d : Item) × (item_of same_key k t.boxes ≡ Some d) = there k t.boxes m in
      let s : FitsScroll w.0.scroll = all_item (λ d. FitsScroll d.scroll) same_key k w.0 t.boxes scrolls w.1 in
      subst (λ o. IsWithin (1 + c.levels) (passed_from (same_key k t.root) own o)) (sym w.1) (entered_within c.levels (same_key k t.root) w.0.style w.0.scroll own s c.within_own)

  pub draw_can : CanHand inside low
  draw_can = record {
    levels = 1 + c.levels;
    within = inside_far;
    shallow = omega (arith, c.shallow);
    scrolls = all_children (λ d. FitsScroll d.scroll) same_key k t.boxes scrolls;
  }

  out_of : (j : BoxKey) → has same_key j low ≡ true → same_key j k ≡ false
  out_of j u = differs same_key same_key-sound same_key-refl low j k u (not_own same_key same_key-sound same_key-refl k t.boxes told.apart)

  low_laid : AllFit (laid_by rows low)
  low_laid =
      let all : AllItems FitsItem (children same_key k (relaid rows k old t.boxes)) = all_children FitsItem same_key k (relaid rows k old t.boxes) (to_items (relaid rows k old t.boxes) c.fits) in
      let is : children same_key k (relaid rows k old t.boxes) ≡ laid_by rows low =
      children-by (relay rows k old) same_key k t.boxes
      ∙ by_items same_key same_key-refl (relay rows k old) (λ j d. laid_at (hand_at rows j) d) low (λ j d u. rw (out_of j u) refl) in
      from_items (laid_by rows low) (subst (AllItems FitsItem) is all)

  pub draw_fits : AllRedraw rows inside low
  draw_fits = can_redraw rows (1 + c.levels) inside low inside_far (omega (arith, c.shallow)) low_laid
      (λ j u. c.within j (in_children same_key same_key-sound same_key-refl j k t.boxes u))

  pub draw_near : AllNear (drawn_again rows k old new inside t.boxes)
  draw_near = again_near rows k old new inside t.boxes told.apart draw_far
      (λ j u. handed_within (1 + c.levels) inside low inside_far (omega (arith, c.shallow)) (all_children (λ d. FitsScroll d.scroll) same_key k t.boxes scrolls) j u) c.within c.fits
