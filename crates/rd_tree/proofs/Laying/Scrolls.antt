-- A scroll as a whole: what it takes to draw all below the box anew in the walk that touches it.
use Rattle.std.proofs.Common.{◌≡◌, refl, ap, ◌∙◌, sym, subst, Bool, true, false, cond, List, length, arith}
use Rattle.std.specs.Prelude.{Some, option_map}
use Rattle.std.specs.Option.{option_map_or}
use Rattle.rd_style.specs.Classes.{clips, is_positioned}
use Rattle.rd_keys.specs.Keys.{same_key}
use Rattle.rd_keys.proofs.Keys.{same_key-sound, same_key-refl}
use Rattle.rd_tree.specs.declared.handed.ScrollSums.{ScrollSums}
use Rattle.rd_tree.specs.declared.scroll.Scroll.{Scroll}
use Rattle.rd_tree.specs.Forest.{empty, tree, has, height, item_of, children, map_where, at_box, AllItems}
use Rattle.rd_tree.specs.Document.{Document, BoxKey, Item, BoxForest, contains}
use Rattle.rd_tree.specs.Limits.{FitsScroll}
use Rattle.rd_tree.specs.Changes.{scrolling, unscrolled, with_scroll}
use Rattle.rd_tree.specs.Touching.{touch, touched_by, edited}
use Rattle.rd_tree.specs.Drawn.{AllNear, plus}
use Rattle.rd_tree.specs.Internal.Handing.{offset_in}
use Rattle.rd_tree.specs.Internal.Hands.{hand_at, handed_to, passed, CanHand}
use Rattle.rd_tree.specs.Internal.Redraws.{drawn_far, redrawn, CanRedraw, AllRedraw}
use Rattle.rd_tree.specs.Internal.Laid.{laid_tree, own_from, passed_from, drawn_again, drawn_below, IsHandedDown, IsHanding, CanDraw}
use Rattle.rd_tree.proofs.Forests.ByKey.{by_items}
use Rattle.rd_tree.proofs.Forests.Heights.{height-each}
use Rattle.rd_tree.proofs.Nodes.Each.{has-each, apart_each}
use Rattle.rd_tree.proofs.Summaries.Within.{not_own}
use Rattle.rd_tree.proofs.Offsets.{far_back}
use Rattle.rd_tree.proofs.Laying.Kept.{IsTold, there}
use Rattle.rd_tree.proofs.Laying.Draws.{draw_can, draw_fits, draw_near, marked_low, marked_to}
use Rattle.rd_tree.proofs.Laying.Done.{item_then, item_is}
use Rattle.rd_tree.proofs.Laying.Ends.{scroll_below, scroll_can, scroll_done, scroll_there}

-- Marks are nothing to what can be handed down and drawn.
scrolls_unmarked : (q : BoxKey → Bool) (f : BoxForest) → AllItems (λ d. FitsScroll d.scroll) (map_where q touch f) → AllItems (λ d. FitsScroll d.scroll) f
scrolls_unmarked q empty a = tt
scrolls_unmarked q (tree k d low rest) a = (one (q k) a.0, scrolls_unmarked q low a.1, scrolls_unmarked q rest a.2) where
  one : (b : Bool) → FitsScroll (cond b (touch d) d).scroll → FitsScroll d.scroll
  one true w = w
  one false w = w

can_unmarked : (q : BoxKey → Bool) (h : ScrollSums) (f : BoxForest) → CanHand h (map_where q touch f) → CanHand h f
can_unmarked q h f c =
    let n : height (map_where q touch f) ≡ height f = height-each q touch f in
    record { levels = c.levels; within = c.within; shallow = omega (arith, n, c.shallow); scrolls = scrolls_unmarked q f c.scrolls }

redraws_unmarked : (q : BoxKey → Bool) (rows : List ScrollSums) (h : ScrollSums) (f : BoxForest) → AllRedraw rows h (map_where q touch f) → AllRedraw rows h f
redraws_unmarked q rows h empty a = tt
redraws_unmarked q rows h (tree k d low rest) a = (
  one (q k) a.0,
  redraws_unmarked q rows (passed h d) low (subst (λ z. AllRedraw rows z (map_where q touch low)) (same (q k)) a.1),
  redraws_unmarked q rows h rest a.2,
) where
  one : (b : Bool) → CanRedraw (hand_at rows k) h (cond b (touch d) d) → CanRedraw (hand_at rows k) h d
  one true w = record { within = w.within; placed = w.placed }
  one false w = w

  same : (b : Bool) → passed h (cond b (touch d) d) ≡ passed h d
  same true = refl
  same false = refl

module _ (t : Document) (rows : List ScrollSums) (told : IsTold t) (h : IsHanding t rows) (k : BoxKey) (m : contains t k ≡ true) (s : Scroll) (f : FitsScroll s) (inside : ScrollSums)
    (e : inside ≡ passed_from (same_key k t.root) (hand_at rows k) (option_map (with_scroll s) (item_of same_key k t.boxes))) where
  abbrev own : ScrollSums
  own = hand_at rows k

  abbrev old : Scroll
  old = own_from (hand_at rows k) (item_of same_key k t.boxes)

  abbrev q : BoxKey → Bool
  q = touched_by (scrolling k s) t

  abbrev then : Document
  then = edited (scrolling k s) t

  abbrev low : BoxForest
  low = children same_key k t.boxes

  can : CanDraw then rows k old own
  can = scroll_can t rows told h k m old refl s f

  here : contains then k ≡ true
  here = scroll_there t k s m

  told_then : IsTold then
  told_then =
      let a : height then.boxes ≡ height (at_box same_key k (with_scroll s) t.boxes) = height-each q touch (at_box same_key k (with_scroll s) t.boxes) in
      let b : height (at_box same_key k (with_scroll s) t.boxes) ≡ height t.boxes = height-each (λ i. same_key i k) (with_scroll s) t.boxes in
      record {
        rooted = (
          cond (q t.root) (touch (cond (same_key t.root k) (with_scroll s told.rooted.0) told.rooted.0)) (cond (same_key t.root k) (with_scroll s told.rooted.0) told.rooted.0),
          map_where q touch (at_box same_key k (with_scroll s) told.rooted.1),
          ap (λ z. map_where q touch (at_box same_key k (with_scroll s) z)) told.rooted.2,
        );
        apart = apart_each q touch same_key (at_box same_key k (with_scroll s) t.boxes) (apart_each (λ i. same_key i k) (with_scroll s) same_key t.boxes told.apart);
        keyed = λ j u. told.keyed j (sym (has-each q touch same_key j (at_box same_key k (with_scroll s) t.boxes) ∙ has-each (λ i. same_key i k) (with_scroll s) same_key j t.boxes) ∙ u);
        shallow = omega (arith, a, b, told.shallow);
      }

  item : (d : Item) × (item_of same_key k t.boxes ≡ Some d)
  item = there k t.boxes m

  inside_is : inside ≡ passed_from (same_key k then.root) own (item_of same_key k then.boxes)
  inside_is =
      e ∙ (ap (λ o. passed_from (same_key k t.root) own (option_map (with_scroll s) o)) item.1
      ∙ sym (item_is t rows told h.right k (with_scroll s) q item.0 item.1 own))

  own_is : own_from own (item_of same_key k then.boxes) ≡ old
  own_is =
      ap (own_from own) (item_then t rows told h.right k (with_scroll s) q item.0 item.1)
      ∙ (by item.0 (q k) ∙ ap (own_from own) (sym item.1)) where
        by : (d : Item) (c : Bool) → own_from own (Some (cond c (touch (with_scroll s d)) (with_scroll s d))) ≡ own_from own (Some d)
        by d true = refl
        by d false = refl

  low_is : children same_key k then.boxes ≡ map_where q touch low
  low_is = marked_low q (with_scroll s) k t.boxes told.apart

  pub scrolls_can : CanHand inside low
  scrolls_can = can_unmarked q inside low (subst (CanHand inside) low_is (subst (λ z. CanHand z (children same_key k then.boxes)) (sym inside_is) (draw_can then rows k old own told_then can here)))

  pub scrolls_fits : AllRedraw rows inside low
  scrolls_fits = redraws_unmarked q rows inside low (subst (AllRedraw rows inside) low_is (subst (λ z. AllRedraw rows z (children same_key k then.boxes)) (sym inside_is) (draw_fits then rows k old own
      told_then can here)))

  low_has : (i : BoxKey) → has same_key i (children same_key k then.boxes) ≡ has same_key i low
  low_has i = ap (has same_key i) low_is ∙ has-each q touch same_key i low

  low_to : (i : BoxKey) (x : ScrollSums) → handed_to i x (children same_key k then.boxes) ≡ handed_to i x low
  low_to i x = ap (handed_to i x) low_is ∙ marked_to q i x low

  -- A box that does not clip hands down what it did.
  same_inside : option_map_or (λ d. clips d.style (same_key k t.root)) (item_of same_key k t.boxes) false ≡ false → inside ≡ passed_from (same_key k t.root) own (item_of same_key k t.boxes)
  same_inside u =
      let off : clips item.0.style (same_key k t.root) ≡ false = sym (ap (λ o. option_map_or (λ d. clips d.style (same_key k t.root)) o false) item.1) ∙ u in
      let g : Scroll → ScrollSums = λ z. record {
        flow = plus (offset_in own item.0.style.position) z;
        absolute = cond (is_positioned item.0.style.position) (plus (offset_in own item.0.style.position) z) own.absolute;
      } in
      e ∙ (ap (λ o. passed_from (same_key k t.root) own (option_map (with_scroll s) o)) item.1
      ∙ (ap g (by (clips item.0.style (same_key k t.root)) off s item.0.scroll) ∙ ap (passed_from (same_key k t.root) own) (sym item.1))) where
        by : (b : Bool) → b ≡ false → (x y : Scroll) → cond b x unscrolled ≡ cond b y unscrolled
        by true h x y = cc (h)
        by false h x y = refl

  pub scrolls_still : option_map_or (λ d. clips d.style (same_key k t.root)) (item_of same_key k t.boxes) false ≡ false → IsHandedDown rows inside low
  scrolls_still u j v =
      let before : ScrollSums = passed_from (same_key k t.root) own (item_of same_key k t.boxes) in
      scroll_below t rows told h k m old refl s f j (low_has j ∙ v) ∙ (low_to j before ∙ ap (λ z. handed_to j z low) (sym (same_inside u)))

  -- the box itself is drawn where it was
  again_is : drawn_again rows k old (own_from own (item_of same_key k then.boxes)) (passed_from (same_key k then.root) own (item_of same_key k then.boxes)) then.boxes
      ≡ drawn_below rows k inside then.boxes
  again_is =
      (λ i. drawn_again rows k old (own_is i) (sym inside_is i) then.boxes)
      ∙ by_items same_key same_key-refl
      (λ j d. cond (same_key j k) (drawn_far old old d) (cond (has same_key j (children same_key k then.boxes)) (redrawn (hand_at rows j) (handed_to j inside (children same_key k then.boxes)) d) d))
      (λ j d. cond (has same_key j (children same_key k then.boxes)) (redrawn (hand_at rows j) (handed_to j inside (children same_key k then.boxes)) d) d) then.boxes
      (λ j d u. one j d (same_key j k) (has same_key j (children same_key k then.boxes))
      (λ v. ap (λ z. has same_key z (children same_key k then.boxes)) (same_key-sound j k v) ∙ not_own same_key same_key-sound same_key-refl k then.boxes told_then.apart)) where
        one : (j : BoxKey) (d : Item) (x y : Bool) → (x ≡ true → y ≡ false)
            → cond x (drawn_far old old d) (cond y (redrawn (hand_at rows j) (handed_to j inside (children same_key k then.boxes)) d) d)
            ≡ cond y (redrawn (hand_at rows j) (handed_to j inside (children same_key k then.boxes)) d) d
        one j d true true w = cc (w refl)
        one j d true false w = far_back old d
        one j d false y w = refl

  pub scrolls_near : AllNear (drawn_below rows k inside then.boxes)
  scrolls_near = subst AllNear again_is (draw_near then rows k old own told_then can here)

  pub scrolls_done : (v : Document) (last : List ScrollSums) → v ≡ record then { boxes = drawn_below rows k inside then.boxes }
      → ((i : BoxKey) → contains t i ≡ true → hand_at last i ≡ cond (has same_key i low) (handed_to i inside low) (hand_at rows i)) → length last ≡ length rows → IsTold v
      → IsHanding v last × (laid_tree last v ≡ edited (scrolling k s) (laid_tree rows t))
  scrolls_done v last d g n after =
      scroll_done t rows told h k m old refl s f v last (record {
        drawn = d ∙ ap (λ z. record then { boxes = z }) (sym again_is);
        handed = λ i u.
            let known : contains t i ≡ true = sym (has-each q touch same_key i (at_box same_key k (with_scroll s) t.boxes) ∙ has-each (λ i. same_key i k) (with_scroll s) same_key i t.boxes) ∙ u in
            g i known ∙ (still i (same_key i k) (has same_key i low) (λ w. ap (λ z. has same_key z low) (same_key-sound i k w) ∙ not_own same_key same_key-sound same_key-refl k t.boxes told.apart)
            (λ w. ap (hand_at rows) (same_key-sound i k w))
            ∙ (λ x. cond (same_key i k) own (cond (sym (low_has i) x) (handed_to i (inside_is x) (children same_key k then.boxes)) (hand_at rows i))));
        same_length = n;
      }) after where
        still : (i : BoxKey) (x y : Bool) → (x ≡ true → y ≡ false) → (x ≡ true → hand_at rows i ≡ own)
            → cond y (handed_to i inside low) (hand_at rows i) ≡ cond x own (cond y (handed_to i inside (children same_key k then.boxes)) (hand_at rows i))
        still i true true o w = cc (o refl)
        still i true false o w = w refl
        still i false true o w = sym (low_to i inside)
        still i false false o w = refl
