-- Changes of a tree, and where its boxes are laid out by the table of what is handed to them.
use Rattle.std.proofs.Common.{◌≡◌, refl, ap, ◌∙◌, sym, ℤ, Bool, true, false, ◌||◌, cond, List, arith}
use Rattle.std.proofs.lemmas.Int.{ints}
use Rattle.std.specs.Prelude.{◌+ℤ◌, ◌-ℤ◌, Option, Some}
use Rattle.rd_geom.specs.Plane.{Rectangle, no_pixels}
use Rattle.rd_keys.specs.Keys.{same_key}
use Rattle.rd_keys.proofs.Keys.{same_key-sound, same_key-refl}
use Rattle.rd_tree.specs.declared.handed.ScrollSums.{ScrollSums}
use Rattle.rd_tree.specs.declared.scroll.Scroll.{Scroll}
use Rattle.rd_tree.specs.Forest.{empty, tree, item_of, children, with_children, insert_among, without_branch, branch, map_where, at_box, in_subtree, keys, IsApart}
use Rattle.rd_tree.specs.Document.{Document, BoxKey, Item, BoxForest, with_child, with_all_left}
use Rattle.rd_tree.specs.Changes.{insertion, removal, moving, placing, shifting, scrolling, with_rect, with_scroll, shift_item, put_elsewhere}
use Rattle.rd_tree.specs.Touching.{touch, settled, touched_by, edited}
use Rattle.rd_tree.specs.Drawn.{scrolled_by}
use Rattle.rd_tree.specs.Internal.Handing.{offset_in}
use Rattle.rd_tree.specs.Internal.Hands.{hand_at}
use Rattle.rd_tree.specs.Internal.Laid.{laid_at, laid_by, laid_tree}
use Rattle.rd_tree.proofs.Forests.ByKey.{keys-by, children-by, among-by, with_children-by, branch-by, without_branch-by, by-where, by-map, map-by, by_found}
use Rattle.rd_tree.proofs.Contexts.Alike.{plain, insertion-touches, removal-touches, moving-touches, placing-touches, shifting-touches, scrolling-touches}

module _ (rows : List ScrollSums) where
  abbrev lay : BoxKey → Item → Item
  lay k d = laid_at (hand_at rows k) d

  pub plain-laid : (f : BoxForest) → plain (laid_by rows f) ≡ plain f
  plain-laid empty = refl
  plain-laid (tree k d below rest) = λ i. tree k (with_rect no_pixels d) (plain-laid below i) (plain-laid rest i)

  -- items that change so that where they are laid out follows
  pub where-laid : (q : BoxKey → Bool) (x y : Item → Item) → ((h : ScrollSums) (d : Item) → laid_at h (x d) ≡ y (laid_at h d)) → (f : BoxForest)
      → laid_by rows (map_where q x f) ≡ map_where q y (laid_by rows f)
  where-laid q x y e f = by-where q x y lay lay (λ k d. one (q k) k d) f where
    one : (b : Bool) (k : BoxKey) (d : Item) → lay k (cond b (x d) d) ≡ cond b (y (lay k d)) (lay k d)
    one true k d = e (hand_at rows k) d
    one false k d = refl

  pub marks-laid : (q : BoxKey → Bool) (f : BoxForest) → laid_by rows (map_where q touch f) ≡ map_where q touch (laid_by rows f)
  marks-laid q f = where-laid q touch touch (λ h d. refl) f

  -- marks by tests that agree
  marked : (p q : BoxKey → Bool) → ((j : BoxKey) → q j ≡ p j) → (f g : BoxForest) → laid_by rows f ≡ g → laid_by rows (map_where p touch f) ≡ map_where q touch g
  marked p q e f g s = marks-laid p f ∙ (λ i. map_where (λ j. sym (e j) i) touch (s i))

  module _ (t : Document) where
    abbrev same : plain (laid_by rows t.boxes) ≡ plain t.boxes
    same = plain-laid t.boxes

    pub removed-laid : (k : BoxKey) → laid_tree rows (edited (removal k) t) ≡ edited (removal k) (laid_tree rows t)
    removed-laid k =
        let boxes = marked (touched_by (removal k) t) (touched_by (removal k) (laid_tree rows t)) (λ j. removal-touches t (laid_by rows t.boxes) same k j)
        (without_branch same_key k t.boxes) (without_branch same_key k (laid_by rows t.boxes)) (sym (without_branch-by lay same_key k t.boxes)) in
        let slots = ap (with_all_left t.slots) (sym (keys-by lay (branch same_key k t.boxes)) ∙ ap keys (sym (branch-by lay same_key k t.boxes))) in
        λ i. record t { boxes = boxes i; slots = slots i }

    child-laid : (p : BoxKey) (before : Option BoxKey) (k : BoxKey) (d : Item) (f : BoxForest) → laid_by rows (with_child p before k d f) ≡ with_child p before k (lay k d) (laid_by rows f)
    child-laid p before k d f =
        sym (with_children-by lay same_key p (insert_among same_key before (tree k d empty empty) (children same_key p f)) f)
        ∙ (ap (λ z. with_children same_key p z (laid_by rows f)) (sym (among-by lay same_key before (tree k d empty empty) (children same_key p f)))
        ∙ ap (λ z. with_children same_key p (insert_among same_key before (tree k (lay k d) empty empty) z) (laid_by rows f)) (sym (children-by lay same_key p f)))

    pub inserted-laid : (p : BoxKey) (before : Option BoxKey) (k : BoxKey) (d : Item)
        → laid_tree rows (edited (insertion p before k d) t) ≡ edited (insertion p before k (laid_at (hand_at rows k) d)) (laid_tree rows t)
    inserted-laid p before k d =
        ap (λ f. record (edited (insertion p before k d) t) { boxes = f })
        (marked (touched_by (insertion p before k d) t) (touched_by (insertion p before k (lay k d)) (laid_tree rows t))
        (λ j. insertion-touches t (laid_by rows t.boxes) same p before k d (lay k d) j refl)
        (with_child p before k d t.boxes) (with_child p before k (lay k d) (laid_by rows t.boxes)) (child-laid p before k d t.boxes))

    elsewhere-laid : (k p : BoxKey) (before : Option BoxKey) (f : BoxForest) → laid_by rows (put_elsewhere k p before f) ≡ put_elsewhere k p before (laid_by rows f)
    elsewhere-laid k p before f =
        let g : BoxForest = without_branch same_key k f in
        let b : BoxForest = branch same_key k f in
        let w : laid_by rows g ≡ without_branch same_key k (laid_by rows f) = sym (without_branch-by lay same_key k f) in
        sym (with_children-by lay same_key p (insert_among same_key before b (children same_key p g)) g)
        ∙ (ap (λ z. with_children same_key p z (laid_by rows g)) (sym (among-by lay same_key before b (children same_key p g)))
        ∙ (ap (λ z. with_children same_key p (insert_among same_key before (laid_by rows b) z) (laid_by rows g)) (sym (children-by lay same_key p g))
        ∙ (ap (λ z. with_children same_key p (insert_among same_key before z (children same_key p (laid_by rows g))) (laid_by rows g)) (sym (branch-by lay same_key k f))
        ∙ ap (λ z. with_children same_key p (insert_among same_key before (branch same_key k (laid_by rows f)) (children same_key p z)) z) w)))

    pub moved-laid : (k p : BoxKey) (before : Option BoxKey) → laid_tree rows (edited (moving k p before) t) ≡ edited (moving k p before) (laid_tree rows t)
    moved-laid k p before = ap (λ f. record t { boxes = f })
        (marked (touched_by (moving k p before) t) (touched_by (moving k p before) (laid_tree rows t)) (λ j. moving-touches t (laid_by rows t.boxes) same k p before j)
        (put_elsewhere k p before t.boxes) (put_elsewhere k p before (laid_by rows t.boxes)) (elsewhere-laid k p before t.boxes))

    pub scrolled-laid : (k : BoxKey) (s : Scroll) → laid_tree rows (edited (scrolling k s) t) ≡ edited (scrolling k s) (laid_tree rows t)
    scrolled-laid k s = ap (λ f. record t { boxes = f })
        (marked (touched_by (scrolling k s) t) (touched_by (scrolling k s) (laid_tree rows t)) (λ j. scrolling-touches t (laid_by rows t.boxes) same k s j)
        (at_box same_key k (with_scroll s) t.boxes) (at_box same_key k (with_scroll s) (laid_by rows t.boxes))
        (where-laid (λ j. same_key j k) (with_scroll s) (with_scroll s) (λ h d. refl) t.boxes))

    pub settled-laid : laid_tree rows (record t { boxes = map_where (λ _. true) settled t.boxes }) ≡ record t { boxes = map_where (λ _. true) settled (laid_by rows t.boxes) }
    settled-laid = ap (λ f. record t { boxes = f }) (where-laid (λ _. true) settled settled (λ h d. refl) t.boxes)

    pub shifted-laid : (k : BoxKey) (dx dy : ℤ) → laid_tree rows (edited (shifting k dx dy) t) ≡ edited (shifting k dx dy) (laid_tree rows t)
    shifted-laid k dx dy =
        let p : BoxKey → Bool = λ j. in_subtree same_key j k t.boxes in
        let q : BoxKey → Bool = λ j. in_subtree same_key j k (laid_by rows t.boxes) in
        let e : (j : BoxKey) → q j ≡ p j = λ j. shifting-touches t (laid_by rows t.boxes) same k j in
        ap (λ f. record t { boxes = f })
        (marked (λ j. p j || false) (λ j. q j || false) (λ j. ap (λ b. b || false) (e j)) (map_where p (shift_item dx dy) t.boxes) (map_where q (shift_item dx dy) (laid_by rows t.boxes))
        (where-laid p (shift_item dx dy) (shift_item dx dy) (λ h d. further h d) t.boxes ∙ (λ i. map_where (λ j. sym (e j) i) (shift_item dx dy) (laid_by rows t.boxes)))) where
          swap : (x d o : ℤ) → (x +ℤ d) +ℤ o ≡ (x +ℤ o) +ℤ d
          swap x d o = omega (arith, ints)

          further : (h : ScrollSums) (d : Item) → laid_at h (shift_item dx dy d) ≡ shift_item dx dy (laid_at h d)
          further h d = λ i. with_rect (record d.rect {
            x = swap d.rect.x dx (offset_in h d.style.position).x i;
            y = swap d.rect.y dy (offset_in h d.style.position).y i;
          }) d

    -- Another rectangle, by where the box is drawn with it.
    there_and_back : (x o : ℤ) → (x -ℤ o) +ℤ o ≡ x
    there_and_back x o = omega (arith, ints)

    pub placed-laid : (k : BoxKey) (o : Scroll) (r : Rectangle) → IsApart same_key t.boxes
        → ((d : Item) → item_of same_key k t.boxes ≡ Some d → offset_in (hand_at rows k) d.style.position ≡ o)
        → laid_tree rows (edited (placing k (scrolled_by o r)) t) ≡ edited (placing k r) (laid_tree rows t)
    placed-laid k o r a off = ap (λ f. record t { boxes = f })
        (marked (touched_by (placing k (scrolled_by o r)) t) (touched_by (placing k r) (laid_tree rows t)) (λ j. placing-touches t (laid_by rows t.boxes) same k (scrolled_by o r) r j)
        (at_box same_key k (with_rect (scrolled_by o r)) t.boxes) (at_box same_key k (with_rect r) (laid_by rows t.boxes))
        (by-map lay (λ j. same_key j k) (with_rect (scrolled_by o r)) t.boxes
        ∙ (by_found same_key same_key-sound same_key-refl (λ j d. lay j (cond (same_key j k) (with_rect (scrolled_by o r) d) d)) (λ j d. cond (same_key j k) (with_rect r (lay j d)) (lay j d)) t.boxes a
        (λ j d u v. one (same_key j k) j d (λ e. off d (sym (ap (λ z. item_of same_key z t.boxes) (same_key-sound j k e)) ∙ v)) (λ e. same_key-sound j k e))
        ∙ sym (map-by lay (λ j. same_key j k) (with_rect r) t.boxes)))) where
          one : (b : Bool) (j : BoxKey) (d : Item) → (b ≡ true → offset_in (hand_at rows k) d.style.position ≡ o) → (b ≡ true → j ≡ k)
              → lay j (cond b (with_rect (scrolled_by o r) d) d) ≡ cond b (with_rect r (lay j d)) (lay j d)
          one false j d e n = refl
          one true j d e n =
              let is : offset_in (hand_at rows j) d.style.position ≡ o = ap (λ z. offset_in (hand_at rows z) d.style.position) (n refl) ∙ e refl in
              (λ i. with_rect (record r { x = (r.x -ℤ o.x) +ℤ (is i).x; y = (r.y -ℤ o.y) +ℤ (is i).y }) d)
              ∙ (λ i. with_rect (record r { x = there_and_back r.x o.x i; y = there_and_back r.y o.y i }) d)
