-- What an edit comes to that draws boxes elsewhere: the change of the tree as it is laid out.
use Rattle.std.proofs.Common.{◌≡◌, refl, ap, ◌∙◌, sym, ℤ, Bool, true, false, cond, List, arith}
use Rattle.std.proofs.lemmas.Int.{ints}
use Rattle.std.specs.Prelude.{◌+ℤ◌, ◌-ℤ◌, Option}
use Rattle.rd_style.specs.declared.styles.StyleChange.{StyleChange}
use Rattle.rd_keys.specs.Keys.{same_key}
use Rattle.rd_keys.proofs.Keys.{same_key-sound, same_key-refl}
use Rattle.rd_tree.specs.declared.handed.ScrollSums.{ScrollSums}
use Rattle.rd_tree.specs.declared.scroll.Scroll.{Scroll}
use Rattle.rd_tree.specs.Forest.{has, item_of, children, with_children, insert_among, without_branch, branch, map_where, at_box, IsApart}
use Rattle.rd_tree.specs.Document.{Document, BoxKey, Item, BoxForest}
use Rattle.rd_tree.specs.Changes.{with_rect, with_scroll, restyle, moving, styling, scrolling, put_elsewhere}
use Rattle.rd_tree.specs.Touching.{touch, touched_by, edited}
use Rattle.rd_tree.specs.Internal.Handing.{offset_in}
use Rattle.rd_tree.specs.Internal.Hands.{hand_at, handed_to}
use Rattle.rd_tree.specs.Internal.Redraws.{drawn_far, redrawn}
use Rattle.rd_tree.specs.Internal.Laid.{each_by, laid_at, laid_by, laid_tree, relay, relaid, own_from, drawn_again}
use Rattle.rd_tree.proofs.Forests.ByKey.{by-by, by_found, by-where, children-by, among-by, with_children-by, branch-by, without_branch-by}
use Rattle.rd_tree.proofs.Contexts.Alike.{moving-touches, scrolling-touches, styling-touches}
use Rattle.rd_tree.proofs.Laying.Laid.{plain-laid}

there_and_back : (x o : ℤ) → (x -ℤ o) +ℤ o ≡ x
there_and_back x o = omega (arith, ints)

-- Where the table has what is handed to the boxes now, they are laid out where they were.
pub again-laid : (rows last : List ScrollSums) (k : BoxKey) (old : Scroll) (own inside : ScrollSums) (f : BoxForest) → IsApart same_key f
    → ((i : BoxKey) → has same_key i f ≡ true → hand_at last i ≡ cond (same_key i k) own (cond (has same_key i (children same_key k f)) (handed_to i inside (children same_key k f)) (hand_at rows i)))
    → laid_by last (drawn_again rows k old (own_from own (item_of same_key k f)) inside f) ≡ relaid rows k old f
again-laid rows last k old own inside f a q =
    by-by (λ j d. laid_at (hand_at last j) d) again f
    ∙ by_found same_key same_key-sound same_key-refl (λ j d. laid_at (hand_at last j) (again j d)) (relay rows k old) f a
    (λ j d u v. ap (λ h. laid_at h (again j d)) (q j u) ∙ one (same_key j k) (has same_key j (children same_key k f)) j d
    (λ e. ap (own_from own) (ap (λ z. item_of same_key z f) (sym (same_key-sound j k e)) ∙ v))) where
      again : BoxKey → Item → Item
      again j d = cond (same_key j k) (drawn_far old (own_from own (item_of same_key k f)) d) (cond (has same_key j (children same_key k f)) (redrawn (hand_at rows j) (handed_to j inside (children same_key k f)) d) d)

      one : (x y : Bool) (j : BoxKey) (d : Item) → (x ≡ true → own_from own (item_of same_key k f) ≡ offset_in own d.style.position)
          → laid_at (cond x own (cond y (handed_to j inside (children same_key k f)) (hand_at rows j))) (cond x (drawn_far old (own_from own (item_of same_key k f)) d)
          (cond y (redrawn (hand_at rows j) (handed_to j inside (children same_key k f)) d) d))
          ≡ cond x (with_rect (record d.rect { x = d.rect.x +ℤ old.x; y = d.rect.y +ℤ old.y }) d) (laid_at (hand_at rows j) d)
      one true y j d e =
          let n : Scroll = own_from own (item_of same_key k f) in
          (λ i. with_rect (record d.rect { x = ((d.rect.x +ℤ old.x) -ℤ n.x) +ℤ (sym (e refl) i).x; y = ((d.rect.y +ℤ old.y) -ℤ n.y) +ℤ (sym (e refl) i).y }) d)
          ∙ (λ i. with_rect (record d.rect { x = there_and_back (d.rect.x +ℤ old.x) n.x i; y = there_and_back (d.rect.y +ℤ old.y) n.y i }) d)
      one false true j d e =
          let o : Scroll = offset_in (hand_at rows j) d.style.position in
          let n : Scroll = offset_in (handed_to j inside (children same_key k f)) d.style.position in
          λ i. with_rect (record d.rect { x = there_and_back (d.rect.x +ℤ o.x) n.x i; y = there_and_back (d.rect.y +ℤ o.y) n.y i }) d
      one false false j d e = refl

-- Before the edit the box was scrolled as far as its row says.
pub relaid-laid : (rows : List ScrollSums) (k : BoxKey) (old : Scroll) (f : BoxForest) → IsApart same_key f → old ≡ own_from (hand_at rows k) (item_of same_key k f) → relaid rows k old f ≡ laid_by rows f
relaid-laid rows k old f a e =
    by_found same_key same_key-sound same_key-refl (relay rows k old) (λ j d. laid_at (hand_at rows j) d) f a
    (λ j d u v. one (same_key j k) j d (λ s. same_key-sound j k s) (λ s. e ∙ ap (own_from (hand_at rows k)) (ap (λ z. item_of same_key z f) (sym (same_key-sound j k s)) ∙ v))) where
      one : (x : Bool) (j : BoxKey) (d : Item) → (x ≡ true → j ≡ k) → (x ≡ true → old ≡ offset_in (hand_at rows k) d.style.position)
          → cond x (with_rect (record d.rect { x = d.rect.x +ℤ old.x; y = d.rect.y +ℤ old.y }) d) (laid_at (hand_at rows j) d) ≡ laid_at (hand_at rows j) d
      one false j d n o = refl
      one true j d n o =
          let is : old ≡ offset_in (hand_at rows j) d.style.position = o refl ∙ ap (λ z. offset_in (hand_at rows z) d.style.position) (sym (n refl)) in
          λ i. with_rect (record d.rect { x = d.rect.x +ℤ (is i).x; y = d.rect.y +ℤ (is i).y }) d

module _ (rows : List ScrollSums) (t : Document) (a : IsApart same_key t.boxes) (k : BoxKey) (old : Scroll) (e : old ≡ own_from (hand_at rows k) (item_of same_key k t.boxes)) where
  abbrev lay : BoxKey → Item → Item
  lay = relay rows k old

  same : relaid rows k old t.boxes ≡ laid_by rows t.boxes
  same = relaid-laid rows k old t.boxes a e

  -- items that change by a test, where they are laid out
  where-relaid : (q : BoxKey → Bool) (x y : Item → Item) → ((j : BoxKey) (d : Item) → lay j (x d) ≡ y (lay j d)) → (f : BoxForest) → relaid rows k old (map_where q x f) ≡ map_where q y (relaid rows k old f)
  where-relaid q x y w f = by-where q x y lay lay (λ j d. one (q j) j d) f where
    one : (b : Bool) (j : BoxKey) (d : Item) → lay j (cond b (x d) d) ≡ cond b (y (lay j d)) (lay j d)
    one true j d = w j d
    one false j d = refl

  kept : (j : BoxKey) (d : Item) → lay j (touch d) ≡ touch (lay j d)
  kept j d = by (same_key j k) where
    by : (b : Bool) → cond b (with_rect (record d.rect { x = d.rect.x +ℤ old.x; y = d.rect.y +ℤ old.y }) (touch d)) (laid_at (hand_at rows j) (touch d))
        ≡ touch (cond b (with_rect (record d.rect { x = d.rect.x +ℤ old.x; y = d.rect.y +ℤ old.y }) d) (laid_at (hand_at rows j) d))
    by true = refl
    by false = refl

  marked : (p q : BoxKey → Bool) → ((j : BoxKey) → q j ≡ p j) → (f g : BoxForest) → relaid rows k old f ≡ g → relaid rows k old (map_where p touch f) ≡ map_where q touch g
  marked p q w f g s = where-relaid p touch touch kept f ∙ (λ i. map_where (λ j. sym (w j) i) touch (s i))

  pub scrolled-relaid : (s : Scroll) → relaid rows k old (edited (scrolling k s) t).boxes ≡ (edited (scrolling k s) (laid_tree rows t)).boxes
  scrolled-relaid s = marked (touched_by (scrolling k s) t) (touched_by (scrolling k s) (laid_tree rows t)) (λ j. scrolling-touches t (laid_by rows t.boxes) (plain-laid rows t.boxes) k s j)
      (at_box same_key k (with_scroll s) t.boxes) (at_box same_key k (with_scroll s) (laid_by rows t.boxes))
      (where-relaid (λ j. same_key j k) (with_scroll s) (with_scroll s) (λ j d. by (same_key j k) j d) t.boxes ∙ ap (at_box same_key k (with_scroll s)) same) where
        by : (b : Bool) (j : BoxKey) (d : Item) → cond b (with_rect (record d.rect { x = d.rect.x +ℤ old.x; y = d.rect.y +ℤ old.y }) (with_scroll s d)) (laid_at (hand_at rows j) (with_scroll s d))
            ≡ with_scroll s (cond b (with_rect (record d.rect { x = d.rect.x +ℤ old.x; y = d.rect.y +ℤ old.y }) d) (laid_at (hand_at rows j) d))
        by true j d = refl
        by false j d = refl

  pub styled-relaid : (c : StyleChange) → relaid rows k old (edited (styling k c) t).boxes ≡ (edited (styling k c) (laid_tree rows t)).boxes
  styled-relaid c = marked (touched_by (styling k c) t) (touched_by (styling k c) (laid_tree rows t)) (λ j. styling-touches t (laid_by rows t.boxes) (plain-laid rows t.boxes) k c j)
      (at_box same_key k (restyle c) t.boxes) (at_box same_key k (restyle c) (laid_by rows t.boxes))
      (by-where (λ j. same_key j k) (restyle c) (restyle c) lay lay (λ j d. by (same_key j k) j d) t.boxes ∙ ap (at_box same_key k (restyle c)) same) where
        by : (b : Bool) (j : BoxKey) (d : Item) → cond b (with_rect (record (cond b (restyle c d) d).rect { x = (cond b (restyle c d) d).rect.x +ℤ old.x; y = (cond b (restyle c d) d).rect.y +ℤ old.y }) (cond b (restyle c d) d)) (laid_at (hand_at rows j) (cond b (restyle c d) d))
            ≡ cond b (restyle c (cond b (with_rect (record d.rect { x = d.rect.x +ℤ old.x; y = d.rect.y +ℤ old.y }) d) (laid_at (hand_at rows j) d))) (cond b (with_rect (record d.rect { x = d.rect.x +ℤ old.x; y = d.rect.y +ℤ old.y }) d) (laid_at (hand_at rows j) d))
        by true j d = refl
        by false j d = refl

  elsewhere-relaid : (p : BoxKey) (before : Option BoxKey) (f : BoxForest) → relaid rows k old (put_elsewhere k p before f) ≡ put_elsewhere k p before (relaid rows k old f)
  elsewhere-relaid p before f =
      let g : BoxForest = without_branch same_key k f in
      let b : BoxForest = branch same_key k f in
      let w : each_by lay g ≡ without_branch same_key k (each_by lay f) = sym (without_branch-by lay same_key k f) in
      sym (with_children-by lay same_key p (insert_among same_key before b (children same_key p g)) g)
      ∙ (ap (λ z. with_children same_key p z (each_by lay g)) (sym (among-by lay same_key before b (children same_key p g)))
      ∙ (ap (λ z. with_children same_key p (insert_among same_key before (each_by lay b) z) (each_by lay g)) (sym (children-by lay same_key p g))
      ∙ (ap (λ z. with_children same_key p (insert_among same_key before z (children same_key p (each_by lay g))) (each_by lay g)) (sym (branch-by lay same_key k f))
      ∙ ap (λ z. with_children same_key p (insert_among same_key before (branch same_key k (each_by lay f)) (children same_key p z)) z) w)))

  pub moved-relaid : (p : BoxKey) (before : Option BoxKey) → relaid rows k old (edited (moving k p before) t).boxes ≡ (edited (moving k p before) (laid_tree rows t)).boxes
  moved-relaid p before = marked (touched_by (moving k p before) t) (touched_by (moving k p before) (laid_tree rows t))
      (λ j. moving-touches t (laid_by rows t.boxes) (plain-laid rows t.boxes) k p before j)
      (put_elsewhere k p before t.boxes) (put_elsewhere k p before (laid_by rows t.boxes)) (elsewhere-relaid p before t.boxes ∙ ap (put_elsewhere k p before) same)
