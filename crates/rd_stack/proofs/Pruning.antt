-- What changes leave of a fresh list.
use Rattle.std.proofs.Common.{◌≡◌, refl, ap, ◌∙◌, sym, subst, Bool, true, false, not, ◌&&◌, ◌||◌, cond, [], ◌∷◌, ◌⊎◌, inl, inr}
use Rattle.std.specs.Prelude.{Option, Some, None}
use Rattle.std.specs.Option.{option_map_or}
use Rattle.rd_geom.specs.Plane.{Rectangle}
use Rattle.rd_geom.specs.Canvas.{canvas_of}
use Rattle.rd_style.specs.declared.styles.StyleChange.{StyleChange}
use Rattle.rd_style.specs.Classes.{clips, blended}
use Rattle.rd_style.specs.Changes.{whole, names_any, names_class}
use Rattle.rd_keys.specs.Keys.{BoxKey, same_key}
use Rattle.rd_keys.proofs.Keys.{same_key-sound, same_key-refl}
use Rattle.rd_item.specs.declared.leaf.Leaf.{Leaf}
use Rattle.rd_list.specs.Wrappers.{Wrapper}
use Rattle.rd_list.specs.Entries.{Entries, nil}
use Rattle.rd_list.specs.Lists.{without_touched}
use Rattle.rd_list.proofs.Merges.Narrowing.{only_only}
use Rattle.rd_tree.specs.Forest.{empty, tree, ◌▷◌, has, item_of, children, with_children, insert_among, branch, map_where, at_box, in_subtree, IsApart}
use Rattle.rd_tree.specs.Forest as forest
use Rattle.rd_tree.specs.declared.node.Item.{Item}
use Rattle.rd_tree.specs.Document.{Document, BoxForest, IsRooted, with_child}
use Rattle.rd_tree.specs.Changes.{Change, insertion, removal, moving, styling, placing, shifting, scrolling, restyle, with_rect, with_scroll, unscrolled, shift_item, put_elsewhere, after}
use Rattle.rd_tree.specs.declared.scroll.Scroll.{Scroll}
use Rattle.rd_tree.specs.Drawn.{above_of, at, drawn_below}
use Rattle.rd_tree.specs.Contexts.{context_of, context_round, in_context, holds_blended}
use Rattle.rd_tree.specs.Touching.{reached_by, regrouped_by, touched_by}
use Rattle.rd_tree.proofs.Linking.Standing.{cases, never, from_left, from_right, join-empty, has-join, out_of_children, no_children, differs}
use Rattle.rd_tree.proofs.Forests.Without.{apart_without}
use Rattle.rd_tree.proofs.Nodes.Each.{apart_each}
use Rattle.rd_stack.specs.Fresh.{fresh_list, given, grouped_in, root_order}
use Rattle.rd_stack.specs.Cut.{pruned, all_cut, IsClosed}
use Rattle.rd_stack.specs.Pruning.{CanChange, GroupedLaw, PruningLaw}
use Rattle.rd_stack.proofs.Cutting.{order-agree}
use Rattle.rd_stack.proofs.Grouping.Apart.{child_apart, elsewhere_apart}
use Rattle.rd_stack.proofs.Grouping.Shape.{grouped_tree, tree-found}
use Rattle.rd_stack.proofs.Grouping.Own.{given_list}
use Rattle.rd_stack.proofs.Grouping.Stays.{change-stays, tree-each, alike_named}
use Rattle.rd_stack.proofs.Left.Bare.{bare}
use Rattle.rd_stack.proofs.Left.Onlies.{only_agree}
use Rattle.rd_stack.proofs.Left.Pruned.{order-left, order-gone}
use Rattle.rd_stack.proofs.Left.Cuts.{all_from_has, closed_all, closed_none, closed_subtree, closed_below, closed_branch, all_branch, closed_children, closed_amid, pruned_amid, closed_under, pruned_under, closed_without, pruned_without, all-each, closed_each, pruned_each, closed_or, closed_and, all_children, all_amid, closed_anew}
use Rattle.rd_stack.proofs.Left.Alone.{OfKey, key_root, KeepsPlaces, bare-drawn, places-restyle, places-rect, restyle-none, each_same, key_flip, has_item}
use Rattle.rd_stack.proofs.Left.Drawn.{pruned-drawn, all-drawn, closed_drawn, IsBared, scrolled-cut, scrolled-kept, order_same, bare-scrolled}

-- What is left out already need not be left out.
module _ (gone touched : BoxKey → Bool) (more : (k : BoxKey) → gone k ≡ true → touched k ≡ true) where
  both_tests : (l : Leaf) → (not (gone l.owner) && not (touched l.owner)) ≡ not (touched l.owner)
  both_tests l = by (gone l.owner) refl
    where
      by : (b : Bool) → gone l.owner ≡ b → (not b && not (touched l.owner)) ≡ not (touched l.owner)
      by true e = ap not (sym (more l.owner e))
      by false e = refl

  pub without_more : (xs : Entries Wrapper Leaf) → without_touched touched (without_touched gone xs) ≡ without_touched touched xs
  without_more xs = only_only (λ l. not (gone l.owner)) (λ l. not (touched l.owner)) xs ∙ only_agree (λ l. not (gone l.owner) && not (touched l.owner)) (λ l. not (touched l.owner)) xs both_tests

abbrev none : BoxKey → Bool
none k = false

pruned-none : (f : BoxForest) → pruned none f ≡ f
pruned-none empty = refl
pruned-none (tree k d below rest) = λ i. tree k d (pruned-none below i) (pruned-none rest i)

-- One box that is the first and has no siblings.
abbrev IsTreeOf : BoxKey → BoxForest → Type 0
IsTreeOf root f = (d : Item) × (below : BoxForest) × (f ≡ tree root d below empty)

tree_each : (t : BoxKey → Bool) (h : Item → Item) (root : BoxKey) (f : BoxForest) → IsTreeOf root f → IsTreeOf root (map_where t h f)
tree_each t h root f r = (cond (t root) (h r.0) r.0, map_where t h r.1, ap (map_where t h) r.2)

tree_without : (k root : BoxKey) (f : BoxForest) → same_key k root ≡ false → IsTreeOf root f → IsTreeOf root (forest.without_branch same_key k f)
tree_without k root f n r = (r.0, forest.without_branch same_key k r.1, ap (forest.without_branch same_key k) r.2 ∙ rw n refl)

tree_under : (p : BoxKey) (g : BoxForest) (root : BoxKey) (f : BoxForest) → IsTreeOf root f → IsTreeOf root (with_children same_key p g f)
tree_under p g root f r = (r.0, cond (same_key p root) g (with_children same_key p g r.1), ap (with_children same_key p g) r.2 ∙ by (same_key p root))
  where
    by : (b : Bool) → cond b (tree root r.0 g empty) (tree root r.0 (with_children same_key p g r.1) empty) ≡ tree root r.0 (cond b g (with_children same_key p g r.1)) empty
    by true = refl
    by false = refl

tree_drawn : (root : BoxKey) (f : BoxForest) → IsTreeOf root f → IsTreeOf root (drawn_below [] f)
tree_drawn root f r = (with_rect (at [] r.0) r.0, drawn_below (above_of true r.0 ∷ []) r.1, ap (drawn_below []) r.2)

module _ (g : BoxKey → Bool) (canvas : Rectangle) (cut gone : BoxKey → Bool) (within : (k : BoxKey) → cut k ≡ true → gone k ≡ true) where
  left_there : (root : BoxKey) (f : BoxForest) → IsTreeOf root f → IsClosed cut f → cut root ≡ false → without_touched gone (root_order (given g) canvas f) ≡ root_order (given g) canvas (bare gone true (pruned cut f))
  left_there root f r c n =
      let c2 : IsClosed cut (tree root r.0 r.1 empty) = subst (λ z. IsClosed cut z) r.2 c in
      subst (λ z. without_touched gone (root_order (given g) canvas z) ≡ root_order (given g) canvas (bare gone true (pruned cut z))) (sym r.2) (order-left g cut gone within canvas root r.0 r.1 c2.1 n)

  -- What is left of a tree that is drawn.
  left_of : (root : BoxKey) (f : BoxForest) → IsTreeOf root f → IsClosed cut f → cut root ≡ false
      → without_touched gone (root_order (given g) canvas (drawn_below [] f)) ≡ root_order (given g) canvas (bare gone true (drawn_below [] (pruned cut f)))
  left_of root f r c n =
      left_there root (drawn_below [] f) (tree_drawn root f r) (closed_drawn cut [] f c) n
      ∙ ap (λ z. root_order (given g) canvas (bare gone true z)) (pruned-drawn cut [] f)

gone_there : (g : BoxKey → Bool) (canvas : Rectangle) (gone : BoxKey → Bool) (root : BoxKey) (f : BoxForest) → IsTreeOf root f → all_cut gone f ≡ true → gone root ≡ true → without_touched gone (root_order (given g) canvas f) ≡ nil
gone_there g canvas gone root f r a o =
    let a2 : all_cut gone (tree root r.0 r.1 empty) ≡ true = subst (λ z. all_cut gone z ≡ true) r.2 a in
    let low : all_cut gone r.1 ≡ true = below_all (gone root) (all_cut gone r.1) a2 in
    subst (λ z. without_touched gone (root_order (given g) canvas z) ≡ nil) (sym r.2) (order-gone g gone canvas root r.0 r.1 o low (closed_all gone r.1 low))
  where
    below_all : (a b : Bool) → (a && b && true) ≡ true → b ≡ true
    below_all true true h = refl
    below_all true false h = h
    below_all false b h = absurd (never false h refl)

gone_of : (g : BoxKey → Bool) (canvas : Rectangle) (gone : BoxKey → Bool) (root : BoxKey) (f : BoxForest) → IsTreeOf root f → all_cut gone f ≡ true → gone root ≡ true
    → without_touched gone (root_order (given g) canvas (drawn_below [] f)) ≡ nil
gone_of g canvas gone root f r a o = gone_there g canvas gone root (drawn_below [] f) (tree_drawn root f r) (all-drawn gone [] f ∙ a) o

-- How far an edit of one box reaches.
abbrev styled_by : BoxKey → BoxKey → StyleChange → BoxForest → BoxKey → Bool
styled_by root k c f j = option_map_or (λ d. cond (whole d.style (same_key k root) c) (in_subtree same_key j k f) (names_any c && same_key j k)) (item_of same_key k f) false

abbrev placed_by : BoxKey → BoxKey → Rectangle → BoxForest → BoxKey → Bool
placed_by root k r f j = option_map_or (λ d. cond (clips d.style (same_key k root)) (in_subtree same_key j k f) (same_key j k)) (item_of same_key k f) false

styled_whole : (root k : BoxKey) (c : StyleChange) (f : BoxForest) (d : Item) → item_of same_key k f ≡ Some d → whole d.style (same_key k root) c ≡ true → (j : BoxKey) → styled_by root k c f j ≡ in_subtree same_key j k f
styled_whole root k c f d e w j = ap (λ o. option_map_or (λ d. cond (whole d.style (same_key k root) c) (in_subtree same_key j k f) (names_any c && same_key j k)) o false) e ∙ rw w refl

styled_alone : (root k : BoxKey) (c : StyleChange) (f : BoxForest) (d : Item) → item_of same_key k f ≡ Some d → whole d.style (same_key k root) c ≡ false → names_any c ≡ true → (j : BoxKey) → styled_by root k c f j ≡ same_key j k
styled_alone root k c f d e w n j = ap (λ o. option_map_or (λ d. cond (whole d.style (same_key k root) c) (in_subtree same_key j k f) (names_any c && same_key j k)) o false) e ∙ rw (w, n) refl

styled_none : (root k : BoxKey) (c : StyleChange) (f : BoxForest) (d : Item) → item_of same_key k f ≡ Some d → whole d.style (same_key k root) c ≡ false → names_any c ≡ false → (j : BoxKey) → styled_by root k c f j ≡ false
styled_none root k c f d e w n j = ap (λ o. option_map_or (λ d. cond (whole d.style (same_key k root) c) (in_subtree same_key j k f) (names_any c && same_key j k)) o false) e ∙ rw (w, n) refl

placed_whole : (root k : BoxKey) (r : Rectangle) (f : BoxForest) (d : Item) → item_of same_key k f ≡ Some d → clips d.style (same_key k root) ≡ true → (j : BoxKey) → placed_by root k r f j ≡ in_subtree same_key j k f
placed_whole root k r f d e w j = ap (λ o. option_map_or (λ d. cond (clips d.style (same_key k root)) (in_subtree same_key j k f) (same_key j k)) o false) e ∙ rw w refl

placed_alone : (root k : BoxKey) (r : Rectangle) (f : BoxForest) (d : Item) → item_of same_key k f ≡ Some d → clips d.style (same_key k root) ≡ false → (j : BoxKey) → placed_by root k r f j ≡ same_key j k
placed_alone root k r f d e w j = ap (λ o. option_map_or (λ d. cond (clips d.style (same_key k root)) (in_subtree same_key j k f) (same_key j k)) o false) e ∙ rw w refl

-- How far a scroll offset reaches.
abbrev scrolled_past : BoxKey → BoxKey → BoxForest → BoxKey → Bool
scrolled_past root k f j = option_map_or (λ d. clips d.style (same_key k root) && has same_key j (children same_key k f)) (item_of same_key k f) false

scrolled_all : (root k : BoxKey) (f : BoxForest) (d : Item) → item_of same_key k f ≡ Some d → clips d.style (same_key k root) ≡ true → (j : BoxKey) → scrolled_past root k f j ≡ has same_key j (children same_key k f)
scrolled_all root k f d e w j = ap (λ o. option_map_or (λ d. clips d.style (same_key k root) && has same_key j (children same_key k f)) o false) e ∙ rw w refl

scrolled_none : (root k : BoxKey) (f : BoxForest) (d : Item) → item_of same_key k f ≡ Some d → clips d.style (same_key k root) ≡ false → (j : BoxKey) → scrolled_past root k f j ≡ false
scrolled_none root k f d e w j = ap (λ o. option_map_or (λ d. clips d.style (same_key k root) && has same_key j (children same_key k f)) o false) e ∙ rw w refl

one_item : (a b : Item) → let x : Option Item = Some a in x ≡ Some b → a ≡ b
one_item a b e = cc

-- Which boxes are grouped, in a tree.
grouped-found : (root : BoxKey) (f : BoxForest) → IsTreeOf root f → (j : BoxKey) → grouped_in f j ≡ grouped_tree f j
grouped-found root f r j = subst (λ z. grouped_in z j ≡ grouped_tree z j) (sym r.2) (tree-found root j r.0 r.1)

module _ (g : BoxKey → Bool) (old : Document) (apart : IsApart same_key old.boxes) (rooted : IsRooted old) where
  abbrev pub boxes : BoxForest
  boxes = old.boxes

  abbrev pub canvas : Rectangle
  canvas = canvas_of old.canvas

  -- What a change of these boxes leaves: without those that it reaches the lists are the same, where it is given which boxes are grouped.
  record Row (gone : BoxKey → Bool) (f : BoxForest) : Type 0 where
    same : without_touched gone (root_order (given g) canvas (drawn_below [] boxes)) ≡ without_touched gone (root_order (given g) canvas (drawn_below [] f))

  root_low : (k : BoxKey) → same_key k old.root ≡ false → in_subtree same_key old.root k boxes ≡ false
  root_low k n =
      let a : IsApart same_key (tree old.root rooted.0 rooted.1 empty) = subst (λ z. IsApart same_key z) rooted.2 apart in
      let low : has same_key old.root (children same_key k (tree old.root rooted.0 rooted.1 empty)) ≡ false =
      rw n (ap (has same_key old.root) (join-empty (children same_key k rooted.1)) ∙ out_of_children same_key same_key-sound same_key-refl old.root k rooted.1 a.0) in
      subst (λ z. in_subtree same_key old.root k z ≡ false) (sym rooted.2) (rw (key_flip old.root k ∙ n, low) refl)

  root_all : (k : BoxKey) → same_key k old.root ≡ true → all_cut (λ j. in_subtree same_key j k boxes) boxes ≡ true
  root_all k e =
      all_from_has (λ j. in_subtree same_key j k boxes) boxes (λ j u.
      let v : has same_key j (tree old.root rooted.0 rooted.1 empty) ≡ true = subst (λ z. has same_key j z ≡ true) rooted.2 u in
      subst (λ z. in_subtree same_key j k z ≡ true) (sym rooted.2) (inside j v))
    where
      or_none : (b : Bool) → (b || false) ≡ b
      or_none true = refl
      or_none false = refl

      inside : (j : BoxKey) → has same_key j (tree old.root rooted.0 rooted.1 empty) ≡ true → in_subtree same_key j k (tree old.root rooted.0 rooted.1 empty) ≡ true
      inside j v = rw (e, same_key-sound k old.root e) (ap (λ z. same_key j old.root || z) (sym (or_none (has same_key j rooted.1))) ∙ v)

  row : (gone : BoxKey → Bool) (f : BoxForest) → without_touched gone (root_order (given g) canvas (drawn_below [] boxes)) ≡ without_touched gone (root_order (given g) canvas (drawn_below [] f)) → Row gone f
  row gone f e = record { same = e }

  moved_row_to : {p q : BoxKey → Bool} {f : BoxForest} → ((j : BoxKey) → q j ≡ p j) → Row p f → Row q f
  moved_row_to {p = p} {q = q} {f = f} e r = subst (λ s. Row s f) (λ i j. sym (e j) i) r

  abbrev subtree : BoxKey → BoxKey → Bool
  subtree k j = in_subtree same_key j k boxes

  abbrev one : BoxKey → BoxKey → Bool
  one k j = same_key j k

  -- an edit that reaches a subtree
  subtree_row : (k : BoxKey) (f : BoxForest) → IsTreeOf old.root f → let s : BoxKey → Bool = λ j. in_subtree same_key j k boxes in
      IsClosed s f → pruned s f ≡ pruned s boxes → (same_key k old.root ≡ true → all_cut s boxes ≡ true → all_cut s f ≡ true) → Row s f
  subtree_row k f r c p a =
      let s : BoxKey → Bool = λ j. in_subtree same_key j k boxes in
      elim (cases (same_key k old.root)) [
        | inl e ↦
            let here : s old.root ≡ true = from_left (same_key old.root k) (has same_key old.root (children same_key k boxes)) (key_flip old.root k ∙ e) in
            row s f (gone_of g canvas s old.root boxes rooted (root_all k e) here ∙ sym (gone_of g canvas s old.root f r (a e (root_all k e)) here))
        | inr e ↦
            row s f (left_of g canvas s s (λ k h. h) old.root boxes rooted (closed_subtree k boxes apart) (root_low k e)
            ∙ (ap (λ z. root_order (given g) canvas (bare s true (drawn_below [] z))) (sym p) ∙ sym (left_of g canvas s s (λ k h. h) old.root f r c (root_low k e))))
      ]

  -- items of the subtree change
  changed_row : (k : BoxKey) (t : BoxKey → Bool) (h : Item → Item) → ((j : BoxKey) → t j ≡ true → in_subtree same_key j k boxes ≡ true) → Row (subtree k) (map_where t h boxes)
  changed_row k t h w =
      let s : BoxKey → Bool = λ j. in_subtree same_key j k boxes in
      subtree_row k (map_where t h boxes) (tree_each t h old.root boxes rooted)
      (closed_each s t h boxes (closed_subtree k boxes apart))
      (pruned_each s t h boxes w)
      (λ _ a. all-each s t h boxes ∙ a)

  removed_row : (k : BoxKey) → same_key k old.root ≡ false → Row (subtree k) (forest.without_branch same_key k boxes)
  removed_row k n =
      let s : BoxKey → Bool = λ j. in_subtree same_key j k boxes in
      let here : s k ≡ true = from_left (same_key k k) (has same_key k (children same_key k boxes)) (same_key-refl k) in
      subtree_row k (forest.without_branch same_key k boxes) (tree_without k old.root boxes n rooted)
      (closed_without s k boxes (closed_subtree k boxes apart))
      (pruned_without s k boxes here)
      (λ e _. absurd (never (same_key k old.root) e n))

  -- all of a subtree that is put elsewhere is cut off
  branch_all : (s : BoxKey → Bool) (k : BoxKey) → ((j : BoxKey) → in_subtree same_key j k boxes ≡ true → s j ≡ true) → all_cut s (branch same_key k boxes) ≡ true
  branch_all s k w =
      all_branch s k boxes (w k (from_left (same_key k k) (has same_key k (children same_key k boxes)) (same_key-refl k)))
      (λ j u. w j (from_right (same_key j k) (has same_key j (children same_key k boxes)) u))

  moved_row : (k p : BoxKey) (before : Option BoxKey) → same_key k old.root ≡ false → in_subtree same_key p k boxes ≡ false → Row (subtree k) (put_elsewhere k p before boxes)
  moved_row k p before n out =
      let s : BoxKey → Bool = λ j. in_subtree same_key j k boxes in
      let here : s k ≡ true = from_left (same_key k k) (has same_key k (children same_key k boxes)) (same_key-refl k) in
      let f : BoxForest = forest.without_branch same_key k boxes in
      let b : BoxForest = branch same_key k boxes in
      let x : BoxForest = insert_among same_key before b (children same_key p f) in
      let c : IsClosed s boxes = closed_subtree k boxes apart in
      let cf : IsClosed s f = closed_without s k boxes c in
      let af : IsApart same_key f = apart_without same_key same_key-sound same_key-refl k boxes apart in
      let ab : all_cut s b ≡ true = branch_all s k (λ j u. u) in
      subtree_row k (with_children same_key p x f) (tree_under p x old.root f (tree_without k old.root boxes n rooted))
      (closed_under s p x f out (closed_amid s before b (children same_key p f) (closed_branch s k boxes c) (closed_children s p f cf)) cf)
      (pruned_under s p x f af (pruned_amid s before b (children same_key p f) ab) ∙ pruned_without s k boxes here)
      (λ e _. absurd (never (same_key k old.root) e n))

  -- a new box without children
  inserted_row : (p k : BoxKey) (before : Option BoxKey) (d : Item) → has same_key p boxes ≡ true → has same_key k boxes ≡ false → Row (one k) (with_child p before k d boxes)
  inserted_row p k before d hp nk =
      let s : BoxKey → Bool = λ j. same_key j k in
      let b : BoxForest = tree k d empty empty in
      let x : BoxForest = insert_among same_key before b (children same_key p boxes) in
      let off : (j : BoxKey) → has same_key j boxes ≡ true → s j ≡ false = λ j u. differs same_key same_key-sound same_key-refl boxes j k u nk in
      let root_there : has same_key old.root boxes ≡ true = subst (λ z. has same_key old.root z ≡ true) (sym rooted.2) (from_left (same_key old.root old.root) (has same_key old.root rooted.1 || false) (same_key-refl old.root)) in
      let c : IsClosed s boxes = closed_none s boxes off in
      let ab : all_cut s b ≡ true = rw (same_key-refl k) refl in
      let cb : IsClosed s b = ((λ _. refl), tt, tt) in
      row s (with_children same_key p x boxes)
      (left_of g canvas s s (λ k h. h) old.root boxes rooted c (off old.root root_there)
      ∙ (ap (λ z. root_order (given g) canvas (bare s true (drawn_below [] z))) (sym (pruned_under s p x boxes apart (pruned_amid s before b (children same_key p boxes) ab)))
      ∙ sym (left_of g canvas s s (λ k h. h) old.root (with_children same_key p x boxes) (tree_under p x old.root boxes rooted)
      (closed_under s p x boxes (off p hp) (closed_amid s before b (children same_key p boxes) cb (closed_children s p boxes c)) c) (off old.root root_there))))

  -- the box of a key, where it is found
  of_key : (k : BoxKey) (P : Bool → Item → Type 0) → ((d : Item) → item_of same_key k boxes ≡ Some d → P (same_key k old.root) d) → OfKey k P true boxes
  of_key k P q =
      let a : IsApart same_key (tree old.root rooted.0 rooted.1 empty) = subst (λ z. IsApart same_key z) rooted.2 apart in
      subst (λ z. OfKey k P true z) (sym rooted.2) (key_root k P old.root rooted.0 rooted.1 a (λ x e. q x (ap (item_of same_key k) rooted.2 ∙ e)))

  -- one box changes so that no other box rests on it
  alone_row : (k : BoxKey) (h : Item → Item) → ((d : Item) → item_of same_key k boxes ≡ Some d → KeepsPlaces h (same_key k old.root) d) → Row (one k) (at_box same_key k h boxes)
  alone_row k h q =
      let s : BoxKey → Bool = λ j. same_key j k in
      let f : BoxForest = at_box same_key k h boxes in
      let same : bare s true (drawn_below [] f) ≡ bare s true (drawn_below [] boxes) = bare-drawn k h [] boxes (of_key k (KeepsPlaces h) q) in
      let nothing : (f : BoxForest) → IsClosed none f = λ f. closed_none none f (λ j u. refl) in
      row s f
      (left_of g canvas none s (λ k h. absurd (never false h refl)) old.root boxes rooted (nothing boxes) refl
      ∙ (ap (λ z. root_order (given g) canvas (bare s true (drawn_below [] z))) (pruned-none boxes)
      ∙ (ap (root_order (given g) canvas) (sym same)
      ∙ (ap (λ z. root_order (given g) canvas (bare s true (drawn_below [] z))) (sym (pruned-none f))
      ∙ sym (left_of g canvas none s (λ k h. absurd (never false h refl)) old.root f (tree_each s h old.root boxes rooted) (nothing f) refl)))))

  -- No box stands above the root.
  root_top : (k : BoxKey) → has same_key old.root (children same_key k boxes) ≡ false
  root_top k =
      let a : IsApart same_key (tree old.root rooted.0 rooted.1 empty) = subst (λ z. IsApart same_key z) rooted.2 apart in
      let low : has same_key old.root (children same_key k rooted.1) ≡ false = out_of_children same_key same_key-sound same_key-refl old.root k rooted.1 a.0 in
      let at_root : has same_key old.root (children same_key k (tree old.root rooted.0 rooted.1 empty)) ≡ false = by (same_key k old.root) a.0 (ap (has same_key old.root) (join-empty (children same_key k rooted.1)) ∙ low) in
      subst (λ z. has same_key old.root (children same_key k z) ≡ false) (sym rooted.2) at_root
    where
      by : (b : Bool) → has same_key old.root rooted.1 ≡ false → has same_key old.root (children same_key k rooted.1 ▷ empty) ≡ false
          → has same_key old.root (cond b rooted.1 (children same_key k rooted.1 ▷ empty)) ≡ false
      by true p q = p
      by false p q = q

  -- what is below the box of a key is cut, where all below it is to go
  bared : (k : BoxKey) (s : BoxKey → Bool) (f : BoxForest) → ((j : BoxKey) → has same_key j (children same_key k f) ≡ true → s j ≡ true) → IsApart same_key f → (v : Scroll) → IsBared s k v f
  bared k s empty h a v = tt
  bared k s (tree i d below rest) h a v =
      elim (cases (same_key k i)) [
        | inl e ↦
            let n : k ≡ i = same_key-sound k i e in
            let low : all_cut s below ≡ true = all_from_has s below (λ j u. h j (rw e u)) in (
              (λ _. low),
              bared k s below (λ j u. absurd (never (has same_key j (children same_key k below)) u (ap (has same_key j) (no_children same_key same_key-sound same_key-refl k below (subst (λ x. has same_key x below ≡ false) (sym n) a.0))))) a.3 v,
              bared k s rest (λ j u. absurd (never (has same_key j (children same_key k rest)) u (ap (has same_key j) (no_children same_key same_key-sound same_key-refl k rest (subst (λ x. has same_key x rest ≡ false) (sym n) a.1))))) a.4 v,
            )
        | inr e ↦ (
          (λ u. absurd (never (same_key k i) (key_flip k i ∙ u) e)),
          bared k s below (λ j u. h j (rw e (has-join same_key same_key-sound same_key-refl j (children same_key k below) (children same_key k rest) ∙ from_left (has same_key j (children same_key k below)) (has same_key j (children same_key k rest)) u))) a.3 v,
          bared k s rest (λ j u. h j (rw e (has-join same_key same_key-sound same_key-refl j (children same_key k below) (children same_key k rest) ∙ from_right (has same_key j (children same_key k below)) (has same_key j (children same_key k rest)) u))) a.4 v,
        )
      ]

  -- a box that clips is scrolled: what is below it goes
  scrolled_row : (k : BoxKey) (v : Scroll) → let s : BoxKey → Bool = λ j. has same_key j (children same_key k boxes) in Row s (at_box same_key k (with_scroll v) boxes)
  scrolled_row k v =
      let s : BoxKey → Bool = λ j. has same_key j (children same_key k boxes) in
      let one : BoxKey → Bool = λ j. same_key j k in
      let f : BoxForest = at_box same_key k (with_scroll v) boxes in
      let c : IsClosed s boxes = closed_below k boxes apart in
      let b : BoxForest = bare s true (drawn_below [] (pruned s boxes)) in
      let same : bare s true (drawn_below [] (pruned s f)) ≡ at_box same_key k (with_scroll v) b =
      ap (bare s true) (scrolled-cut s k v [] boxes (bared k s boxes (λ j u. u) apart v)) ∙ bare-scrolled s true k v (drawn_below [] (pruned s boxes)) in
      row s f
      (left_of g canvas s s (λ k h. h) old.root boxes rooted c (root_top k)
      ∙ (sym (order_same (given g) one (with_scroll v) (λ k d. refl) canvas b)
      ∙ (ap (root_order (given g) canvas) (sym same)
      ∙ sym (left_of g canvas s s (λ k h. h) old.root f (tree_each one (with_scroll v) old.root boxes rooted) (closed_each s one (with_scroll v) boxes c) (root_top k)))))

  -- a box that does not clip is scrolled: nothing moves
  still_row : (k : BoxKey) (v : Scroll) → ((d : Item) → item_of same_key k boxes ≡ Some d → clips d.style (same_key k old.root) ≡ false) → Row none (at_box same_key k (with_scroll v) boxes)
  still_row k v q =
      let f : BoxForest = at_box same_key k (with_scroll v) boxes in
      let kept : drawn_below [] f ≡ at_box same_key k (with_scroll v) (drawn_below [] boxes) =
      scrolled-kept k v [] boxes (of_key k (λ root d. above_of root (with_scroll v d) ≡ above_of root d) (λ d e. let n = q d e in λ i. record { position = d.style.position; scrolled = still (clips d.style (same_key k old.root)) d n i })) in
      record {
        same = ap (without_touched none) (sym (ap (root_order (given g) canvas) kept ∙ order_same (given g) (λ j. same_key j k) (with_scroll v) (λ k d. refl) canvas (drawn_below [] boxes)));
      }
    where
      still : (b : Bool) (d : Item) → b ≡ false → cond b v unscrolled ≡ cond b d.scroll unscrolled
      still true d e = cc
      still false d e = refl

  same_row : (f : BoxForest) → f ≡ boxes → Row none f
  same_row f e = record { same = ap (λ z. without_touched none (root_order (given g) canvas (drawn_below [] z))) (sym e) }

  styled_row : (k : BoxKey) (c : StyleChange) → has same_key k boxes ≡ true → Row (styled_by old.root k c boxes) (at_box same_key k (restyle c) boxes)
  styled_row k c h =
      let i = has_item k boxes h in
      let root : Bool = same_key k old.root in
      elim (cases (whole i.0.style root c)) [
        | inl w ↦
            moved_row_to (styled_whole old.root k c boxes i.0 i.1 w)
            (changed_row k (λ j. same_key j k) (restyle c) (λ j e. from_left (same_key j k) (has same_key j (children same_key k boxes)) e))
        | inr w ↦ elim (cases (names_any c)) [
          | inl n ↦
              moved_row_to (styled_alone old.root k c boxes i.0 i.1 w n)
              (alone_row k (restyle c) (λ d e. places-restyle root c d (subst (λ x. whole x.style root c ≡ false) (one_item i.0 d (sym i.1 ∙ e)) w)))
          | inr n ↦
              moved_row_to (styled_none old.root k c boxes i.0 i.1 w n)
              (same_row (at_box same_key k (restyle c) boxes) (each_same (λ j. same_key j k) (restyle c) (λ d. restyle-none c d n) boxes))
        ]
      ]

  replaced_row : (k : BoxKey) (r : Rectangle) → has same_key k boxes ≡ true → Row (placed_by old.root k r boxes) (at_box same_key k (with_rect r) boxes)
  replaced_row k r h =
      let i = has_item k boxes h in
      let root : Bool = same_key k old.root in
      elim (cases (clips i.0.style root)) [
        | inl w ↦
            moved_row_to (placed_whole old.root k r boxes i.0 i.1 w)
            (changed_row k (λ j. same_key j k) (with_rect r) (λ j e. from_left (same_key j k) (has same_key j (children same_key k boxes)) e))
        | inr w ↦
            moved_row_to (placed_alone old.root k r boxes i.0 i.1 w)
            (alone_row k (with_rect r) (λ d e. places-rect root r d (subst (λ x. clips x.style root ≡ false) (one_item i.0 d (sym i.1 ∙ e)) w)))
      ]

  scrolling_row : (k : BoxKey) (v : Scroll) → has same_key k boxes ≡ true → Row (scrolled_past old.root k boxes) (at_box same_key k (with_scroll v) boxes)
  scrolling_row k v h =
      let i = has_item k boxes h in
      let root : Bool = same_key k old.root in
      elim (cases (clips i.0.style root)) [
        | inl w ↦ moved_row_to (scrolled_all old.root k boxes i.0 i.1 w) (scrolled_row k v)
        | inr w ↦ moved_row_to (scrolled_none old.root k boxes i.0 i.1 w)
            (still_row k v (λ d e. subst (λ x. clips x.style root ≡ false) (one_item i.0 d (sym i.1 ∙ e)) w))
      ]

  row_of : (c : Change) → CanChange c old → Row (reached_by c old) (after c old).boxes
  row_of (insertion p before k d) (there, new) = inserted_row p k before d there new
  row_of (removal k) n = removed_row k n
  row_of (moving k p before) (n, out) = moved_row k p before n out
  row_of (styling k c) there = styled_row k c there
  row_of (placing k r) there = replaced_row k r there
  row_of (shifting k dx dy) _ = changed_row k (λ j. in_subtree same_key j k boxes) (shift_item dx dy) (λ j e. e)
  row_of (scrolling k v) there = scrolling_row k v there

module _ (old : Document) (apart : IsApart same_key old.boxes) (rooted : IsRooted old) where
  abbrev all : BoxForest
  all = old.boxes

  -- The boxes that a change touches are subtrees, or it leaves every box grouped as it was.
  abbrev IsWhole : (BoxKey → Bool) → BoxForest → Type 0
  IsWhole gone f = IsClosed gone f ⊎ ((j : BoxKey) → grouped_tree f j ≡ grouped_tree all j)

  closed_in : (o : Option BoxKey) → IsClosed (in_context o old) all
  closed_in None = closed_none (in_context None old) all (λ j u. refl)
  closed_in (Some e) = closed_subtree e all apart

  removal_closed : (k : BoxKey) → IsClosed (touched_by (removal k) old) (forest.without_branch same_key k all)
  removal_closed k =
      closed_without (touched_by (removal k) old) k all
      (closed_or (reached_by (removal k) old) (regrouped_by (removal k) old) all (closed_subtree k all apart)
      (closed_and (holds_blended k old) (in_context (context_round k old) old) all (closed_in (context_round k old))))

  moving_closed : (k p : BoxKey) (before : Option BoxKey) → IsClosed (touched_by (moving k p before) old) (put_elsewhere k p before all)
  moving_closed k p before =
      let s : BoxKey → Bool = touched_by (moving k p before) old in
      let was : IsClosed s all =
      closed_or (reached_by (moving k p before) old) (regrouped_by (moving k p before) old) all (closed_subtree k all apart)
      (closed_and (holds_blended k old) (λ j. in_context (context_round k old) old j || in_context (context_of p old) old j) all
      (closed_or (in_context (context_round k old) old) (in_context (context_of p old) old) all (closed_in (context_round k old)) (closed_in (context_of p old)))) in
      let f : BoxForest = forest.without_branch same_key k all in
      let b : BoxForest = branch same_key k all in
      let c : IsClosed s f = closed_without s k all was in
      let ab : all_cut s b ≡ true = branch_all (λ j. false) old apart rooted s k (λ j u. from_left (reached_by (moving k p before) old j) (regrouped_by (moving k p before) old j) u) in
      closed_anew s p (insert_among same_key before b (children same_key p f)) f
      (λ h. all_amid s before b (children same_key p f) ab (all_children s p f c h))
      (closed_amid s before b (children same_key p f) (closed_branch s k all was) (closed_children s p f c)) c

  insertion_closed : (p : BoxKey) (before : Option BoxKey) (k : BoxKey) (d : Item) → has same_key k all ≡ false → IsClosed (touched_by (insertion p before k d) old) (with_child p before k d all)
  insertion_closed p before k d n =
      let s : BoxKey → Bool = touched_by (insertion p before k d) old in
      let was : IsClosed s all =
      closed_or (reached_by (insertion p before k d) old) (regrouped_by (insertion p before k d) old) all
      (closed_none (reached_by (insertion p before k d) old) all (λ j u. differs same_key same_key-sound same_key-refl all j k u n))
      (closed_and (blended d.style) (in_context (context_of p old) old) all (closed_in (context_of p old))) in
      let b : BoxForest = tree k d empty empty in
      let ab : all_cut s b ≡ true = rw (same_key-refl k) refl in
      let cb : IsClosed s b = ((λ _. refl), tt, tt) in
      closed_anew s p (insert_among same_key before b (children same_key p all)) all
      (λ h. all_amid s before b (children same_key p all) ab (all_children s p all was h))
      (closed_amid s before b (children same_key p all) cb (closed_children s p all was)) was

  styling_whole : (k : BoxKey) (c : StyleChange) → has same_key k all ≡ true → IsWhole (touched_by (styling k c) old) (at_box same_key k (restyle c) all)
  styling_whole k c there =
      elim (cases (names_class c)) [
        | inr n ↦ inr (λ j. tree-each (λ i. same_key i k) (restyle c) (λ e. alike_named c e n) j all)
        | inl n ↦
            let i = has_item k all there in
            let w : whole i.0.style (same_key k old.root) c ≡ true = rw n refl in
            let s : IsClosed (reached_by (styling k c) old) all = subst (λ z. IsClosed z all) (λ t j. sym (styled_whole old.root k c all i.0 i.1 w j) t) (closed_subtree k all apart) in
            let blending : Bool = names_class c && (holds_blended k old || holds_blended k (after (styling k c) old)) in
            inl (closed_each (touched_by (styling k c) old) (λ j. same_key j k) (restyle c) all
            (closed_or (reached_by (styling k c) old) (regrouped_by (styling k c) old) all s
            (closed_and blending (in_context (context_round k old) old) all (closed_in (context_round k old)))))
      ]

  whole_of : (c : Change) → CanChange c old → IsWhole (touched_by c old) (after c old).boxes
  whole_of (insertion p before k d) (there, new) = inl (insertion_closed p before k d new)
  whole_of (removal k) n = inl (removal_closed k)
  whole_of (moving k p before) can = inl (moving_closed k p before)
  whole_of (styling k c) there = styling_whole k c there
  whole_of (placing k r) there = inr (λ j. tree-each (λ i. same_key i k) (with_rect r) (λ e. record { blend = refl; context = refl; opacity = refl }) j all)
  whole_of (shifting k dx dy) _ = inr (λ j. tree-each (λ i. in_subtree same_key i k all) (shift_item dx dy) (λ e. record { blend = refl; context = refl; opacity = refl }) j all)
  whole_of (scrolling k v) _ = inr (λ j. tree-each (λ i. same_key i k) (with_scroll v) (λ e. record { blend = refl; context = refl; opacity = refl }) j all)

  -- The tree after a change.
  after_apart : (c : Change) → CanChange c old → IsApart same_key (after c old).boxes
  after_apart (insertion p before k d) (there, new) = child_apart k d p before all apart new
  after_apart (removal k) n = apart_without same_key same_key-sound same_key-refl k all apart
  after_apart (moving k p before) can = elsewhere_apart k p before all apart
  after_apart (styling k c) there = apart_each (λ j. same_key j k) (restyle c) same_key all apart
  after_apart (placing k r) there = apart_each (λ j. same_key j k) (with_rect r) same_key all apart
  after_apart (shifting k dx dy) _ = apart_each (λ j. in_subtree same_key j k all) (shift_item dx dy) same_key all apart
  after_apart (scrolling k v) _ = apart_each (λ j. same_key j k) (with_scroll v) same_key all apart

  after_tree : (c : Change) → CanChange c old → IsTreeOf old.root (after c old).boxes
  after_tree (insertion p before k d) can = tree_under p (insert_among same_key before (tree k d empty empty) (children same_key p all)) old.root all rooted
  after_tree (removal k) n = tree_without k old.root all n rooted
  after_tree (moving k p before) (n, out) =
      let f : BoxForest = forest.without_branch same_key k all in
      tree_under p (insert_among same_key before (branch same_key k all) (children same_key p f)) old.root f (tree_without k old.root all n rooted)
  after_tree (styling k c) there = tree_each (λ j. same_key j k) (restyle c) old.root all rooted
  after_tree (placing k r) there = tree_each (λ j. same_key j k) (with_rect r) old.root all rooted
  after_tree (shifting k dx dy) _ = tree_each (λ j. in_subtree same_key j k all) (shift_item dx dy) old.root all rooted
  after_tree (scrolling k v) _ = tree_each (λ j. same_key j k) (with_scroll v) old.root all rooted

after_root : (c : Change) (t : Document) → (after c t).root ≡ t.root
after_root (insertion p before k d) t = refl
after_root (removal k) t = refl
after_root (moving k p before) t = refl
after_root (styling k c) t = refl
after_root (placing k r) t = refl
after_root (shifting k dx dy) t = refl
after_root (scrolling k v) t = refl

pub after_canvas : (c : Change) (t : Document) → (after c t).canvas ≡ t.canvas
after_canvas (insertion p before k d) t = refl
after_canvas (removal k) t = refl
after_canvas (moving k p before) t = refl
after_canvas (styling k c) t = refl
after_canvas (placing k r) t = refl
after_canvas (shifting k dx dy) t = refl
after_canvas (scrolling k v) t = refl

-- A box that is not touched stays grouped, or not grouped.
tree_stays : (c : Change) (t : Document) → IsApart same_key t.boxes → IsRooted t → CanChange c t → (j : BoxKey) → touched_by c t j ≡ false → grouped_tree (after c t).boxes j ≡ grouped_tree t.boxes j
tree_stays c t a r can j =
    subst (λ z. IsApart same_key z → CanChange c (record t { boxes = z }) → touched_by c (record t { boxes = z }) j ≡ false → grouped_tree (after c (record t { boxes = z })).boxes j ≡ grouped_tree z j) (sym r.2)
    (λ a2 can2 h. change-stays t r.0 r.1 a2 j c can2 h) a can

pub grouped_stays : GroupedLaw
grouped_stays c t a r can j h =
    grouped-found t.root (after c t).boxes (after_tree t a r c can) j
    ∙ (tree_stays c t a r can j h ∙ sym (grouped-found t.root t.boxes r j))

-- What is left does not rest on how what is left out was grouped.
regrouped : (canvas : Rectangle) (g h : BoxKey → Bool) (gone : BoxKey → Bool) (root : BoxKey) (f : BoxForest) → IsTreeOf root f → IsClosed gone f → ((j : BoxKey) → gone j ≡ false → g j ≡ h j)
    → without_touched gone (root_order (given g) canvas f) ≡ without_touched gone (root_order (given h) canvas f)
regrouped canvas g h gone root f r c e =
    subst (λ z. without_touched gone (root_order (given g) canvas z) ≡ without_touched gone (root_order (given h) canvas z)) (sym r.2)
    (order-agree g h canvas gone root r.0 r.1 (subst (λ z. IsClosed gone z) r.2 c) e)

-- Without the boxes that it touches a change leaves the list.
untouched : (c : Change) (t : Document) → IsApart same_key t.boxes → IsRooted t → CanChange c t
    → without_touched (touched_by c t) (fresh_list t) ≡ without_touched (touched_by c t) (fresh_list (after c t))
untouched c t a r can =
    let gone : BoxKey → Bool = touched_by c t in
    let new : Document = after c t in
    let f : BoxForest = new.boxes in
    let canvas : Rectangle = canvas_of t.canvas in
    let was : BoxKey → Bool = grouped_in t.boxes in
    let is : BoxKey → Bool = grouped_in f in
    let tree_of : IsTreeOf t.root f = after_tree t a r c can in
    let rooted : IsRooted new = subst (λ k. IsTreeOf k f) (sym (after_root c t)) tree_of in
    let reached : BoxKey → Bool = reached_by c t in
    let more : (k : BoxKey) → reached k ≡ true → gone k ≡ true = λ k u. from_left (reached k) (regrouped_by c t k) u in
    let row = row_of was t a r c can in
    let shows : BoxForest = drawn_below [] f in
    let same_canvas : root_order (given is) (canvas_of new.canvas) shows ≡ root_order (given is) canvas shows = ap (λ n. root_order (given is) (canvas_of n) shows) (after_canvas c t) in
    let turned : without_touched gone (root_order (given was) canvas shows) ≡ without_touched gone (root_order (given is) canvas shows) =
    elim (whole_of t a r c can) [
      | inl closed ↦ regrouped canvas was is gone t.root shows (tree_drawn t.root f tree_of) (closed_drawn gone [] f closed) (λ j h. sym (grouped_stays c t a r can j h))
      | inr alike ↦ ap (λ g. without_touched gone (root_order (given g) canvas shows))
          (λ i j. (grouped-found t.root t.boxes r j ∙ (sym (alike j) ∙ sym (grouped-found t.root f tree_of j))) i)
    ] in
    ap (without_touched gone) (given_list t a r)
    ∙ (sym (without_more reached gone more (root_order (given was) canvas (drawn_below [] t.boxes)))
    ∙ (ap (without_touched gone) row.same
    ∙ (without_more reached gone more (root_order (given was) canvas shows)
    ∙ (turned
    ∙ ap (without_touched gone) (sym (given_list new (after_apart t a r c can) rooted ∙ same_canvas))))))

pub pruning : PruningLaw
pruning c t apart rooted can gone h =
    let was : BoxKey → Bool = touched_by c t in
    sym (without_more was gone h (fresh_list t))
    ∙ (ap (without_touched gone) (untouched c t apart rooted can)
    ∙ without_more was gone h (fresh_list (after c t)))
