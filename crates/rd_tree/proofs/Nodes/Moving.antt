-- A box, with all below it, is moved to another place.
use Rattle.std.proofs.Common.{◌≡◌, refl, ap, ◌∙◌, sym, subst, ◌+◌, ◌≤◌, Bool, true, false, ◌||◌, arith, inl, inr}
use Rattle.std.specs.Prelude.{Option, Some, None, String, option_map, is_some}
use Rattle.std.specs.HashMap.{HashMap}
use Rattle.rd_keys.specs.Keys.{same_key}
use Rattle.rd_keys.specs.Arena.{Arena, live, occupied}
use Rattle.rd_keys.proofs.Keys.{same_key-sound, same_key-refl}
use Rattle.rd_tree.specs.declared.node.Node as inner
use Rattle.rd_tree.specs.Forest.{Forest, empty, tree, size, ◌▷◌, has, children, with_children, insert_among, without_branch, in_subtree, map_where, IsPlaceIn, AreApart, IsApart}
use Rattle.rd_tree.specs.Internal.Links.{Node, node, with_prev, with_next, with_ends, with_place, Stands, on_each, edit, edit_if, end_after, grafted, child_and_sibling, ends_of, left_of, unlinked}
use Rattle.rd_tree.specs.Document.{BoxKey, Item, BoxForest}
use Rattle.rd_tree.specs.Internal.Linked.{linked, marks, Relinks, IsTree, seen, seen_from, item_at, IsIndexed, IsConsistent}
use Rattle.rd_tree.specs.declared.reach.Reach.TheVariants.{Subtree}
use Rattle.rd_tree.specs.Touching.{touch}
use Rattle.rd_tree.specs.Internal.Reaching.{reached}
use Rattle.rd_tree.specs.Changes.{put_elsewhere}
use Rattle.rd_tree.specs.Internal.Reaching.{moved}
use Rattle.rd_tree.proofs.Linking.Standing.{either, frame, agree_at, agree_edit, has-join, out_of_children, differs_back}
use Rattle.rd_tree.proofs.Linking.Children.{stands_children}
use Rattle.rd_tree.proofs.Forests.Under.{in_under_new, in_under_old, size-with_children, apart_under}
use Rattle.rd_tree.proofs.Linking.Cutting.{in_children, gone}
use Rattle.rd_tree.proofs.Linking.Grafting.{stands_grafted}
use Rattle.rd_tree.proofs.Linking.Placing.{Gap, gap, Joined, joined}
use Rattle.rd_tree.proofs.Nodes.Grow.{edit_if-as, some_edit, same_occupied, seen_is}
use Rattle.rd_tree.proofs.Nodes.Items.{items-edit, items-grafted}
use Rattle.rd_tree.proofs.Forests.Without.{stays}
use Rattle.rd_tree.proofs.Forests.Staying.{place_stays}
use Rattle.rd_tree.proofs.Nodes.Unlinking.{Unlinked, cut_out, items_unlinked}
use Rattle.rd_tree.proofs.Nodes.Each.{has-each, children-each, place_each}
use Rattle.rd_tree.proofs.Nodes.Editing.{touched_sound, still_has}

module _ {K D : Type 0} (same : K → K → Bool) (sound : (a b : K) → same a b ≡ true → a ≡ b) (reflexive : (a : K) → same a a ≡ true) where
  -- Once the links say so, the box k stands, with what is below it, at its place below q.
  stands_put_branch : (at : K → Option (Node K D)) (up prev : Option K) (g : Forest K D) (first last after : Option K) (q k : K) (x y : Node K D)
      (below : Forest K D) (before v : Option K) →
      IsApart same g → Stands at up prev g first last after → has same q g ≡ true → at q ≡ Some y → (w : Gap same sound reflexive at q y.first y.last
      (children same q g) before v) → has same k g ≡ false →
      at k ≡ Some x → Stands at (Some k) None below x.first x.last None → has same k below ≡ false → AreApart same g (tree k x.item below empty) →
      Stands (grafted same q k v before y.first y.last (edit same k (with_place (Some q) v before) at)) up prev (with_children same q (w.xs ▷ tree k x.item
      below w.ys) g) first last after
  stands_put_branch at up prev g first last after q k x y below before v a s m found w n at_k low alone strange =
      let e : Node K D → Node K D = with_place (Some q) v before in
      let at2 : K → Option (Node K D) = edit same k e at in
      let kc : has same k (w.xs ▷ w.ys) ≡ false = subst (λ h. has same k h ≡ false) w.is (out_of_children same sound reflexive k q g n) in
      let ks : (has same k w.xs ≡ false) × (has same k w.ys ≡ false) = either (has same k w.xs) (has same k w.ys) (sym (has-join same sound reflexive k
      w.xs w.ys) ∙ kc) in
      let s2 : Stands at2 up prev g first last after = frame at at2 up prev g first last after (agree_edit same sound reflexive k e at g n) s in
      let found2 : at2 q ≡ Some y = rw (differs_back same sound reflexive g k q n m) found in
      let left : Stands at2 (Some q) None w.xs y.first v before = frame at at2 (Some q) None w.xs y.first v before (agree_edit same sound reflexive k e at
      w.xs ks.0) w.left in
      let right : Stands at2 (Some q) v w.ys before y.last None = frame at at2 (Some q) v w.ys before y.last None (agree_edit same sound reflexive k e at
      w.ys ks.1) w.right in
      let here : at2 k ≡ Some (node x.item (Some q) v x.first x.last before) = rw (reflexive k, at_k) refl in
      let low2 : Stands at2 (Some k) None below x.first x.last None = frame at at2 (Some k) None below x.first x.last None (agree_edit same sound reflexive
      k e at below alone) low in
      let one : Stands at2 (Some q) v (tree k x.item below empty) (Some k) (Some k) before = (x.first, x.last, before, refl, here, low2, (refl, refl)) in
      stands_grafted same sound reflexive at2 up prev g first last after q k x.item y below w.xs w.ys v before a s2 m found2 w.is left right one strange

pub move_tree : (a0 a1 a2 a3 : Arena inner.Node) (root k q : BoxKey) (before v : Option BoxKey) (ends : Option BoxKey × Option BoxKey) →
    IsTree a0 root → has same_key k (seen a0 root) ≡ true → same_key k root ≡ false → has same_key q (seen a0 root) ≡ true → in_subtree same_key q k
    (seen a0 root) ≡ false →
    IsPlaceIn same_key before (children same_key q (seen a0 root)) → (before ≡ Some k → ⊥) →
    Relinks a0 a1 (unlinked same_key k (linked a0)) → ends ≡ ends_of (linked a1 q) → v ≡ left_of (linked a1) ends.1 before →
    Relinks a1 a2 (edit same_key k (with_place (Some q) v before) (linked a1)) → Relinks a2 a3 (grafted same_key q k v before ends.0 ends.1 (linked a2)) →
    (t : IsTree a3 root) × (seen a3 root ≡ put_elsewhere k q before (seen a0 root))
move_tree a0 a1 a2 a3 root k q before v ends t0 m not_root q_in outside place other r1 ends_is v_is r2 r3 = (is, sees) where
  f : BoxForest
  f = seen a0 root

  fa : IsApart same_key f
  fa = subst (λ h. IsApart same_key h) (sym (seen_is a0 root t0)) t0.is.apart

  u : Unlinked a0 a1 root k f
  u = cut_out a0 a1 root k t0 m not_root r1

  g : BoxForest
  g = without_branch same_key k f

  one : BoxForest
  one = tree k u.node.item u.below empty

  out : (same_key q k ≡ false) × (has same_key q (children same_key k f) ≡ false)
  out = either (same_key q k) (has same_key q (children same_key k f)) outside

  q_stays : has same_key q g ≡ true
  q_stays = stays same_key same_key-sound same_key-refl q k f q_in out.0 out.1

  k_gone : has same_key k g ≡ false
  k_gone = gone same_key same_key-sound same_key-refl k f fa

  c : BoxForest
  c = children same_key q g

  low : (y : Node BoxKey Item) × (linked a1 q ≡ Some y) × Stands (linked a1) (Some q) None c y.first y.last None × IsApart same_key c × (has same_key q c
      ≡ false)
  low = stands_children same_key same_key-sound same_key-refl (linked a1) None None g (Some root) (Some root) None q u.apart u.stands q_stays

  y : Node BoxKey Item
  y = low.0

  ends_are : ends ≡ (y.first, y.last)
  ends_are = ends_is ∙ ap ends_of low.1

  w : Gap same_key same_key-sound same_key-refl (linked a1) q y.first y.last c before v
  w = subst (λ o. Gap same_key same_key-sound same_key-refl (linked a1) q y.first y.last c before o) (sym (v_is ∙ ap (λ o. left_of (linked a1) o.1 before)
      ends_are))
      (gap same_key same_key-sound same_key-refl (linked a1) q y.first y.last c before low.3 low.2 (place_stays same_key same_key-sound same_key-refl
      before q k f fa out.0 out.1 other place))

  h : BoxForest
  h = w.xs ▷ tree k u.node.item u.below w.ys

  at2 : BoxKey → Option (Node BoxKey Item)
  at2 = edit same_key k (with_place (Some q) v before) (linked a1)

  e : Node BoxKey Item → Node BoxKey Item
  e = with_ends (end_after v (Some k) y.first) (end_after before (Some k) y.last)

  at3 : BoxKey → Option (Node BoxKey Item)
  at3 = grafted same_key q k v before y.first y.last at2

  links : (j : BoxKey) → linked a3 j ≡ at3 j
  links j =
      let r : linked a3 j ≡ grafted same_key q k v before y.first y.last (linked a2) j = r3.links j ∙ ap (λ o. grafted same_key q k v before o.0 o.1
      (linked a2) j) ends_are in
      r ∙ edit_if-as same_key (Some q) e (edit_if same_key before (with_prev (Some k)) (edit_if same_key v (with_next (Some k)) (linked a2)))
      (edit_if same_key before (with_prev (Some k)) (edit_if same_key v (with_next (Some k)) at2)) j
      (edit_if-as same_key before (with_prev (Some k)) (edit_if same_key v (with_next (Some k)) (linked a2)) (edit_if same_key v (with_next (Some k)) at2) j
      (edit_if-as same_key v (with_next (Some k)) (linked a2) at2 j (r2.links j)))

  new : BoxForest
  new = with_children same_key q h g

  stands : Stands (linked a3) None None new (Some root) (Some root) None
  stands = frame at3 (linked a3) None None new (Some root) (Some root) None (agree_at same_key same_key-sound same_key-refl at3 (linked a3) new
      (λ j _. links j))
      (stands_put_branch same_key same_key-sound same_key-refl (linked a1) None None g (Some root) (Some root) None q k u.node y u.below before v u.apart
      u.stands q_stays low.1 w k_gone u.found u.low u.branch_apart.0 u.between)

  away : AreApart same_key c one
  away j i = u.between j (in_children same_key same_key-sound same_key-refl j q g i)

  j1 : Joined same_key same_key-sound same_key-refl one c h
  j1 = joined same_key same_key-sound same_key-refl one c w.xs w.ys low.3 u.branch_apart away w.is

  apart : IsApart same_key new
  apart = apart_under same_key same_key-sound same_key-refl q h g u.apart j1.apart q_stays (λ j i o. j1.no_more j i (u.between j o))

  inside : (j : BoxKey) → is_some (linked a3 j) ≡ true → has same_key j new ≡ true
  inside j i =
      let i3 : is_some (at3 j) ≡ true = subst (λ o. is_some o ≡ true) (links j) i in
      let i2 : is_some (at2 j) ≡ true = some_edit same_key v (with_next (Some k)) at2 j
      (some_edit same_key before (with_prev (Some k)) (edit_if same_key v (with_next (Some k)) at2) j
      (some_edit same_key (Some q) e (edit_if same_key before (with_prev (Some k)) (edit_if same_key v (with_next (Some k)) at2)) j i3)) in
      let i1 : is_some (linked a1 j) ≡ true = some_edit same_key (Some k) (with_place (Some q) v before) (linked a1) j i2 in
      elim (u.inside j i1) [
        | inl o ↦ in_under_old same_key same_key-sound same_key-refl j q h g (j1.has_old j) o
        | inr o ↦ in_under_new same_key same_key-sound same_key-refl j q h g q_stays (j1.has_new j o)
      ]

  counted : size new ≡ live a3
  counted =
      let s : size new + size c ≡ size g + size h = size-with_children same_key same_key-sound same_key-refl q h g u.apart q_stays in
      omega (arith, s, j1.size_is, u.counted, r1.same_live, r2.same_live, r3.same_live)

  most : occupied a3 ≤ a3.limit
  most = omega (
    arith,
    t0.most,
    same_occupied a0 a1 r1.same_slots,
    same_occupied a1 a2 r2.same_slots,
    same_occupied a2 a3 r3.same_slots,
    r1.limit,
    r2.limit,
    r3.limit,
  )

  is : IsTree a3 root
  is = record { boxes = new; is = record { stands = stands; apart = apart; inside = inside; counted = counted }; most = most }

  sees : seen a3 root ≡ put_elsewhere k q before f
  sees = seen_is a3 root is ∙ (ap (λ z. with_children same_key q z g) (sym (w.amid_is one)) ∙ ap (λ z. with_children same_key q (insert_among same_key
      before z c) g) (sym u.is))

-- the items once a box is moved
items_moved : (a0 a1 a2 a3 : Arena inner.Node) (k q : BoxKey) (before v first last : Option BoxKey) →
    Relinks a0 a1 (unlinked same_key k (linked a0)) → Relinks a1 a2 (edit same_key k (with_place (Some q) v before) (linked a1)) → Relinks a2 a3
    (grafted same_key q k v before first last (linked a2)) →
    (j : BoxKey) → item_at a3 j ≡ item_at a0 j
items_moved a0 a1 a2 a3 k q before v first last r1 r2 r3 j =
    ap (option_map (λ n. n.item)) (r3.links j) ∙ (items-grafted same_key q k v before first last (linked a2) j
    ∙ (ap (option_map (λ n. n.item)) (r2.links j) ∙ (items-edit same_key k (with_place (Some q) v before) (λ n. refl) (linked a1) j
    ∙ items_unlinked a0 a1 k r1 j)))

indexed_same : {Y S : Type 0} (at bt : BoxKey → Option Item) (ids : HashMap (String Y) BoxKey S) → ((j : BoxKey) → bt j ≡ at j) → IsIndexed at ids
    → IsIndexed bt ids
indexed_same at bt ids same x = record { named = λ k d h. x.named k d (sym (same k) ∙ h); live = λ i k h. ap (option_map (λ d. d.id)) (same k) ∙ x.live i k h; are = λ k d h. x.are k d (sym (same k) ∙ h) }

pub move_sound : {Y S : Type 0} (a0 a1 a2 a3 : Arena inner.Node) (root k q : BoxKey) (before v : Option BoxKey) (ends : Option BoxKey × Option BoxKey)
    (ids : HashMap (String Y) BoxKey S) →
    IsConsistent a0 root ids → has same_key k (seen a0 root) ≡ true → same_key k root ≡ false → has same_key q (seen a0 root) ≡ true
    → in_subtree same_key q k (seen a0 root) ≡ false →
    IsPlaceIn same_key before (children same_key q (seen a0 root)) → (before ≡ Some k → ⊥) →
    Relinks a0 a1 (unlinked same_key k (linked a0)) → ends ≡ ends_of (linked a1 q) → v ≡ left_of (linked a1) ends.1 before →
    Relinks a1 a2 (edit same_key k (with_place (Some q) v before) (linked a1)) → Relinks a2 a3 (grafted same_key q k v before ends.0 ends.1 (linked a2)) →
    IsConsistent a3 root ids × (seen a3 root ≡ put_elsewhere k q before (seen a0 root))
move_sound a0 a1 a2 a3 root k q before v ends ids s m not_root q_in outside place other r1 ends_is v_is r2 r3 =
    let t : (t : IsTree a3 root) × (seen a3 root ≡ put_elsewhere k q before (seen a0 root)) = move_tree a0 a1 a2 a3 root k q before v ends s.tree m
    not_root q_in outside place other r1 ends_is v_is r2 r3 in
    let same : (j : BoxKey) → item_at a3 j ≡ item_at a0 j = items_moved a0 a1 a2 a3 k q before v ends.0 ends.1 r1 r2 r3 in (
      record {
        tree = t.0;
        indexed = indexed_same (item_at a0) (item_at a3) ids same s.indexed;
        fits = λ j d h. s.fits j d (sym (same j) ∙ h);
        limit = r3.limit ∙ (r2.limit ∙ (r1.limit ∙ s.limit));
        first = r3.first ∙ (r2.first ∙ (r1.first ∙ s.first));
      },
      t.1,
    )

-- A box and all below it were touched and then moved.
pub relink_sound : {Y S : Type 0} (a0 a1 a2 a3 a4 : Arena inner.Node) (root k q : BoxKey) (before v : Option BoxKey) (ends : Option BoxKey × Option BoxKey)
    (ids : HashMap (String Y) BoxKey S) →
    IsConsistent a0 root ids → has same_key k (seen a0 root) ≡ true → same_key k root ≡ false → has same_key q (seen a0 root) ≡ true
    → in_subtree same_key q k (seen a0 root) ≡ false →
    IsPlaceIn same_key before (children same_key q (seen a0 root)) → (before ≡ Some k → ⊥) →
    Relinks a0 a1 (on_each (reached Subtree k (seen_from a0 (child_and_sibling (linked a0 k)).0)) touch (linked a0)) →
    Relinks a1 a2 (unlinked same_key k (linked a1)) → ends ≡ ends_of (linked a2 q) → v ≡ left_of (linked a2) ends.1 before →
    Relinks a2 a3 (edit same_key k (with_place (Some q) v before) (linked a2)) → Relinks a3 a4 (grafted same_key q k v before ends.0 ends.1 (linked a3)) →
    IsConsistent a4 root ids × (seen a4 root ≡ moved k q before (seen a0 root)) × (marks a4 ≡ marks a0)
relink_sound a0 a1 a2 a3 a4 root k q before v ends ids s m not_root q_in outside place other r0 r1 ends_is v_is r2 r3 =
    let f : BoxForest = seen a0 root in
    let p : BoxKey → Bool = λ j. in_subtree same_key j k f in
    let s1 : IsConsistent a1 root ids × (seen a1 root ≡ map_where p touch f) = touched_sound a0 a1 root k ids Subtree s m r0 in
    let m1 : has same_key k (seen a1 root) ≡ true = still_has p touch k f (seen a1 root) s1.1 m in
    let q1 : has same_key q (seen a1 root) ≡ true = still_has p touch q f (seen a1 root) s1.1 q_in in
    let below1 : has same_key q (children same_key k (map_where p touch f)) ≡ has same_key q (children same_key k f) = ap (has same_key q) (children-each p
    touch same_key k f) ∙ has-each p touch same_key q (children same_key k f) in
    let outside1 : in_subtree same_key q k (seen a1 root) ≡ false = ap (in_subtree same_key q k) s1.1 ∙ (ap (λ b. same_key q k || b) below1 ∙ outside) in
    let place1 : IsPlaceIn same_key before (children same_key q (seen a1 root)) = subst (λ h. IsPlaceIn same_key before h) (sym (ap (children same_key q)
    s1.1 ∙ children-each p touch same_key q f)) (place_each p touch same_key before (children same_key q f) place) in
    let t : IsConsistent a4 root ids × (seen a4 root ≡ put_elsewhere k q before (seen a1 root)) = move_sound a1 a2 a3 a4 root k q before v ends ids s1.0 m1
    not_root q1 outside1 place1 other r1 ends_is v_is r2 r3 in
    (t.0, t.1 ∙ ap (put_elsewhere k q before) s1.1, r3.same_slots ∙ (r2.same_slots ∙ (r1.same_slots ∙ r0.same_slots)))
