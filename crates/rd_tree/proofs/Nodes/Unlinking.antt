-- A box that is cut out from among its siblings: what stays, and the box with what is below it.
use Rattle.std.proofs.Common.{◌≡◌, refl, ap, ◌∙◌, sym, subst, ◌+◌, Bool, true, false, ◌||◌, arith, ◌⊎◌, inl, inr}
use Rattle.std.specs.Prelude.{Option, Some, None, option_map, is_some}
use Rattle.rd_keys.specs.Keys.{same_key}
use Rattle.rd_keys.specs.Arena.{Arena, live}
use Rattle.rd_keys.proofs.Keys.{same_key-sound, same_key-refl}
use Rattle.rd_tree.specs.declared.node.Node as inner
use Rattle.rd_tree.specs.Forest.{Forest, empty, tree, size, ◌▷◌, has, children, without_branch, branch, AreApart, IsApart}
use Rattle.rd_tree.specs.Internal.Links.{Node, node, with_prev, with_next, with_ends, Stands, edit_if, end_after, cut, cut_from, cut_node, ends_of, unlinked}
use Rattle.rd_tree.specs.Document.{BoxKey, Item, BoxForest}
use Rattle.rd_tree.specs.Internal.Linked.{linked, Relinks, IsTree, seen, item_at}
use Rattle.rd_tree.proofs.Linking.Standing.{cases, never, either, from_left, from_right, frame, split, agree_at, differs, differs_back, apart_back, has-join}
use Rattle.rd_tree.proofs.Forests.Under.{which}
use Rattle.rd_tree.proofs.Linking.Children.{stands_children}
use Rattle.rd_tree.proofs.Linking.Cutting.{Among, edit_if_off, last_in, first_in, apart_right, apart_between, place, stands_cut, without_branch-with_children}
use Rattle.rd_tree.proofs.Forests.Without.{apart_without, stays_out, stays, size-without_branch, branch_is}
use Rattle.rd_tree.proofs.Nodes.Rooting.{alone_stands}
use Rattle.rd_tree.proofs.Nodes.Grow.{some_edit, seen_is}
use Rattle.rd_tree.proofs.Nodes.Items.{items, items-edit, items-edit_if}

module _ {K D : Type 0} (same : K → K → Bool) (sound : (a b : K) → same a b ≡ true → a ≡ b) (reflexive : (a : K) → same a a ≡ true) where
  -- The siblings next to a box are one before it and one after it.
  beside : (at : K → Option (Node K D)) (up : Option K) (c : Forest K D) (first last : Option K) (k : K) (x : Node K D) (w : Among k c)
      → Stands at up None c first last None → at k ≡ Some x →
      ((l : K) → x.prev ≡ Some l → has same l w.before ≡ true) × ((l : K) → x.next ≡ Some l → has same l w.after ≡ true)
  beside at up c first last k x w s found =
      let one : Forest K D = tree k w.item w.below w.after in
      let u : (between : Option K) × (middle : Option K) × Stands at up None w.before first between middle × Stands at up between one middle last None =
      split at up None w.before one first last None (subst (λ g. Stands at up None g first last None) w.is s) in
      let n : node w.item up u.0 u.3.0 u.3.1 u.3.2 ≡ x = cc (u.3.4, found) in (
        (λ l h. last_in same sound reflexive at up w.before first u.0 u.1 u.2 l (ap (λ z. z.prev) n ∙ h)),
        (λ l h. first_in same sound reflexive at up (Some k) w.after u.3.2 last u.3.6 l (ap (λ z. z.next) n ∙ h)),
      )

  -- Cutting leaves the box and those below it as they were.
  branch_kept : (at : K → Option (Node K D)) (p k : K) (c : Forest K D) (first last : Option K) (x : Node K D) (w : Among k c) (a b : Option K) →
      IsApart same c → has same p c ≡ false → Stands at (Some p) None c first last None → at k ≡ Some x →
      (j : K) → has same j (tree k w.item w.below empty) ≡ true → cut same p x a b at j ≡ at j
  branch_kept at p k c first last x w a b apart out s found j m =
      let one : Forest K D = tree k w.item w.below w.after in
      let ac : IsApart same (w.before ▷ one) = subst (λ g. IsApart same g) w.is apart in
      let away : AreApart same w.before one = apart_between same sound reflexive w.before one ac in
      let ao : IsApart same one = apart_right same sound reflexive w.before one ac in
      let t : ((l : K) → x.prev ≡ Some l → has same l w.before ≡ true) × ((l : K) → x.next ≡ Some l → has same l w.after ≡ true) = beside at
      (Some p) c first last k x w s found in
      let jo : has same j one ≡ true = elim (which (same j k) (has same j w.below || false) m) [
        | inl e ↦ from_left (same j k) (has same j w.below || has same j w.after) e
        | inr e ↦ from_right (same j k) (has same j w.below || has same j w.after) (elim (which (has same j w.below) false e) [
          | inl i ↦ from_left (has same j w.below) (has same j w.after) i
          | inr i ↦ absurd (never false i refl)
        ])
      ] in
      let jc : has same j c ≡ true = subst (λ g. has same j g ≡ true) (sym w.is) (has-join same sound reflexive j w.before one ∙ from_right (has same j
      w.before) (has same j one) jo) in
      let pj : same p j ≡ false = differs_back same sound reflexive c p j out jc in
      let vj : (l : K) → x.prev ≡ Some l → same l j ≡ false = λ l h. differs_back same sound reflexive one l j (away l (t.0 l h)) jo in
      let nj : (l : K) → x.next ≡ Some l → same l j ≡ false = λ l h.
      let lk : same l k ≡ false = differs same sound reflexive w.after l k (t.1 l h) ao.1 in
      let lb : has same l w.below ≡ false = apart_back same sound reflexive w.below w.after ao.2 l (t.1 l h) in
      differs_back same sound reflexive (tree k w.item w.below empty) l j (rw (lk, lb) refl) m in
      rw pj (edit_if_off same sound reflexive x.next (with_prev x.prev) (edit_if same x.prev (with_next x.next) at) j nj ∙ edit_if_off same sound reflexive
      x.prev (with_next x.next) at j vj)

  unlinked_is : (at : K → Option (Node K D)) (p k : K) (x y : Node K D) → at k ≡ Some x → x.up ≡ Some p → at p ≡ Some y → unlinked same k at
      ≡ cut same p x y.first y.last at
  unlinked_is at p k x y found up at_p = ap (λ o. cut_node same o at) found ∙ (ap (λ o. cut_from same o x at) up ∙ ap (λ o. cut same p x (ends_of o).0
      (ends_of o).1 at) at_p)

  some_cut : (p : K) (x : Node K D) (a b : Option K) (at : K → Option (Node K D)) (j : K) → is_some (cut same p x a b at j) ≡ true → is_some (at j) ≡ true
  some_cut p x a b at j h =
      some_edit same x.prev (with_next x.next) at j
      (some_edit same x.next (with_prev x.prev) (edit_if same x.prev (with_next x.next) at) j
      (some_edit same (Some p) (with_ends (end_after x.prev x.next a) (end_after x.next x.prev b)) (edit_if same x.next (with_prev x.prev) (edit_if same
      x.prev (with_next x.next) at)) j h))

  -- Among siblings of which there is one, a box is that one.
  pub sole : (r k : K) (d i : D) (below before low after : Forest K D) → tree r d below empty ≡ before ▷ tree k i low after → k ≡ r
  sole r k d i below empty low after e = cc (e)
  sole r k d i below (tree j c b empty) low after e = cc (e)
  sole r k d i below (tree j c b (tree j2 c2 b2 rest)) low after e = cc (e)

module _ {K D : Type 0} (same : K → K → Bool) where
  -- Unlinking leaves the items.
  items-cut_from : (o : Option K) (x : Node K D) (at : K → Option (Node K D)) (j : K) → items same (cut_from same o x at) j ≡ items same at j
  items-cut_from None x at j = refl
  items-cut_from (Some p) x at j =
      let at1 : K → Option (Node K D) = edit_if same x.prev (with_next x.next) at in
      let at2 : K → Option (Node K D) = edit_if same x.next (with_prev x.prev) at1 in
      items-edit same p (with_ends (end_after x.prev x.next (ends_of (at p)).0) (end_after x.next x.prev (ends_of (at p)).1)) (λ n. refl) at2 j
      ∙ (items-edit_if same x.next (with_prev x.prev) (λ n. refl) at1 j ∙ items-edit_if same x.prev (with_next x.next) (λ n. refl) at j)

  items-cut_node : (o : Option (Node K D)) (at : K → Option (Node K D)) (j : K) → items same (cut_node same o at) j ≡ items same at j
  items-cut_node None at j = refl
  items-cut_node (Some x) at j = items-cut_from x.up x at j

pub items_unlinked : (a0 a1 : Arena inner.Node) (k : BoxKey) → Relinks a0 a1 (unlinked same_key k (linked a0)) → (j : BoxKey) → item_at a1 j ≡ item_at a0 j
items_unlinked a0 a1 k r j = ap (option_map (λ n. n.item)) (r.links j) ∙ items-cut_node same_key (linked a0 k) (linked a0) j

-- The boxes f once k is cut out: what stays below the root, and k with what is below it.
pub record Unlinked (a0 a1 : Arena inner.Node) (root k : BoxKey) (f : BoxForest) : Type 0 where
  pub node : Node BoxKey Item
  pub below : BoxForest
  pub is : branch same_key k f ≡ tree k node.item below empty
  pub below_is : below ≡ children same_key k f
  pub stands : Stands (linked a1) None None (without_branch same_key k f) (Some root) (Some root) None
  pub apart : IsApart same_key (without_branch same_key k f)
  pub branch_apart : IsApart same_key (tree k node.item below empty)
  pub between : AreApart same_key (without_branch same_key k f) (tree k node.item below empty)
  pub found : linked a1 k ≡ Some node
  pub found_before : linked a0 k ≡ Some node
  pub low : Stands (linked a1) (Some k) None below node.first node.last None
  pub inside : (j : BoxKey) → is_some (linked a1 j) ≡ true → (has same_key j (without_branch same_key k f) ≡ true) ⊎ (has same_key j (tree k node.item
      below empty) ≡ true)
  pub counted : size (without_branch same_key k f) + size (tree k node.item below empty) ≡ live a0

pub cut_out : (a0 a1 : Arena inner.Node) (root k : BoxKey) → IsTree a0 root → has same_key k (seen a0 root) ≡ true → same_key k root ≡ false
    → Relinks a0 a1 (unlinked same_key k (linked a0)) →
    Unlinked a0 a1 root k (seen a0 root)
cut_out a0 a1 root k t m_seen not_root r = subst (λ f. Unlinked a0 a1 root k f) (sym e) cut_here where
  e : seen a0 root ≡ t.boxes
  e = seen_is a0 root t

  f : BoxForest
  f = t.boxes

  m : has same_key k f ≡ true
  m = subst (λ g. has same_key k g ≡ true) e m_seen

  Below : BoxKey → Type 0
  Below p = (y : Node BoxKey Item) × (linked a0 p ≡ Some y) × Stands (linked a0) (Some p) None (children same_key p f) y.first y.last None
      × IsApart same_key (children same_key p f) × (has same_key p (children same_key p f) ≡ false)

  below_box : (p : BoxKey) → has same_key p f ≡ true → Below p
  below_box p h = stands_children same_key same_key-sound same_key-refl (linked a0) None None f (Some root) (Some root) None p t.is.apart t.is.stands h

  under_parent : (x : Node BoxKey Item) (p : BoxKey) → linked a0 k ≡ Some x → x.up ≡ Some p → has same_key p f ≡ true → (w : Among k (children same_key p
      f)) → children same_key k f ≡ w.below → Unlinked a0 a1 root k f
  under_parent x p found up has_p w low_is =
      let bp : Below p = below_box p has_p in
      let bk : Below k = below_box k m in
      let y : Node BoxKey Item = bp.0 in
      let at : BoxKey → Option (Node BoxKey Item) = cut same_key p x y.first y.last (linked a0) in
      let links : (j : BoxKey) → linked a1 j ≡ at j = λ j. r.links j ∙ ap (λ g. g j) (unlinked_is same_key same_key-sound same_key-refl (linked a0) p k x y
      found up bp.1) in
      let low : BoxForest = children same_key k f in
      let g : BoxForest = without_branch same_key k f in
      let one : BoxForest = tree k x.item low empty in
      let cut_stands : Stands at None None g (Some root) (Some root) None =
      subst (λ h. Stands at None None h (Some root) (Some root) None) (sym (without_branch-with_children same_key same_key-sound same_key-refl p k f w
      t.is.apart has_p))
      (stands_cut same_key same_key-sound same_key-refl (linked a0) None None f (Some root) (Some root) None p k x y w t.is.apart t.is.stands has_p found
      bp.1) in
      let kept : (j : BoxKey) → has same_key j one ≡ true → linked a1 j ≡ linked a0 j = λ j u. links j ∙
      branch_kept same_key same_key-sound same_key-refl (linked a0) p k (children same_key p f) y.first y.last x w y.first y.last bp.3 bp.4 bp.2 found j
      (subst (λ h. has same_key j (tree k x.item h empty) ≡ true) low_is u) in
      let n : bk.0 ≡ x = cc (bk.1, found) in
      let low_stands : Stands (linked a0) (Some k) None low x.first x.last None = subst (λ z. Stands (linked a0) (Some k) None low z.first z.last None) n
      bk.2 in
      let kk : has same_key k one ≡ true = from_left (same_key k k) (has same_key k low || false) (same_key-refl k) in
      let size_is : size g + (1 + size low) ≡ size f = size-without_branch same_key same_key-sound same_key-refl k f t.is.apart m in
      record {
        node = x;
        below = low;
        is = branch_is same_key same_key-sound same_key-refl (linked a0) None None f (Some root) (Some root) None k x t.is.apart t.is.stands m found;
        below_is = refl;
        stands = frame at (linked a1) None None g (Some root) (Some root) None (agree_at same_key same_key-sound same_key-refl at (linked a1) g
            (λ j _. links j)) cut_stands;
        apart = apart_without same_key same_key-sound same_key-refl k f t.is.apart;
        branch_apart = (bk.4, refl, (λ j u. refl), bk.3, tt);
        between = λ j u. let o : (same_key j k ≡ false) × (has same_key j low ≡ false) = stays_out same_key same_key-sound same_key-refl j k f t.is.apart u
            in rw (o.0, o.1) refl;
        found = kept k kk ∙ found;
        found_before = found;
        low = frame (linked a0) (linked a1) (Some k) None low x.first x.last None
            (agree_at same_key same_key-sound same_key-refl (linked a0) (linked a1) low (λ j u. kept j (from_right (same_key j k) (has same_key j low ||
            false) (from_left (has same_key j low) false u)))) low_stands;
        inside = λ j u.
            let h : has same_key j f ≡ true = t.is.inside j (some_cut same_key same_key-sound same_key-refl p x y.first y.last (linked a0) j (subst
            (λ o. is_some o ≡ true) (links j) u)) in
            elim (cases (has same_key j one)) [
              | inl i ↦ inr i
              | inr i ↦
                  let o : (same_key j k ≡ false) × ((has same_key j low || false) ≡ false) = either (same_key j k) (has same_key j low || false) i in
                  inl (stays same_key same_key-sound same_key-refl j k f h o.0 (either (has same_key j low) false o.1).0)
            ];
        counted = omega (arith, size_is, t.is.counted);
      }

  cut_here : Unlinked a0 a1 root k f
  cut_here =
      let bk : Below k = below_box k m in
      elim (place same_key same_key-sound same_key-refl (linked a0) None None f (Some root) (Some root) None k bk.0 t.is.apart t.is.stands m bk.1) [
        | inl u ↦
            let s : (d : Item) × (below : BoxForest) × (f ≡ tree root d below empty) = alone_stands same_key same_key-sound same_key-refl (linked a0) None
            None f root t.is.apart t.is.stands in
            let n : k ≡ root = sole same_key same_key-sound same_key-refl root k s.0 u.0.item s.1 u.0.before u.0.below u.0.after (sym s.2 ∙ u.0.is) in
            absurd (never (same_key k root) (subst (λ i. same_key k i ≡ true) n (same_key-refl k)) not_root)
        | inr u ↦ under_parent bk.0 u.0 bk.1 u.1 u.2 u.3.0 u.3.1
      ]
