-- Boxes below a box, and what is told of them.
use Rattle.std.proofs.Common.{◌≡◌, refl, ap, ◌∙◌, sym, subst, Bool, true, false, ◌||◌, cond, List, arith, inl, inr}
use Rattle.std.specs.Prelude.{Option, Some, None}
use Rattle.rd_geom.specs.Plane.{hull_of}
use Rattle.rd_keys.specs.Keys.{same_key}
use Rattle.rd_keys.specs.Arena.{Arena}
use Rattle.rd_keys.proofs.Keys.{same_key-sound, same_key-refl}
use Rattle.rd_tree.specs.declared.node.Node as inner
use Rattle.rd_tree.specs.declared.table.row.Summary.{Summary}
use Rattle.rd_tree.specs.Forest.{Forest, empty, tree, has, starting_at, children, IsApart}
use Rattle.rd_tree.specs.Internal.Links.{Node, Stands, child_and_sibling}
use Rattle.rd_tree.specs.Document.{BoxKey, Item, BoxForest}
use Rattle.rd_tree.specs.Drawn.{AllNear}
use Rattle.rd_tree.specs.Internal.Linked.{linked, IsRead, seen_from}
use Rattle.rd_tree.specs.Internal.Summaries.{summary_first, summary_of, summary_at, is_above}
use Rattle.rd_tree.specs.Hulls.{extent, hull_in}
use Rattle.rd_tree.specs.Internal.Rows.{IsStanding, IsFitAt, HasRows, extent_under, hulls_by, hull_anew_of}
use Rattle.rd_tree.proofs.Linking.Standing.{cases, never, from_left, from_right, has-join, join-empty, out_of_children, no_children, differs, apart_back, read-stands}
use Rattle.rd_tree.proofs.Linking.Children.{stands_children}
use Rattle.rd_tree.proofs.Forests.Under.{size-children, which}
use Rattle.rd_tree.proofs.Linking.Cutting.{in_children}
use Rattle.rd_tree.proofs.Nodes.Looking.{Begins, begins}

-- what is below the first
abbrev pub below_first : {K D : Type 0} → Forest K D → Forest K D
below_first empty = empty
below_first (tree k d below rest) = below

module _ {K D : Type 0} (same : K → K → Bool) (sound : (a b : K) → same a b ≡ true → a ≡ b) (reflexive : (a : K) → same a a ≡ true) where
  pub children-from : (p : K) (f : Forest K D) → IsApart same f → has same p f ≡ true → children same p f ≡ below_first (starting_at same p f)
  children-from p empty h m = absurd (never false m refl)
  children-from p (tree k d below rest) h m =
      elim (cases (same p k)) [
        | inl e ↦ rw e refl
        | inr e ↦ elim (cases (has same p below)) [
          | inl i ↦ rw (e, i, no_children same sound reflexive p rest (h.2 p i), join-empty (children same p below)) (children-from p below h.3 i)
          | inr o ↦ let i : has same p rest ≡ true = rw (e, o) at m in rw (e, o, no_children same sound reflexive p below o) (children-from p rest h.4 i)
        ]
      ]

  -- what is told of a box below another is told of it among the boxes below that one
  pub from-children : (j p : K) (f : Forest K D) → IsApart same f → has same j (children same p f) ≡ true → starting_at same j f ≡ starting_at same j
      (children same p f)
  from-children j p empty h m = absurd (never false m refl)
  from-children j p (tree k d below rest) h m =
      elim (cases (same p k)) [
        | inl e ↦
            let i : has same j below ≡ true = rw e at m in
            let n : same j k ≡ false = differs same sound reflexive below j k i h.0 in
            rw (e, n, i) refl
        | inr e ↦
            let m2 : (has same j (children same p below) || has same j (children same p rest)) ≡ true = sym (has-join same sound reflexive j (children same
            p below) (children same p rest)) ∙ rw e at m in
            elim (cases (has same p below)) [
              | inl b ↦
                  let none : children same p rest ≡ empty = no_children same sound reflexive p rest (h.2 p b) in
                  let c : has same j (children same p below) ≡ true = elim (which (has same j (children same p below)) (has same j (children same p rest))
                  m2) [ inl u ↦ u | inr u ↦ absurd (never false (sym (ap (has same j) none) ∙ u) refl) ] in
                  let i : has same j below ≡ true = in_children same sound reflexive j p below c in
                  let n : same j k ≡ false = differs same sound reflexive below j k i h.0 in
                  rw (e, n, i, none, join-empty (children same p below)) (from-children j p below h.3 c)
              | inr b ↦
                  let none : children same p below ≡ empty = no_children same sound reflexive p below b in
                  let c : has same j (children same p rest) ≡ true = elim (which (has same j (children same p below)) (has same j (children same p rest))
                  m2) [ inl u ↦ absurd (never false (sym (ap (has same j) none) ∙ u) refl) | inr u ↦ u ] in
                  let i : has same j rest ≡ true = in_children same sound reflexive j p rest c in
                  let n : same j k ≡ false = differs same sound reflexive rest j k i h.1 in
                  let o : has same j below ≡ false = apart_back same sound reflexive below rest h.2 j i in
                  rw (e, n, o, none) (from-children j p rest h.4 c)
            ]
      ]

  -- The boxes below a box do not hold a box that has it below.
  pub not_round : (j k : K) (f : Forest K D) → IsApart same f → IsApart same (children same k f) → has same k (children same k f) ≡ false → has same j
      (children same k f) ≡ true → has same k (children same j f) ≡ false
  not_round j k f h hk n m =
      let i : has same j f ≡ true = in_children same sound reflexive j k f m in
      let e : children same j f ≡ children same j (children same k f) = children-from j f h i ∙ (ap below_first (from-children j k f h m)
      ∙ sym (children-from j (children same k f) hk m)) in
      ap (has same k) e ∙ out_of_children same sound reflexive k j (children same k f) n

-- The hull of some siblings by their rows is right where the rows are.
pub hulls_right : (rows : List Summary) (g : BoxForest) → IsApart same_key g → ((j : BoxKey) → has same_key j g ≡ true → (summary_at rows j).hull
    ≡ (summary_of j g).hull) → hulls_by rows g ≡ hull_in g
hulls_right rows empty h w = refl
hulls_right rows (tree k d below rest) h w =
    let here : (summary_at rows k).hull ≡ hull_of (extent d) (hull_in below) =
    w k (from_left (same_key k k) (has same_key k below || has same_key k rest) (same_key-refl k)) ∙ ap (λ b. (summary_first (cond b (tree k d below rest)
    (cond (has same_key k below) (starting_at same_key k below) (starting_at same_key k rest)))).hull) (same_key-refl k) in
    let later : hulls_by rows rest ≡ hull_in rest = hulls_right rows rest h.4 (λ j m.
    let n : same_key j k ≡ false = differs same_key same_key-sound same_key-refl rest j k m h.1 in
    let o : has same_key j below ≡ false = apart_back same_key same_key-sound same_key-refl below rest h.2 j m in
    w j (from_right (same_key j k) (has same_key j below || has same_key j rest) (from_right (has same_key j below) (has same_key j rest) m))
    ∙ (ap (λ b. (summary_first (cond b (tree k d below rest) (cond (has same_key j below) (starting_at same_key j below) (starting_at same_key j
    rest)))).hull) n
    ∙ ap (λ b. (summary_first (cond b (starting_at same_key j below) (starting_at same_key j rest))).hull) o)) in
    ap (λ r. hull_of r (hulls_by rows rest)) here ∙ ap (hull_of (hull_of (extent d) (hull_in below))) later

fit_stands : (at : BoxKey → Option (Node BoxKey Item)) (up prev : Option BoxKey) (f : BoxForest) (first last after : Option BoxKey) (k : BoxKey) → AllNear f
    → Stands at up prev f first last after → has same_key k f ≡ true → IsFitAt (at k)
fit_stands at up prev empty first last after k h s m = absurd (never false m refl)
fit_stands at up prev (tree j d below rest) first last after k h s m =
    elim (which (same_key k j) (has same_key k below || has same_key k rest) m) [
      | inl e ↦ subst (λ i. IsFitAt (at i)) (sym (same_key-sound k j e)) (subst IsFitAt (sym s.4) (h.0, h.1))
      | inr t ↦ elim (which (has same_key k below) (has same_key k rest) t) [
        | inl u ↦ fit_stands at (Some j) None below s.0 s.1 None k h.2 s.5 u
        | inr u ↦ fit_stands at up (Some j) rest s.2 last after k h.3 s.6 u
      ]
    ]

module _ (a : Arena inner.Node) (root : BoxKey) (f : BoxForest) (is : IsStanding a root f) (k : BoxKey) (m : has same_key k f ≡ true) where
  pub node_of : (y : Node BoxKey Item) × (linked a k ≡ Some y) × Stands (linked a) (Some k) None (children same_key k f) y.first y.last None × IsApart same_key
      (children same_key k f) × (has same_key k (children same_key k f) ≡ false)
  node_of = stands_children same_key same_key-sound same_key-refl (linked a) None None f (Some root) (Some root) None k is.apart is.stands m

  first_is : node_of.0.first ≡ (child_and_sibling (linked a k)).0
  first_is = sym (ap (λ o. (child_and_sibling o).0) node_of.1)

  pub fit_at : AllNear f → IsFitAt (linked a k)
  fit_at h = fit_stands (linked a) None None f (Some root) (Some root) None k h is.stands m

  low_read : IsRead a node_of.0.first
  low_read = record {
    boxes = children same_key k f;
    up = Some k;
    prev = None;
    last = node_of.0.last;
    stands = node_of.2;
    apart = node_of.3;
    small = omega
        (arith, size-children same_key k f, is.small);
  }

  pub below_read : IsRead a (child_and_sibling (linked a k)).0
  below_read = subst (λ o. IsRead a o) first_is low_read

  pub below_seen : seen_from a (child_and_sibling (linked a k)).0 ≡ children same_key k f
  below_seen = ap (seen_from a) (sym first_is) ∙ read-stands a.limit (linked a) (Some k) None (children same_key k f) node_of.0.first node_of.0.last
      node_of.2 (omega (arith, size-children same_key k f, is.small))

  pub below_rows : (rows : List Summary) → HasRows rows f → HasRows rows (seen_from a (child_and_sibling (linked a k)).0)
  below_rows rows h j u = h j (in_children same_key same_key-sound same_key-refl j k f (sym (ap (has same_key j) below_seen) ∙ u))

  -- What the rows of the children tell of a box.
  pub anew_below : (rows : List Summary) → ((j : BoxKey) → has same_key j (children same_key k f) ≡ true → (summary_at rows j).hull
      ≡ (summary_of j f).hull) → hull_anew_of a rows k ≡ (summary_of k f).hull
  anew_below rows w =
      let b : Begins k node_of.0 (starting_at same_key k f) = begins same_key same_key-sound same_key-refl (linked a) None None f (Some root) (Some root) k
      node_of.0 is.apart is.stands m node_of.1 in
      let low : b.below ≡ children same_key k f = sym (children-from same_key same_key-sound same_key-refl k f is.apart m ∙ ap below_first b.is) in
      let right : hulls_by rows (children same_key k f) ≡ hull_in (children same_key k f) = hulls_right rows (children same_key k f) node_of.3 (λ j u. w j
      u ∙ ap (λ g. (summary_first g).hull) (from-children same_key same_key-sound same_key-refl j k f is.apart u)) in
      ap (λ o. hull_of (extent_under o) (hulls_by rows (seen_from a (child_and_sibling (linked a k)).0))) node_of.1
      ∙ (ap (λ g. hull_of (extent node_of.0.item) (hulls_by rows g)) below_seen
      ∙ (ap (hull_of (extent node_of.0.item)) right
      ∙ (ap (λ g. hull_of (extent node_of.0.item) (hull_in g)) (sym low)
      ∙ sym (ap (λ g. (summary_first g).hull) b.is))))

  -- No box below it has it below.
  pub off_below : (j : BoxKey) → has same_key j (children same_key k f) ≡ true → is_above (Some k) j f ≡ false
  off_below j u =
      let off : has same_key k (children same_key j f) ≡ false = not_round same_key same_key-sound same_key-refl j k f is.apart node_of.3 node_of.4 u in
      let n : same_key k j ≡ false = elim (cases (same_key k j)) [
        | inl e ↦ absurd (never (has same_key k (children same_key k f)) (subst (λ x. has same_key
            x (children same_key k f) ≡ true) (sym (same_key-sound k j e)) u) node_of.4)
        | inr e ↦ e
      ] in
      ap (λ b. b || has same_key k (children same_key j f)) n ∙ off

  pub anew_is : (rows : List Summary) → ((j : BoxKey) → has same_key j f ≡ true → is_above (Some k) j f ≡ false → (summary_at rows j).hull
      ≡ (summary_of j f).hull) → hull_anew_of a rows k ≡ (summary_of k f).hull
  anew_is rows w = anew_below rows (λ j u. w j (in_children same_key same_key-sound same_key-refl j k f u) (off_below j u))
