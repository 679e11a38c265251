-- What each change leaves of the stacking contexts whose grouping may follow from it.
use Rattle.std.proofs.Common.{◌≡◌, refl, ap, ◌∙◌, sym, subst, Bool, true, false, ◌||◌, inl, inr}
use Rattle.std.specs.Prelude.{Option, Some}
use Rattle.rd_style.specs.declared.styles.StyleChange.{StyleChange}
use Rattle.rd_keys.specs.Keys.{same_key}
use Rattle.rd_keys.proofs.Keys.{same_key-sound, same_key-refl}
use Rattle.rd_tree.specs.Forest.{empty, tree, has, children, in_subtree, without_branch, branch, IsPlaceIn, IsApart}
use Rattle.rd_tree.specs.Document.{Document, BoxKey, Item, BoxForest, contains, IsRooted}
use Rattle.rd_tree.specs.Changes as changes
use Rattle.rd_tree.specs.Document as document
use Rattle.rd_tree.specs.Changes.{insertion, removal, moving, styling, restyle}
use Rattle.rd_tree.specs.Contexts.{nearest_context, below_root, context_round, context_of}
use Rattle.rd_tree.specs.Touching.{reached_by}
use Rattle.rd_tree.proofs.Linking.Standing.{cases, never, refute, either, from_left, from_right, differs_back}
use Rattle.rd_tree.proofs.Linking.Cutting.{in_children}
use Rattle.rd_tree.proofs.Forests.Under.{which}
use Rattle.rd_tree.proofs.Forests.Without.{stays}
use Rattle.rd_tree.proofs.Forests.Restoring.{Restored, restored, branch_there, branch_off, apart_children}
use Rattle.rd_tree.proofs.Forests.Parent.{Parent, parent_below}
use Rattle.rd_tree.proofs.Nodes.Each.{has-each}
use Rattle.rd_tree.proofs.Summaries.Nearby.{below_first, children-from, from-children, not_round}
use Rattle.rd_tree.proofs.Summaries.Within.{not_own}
use Rattle.rd_tree.proofs.Summaries.Put.{subtree-put}
use Rattle.rd_tree.proofs.Summaries.Placed.{subtree-with_child, has-with_child, subtree-elsewhere, has-elsewhere}
use Rattle.rd_tree.proofs.Changing.Effects.{subtree-each}
use Rattle.rd_tree.proofs.Contexts.Nearest.{Found, found, children-inner}
use Rattle.rd_tree.proofs.Contexts.Marks.{IsLeft, Leaves}

-- A context that is found is a box of the tree, and the test holds of it.
context_found : (p : BoxKey → BoxForest → Bool) (t : Document) (e : BoxKey) → IsRooted t → IsApart same_key t.boxes → nearest_context p (below_root t) ≡ Some e → Found p t.boxes e
context_found p t e r a h =
    let fa : IsApart same_key (tree t.root r.0 r.1 empty) = subst (λ f. IsApart same_key f) r.2 a in
    let low : below_root t ≡ r.1 = ap (children same_key t.root) r.2 ∙ rw (same_key-refl t.root) refl in
    let w : Found p r.1 e = found p r.1 e fa.3 (sym (ap (nearest_context p) low) ∙ h) in
    subst (λ f. Found p f e) (sym r.2) (record {
      there = from_right (same_key e t.root) (has same_key e r.1 || false) (from_left (has same_key e r.1) false w.there);
      test = subst (λ z. p e z ≡ true) (sym (children-inner e t.root r.0 r.1 empty fa w.there)) w.test;
    })

-- What is below a box that is below another is below that one.
below_below : (p e k : BoxKey) (f : BoxForest) → IsApart same_key f → has same_key p (children same_key e f) ≡ true → has same_key e (children same_key k f) ≡ true → has same_key p (children same_key k f) ≡ true
below_below p e k f a u v =
    let i : has same_key e f ≡ true = in_children same_key same_key-sound same_key-refl e k f v in
    let c : children same_key e f ≡ children same_key e (children same_key k f) =
    children-from same_key same_key-sound same_key-refl e f a i
    ∙ (ap below_first (from-children same_key same_key-sound same_key-refl e k f a v)
    ∙ sym (children-from same_key same_key-sound same_key-refl e (children same_key k f) (apart_children same_key same_key-sound same_key-refl k f a) v)) in
    in_children same_key same_key-sound same_key-refl p e (children same_key k f) (sym (ap (has same_key p) c) ∙ u)

-- A box e is neither k nor below it.
abbrev IsOut : BoxKey → BoxKey → BoxForest → Type 0
IsOut e k f = (same_key e k ≡ false) × (has same_key e (children same_key k f) ≡ false)

-- So is a box that has k below it,
above_out : (k e : BoxKey) (f : BoxForest) → IsApart same_key f → has same_key k (children same_key e f) ≡ true → IsOut e k f
above_out k e f a u =
    let n : has same_key e (children same_key e f) ≡ false = not_own same_key same_key-sound same_key-refl e f a in (
      differs_back same_key same_key-sound same_key-refl (children same_key e f) e k n u,
      not_round same_key same_key-sound same_key-refl k e f a (apart_children same_key same_key-sound same_key-refl e f a) n u,
    )

-- and one that is p, or has p below it, where p is so.
round_out : (p k e : BoxKey) (f : BoxForest) → IsApart same_key f → in_subtree same_key p k f ≡ false → (same_key p e || has same_key p (children same_key e f)) ≡ true → IsOut e k f
round_out p k e f a outside t =
    let o : (same_key p k ≡ false) × (has same_key p (children same_key k f) ≡ false) = either (same_key p k) (has same_key p (children same_key k f)) outside in
    elim (which (same_key p e) (has same_key p (children same_key e f)) t) [
      | inl s ↦
          let n : p ≡ e = same_key-sound p e s in
          (subst (λ x. same_key x k ≡ false) n o.0, subst (λ x. has same_key x (children same_key k f) ≡ false) n o.1)
      | inr u ↦ (
        refute (same_key e k) (λ s. never (has same_key p (children same_key k f)) (subst (λ x. has same_key p (children same_key x f) ≡ true) (same_key-sound e k s) u) o.1),
        refute (has same_key e (children same_key k f)) (λ v. never (has same_key p (children same_key k f)) (below_below p e k f a u v) o.1),
      )
    ]

-- A box that stays without a branch has below it what it had, but for the branch.
subtree-cut : (k : BoxKey) (t : Document) (j e : BoxKey) → IsRooted t → IsApart same_key t.boxes → contains t k ≡ true → same_key k t.root ≡ false
    → has same_key e (without_branch same_key k t.boxes) ≡ true → has same_key j (branch same_key k t.boxes) ≡ false
    → in_subtree same_key j e t.boxes ≡ in_subtree same_key j e (without_branch same_key k t.boxes)
subtree-cut k t j e r a m other u o =
    let q : Parent same_key same_key-sound same_key-refl k t.boxes = parent_below same_key same_key-sound same_key-refl t.root k r.0 r.1 t.boxes r.2 a m other in
    let w = q.child in
    let b : Restored same_key same_key-sound same_key-refl q.key k t.boxes w = restored same_key same_key-sound same_key-refl q.key k t.boxes w a q.there in
    ap (in_subtree same_key j e) b.is
    ∙ subtree-put k w.item w.below w.before w.after q.key (without_branch same_key k t.boxes) b.apart b.there b.siblings b.off e j u (subst (λ z. has same_key j z ≡ false) b.branch_is o)

-- In a test that holds at once nothing else matters.
settled_by : (r x y : Bool) → r ≡ true → (r || x) ≡ (r || y)
settled_by r x y e = ap (λ b. b || x) e ∙ sym (ap (λ b. b || y) e)

module _ (t : Document) (r : IsRooted t) (a : IsApart same_key t.boxes) where
  -- A removal leaves the context round the box,
  pub removal_leaves : (k : BoxKey) (b : Bool) → contains t k ≡ true → same_key k t.root ≡ false → Leaves (removal k) t b (context_round k t)
  removal_leaves k b m other e on h =
      let w : Found (λ i below. has same_key k below) t.boxes e = context_found (λ i below. has same_key k below) t e r a h in
      let o : IsOut e k t.boxes = above_out k e t.boxes a w.test in
      let there : has same_key e (without_branch same_key k t.boxes) ≡ true = stays same_key same_key-sound same_key-refl e k t.boxes w.there o.0 o.1 in
      record {
        there = there;
        holds = λ j u. ap (λ x. reached_by (removal k) t j || x) (sym (subtree-cut k t j e r a m other there (branch_off same_key same_key-sound same_key-refl k t.boxes a m j u)));
      }

  -- and a move leaves each context that is outside of the branch,
  module _ (k p : BoxKey) (before : Option BoxKey) (m : contains t k ≡ true) (other : same_key k t.root ≡ false) (there : contains t p ≡ true)
      (outside : in_subtree same_key p k t.boxes ≡ false) (place : IsPlaceIn same_key before (children same_key p t.boxes)) (apart : before ≡ Some k → ⊥) where
    off : (j : BoxKey) → in_subtree same_key j k t.boxes ≡ false → has same_key j (branch same_key k t.boxes) ≡ false
    off j v =
        let b : (d : Item) × (branch same_key k t.boxes ≡ tree k d (children same_key k t.boxes) empty) = branch_there same_key same_key-sound same_key-refl k t.boxes a m in
        let s : (same_key j k ≡ false) × (has same_key j (children same_key k t.boxes) ≡ false) = either (same_key j k) (has same_key j (children same_key k t.boxes)) v in
        ap (has same_key j) b.1 ∙ rw (s.0, s.1) refl

    moving_left : (e : BoxKey) → contains t e ≡ true → IsOut e k t.boxes → IsLeft (moving k p before) t e
    moving_left e i o =
        let g : BoxForest = without_branch same_key k t.boxes in
        let u : has same_key e g ≡ true = stays same_key same_key-sound same_key-refl e k t.boxes i o.0 o.1 in
        record {
          there = has-elsewhere k p before t.boxes a m there outside place apart e ∙ from_left (has same_key e g) (has same_key e (branch same_key k t.boxes)) u;
          holds = λ j v. elim (cases (in_subtree same_key j k t.boxes)) [
            | inl s ↦ settled_by (in_subtree same_key j k t.boxes) (in_subtree same_key j e (changes.put_elsewhere k p before t.boxes)) (in_subtree same_key j e t.boxes) s
            | inr s ↦ ap (λ x. in_subtree same_key j k t.boxes || x)
                (subtree-elsewhere k p before t.boxes a m there outside place apart j e u (off j s) ∙ sym (subtree-cut k t j e r a m other u (off j s)))
          ];
        }

    -- that round the old place
    pub moving_leaves_from : (b : Bool) → Leaves (moving k p before) t b (context_round k t)
    moving_leaves_from b e on h =
        let w : Found (λ i below. has same_key k below) t.boxes e = context_found (λ i below. has same_key k below) t e r a h in
        moving_left e w.there (above_out k e t.boxes a w.test)

    -- and that round the new one.
    pub moving_leaves_to : (b : Bool) → Leaves (moving k p before) t b (context_of p t)
    moving_leaves_to b e on h =
        let w : Found (λ i below. same_key p i || has same_key p below) t.boxes e = context_found (λ i below. same_key p i || has same_key p below) t e r a h in
        moving_left e w.there (round_out p k e t.boxes a outside w.test)

  -- An insertion leaves the context of its parent's children,
  pub insertion_leaves : (p : BoxKey) (before : Option BoxKey) (k : BoxKey) (d : Item) (b : Bool) → contains t p ≡ true → IsPlaceIn same_key before (children same_key p t.boxes) → contains t k ≡ false
      → Leaves (insertion p before k d) t b (context_of p t)
  insertion_leaves p before k d b m place n e on h =
      let w : Found (λ i below. same_key p i || has same_key p below) t.boxes e = context_found (λ i below. same_key p i || has same_key p below) t e r a h in
      record {
        there = has-with_child p before k d t.boxes a m place n e ∙ from_left (contains t e) (same_key e k) w.there;
        holds = λ j u. elim (cases (same_key j k)) [
          | inl s ↦ settled_by (same_key j k) (in_subtree same_key j e (document.with_child p before k d t.boxes)) (in_subtree same_key j e t.boxes) s
          | inr s ↦ ap (λ x. same_key j k || x) (subtree-with_child p before k d t.boxes a m place n j e w.there s)
        ];
      }

  -- and a change of style that round the box.
  pub styling_leaves : (k : BoxKey) (c : StyleChange) (b : Bool) → Leaves (styling k c) t b (context_round k t)
  styling_leaves k c b e on h =
      let w : Found (λ i below. has same_key k below) t.boxes e = context_found (λ i below. has same_key k below) t e r a h in
      record {
        there = has-each (λ j. same_key j k) (restyle c) same_key e t.boxes ∙ w.there;
        holds = λ j u. ap (λ x. reached_by (styling k c) t j || x) (subtree-each (λ j. same_key j k) (restyle c) j e t.boxes);
      }
