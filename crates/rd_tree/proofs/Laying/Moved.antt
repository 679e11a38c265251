-- A move that draws the boxes elsewhere: what is kept, and what the tree is then.
use Rattle.std.proofs.Common.{◌≡◌, refl, ap, ◌∙◌, sym, subst, ◌+◌, ◌≤◌, Bool, true, false, ◌||◌, cond, List, inl, inr, arith}
use Rattle.std.specs.Prelude.{Option, Some, option_map}
use Rattle.rd_keys.specs.Keys.{same_key}
use Rattle.rd_keys.proofs.Keys.{same_key-sound, same_key-refl}
use Rattle.rd_tree.specs.declared.handed.ScrollSums.{ScrollSums}
use Rattle.rd_tree.specs.declared.scroll.Scroll.{Scroll}
use Rattle.rd_tree.specs.Figures.{max_depth}
use Rattle.rd_tree.specs.Forest.{empty, tree, has, height, depth, item_of, children, with_children, insert_among, without_branch, branch, map_where, in_subtree, IsApart, IsPlaceIn}
use Rattle.rd_tree.specs.Document.{Document, BoxKey, Item, BoxForest, contains, AllFit}
use Rattle.rd_tree.specs.Changes.{moving, put_elsewhere}
use Rattle.rd_tree.specs.Touching.{touch, touched_by, edited}
use Rattle.rd_tree.specs.Internal.Handing.{entered, IsWithin}
use Rattle.rd_tree.specs.Internal.Hands.{hand_at, handed_to}
use Rattle.rd_tree.specs.Internal.Laid.{laid_tree, own_from, passed_from, unhanded, AreHanded, IsHandedDown, IsHanding, CanDraw}
use Rattle.rd_tree.proofs.Linking.Standing.{never, either, from_left, from_right, differs, refute}
use Rattle.rd_tree.proofs.Linking.Cutting.{in_children}
use Rattle.rd_tree.proofs.Forests.Under.{which}
use Rattle.rd_tree.proofs.Forests.Without.{stays, in_without, apart_without, stays_out}
use Rattle.rd_tree.proofs.Forests.Restoring.{branch_there, apart_children}
use Rattle.rd_tree.proofs.Forests.Heights.{height-each}
use Rattle.rd_tree.proofs.Forests.ByKey.{where-by, item-by}
use Rattle.rd_tree.proofs.Nodes.Each.{has-each, children-each}
use Rattle.rd_tree.proofs.Summaries.Placed.{has-elsewhere}
use Rattle.rd_tree.proofs.Summaries.Within.{not_own}
use Rattle.rd_tree.proofs.Laying.Rows.{inside_of, handed_where, handed_rows, handed_without, handed_among, handed_put, handed_children, handed_down, handed_is}
use Rattle.rd_tree.proofs.Laying.Fits.{fit_moved}
use Rattle.rd_tree.proofs.Laying.Kept.{IsTold, all_within, there}
use Rattle.rd_tree.proofs.Laying.Draws.{handed_to-by}
use Rattle.rd_tree.proofs.Laying.Results.{moved-relaid}
use Rattle.rd_tree.proofs.Laying.Done.{root_out}
use Rattle.rd_tree.proofs.Laying.Ends.{IsRedrawn, ends}
use Rattle.rd_tree.proofs.Laying.Moves.{Stands, stands_among, stands_under, among_has, item-without}

module _ (t : Document) (rows : List ScrollSums) (told : IsTold t) (h : IsHanding t rows) (k p : BoxKey) (before : Option BoxKey) (m : contains t k ≡ true) (other : same_key k t.root ≡ false)
    (mp : contains t p ≡ true) (outside : in_subtree same_key p k t.boxes ≡ false) (place : IsPlaceIn same_key before (children same_key p t.boxes)) (apart : before ≡ Some k → ⊥)
    (own : ScrollSums) (is : own ≡ passed_from (same_key p t.root) (hand_at rows p) (item_of same_key p t.boxes)) where
  abbrev f : BoxForest
  f = t.boxes

  abbrev low : BoxForest
  low = children same_key k f

  abbrev g : BoxForest
  g = without_branch same_key k f

  abbrev marks : BoxKey → Bool
  marks = touched_by (moving k p before) t

  abbrev then : BoxForest
  then = put_elsewhere k p before f

  outs : (same_key p k ≡ false) × (has same_key p low ≡ false)
  outs = either (same_key p k) (has same_key p low) outside

  branch_is : (d : Item) × (branch same_key k f ≡ tree k d low empty)
  branch_is = branch_there same_key same_key-sound same_key-refl k f told.apart m

  has_then : (j : BoxKey) → has same_key j then ≡ (has same_key j g || has same_key j (branch same_key k f))
  has_then j = has-elsewhere k p before f told.apart m mp outside place apart j

  k_off : has same_key k g ≡ false
  k_off = refute (has same_key k g) (λ u. never (same_key k k) (same_key-refl k) (stays_out same_key same_key-sound same_key-refl k k f told.apart u).0)

  -- No box comes.
  there_before : (j : BoxKey) → has same_key j then ≡ true → has same_key j f ≡ true
  there_before j u = elim (which (has same_key j g) (has same_key j (branch same_key k f)) (sym (has_then j) ∙ u)) [
    | inl v ↦ in_without same_key same_key-sound same_key-refl j k f v
    | inr v ↦ in_branch j (sym (ap (has same_key j) branch_is.1) ∙ v)
  ] where
    in_branch : (j : BoxKey) → (same_key j k || (has same_key j low || false)) ≡ true → has same_key j f ≡ true
    in_branch j v = elim (which (same_key j k) (has same_key j low || false) v) [
      | inl s ↦ subst (λ z. has same_key z f ≡ true) (sym (same_key-sound j k s)) m
      | inr s ↦ elim (which (has same_key j low) false s) [ inl x ↦ in_children same_key same_key-sound same_key-refl j k f x | inr x ↦ absurd (never false x refl) ]
    ]

  -- The box stands there with what is below it.
  stands : Stands k branch_is.0 low then
  stands =
      let one : BoxForest = tree k branch_is.0 low empty in
      let siblings : BoxForest = children same_key p g in
      let off : has same_key k siblings ≡ false = refute (has same_key k siblings) (λ u. never (has same_key k g) (in_children same_key same_key-sound same_key-refl k p g u) k_off) in
      let s : Stands k branch_is.0 low (insert_among same_key before one siblings) = stands_among k before branch_is.0 low siblings off in
      let i : has same_key k (insert_among same_key before one siblings) ≡ true = among_has k before one siblings (from_left (same_key k k) (has same_key k low || false) (same_key-refl k)) in
      subst (λ b. Stands k branch_is.0 low (with_children same_key p (insert_among same_key before b siblings) g)) (sym branch_is.1) (stands_under k p branch_is.0 low (insert_among same_key before one siblings) g (apart_without same_key same_key-sound same_key-refl k f told.apart)
      (stays same_key same_key-sound same_key-refl p k f mp outs.0 outs.1) k_off i s).1

  abbrev u : Document
  u = edited (moving k p before) t

  below_u : children same_key k u.boxes ≡ map_where marks touch low
  below_u = children-each marks touch same_key k then ∙ ap (map_where marks touch) stands.below

  item_u : (x : ScrollSums) → passed_from (same_key k t.root) x (item_of same_key k u.boxes) ≡ entered (same_key k t.root) branch_is.0.style branch_is.0.scroll x
  item_u x =
      let b : item_of same_key k u.boxes ≡ Some (cond (marks k) (touch branch_is.0) branch_is.0) =
      ap (item_of same_key k) (where-by marks touch then)
      ∙ (item-by (λ i d. cond (marks i) (touch d) d) same_key same_key-sound k then ∙ ap (option_map (λ d. cond (marks k) (touch d) d)) stands.item) in
      ap (passed_from (same_key k t.root) x) b ∙ by (marks k) where
        by : (c : Bool) → entered (same_key k t.root) (cond c (touch branch_is.0) branch_is.0).style (cond c (touch branch_is.0) branch_is.0).scroll x
            ≡ entered (same_key k t.root) branch_is.0.style branch_is.0.scroll x
        by true = refl
        by false = refl

  marked_to : (j : BoxKey) (x : ScrollSums) → handed_to j x (map_where marks touch low) ≡ handed_to j x low
  marked_to j x = ap (handed_to j x) (where-by marks touch low)
      ∙ handed_to-by (λ i d. cond (marks i) (touch d) d) (λ i d. scroll_at (marks i) d) (λ i d. style_at (marks i) d) j x low where
        scroll_at : (b : Bool) (d : Item) → (cond b (touch d) d).scroll ≡ d.scroll
        scroll_at true d = refl
        scroll_at false d = refl

        style_at : (b : Bool) (d : Item) → (cond b (touch d) d).style ≡ d.style
        style_at true d = refl
        style_at false d = refl

  pub move_below : IsHandedDown rows (passed_from (same_key k t.root) (hand_at rows k) (item_of same_key k f)) (children same_key k u.boxes)
  move_below j v =
      let w : (d : Item) × (item_of same_key k f ≡ Some d) = there k f m in
      let x : ScrollSums = passed_from (same_key k t.root) (hand_at rows k) (item_of same_key k f) in
      let n : has same_key j low ≡ true = sym (has-each marks touch same_key j low) ∙ (sym (ap (has same_key j) below_u) ∙ v) in
      handed_is rows t.root (inside_of rows t.root k w.0) low (apart_children same_key same_key-sound same_key-refl k f told.apart) (root_out t told.rooted told.apart k)
      (handed_children rows t.root unhanded k w.0 f told.apart w.1 h.right) j n
      ∙ (ap (λ o. handed_to j (passed_from (same_key k t.root) (hand_at rows k) o) low) (sym w.1)
      ∙ (sym (marked_to j x) ∙ ap (handed_to j x) (sym below_u)))

  pub move_can : (old : Scroll) → old ≡ own_from (hand_at rows k) (item_of same_key k f) → IsWithin (depth same_key p f) own
      → depth same_key p f + (1 + height low) ≤ max_depth → CanDraw u rows k old own
  move_can old o w n =
      let l : height (children same_key k u.boxes) ≡ height low = ap height below_u ∙ height-each marks touch low in
      record {
        all_rows = h.all_rows;
        within = λ j v. all_within t rows told h j (there_before j (sym (has-each marks touch same_key j then) ∙ v));
        fits = subst AllFit (sym (moved-relaid rows t told.apart k old o p before)) (fit_moved (laid_tree rows t) h.fits k p before);
        levels = depth same_key p f;
        within_own = w;
        shallow = omega (arith, n, l);
      }

  pub move_there : contains u k ≡ true
  move_there = has-each marks touch same_key k then ∙ (has_then k ∙ from_right (has same_key k g) (has same_key k (branch same_key k f))
      (ap (has same_key k) branch_is.1 ∙ from_left (same_key k k) (has same_key k low || false) (same_key-refl k)))

  pub move_right : (last : List ScrollSums) → ((i : BoxKey) → contains u i ≡ true → hand_at last i
      ≡ cond (same_key i k) own (cond (has same_key i (children same_key k u.boxes)) (handed_to i (passed_from (same_key k t.root) own (item_of same_key k u.boxes)) (children same_key k u.boxes)) (hand_at rows i)))
      → AreHanded last t.root unhanded u.boxes
  move_right last hands =
      let inside : ScrollSums = passed_from (same_key k t.root) own (item_of same_key k u.boxes) in
      let all : (i : BoxKey) → has same_key i then ≡ true → hand_at last i ≡ cond (same_key i k) own (cond (has same_key i low) (handed_to i inside low) (hand_at rows i)) =
      λ i v. hands i (has-each marks touch same_key i then ∙ v)
      ∙ (ap (λ z. cond (same_key i k) own (cond (has same_key i z) (handed_to i inside z) (hand_at rows i))) below_u
      ∙ (λ x. cond (same_key i k) own (cond (has-each marks touch same_key i low x) (marked_to i inside x) (hand_at rows i)))) in
      let in_then : (i : BoxKey) → has same_key i g ≡ true → has same_key i then ≡ true = λ i v. has_then i ∙ from_left (has same_key i g) (has same_key i (branch same_key k f)) v in
      let in_branch : (i : BoxKey) → (same_key i k || (has same_key i low || false)) ≡ true → has same_key i then ≡ true =
      λ i v. has_then i ∙ from_right (has same_key i g) (has same_key i (branch same_key k f)) (ap (has same_key i) branch_is.1 ∙ v) in
      let rest : (i : BoxKey) → has same_key i g ≡ true → hand_at last i ≡ hand_at rows i =
      λ i v. let o = stays_out same_key same_key-sound same_key-refl i k f told.apart v in all i (in_then i v) ∙ rw (o.0, o.1) refl in
      let gr : AreHanded last t.root unhanded g = handed_rows rows last t.root unhanded g rest (handed_without rows t.root unhanded k f h.right) in
      let at_k : hand_at last k ≡ own = all k (in_branch k (from_left (same_key k k) (has same_key k low || false) (same_key-refl k))) ∙ rw (same_key-refl k) refl in
      let below : AreHanded last t.root (entered (same_key k t.root) branch_is.0.style branch_is.0.scroll own) low =
      subst (λ z. AreHanded last t.root z low) (item_u own)
      (handed_down last t.root inside low (apart_children same_key same_key-sound same_key-refl k f told.apart) (root_out t told.rooted told.apart k) (λ j v.
      all j (in_branch j (from_right (same_key j k) (has same_key j low || false) (from_left (has same_key j low) false v)))
      ∙ rw (differs same_key same_key-sound same_key-refl low j k v (not_own same_key same_key-sound same_key-refl k f told.apart), v) refl)) in
      let pg : has same_key p g ≡ true = stays same_key same_key-sound same_key-refl p k f mp outs.0 outs.1 in
      handed_where last t.root marks touch (λ d. refl) (λ d. refl) unhanded then
      (handed_put last t.root unhanded p (insert_among same_key before (branch same_key k f) (children same_key p g)) g (apart_without same_key same_key-sound same_key-refl k f told.apart) gr (λ d v.
      let to : own ≡ inside_of last t.root p d =
      is ∙ (ap (passed_from (same_key p t.root) (hand_at rows p)) (sym (item-without p k f outs.0 outs.1) ∙ v) ∙ ap (λ z. passed_from (same_key p t.root) z (Some d)) (sym (rest p pg))) in
      handed_among last t.root (inside_of last t.root p d) before (branch same_key k f) (children same_key p g)
      (subst (AreHanded last t.root (inside_of last t.root p d)) (sym branch_is.1)
      (subst (λ z. AreHanded last t.root z (tree k branch_is.0 low empty)) to
      (at_k, subst (λ z. AreHanded last t.root (entered (same_key k t.root) branch_is.0.style branch_is.0.scroll z) low) refl below, tt)))
      (handed_children last t.root unhanded p d g (apart_without same_key same_key-sound same_key-refl k f told.apart) v gr)))

  pub move_done : (old : Scroll) → old ≡ own_from (hand_at rows k) (item_of same_key k f) → IsApart same_key u.boxes → (v : Document) (last : List ScrollSums) → IsRedrawn u v rows last k old own → IsTold v
      → IsHanding v last × (laid_tree last v ≡ edited (moving k p before) (laid_tree rows t))
  move_done old o a v last d told2 = ends u v rows last k old own (edited (moving k p before) (laid_tree rows t)).boxes d a told2 h.all_rows (move_right last d.handed)
      (moved-relaid rows t told.apart k old o p before) (fit_moved (laid_tree rows t) h.fits k p before)
