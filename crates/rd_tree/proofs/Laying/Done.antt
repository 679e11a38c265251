-- An edit of one box in place that draws it and all below it elsewhere: what is kept, and what the tree is then.
use Rattle.std.proofs.Common.{◌≡◌, refl, ap, ◌∙◌, sym, subst, ℕ, ◌+◌, ◌≤◌, max, Bool, true, false, cond, List, inl, inr, arith}
use Rattle.std.specs.Prelude.{Some, option_map}
use Rattle.rd_keys.specs.Keys.{same_key}
use Rattle.rd_keys.proofs.Keys.{same_key-sound, same_key-refl}
use Rattle.rd_tree.specs.declared.handed.ScrollSums.{ScrollSums}
use Rattle.rd_tree.specs.Forest.{empty, tree, has, height, item_of, children, map_where, at_box, AllItems, IsApart}
use Rattle.rd_tree.specs.Document.{Document, BoxKey, Item, BoxForest, IsRooted}
use Rattle.rd_tree.specs.Limits.{FitsScroll}
use Rattle.rd_tree.specs.Touching.{touch}
use Rattle.rd_tree.specs.Internal.Handing.{entered, IsWithin}
use Rattle.rd_tree.specs.Internal.Hands.{hand_at, handed_to}
use Rattle.rd_tree.specs.Internal.Laid.{passed_from, unhanded, AreHanded, IsHandedDown}
use Rattle.rd_tree.proofs.Linking.Standing.{cases, never, join-empty, no_children, out_of_children, differs}
use Rattle.rd_tree.proofs.Linking.Cutting.{in_children}
use Rattle.rd_tree.proofs.Forests.Restoring.{apart_children}
use Rattle.rd_tree.proofs.Forests.ByKey.{where-by, item-by}
use Rattle.rd_tree.proofs.Forests.Heights.{height-each}
use Rattle.rd_tree.proofs.Nodes.Each.{has-each}
use Rattle.rd_tree.proofs.Summaries.Within.{not_own}
use Rattle.rd_tree.proofs.Offsets.{entered_within}
use Rattle.rd_tree.proofs.Laying.Rows.{inside_of, handed_at, handed_children, handed_down, handed_is, handed_where}
use Rattle.rd_tree.proofs.Laying.Kept.{IsTold, there}
use Rattle.rd_tree.proofs.Laying.Draws.{marked_low, marked_to}

-- The root is below no box.
pub root_out : (t : Document) → IsRooted t → IsApart same_key t.boxes → (k : BoxKey) → has same_key t.root (children same_key k t.boxes) ≡ false
root_out t r a k =
    let fa : IsApart same_key (tree t.root r.0 r.1 empty) = subst (λ f. IsApart same_key f) r.2 a in
    subst (λ f. has same_key t.root (children same_key k f) ≡ false) (sym r.2) (elim (cases (same_key k t.root)) [
      | inl s ↦ rw s fa.0
      | inr s ↦ rw (s, join-empty (children same_key k r.1)) (out_of_children same_key same_key-sound same_key-refl t.root k r.1 fa.0)
    ])

-- How far what is handed to a box may be, and how many levels are below it.
pub row_level : (rows : List ScrollSums) (root : BoxKey) (n : ℕ) (h : ScrollSums) (f : BoxForest) → IsWithin n h → AllItems (λ d. FitsScroll d.scroll) f → AreHanded rows root h f → IsApart same_key f
    → (k : BoxKey) → has same_key k f ≡ true → (m : ℕ) × IsWithin m (hand_at rows k) × (m + (1 + height (children same_key k f)) ≤ n + height f)
row_level rows root n h empty w s r a k m = absurd (never false m refl)
row_level rows root n h (tree i e low rest) w s r a k m =
    elim (cases (same_key k i)) [
      | inl t ↦
          let q : IsWithin n (hand_at rows k) = subst (λ z. IsWithin n z) (sym r.0 ∙ ap (hand_at rows) (sym (same_key-sound k i t))) w in
          (n, q, rw t (omega arith))
      | inr t ↦ elim (cases (has same_key k low)) [
        | inl u ↦
            let p : (m : ℕ) × IsWithin m (hand_at rows k) × (m + (1 + height (children same_key k low)) ≤ (1 + n) + height low) =
            row_level rows root (1 + n) (entered (same_key i root) e.style e.scroll h) low (entered_within n (same_key i root) e.style e.scroll h s.0 w) s.1 r.1 a.3 k u in
            let l : p.0 + (1 + height (children same_key k low)) ≤ n + max (1 + height low) (height rest) = omega (arith, p.2) in
            (p.0, p.1, rw (t, no_children same_key same_key-sound same_key-refl k rest (a.2 k u), join-empty (children same_key k low)) l)
        | inr u ↦
            let p : (m : ℕ) × IsWithin m (hand_at rows k) × (m + (1 + height (children same_key k rest)) ≤ n + height rest) =
            row_level rows root n h rest w s.2 r.2 a.4 k (rw (t, u) at m) in
            let l : p.0 + (1 + height (children same_key k rest)) ≤ n + max (1 + height low) (height rest) = omega (arith, p.2) in
            (p.0, p.1, rw (t, no_children same_key same_key-sound same_key-refl k low u) l)
      ]
    ]

-- One box changes in place, with some boxes marked.
module _ (t : Document) (rows : List ScrollSums) (told : IsTold t) (right : AreHanded rows t.root unhanded t.boxes) (k : BoxKey) (e : Item → Item) (q : BoxKey → Bool) where
  abbrev edits : BoxForest
  edits = map_where q touch (at_box same_key k e t.boxes)

  abbrev low : BoxForest
  low = children same_key k t.boxes

  has_same : (j : BoxKey) → has same_key j edits ≡ has same_key j t.boxes
  has_same j = has-each q touch same_key j (at_box same_key k e t.boxes) ∙ has-each (λ i. same_key i k) e same_key j t.boxes

  pub below_is : children same_key k edits ≡ map_where q touch low
  below_is = marked_low q e k t.boxes told.apart

  pub below_levels : height (children same_key k edits) ≡ height low
  below_levels = ap height below_is ∙ height-each q touch low

  pub item_then : (d : Item) → item_of same_key k t.boxes ≡ Some d → item_of same_key k edits ≡ Some (cond (q k) (touch (e d)) (e d))
  item_then d v =
      let a : item_of same_key k (at_box same_key k e t.boxes) ≡ Some (e d) =
      ap (item_of same_key k) (where-by (λ i. same_key i k) e t.boxes)
      ∙ (item-by (λ i d. cond (same_key i k) (e d) d) same_key same_key-sound k t.boxes ∙ (ap (option_map (λ d. cond (same_key k k) (e d) d)) v ∙ rw (same_key-refl k) refl)) in
      ap (item_of same_key k) (where-by q touch (at_box same_key k e t.boxes))
      ∙ (item-by (λ i d. cond (q i) (touch d) d) same_key same_key-sound k (at_box same_key k e t.boxes) ∙ ap (option_map (λ d. cond (q k) (touch d) d)) a)

  pub item_is : (d : Item) → item_of same_key k t.boxes ≡ Some d → (h : ScrollSums) → passed_from (same_key k t.root) h (item_of same_key k edits) ≡ entered (same_key k t.root) (e d).style (e d).scroll h
  item_is d v h = ap (passed_from (same_key k t.root) h) (item_then d v) ∙ by (q k) where
    by : (c : Bool) → entered (same_key k t.root) (cond c (touch (e d)) (e d)).style (cond c (touch (e d)) (e d)).scroll h ≡ entered (same_key k t.root) (e d).style (e d).scroll h
    by true = refl
    by false = refl

  -- Before that, the table has below the box what was handed down from it.
  pub below_then : has same_key k t.boxes ≡ true → IsHandedDown rows (passed_from (same_key k t.root) (hand_at rows k) (item_of same_key k t.boxes)) (children same_key k edits)
  below_then m j u =
      let w : (d : Item) × (item_of same_key k t.boxes ≡ Some d) = there k t.boxes m in
      let h : ScrollSums = passed_from (same_key k t.root) (hand_at rows k) (item_of same_key k t.boxes) in
      let v : has same_key j low ≡ true = sym (has-each q touch same_key j low) ∙ (sym (ap (has same_key j) below_is) ∙ u) in
      handed_is rows t.root (inside_of rows t.root k w.0) low (apart_children same_key same_key-sound same_key-refl k t.boxes told.apart) (root_out t told.rooted told.apart k)
      (handed_children rows t.root unhanded k w.0 t.boxes told.apart w.1 right) j v
      ∙ (ap (λ o. handed_to j (passed_from (same_key k t.root) (hand_at rows k) o) low) (sym w.1)
      ∙ (sym (marked_to q j h low) ∙ ap (handed_to j h) (sym below_is)))

  -- The rows are right once what follows is handed down.
  pub right_then : (last : List ScrollSums) (inside : ScrollSums) → inside ≡ passed_from (same_key k t.root) (hand_at rows k) (item_of same_key k edits)
      → ((i : BoxKey) → has same_key i edits ≡ true → hand_at last i
      ≡ cond (same_key i k) (hand_at rows k) (cond (has same_key i (children same_key k edits)) (handed_to i inside (children same_key k edits)) (hand_at rows i)))
      → AreHanded last t.root unhanded edits
  right_then last inside is hands =
      let all : (i : BoxKey) → has same_key i t.boxes ≡ true → hand_at last i ≡ cond (same_key i k) (hand_at rows k) (cond (has same_key i low) (handed_to i inside low) (hand_at rows i)) =
      λ i u. hands i (has_same i ∙ u)
      ∙ (ap (λ z. cond (same_key i k) (hand_at rows k) (cond (has same_key i z) (handed_to i inside z) (hand_at rows i))) below_is
      ∙ (λ x. cond (same_key i k) (hand_at rows k) (cond (has-each q touch same_key i low x) (marked_to q i inside low x) (hand_at rows i)))) in
      handed_where last t.root q touch (λ d. refl) (λ d. refl) unhanded (at_box same_key k e t.boxes)
      (handed_at rows last t.root k e unhanded t.boxes told.apart right
      (λ j u o. all j u ∙ outer (same_key j k) (has same_key j low) j o (λ s. ap (hand_at rows) (sym (same_key-sound j k s))) inside)
      (λ d v. subst (λ z. AreHanded last t.root z low) (is ∙ item_is d v (hand_at rows k))
      (handed_down last t.root inside low (apart_children same_key same_key-sound same_key-refl k t.boxes told.apart) (root_out t told.rooted told.apart k)
      (λ j u. all j (in_children same_key same_key-sound same_key-refl j k t.boxes u)
      ∙ rw (differs same_key same_key-sound same_key-refl low j k u (not_own same_key same_key-sound same_key-refl k t.boxes told.apart), u) refl)))) where
        outer : (x y : Bool) (j : BoxKey) → y ≡ false → (x ≡ true → hand_at rows k ≡ hand_at rows j) → (inside : ScrollSums)
            → cond x (hand_at rows k) (cond y (handed_to j inside low) (hand_at rows j)) ≡ hand_at rows j
        outer true y j o s inside = s refl
        outer false true j o s inside = cc (o)
        outer false false j o s inside = refl
