-- The rows once a new box came in, but for those above it.
use Rattle.std.proofs.Common.{◌≡◌, refl, ap, ◌∙◌, sym, subst, true, false, cond, List, length, ◌≤◌, arith, inl, inr, ◌⊎◌}
use Rattle.std.specs.Prelude.{Option, String, is_some}
use Rattle.std.specs.HashMap.{HashMap}
use Rattle.rd_geom.specs.Plane.{hull_of, no_pixels}
use Rattle.rd_keys.specs.Keys.{same_key}
use Rattle.rd_keys.specs.Arena.{Arena}
use Rattle.rd_keys.proofs.Keys.{same_key-sound, same_key-refl}
use Rattle.rd_tree.specs.declared.node.Node as inner
use Rattle.rd_tree.specs.declared.table.row.Summary.{Summary}
use Rattle.rd_tree.specs.declared.table.whole.Whole.{Whole}
use Rattle.rd_tree.specs.Forest.{empty, tree, has, children, in_subtree, IsApart, IsPlaceIn}
use Rattle.rd_tree.specs.Document.{BoxKey, Item, BoxForest, with_child}
use Rattle.rd_tree.specs.Internal.Linked.{linked, IsTree, IsConsistent, seen}
use Rattle.rd_tree.specs.Internal.Summaries.{summary_of, summary_at}
use Rattle.rd_tree.specs.Hulls.{extent}
use Rattle.rd_tree.specs.Internal.Rows.{Puts, IsStanding, IsGaining, IsRight, IsTabled, CanClimb, alone, touched_box, whole_in}
use Rattle.rd_tree.proofs.Linking.Standing.{cases, never, differs_back}
use Rattle.rd_tree.proofs.Forests.Under.{which}
use Rattle.rd_tree.proofs.Tables.Above.{puts_at, is_live}
use Rattle.rd_tree.proofs.Nodes.Looking.{apart_seen}
use Rattle.rd_tree.proofs.Nodes.Grow.{GrownTree}
use Rattle.rd_tree.proofs.Tables.TreeRows.{seen_stands, tree_climbs}
use Rattle.rd_tree.proofs.Summaries.Hulls.{hull-unit}
use Rattle.rd_tree.proofs.Summaries.Branch.{hull_near-unit}
use Rattle.rd_tree.proofs.Summaries.Put.{more_near}
use Rattle.rd_tree.proofs.Summaries.Placed.{summary-with_child, summary-child, subtree-with_child, has-with_child, not_above_child}

module _ (a : Arena inner.Node) (p k : BoxKey) (before : Option BoxKey) (d : Item) (g : BoxForest) (rows next : List Summary) (apart : IsApart same_key g)
    (there : has same_key p g ≡ true)
    (place : IsPlaceIn same_key before (children same_key p g)) (out : has same_key k g ≡ false) where
  abbrev f : BoxForest
  f = with_child p before k d g

  abbrev one : BoxForest
  one = tree k d empty empty

  pub grown_gains : ((j : BoxKey) → has same_key j f ≡ true → is_some (linked a j) ≡ true) → IsRight rows g → Puts rows next k (alone (hull_of
      (extent d) no_pixels)) → IsGaining next f p (whole_in one)
  grown_gains live right put = record {
    rest = λ j. summary_of j g;
    plain = λ j. hull_near-unit j g;
    was = λ j h u. elim (old_or_new j h) [
      | inl m ↦ stays j h m ∙ right j m
      | inr e ↦ absurd (never (in_subtree same_key p j f) u (subst (λ i. in_subtree same_key p i f ≡ false) (sym e) (not_above_child p before k d g apart
          there place out p there)))
    ];
    is = λ j h u. elim (old_or_new j h) [
      | inl m ↦
          let v : in_subtree same_key p j g ≡ true = sym (subtree-with_child p before k d g apart there place out p j m far) ∙ u in
          summary-with_child p before k d g apart there place out j m ∙ ap (λ b. cond b (more_near (same_key p j) one (summary_of j g)) (summary_of j g)) v
      | inr e ↦ absurd (never (in_subtree same_key p j f) u (subst (λ i. in_subtree same_key p i f ≡ false) (sym e) (not_above_child p before k d g apart
          there place out p there)))
    ];
    others = λ j h u. elim (old_or_new j h) [
      | inl m ↦
          let v : in_subtree same_key p j g ≡ false = sym (subtree-with_child p before k d g apart there place out p j m far) ∙ u in
          stays j h m ∙ (right j m ∙ sym (summary-with_child p before k d g apart there place out j m ∙ ap (λ b. cond b (more_near (same_key p j) one
          (summary_of j g)) (summary_of j g)) v))
      | inr e ↦ subst (λ i. summary_at next i ≡ summary_of i f) (sym e) (new_row ∙ sym (summary-child p before k d g apart there place out))
    ];
  } where
    far : same_key p k ≡ false
    far = elim (cases (same_key p k)) [ inl e ↦ absurd (never (has same_key p g) there (ap (λ i. has same_key i g) (same_key-sound p k e) ∙ out)) | inr e ↦ e ]

    old_or_new : (j : BoxKey) → has same_key j f ≡ true → (has same_key j g ≡ true) ⊎ (j ≡ k)
    old_or_new j h = elim (which (has same_key j g) (same_key j k) (sym (has-with_child p before k d g apart there place out j) ∙ h)) [
      | inl m ↦ inl m
      | inr
          e ↦ inr (same_key-sound j k e)
    ]

    here : is_some (linked a k) ≡ true
    here = live k (has-with_child p before k d g apart there place out k ∙ rw (out, same_key-refl k) refl)

    stays : (j : BoxKey) → has same_key j f ≡ true → has same_key j g ≡ true → summary_at next j ≡ summary_at rows j
    stays j h m =
        let o : same_key k j ≡ false = differs_back same_key same_key-sound same_key-refl g k j out m in
        puts_at a rows next k (alone (hull_of (extent d) no_pixels)) put here j (live j h) ∙ ap (λ b. cond b (alone (hull_of (extent d) no_pixels))
        (summary_at rows j)) o

    new_row : summary_at next k ≡ alone (hull_of (extent d) no_pixels)
    new_row = puts_at a rows next k (alone (hull_of (extent d) no_pixels)) put here k here ∙ ap (λ b. cond b (alone (hull_of (extent d) no_pixels))
        (summary_at rows k)) (same_key-refl k)

  -- what a new touched box is to those above it
  pub one_whole : d.touched ≡ true → record { touched = 1; hull = hull_of (extent d) no_pixels } ≡ whole_in one
  one_whole t = rw (t, hull-unit (extent d) no_pixels) refl

-- The table of a tree with a new box.
module _ {Y S : Type 0} (a0 a2 : Arena inner.Node) (root p k : BoxKey) (before : Option BoxKey) (d : Item) (ids : HashMap (String Y) BoxKey S) (rows next :
    List Summary) (w : Whole)
    (t0 : IsTree a0 root) (s2 : IsConsistent a2 root ids) (g : GrownTree a0 a2 root p k before d) (there : has same_key p (seen a0 root)
    ≡ true) (place : IsPlaceIn same_key before (children same_key p (seen a0 root)))
    (table : IsTabled a0 rows (seen a0 root)) (most : length a2.slots ≤ length next) (put : Puts rows next k (alone (hull_of (extent d) no_pixels)))
    (t : d.touched ≡ true) (e : w ≡ touched_box (hull_of (extent d) no_pixels)) where
  apart0 : IsApart same_key (seen a0 root)
  apart0 = apart_seen a0 root t0

  is_in : has same_key p (seen a2 root) ≡ true
  is_in = ap (has same_key p) g.sees ∙ (has-with_child p before k d (seen a0 root) apart0 there place g.unused p ∙ rw there refl)

  insert_gains : IsGaining next (seen a2 root) p w
  insert_gains =
      let st : IsStanding a2 root (seen a2 root) = seen_stands a2 root s2.tree in
      let live : (j : BoxKey) → has same_key j (with_child p before k d (seen a0 root)) ≡ true → is_some (linked a2 j) ≡ true = λ j h. is_live a2 root
      (seen a2 root) st j (ap (has same_key j) g.sees ∙ h) in
      let one : IsGaining next (with_child p before k d (seen a0 root)) p (whole_in (tree k d empty empty)) = grown_gains a2 p k before d (seen a0 root)
      rows next apart0 there place g.unused live table.right put in
      let same : whole_in (tree k d empty empty) ≡ w = sym (e ∙ one_whole a2 p k before d (seen a0 root) rows next apart0 there place g.unused t) in
      subst (λ v. IsGaining next (seen a2 root) p v) same (subst (λ f. IsGaining next f p (whole_in (tree k d empty empty))) (sym g.sees) one)

  pub insert_climbs : CanClimb a2 next p (λ f. IsGaining next f p w)
  insert_climbs = tree_climbs a2 root p ids next (λ f. IsGaining next f p w) s2 most is_in insert_gains

  pub insert_near : (last : List Summary) → ((r : BoxKey) (f : BoxForest) → IsStanding a2 r f → has same_key p f ≡ true → IsGaining next f p w
      → IsRight last f) → length last ≡ length next → IsTabled a2 last (seen a2 root)
  insert_near last right len = record {
    all_rows = omega (arith, most, len);
    right = right root (seen a2 root) (seen_stands a2 root s2.tree) is_in
        insert_gains;
  }
