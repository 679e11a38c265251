-- Items that change in one branch: what that leaves to be set right.
use Rattle.std.proofs.Common.{◌≡◌, refl, ap, ◌∙◌, sym, subst, Bool, true, false, ◌||◌, List, inl, inr}
use Rattle.std.specs.Prelude.{◌↔◌}
use Rattle.rd_keys.specs.Keys.{same_key}
use Rattle.rd_keys.specs.Arena.{Arena}
use Rattle.rd_keys.proofs.Keys.{same_key-sound, same_key-refl}
use Rattle.rd_tree.specs.declared.node.Node as inner
use Rattle.rd_tree.specs.declared.table.row.Summary.{Summary}
use Rattle.rd_tree.specs.declared.table.whole.Whole.{Whole}
use Rattle.rd_tree.specs.declared.reach.Reach.{Reach}
use Rattle.rd_tree.specs.declared.reach.Reach.TheVariants.{Nothing, Alone, Subtree}
use Rattle.rd_tree.specs.declared.table.renew.Stale.{Stale}
use Rattle.rd_tree.specs.declared.table.renew.Stale.TheVariants as left
use Rattle.rd_tree.specs.Forest.{empty, tree, has, children, in_subtree, without_branch, branch, map_where, at_box, IsApart}
use Rattle.rd_tree.specs.Document.{BoxKey, Item, BoxForest}
use Rattle.rd_tree.specs.Internal.Linked.{linked}
use Rattle.rd_tree.specs.Touching.{touch}
use Rattle.rd_tree.specs.Internal.Reaching.{touch_reached}
use Rattle.rd_tree.specs.Internal.Summaries.{summary_of, summary_at}
use Rattle.rd_tree.specs.Internal.Rows.{IsStanding, IsRight, extent_under, with_child_count, with_hull, whole_in, joined}
use Rattle.rd_tree.specs.Internal.Gathers.{gathered_in, row_over}
use Rattle.rd_tree.specs.Internal.Renews.{IsRightBelow, IsStale, IsRound}
use Rattle.rd_tree.proofs.Linking.Standing.{cases, never, from_left, from_right, differs}
use Rattle.rd_tree.proofs.Forests.Under.{which}
use Rattle.rd_tree.proofs.Linking.Cutting.{Among, in_children}
use Rattle.rd_tree.proofs.Nodes.Each.{has-each, apart_each, children-each}
use Rattle.rd_tree.proofs.Forests.Restoring.{apart_children}
use Rattle.rd_tree.proofs.Forests.Parent.{Parent, parent_below}
use Rattle.rd_tree.proofs.Summaries.Nearby.{not_round}
use Rattle.rd_tree.proofs.Forests.EachBranch.{IsWithin, within_box, within_subtree}
use Rattle.rd_tree.proofs.Summaries.Within.{not_own, summary-children}
use Rattle.rd_tree.proofs.Summaries.Each.{Replaced, InPlace, joined_near, replaced_each, replaced_then, in_place, summary-aside, children_kept}
use Rattle.rd_tree.proofs.Tables.Renewing.{row_under}

-- The boxes g are the boxes f but for items in the branch of k.
pub record Edited (k : BoxKey) (f g : BoxForest) : Type 0 where
  pub has_same : (j : BoxKey) → has same_key j g ≡ has same_key j f
  pub in_same : (i j : BoxKey) → in_subtree same_key i j g ≡ in_subtree same_key i j f
  pub replaced : (p : BoxKey) → IsApart same_key f → has same_key p f ≡ true → Among k (children same_key p f) → Replaced p k f g

pub edited_each : (t : BoxKey → Bool) (h : Item → Item) (k : BoxKey) (f : BoxForest) → IsWithin same_key t k f → Edited k f (map_where t h f)
edited_each t h k f q = record {
  has_same = λ j. has-each t h same_key j f;
  in_same = λ i j. ap (λ z. same_key i j || has same_key i z) (children-each t h same_key j f) ∙ ap (λ b. same_key i j || b) (has-each t h same_key i
      (children same_key j f));
  replaced = λ p a m w. replaced_each t h p k f a m w q;
}

pub edited_then : (k : BoxKey) (f g h : BoxForest) → Edited k f g → Edited k g h → Edited k f h
edited_then k f g h x y = record {
  has_same = λ j. y.has_same j ∙ x.has_same j;
  in_same = λ i j. y.in_same i j ∙ x.in_same i j;
  replaced = λ p a m w. let r = x.replaced p a m w in replaced_then p k f g h r (y.replaced p r.apart r.there r.child);
}

-- The touching changes no more.
pub edited_reach : (reach : Reach) (k : BoxKey) (f : BoxForest) → Edited k f (touch_reached reach k f)
edited_reach Nothing k f = record { has_same = λ j. refl; in_same = λ i j. refl; replaced = λ p a m w. record { apart = a; there = m; child = w; same = refl } }
edited_reach Alone k f = edited_each (λ j. same_key j k) touch k f (within_box same_key k f)
edited_reach Subtree k f = edited_each (λ j. in_subtree same_key j k f) touch k f (within_subtree same_key k f)

pub still_touched : (k : BoxKey) (reach : Reach) (f g : BoxForest) → g ≡ touch_reached reach k f → has same_key k f ≡ true → has same_key k g ≡ true
still_touched k reach f g e m = ap (has same_key k) e ∙ ((edited_reach reach k f).has_same k ∙ m)

-- All boxes are in the branch of the root.
all_in : (root k : BoxKey) (d : Item) (low : BoxForest) → same_key k root ≡ true → (j : BoxKey) → has same_key j (tree root d low empty) ≡ true
    → in_subtree same_key j k (tree root d low empty) ≡ true
all_in root k d low e j h = rw e (elim (which (same_key j root) (has same_key j low || false) h) [
  | inl u ↦ from_left (same_key j k) (has same_key j low) (subst (λ i. same_key j i ≡ true) (sym (same_key-sound k root e)) u)
  | inr u ↦ from_right (same_key j k) (has same_key j low) (elim (which (has same_key j low) false u) [ inl v ↦ v | inr v ↦ absurd (never false v refl) ])
])

-- Of two boxes one is not below the other where that one is below it.
not_both : (j k : BoxKey) (f : BoxForest) → IsApart same_key f → same_key j k ≡ false → in_subtree same_key j k f ≡ true → in_subtree same_key k j f ≡ false
not_both j k f a n u =
    let v : has same_key j (children same_key k f) ≡ true = sym (ap (λ b. b || has same_key j (children same_key k f)) n) ∙ u in
    let o : has same_key k (children same_key j f) ≡ false = not_round same_key same_key-sound same_key-refl j k f a (apart_children same_key
    same_key-sound same_key-refl k f a) (not_own same_key same_key-sound same_key-refl k f a) v in
    ap (λ b. b || has same_key k (children same_key j f)) (back n) ∙ o where
      back : same_key j k ≡ false → same_key k j ≡ false
      back e = elim (cases (same_key k j)) [
        | inl s ↦ absurd (never (same_key j k) (subst (λ i. same_key j i ≡ true) (sym (same_key-sound k j s))
            (same_key-refl j)) e)
        | inr s ↦ s
      ]

module _ (rows : List Summary) (f g : BoxForest) (k : BoxKey) (a : IsApart same_key f) (e : Edited k f g) (right : IsRight rows f) (old : Whole) (o : old
    ≡ whole_in (branch same_key k f)) where
  -- Nothing is above the root, nor beside it.
  round_root : (root : BoxKey) (d : Item) (low : BoxForest) → f ≡ tree root d low empty → same_key k root ≡ true → IsRound rows g k old
  round_root root d low is s = record {
    rest = λ j. summary_of j f;
    was = λ j h n i. absurd (over j h n i);
    is = λ j h n i. absurd (over j h n i);
    others = λ j h n i. absurd (never (in_subtree same_key j k f) (inside j (sym (e.has_same j) ∙ h)) (sym (e.in_same j k) ∙ n));
  } where
    inside : (j : BoxKey) → has same_key j f ≡ true → in_subtree same_key j k f ≡ true
    inside j h = subst (λ z. in_subtree same_key j k z ≡ true) (sym is) (all_in root k d low s j (subst (λ z. has same_key j z ≡ true) is h))

    over : (j : BoxKey) → has same_key j g ≡ true → same_key j k ≡ false → in_subtree same_key k j g ≡ true → ⊥
    over j h n i = never (in_subtree same_key k j f) (sym (e.in_same k j) ∙ i) (not_both j k f a n (inside j (sym (e.has_same j) ∙ h)))

  -- A box that has a parent.
  round_below : Parent same_key same_key-sound same_key-refl k f → IsRound rows g k old
  round_below q = record {
    rest = rest;
    was = λ j h n i.
        let w : InPlace j k f g = at j h n i in
        right j (sym (e.has_same j) ∙ h) ∙ (w.before ∙ (ap (λ c. joined_near c (summary_of j (without_branch same_key k f)) (branch same_key k f))
        (count j w) ∙ ap (joined (rest j)) (sym o)));
    is = λ j h n i.
        let w : InPlace j k f g = at j h n i in
        w.after ∙ ap (λ c. joined_near c (summary_of j (without_branch same_key k f)) (branch same_key k g)) (count j w);
    others = λ j h n i. right j (sym (e.has_same j) ∙ h) ∙ sym (summary-aside q.key k f g a q.there q.child (e.replaced q.key a q.there q.child) j (sym
        (e.has_same j) ∙ h) (sym (e.in_same j k) ∙ n) (sym (e.in_same k j) ∙ i));
  } where
    rest : BoxKey → Summary
    rest j = with_child_count (summary_of j f).children (summary_of j (without_branch same_key k f))

    at : (j : BoxKey) → has same_key j g ≡ true → same_key j k ≡ false → in_subtree same_key k j g ≡ true → InPlace j k f g
    at j h n i = in_place q.key k f g a q.there q.child (e.replaced q.key a q.there q.child) j (sym (e.has_same j) ∙ h) n (sym (e.in_same k j) ∙ i)

    count : (j : BoxKey) (w : InPlace j k f g) → w.count ≡ (summary_of j f).children
    count j w = sym (ap (λ n. n.children) w.before)

  -- What the edit leaves to the rows above the branch.
  pub round : (root : BoxKey) (d : Item) (low : BoxForest) → f ≡ tree root d low empty → has same_key k f ≡ true → IsRound rows g k old
  round root d low is m = elim (cases (same_key k root)) [
    | inl s ↦ round_root root d low is s
    | inr s ↦ round_below (parent_below same_key same_key-sound
        same_key-refl root k d low f is a m s)
  ]

-- What is below a box stays where it alone changes.
pub box_kept : (h : Item → Item) (k : BoxKey) (f : BoxForest) → IsApart same_key f → children same_key k (at_box same_key k h f) ≡ children same_key k f
box_kept h k f a = children_kept (λ i. same_key i k) h k f (λ i v. differs same_key same_key-sound same_key-refl (children same_key k f) i k v
    (not_own same_key same_key-sound same_key-refl k f a))

pub low_kept : (reach : Reach) (h : Item → Item) (k : BoxKey) (f : BoxForest) → IsApart same_key f → (reach ≡ Subtree → ⊥) → children same_key k
    (touch_reached reach k (at_box same_key k h f)) ≡ children same_key k f
low_kept Nothing h k f a n = box_kept h k f a
low_kept Alone h k f a n = box_kept touch k (at_box same_key k h f) (apart_each (λ i. same_key i k) h same_key f a) ∙ box_kept h k f a
low_kept Subtree h k f a n = absurd (n refl)

-- What an edit that changes nothing below a box leaves to the rows of its branch.
module _ (a c : Arena inner.Node) (root k : BoxKey) (f g : BoxForest) (sa : IsStanding a root f) (sc : IsStanding c root g) (m : has same_key k f
    ≡ true) (n : has same_key k g ≡ true) (rows : List Summary) (right : IsRight rows f) where
  below_right : children same_key k g ≡ children same_key k f → IsRightBelow rows g k
  below_right low j u =
      let v : has same_key j (children same_key k f) ≡ true = sym (ap (has same_key j) low) ∙ u in
      right j (in_children same_key same_key-sound same_key-refl j k f v) ∙ (summary-children j k f sa.apart v ∙ (ap (summary_of j) (sym low)
      ∙ sym (summary-children j k g sc.apart u)))

  row_then : children same_key k g ≡ children same_key k f → summary_of k g ≡ row_over (extent_under (linked c k)) (gathered_in (children same_key k f))
  row_then low = row_under c root g sc k n ∙ ap (λ z. row_over (extent_under (linked c k)) (gathered_in z)) low

  pub stale_left : (stale : Stale) (reach : Reach) → (stale ≡ left.Branch) ↔ (reach ≡ Subtree) → (stale ≡ left.Nothing → extent_under (linked a k)
      ≡ extent_under (linked c k)) → ((reach ≡ Subtree → ⊥) → children same_key k g ≡ children same_key k f) → IsStale stale rows g k
  stale_left left.Nothing reach b x low0 =
      let low = low0 (λ r. cc (b.1 r)) in
      λ j u. elim (which (same_key j k) (has same_key j (children same_key k g)) u) [
        | inl v ↦ subst (λ i. summary_at rows i ≡ summary_of i g) (sym (same_key-sound j k v)) (right k m ∙ (row_under a root f sa k m
            ∙ (ap (λ r. row_over r (gathered_in (children same_key k f))) (x refl) ∙ sym (row_then low))))
        | inr v ↦ below_right low j v
      ]
  stale_left left.Hull reach b x low0 =
      let low = low0 (λ r. cc (b.1 r)) in (
        below_right low,
        ap (with_hull (summary_at rows k).hull) (right k m ∙ row_under a root f sa k m) ∙ ap (with_hull (summary_at rows k).hull) (sym
            (row_then low)),
      )
  stale_left left.Branch reach b x low0 = tt
