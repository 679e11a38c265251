-- What is told of each box once one more box stands, with all below it, among the children of another.
use Rattle.std.proofs.Common.{◌≡◌, refl, ap, ◌∙◌, sym, ℕ, ◌+◌, Bool, true, false, ◌||◌, cond, arith}
use Rattle.rd_geom.specs.Plane.{Rectangle, hull_of}
use Rattle.rd_keys.specs.Keys.{same_key}
use Rattle.rd_keys.proofs.Keys.{same_key-sound, same_key-refl}
use Rattle.rd_tree.specs.declared.table.row.Summary.{Summary}
use Rattle.rd_tree.specs.Forest.{empty, tree, ◌▷◌, has, children, in_subtree, with_children, AreApart, IsApart}
use Rattle.rd_tree.specs.Document.{BoxKey, Item, BoxForest}
use Rattle.rd_tree.specs.Hulls.{breadth, extent, hull_in, touched_in}
use Rattle.rd_tree.specs.Internal.Summaries.{summary_first, summary_of}
use Rattle.rd_tree.proofs.Linking.Standing.{either, out_of_children, differs_back, apart_back}
use Rattle.rd_tree.proofs.Forests.Subtrees.{not_in_subtree, has_inner, has_later, children-past, children-one}
use Rattle.rd_tree.proofs.Summaries.Hulls.{hull-later}
use Rattle.rd_tree.proofs.Summaries.Of.{summary-here, summary-inner, summary-later, summary-past, summary-one}
use Rattle.rd_tree.proofs.Nodes.Telling.{Tells, has-new, breadth-new, touched-new, hull-new, sums_put, told_put, told_new}

abbrev table : ℕ → ℕ → Rectangle → Summary
table c t h = record { children = c; touched = t; hull = h }

same_near : (c t c2 t2 : ℕ) (h h2 : Rectangle) → c ≡ c2 → t ≡ t2 → h ≡ h2 → table c t h ≡ table c2 t2 h2
same_near c t c2 t2 h h2 p q r = rw (p, q, r) refl

-- once b stands below it, as its own child or deeper
abbrev pub more_near : Bool → BoxForest → Summary → Summary
more_near own b n = record { children = n.children + (cond own 1 0); touched = n.touched + touched_in b; hull = hull_of n.hull (hull_in b) }

more_first : (own : Bool) (b : BoxForest) (i : BoxKey) (c : Item) (low more : BoxForest) → breadth more ≡ breadth low + cond own 1 0 → touched_in more
    ≡ touched_in low + touched_in b → hull_in more ≡ hull_of (hull_in low) (hull_in b) →
    summary_first (tree i c more empty) ≡ more_near own b (summary_first (tree i c low empty))
more_first own b i c low more p q r = same_near (breadth more) (touched_in more) (breadth low + cond own 1 0) (touched_in low + touched_in b) (hull_of
    (extent c) (hull_in more)) (hull_of (hull_of (extent c) (hull_in low)) (hull_in b))
    p q (ap (hull_of (extent c)) r ∙ hull-later (extent c) (hull_in low) (hull_in b))

none_more : (n : ℕ) → n ≡ n + 0
none_more n = omega arith

module _ (k : BoxKey) (d : Item) (below xs ys : BoxForest) (p : BoxKey) where
  abbrev one : BoxForest
  one = tree k d below empty

  abbrev new : BoxForest
  new = xs ▷ tree k d below ys

  near_tells : Tells k d below xs ys summary_of p (λ j. more_near (same_key p j) one)
  near_tells = record {
    here = λ j i c low rest e. summary-here j i c low rest e ∙ sym (summary-here j i c low empty e);
    inner = λ j i c low rest e u o. summary-inner j i c low rest e u;
    later = λ j i c low rest e o. summary-later j i c low rest e o;
    past = λ j o. summary-past j k d below xs ys o;
    fresh = λ j o v. summary-one j k d below xs ys o v;
    at = λ j i c e v. summary-here j i c new empty v
        ∙ (more_first (same_key p j) one i c (xs ▷ ys) new (breadth-new k d below xs ys ∙ ap (λ b. breadth (xs ▷ ys) + cond b 1 0) (sym e)) (touched-new k
        d below xs ys) (hull-new k d below xs ys)
        ∙ ap (more_near (same_key p j) one) (sym (summary-here j i c (xs ▷ ys) empty v)));
    up = λ j i c low more e v r. summary-here j i c more empty v
        ∙ (more_first (same_key p j) one i c low more (r.breadth_is ∙ (none_more (breadth low) ∙ ap (λ b. breadth low + cond b 1 0) (sym e))) r.touched_is
        r.hull_is
        ∙ ap (more_near (same_key p j) one) (sym (summary-here j i c low empty v)));
  }

  below_tells : (q : BoxKey) → Tells k d below xs ys (λ j f. has same_key q (children same_key j f)) p (λ j b. b || has same_key q one)
  below_tells q = record {
    here = λ j i c low rest e. rw e refl;
    inner = λ j i c low rest e u o. has_inner same_key same_key-sound same_key-refl q j i c low rest e o;
    later = λ j i c low rest e o. has_later same_key same_key-sound same_key-refl q j i c low rest e o;
    past = λ j o.
        let s : (same_key j k ≡ false) × ((has same_key j below || false) ≡ false) = either (same_key j k) (has same_key j below || false) o in
        ap (has same_key q) (children-past same_key same_key-sound same_key-refl j k d below xs ys s.0 (either (has same_key j below) false s.1).0);
    fresh = λ j o v. ap (has same_key q) (children-one same_key same_key-sound same_key-refl j k d below xs ys o v);
    at = λ j i c e v. rw v (has-new k d below xs ys q);
    up = λ j i c low more e v r. rw v (r.has_is q);
  }

  module _ (g : BoxForest) (a : IsApart same_key g) (m : has same_key p g ≡ true) (is : children same_key p g ≡ xs ▷ ys) (w : AreApart same_key g one)
      (j : BoxKey) where
    pub summary-put : has same_key j g ≡ true → summary_of j (with_children same_key p new g) ≡ cond (in_subtree same_key p j g) (more_near (same_key p j)
        one (summary_of j g)) (summary_of j g)
    summary-put u = told_put k d below xs ys summary_of p (λ i. more_near (same_key p i) one) near_tells g a m is w j u

    pub summary-put_new : has same_key j one ≡ true → summary_of j (with_children same_key p new g) ≡ summary_of j one
    summary-put_new u = told_new k d below xs ys summary_of p (λ i. more_near (same_key p i) one) near_tells g a m is w j u

    below-put : (q : BoxKey) → has same_key j g ≡ true → has same_key q (children same_key j (with_children same_key p new g)) ≡ cond (in_subtree same_key
        p j g) (has same_key q (children same_key j g) || has same_key q one) (has same_key q (children same_key j g))
    below-put q u = told_put k d below xs ys (λ i f. has same_key q (children same_key i f)) p (λ i b. b || has same_key q one) (below_tells q) g a m is w j u

    pub has-put : has same_key j (with_children same_key p new g) ≡ (has same_key j g || has same_key j one)
    has-put = (sums_put k d below xs ys p g a m is).has_is j

    pub below-put_new : (q : BoxKey) → has same_key j one ≡ true → has same_key q (children same_key j (with_children same_key p new g)) ≡ has same_key q
        (children same_key j one)
    below-put_new q u = told_new k d below xs ys (λ i f. has same_key q (children same_key i f)) p (λ i b. b || has same_key q one) (below_tells q) g a m
        is w j u

    -- What was there is below the same boxes.
    pub subtree-put : (q : BoxKey) → has same_key j g ≡ true → has same_key q one ≡ false → in_subtree same_key q j (with_children same_key p new g)
        ≡ in_subtree same_key q j g
    subtree-put q u o = ap (λ b. same_key q j || b) (below-put q u ∙ (ap (λ b. cond (in_subtree same_key p j g) (has same_key q (children same_key j g) ||
        b) (has same_key q (children same_key j g))) o ∙ either_way (in_subtree same_key p j g) (has same_key q (children same_key j g)))) where
          either_way : (b c : Bool) → cond b (c || false) c ≡ c
          either_way true true = refl
          either_way true false = refl
          either_way false c = refl

    -- What is new is below p and the boxes above it.
    pub subtree-put_new : (q : BoxKey) → has same_key j g ≡ true → has same_key q one ≡ true → in_subtree same_key q j (with_children same_key p new g)
        ≡ in_subtree same_key p j g
    subtree-put_new q u i =
        let o : has same_key q g ≡ false = apart_back same_key same_key-sound same_key-refl g one w q i in
        let qj : same_key q j ≡ false = differs_back same_key same_key-sound same_key-refl g q j o u in
        let qc : has same_key q (children same_key j g) ≡ false = out_of_children same_key same_key-sound same_key-refl q j g o in
        ap (λ b. b || has same_key q (children same_key j (with_children same_key p new g))) qj
        ∙ (below-put q u ∙ (ap (λ b. cond (in_subtree same_key p j g) (b || has same_key q one) b) qc ∙ (ap (λ b. cond (in_subtree same_key p j g) b false)
        i ∙ itself (in_subtree same_key p j g)))) where
          itself : (b : Bool) → cond b true false ≡ b
          itself true = refl
          itself false = refl

    -- A new box is above those below it alone.
    pub subtree-put_within : (q : BoxKey) → has same_key j one ≡ true → in_subtree same_key q j (with_children same_key p new g) ≡ in_subtree same_key q j one
    subtree-put_within q u = ap (λ b. same_key q j || b) (below-put_new q u)

    -- It is not above what was there.
    pub not_above_old : (q : BoxKey) → has same_key j one ≡ true → has same_key q g ≡ true → in_subtree same_key q j (with_children same_key p new g) ≡ false
    not_above_old q u i =
        let o : has same_key q one ≡ false = w q i in
        subtree-put_within q u ∙ not_in_subtree same_key same_key-sound same_key-refl q j one (differs_back same_key same_key-sound same_key-refl one q j o u) o
