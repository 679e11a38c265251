-- What is told of each box, by what is told of it without a branch.
use Rattle.std.proofs.Common.{◌≡◌, refl, ap, ◌∙◌, sym, subst, true, false, ◌||◌, cond}
use Rattle.rd_keys.specs.Keys.{same_key}
use Rattle.rd_keys.proofs.Keys.{same_key-sound, same_key-refl}
use Rattle.rd_tree.specs.Forest.{empty, tree, ◌▷◌, has, children, in_subtree, without_branch, branch, IsApart}
use Rattle.rd_tree.specs.Document.{BoxKey, Item, BoxForest}
use Rattle.rd_tree.specs.Internal.Summaries.{summary_of}
use Rattle.rd_tree.proofs.Linking.Standing.{never, refute, from_left, from_right, join-empty, out_of_children}
use Rattle.rd_tree.proofs.Linking.Cutting.{Among, among-in, apart_right, in_children}
use Rattle.rd_tree.proofs.Forests.Without.{flipped, stays}
use Rattle.rd_tree.proofs.Forests.Restoring.{Restored, restored, branch_there, apart_children}
use Rattle.rd_tree.proofs.Summaries.Put.{more_near, summary-put, summary-put_new, below-put_new, subtree-put_new}

module _ (p k : BoxKey) (f : BoxForest) (w : Among k (children same_key p f)) (a : IsApart same_key f) (m : has same_key p f ≡ true) where
  abbrev g : BoxForest
  g = without_branch same_key k f

  abbrev one : BoxForest
  one = tree k w.item w.below empty

  back : Restored same_key same_key-sound same_key-refl p k f w
  back = restored same_key same_key-sound same_key-refl p k f w a m

  -- A box outside of the branch has the branch below it, if it is the parent of k or above it.
  pub summary-cut : (j : BoxKey) → has same_key j g ≡ true → summary_of j f ≡ cond (in_subtree same_key p j g) (more_near (same_key p j) (branch same_key k
      f) (summary_of j g)) (summary_of j g)
  summary-cut j u =
      ap (summary_of j) back.is
      ∙ (summary-put k w.item w.below w.before w.after p g back.apart back.there back.siblings back.off j u
      ∙ ap (λ b. cond (in_subtree same_key p j g) (more_near (same_key p j) b (summary_of j g)) (summary_of j g)) (sym back.branch_is))

  -- What is told of a box of the branch is told by the branch alone.
  pub summary-cut_branch : (j : BoxKey) → has same_key j (branch same_key k f) ≡ true → summary_of j f ≡ summary_of j (branch same_key k f)
  summary-cut_branch j u =
      ap (summary_of j) back.is
      ∙ (summary-put_new k w.item w.below w.before w.after p g back.apart back.there back.siblings back.off j (subst (λ b. has same_key j b
      ≡ true) back.branch_is u)
      ∙ ap (summary_of j) (sym back.branch_is))

  -- The branch is below its parent and the boxes above that.
  pub subtree-cut_new : (q j : BoxKey) → has same_key j g ≡ true → has same_key q (branch same_key k f) ≡ true → in_subtree same_key q j f
      ≡ in_subtree same_key p j g
  subtree-cut_new q j u i =
      ap (in_subtree same_key q j) back.is
      ∙ subtree-put_new k w.item w.below w.before w.after p g back.apart back.there back.siblings back.off j q u (subst (λ b. has same_key q b
      ≡ true) back.branch_is i)

  pub subtree-cut_above : (j : BoxKey) → has same_key j g ≡ true → in_subtree same_key k j f ≡ in_subtree same_key p j g
  subtree-cut_above j u = subtree-cut_new k j u (subst (λ b. has same_key k b ≡ true) (sym back.branch_is) (from_left (same_key k k) (has same_key k
      w.below || false) (same_key-refl k)))

  -- A box above k is not below it, so it stays.
  pub above_stays : (j : BoxKey) → has same_key j f ≡ true → same_key j k ≡ false → in_subtree same_key k j f ≡ true → has same_key j g ≡ true
  above_stays j u n i = stays same_key same_key-sound same_key-refl j k f u n (refute (has same_key j (children same_key k f)) (λ v. never (in_subtree
      same_key k j f) i (not_above v))) where
        bt : (d : Item) × (branch same_key k f ≡ tree k d (children same_key k f) empty)
        bt = branch_there same_key same_key-sound same_key-refl k f a (in_children same_key same_key-sound same_key-refl k p f (among-in same_key
            same_key-sound same_key-refl k (children same_key p f) w))

        ac : IsApart same_key (w.before ▷ tree k w.item w.below w.after)
        ac = subst (λ z. IsApart same_key z) w.is (apart_children same_key same_key-sound same_key-refl p f a)

        out : has same_key k w.below ≡ false
        out = (apart_right same_key same_key-sound same_key-refl w.before (tree k w.item w.below w.after) ac).0

        not_above : has same_key j (children same_key k f) ≡ true → in_subtree same_key k j f ≡ false
        not_above v =
            let jb : has same_key j (branch same_key k f) ≡ true = subst (λ z. has same_key j z ≡ true) (sym bt.1) (from_right (same_key j k) (has same_key j
            (children same_key k f) || false) (from_left (has same_key j (children same_key k f)) false v)) in
            let jo : has same_key j one ≡ true = subst (λ z. has same_key j z ≡ true) back.branch_is jb in
            let low : has same_key k (children same_key j one) ≡ false = rw (n, join-empty (children same_key j w.below)) (out_of_children
            same_key same_key-sound same_key-refl k j w.below out) in
            let up : has same_key k (children same_key j f) ≡ false = ap (λ z. has same_key k (children same_key j z)) back.is
            ∙ (below-put_new k w.item w.below w.before w.after p g back.apart back.there back.siblings back.off j k jo ∙ low) in
            rw (flipped same_key same_key-sound same_key-refl j k n, up) refl
