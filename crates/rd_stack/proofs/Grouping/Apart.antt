-- Boxes stay apart where some are put among them.
use Rattle.std.proofs.Common.{◌≡◌, refl, ◌∙◌, sym, subst, true, false, ◌||◌, cond, Option, inl, inr}
use Rattle.rd_keys.specs.Keys.{same_key}
use Rattle.rd_keys.proofs.Keys.{same_key-sound, same_key-refl}
use Rattle.rd_tree.specs.declared.node.Item.{Item}
use Rattle.rd_tree.specs.Document.{BoxKey, BoxForest, with_child}
use Rattle.rd_tree.specs.Forest.{empty, tree, has, starting_at, children, with_children, insert_among, without_branch, without_siblings, branch, ◌▷◌, AreApart, IsApart}
use Rattle.rd_tree.specs.Changes.{put_elsewhere}
use Rattle.rd_tree.proofs.Linking.Standing.{cases, either, has-join, differs_back}
use Rattle.rd_tree.proofs.Forests.Under.{no_under, apart_under}
use Rattle.rd_tree.proofs.Linking.Cutting.{in_children}
use Rattle.rd_tree.proofs.Linking.Placing.{Joined, joined}
use Rattle.rd_tree.proofs.Forests.Without.{flipped, apart_without, stays_out}
use Rattle.rd_tree.proofs.Forests.Restoring.{apart_children}
use Rattle.rd_tree.proofs.Summaries.Placed.{Divided, divided}

-- Boxes that are nowhere in the forest are put among the children of p.
put_apart : (p : BoxKey) (before : Option BoxKey) (b f : BoxForest) → IsApart same_key f → IsApart same_key b → AreApart same_key f b → IsApart same_key (with_children same_key p (insert_among same_key before b (children same_key p f)) f)
put_apart p before b f a ab away =
    let c : BoxForest = children same_key p f in
    let s : Divided same_key same_key-sound same_key-refl before c = divided same_key same_key-sound same_key-refl before c in
    let below : AreApart same_key c b = λ j h. away j (in_children same_key same_key-sound same_key-refl j p f h) in
    let w : Joined same_key same_key-sound same_key-refl b c (s.xs ▷ (b ▷ s.ys)) = joined same_key same_key-sound same_key-refl b c s.xs s.ys (apart_children same_key same_key-sound same_key-refl p f a) ab below s.is in
    elim (cases (has same_key p f)) [
      | inl e ↦ rw (s.amid_is b) (apart_under same_key same_key-sound same_key-refl p (s.xs ▷ (b ▷ s.ys)) f a w.apart e (λ j u v. w.no_more j u (away j v)))
      | inr e ↦ rw (no_under same_key same_key-sound same_key-refl p (insert_among same_key before b c) f e) a
    ]

-- a new child under a key that no box has leaves all apart
pub child_apart : (k : BoxKey) (d : Item) (p : BoxKey) (before : Option BoxKey) (f : BoxForest) → IsApart same_key f → has same_key k f ≡ false → IsApart same_key (with_child p before k d f)
child_apart k d p before f a n =
    put_apart p before (tree k d empty empty) f a (refl, refl, (λ j h. refl), tt, tt) (λ j h. rw (flipped same_key same_key-sound same_key-refl k j (differs_back same_key same_key-sound same_key-refl f k j n h)) refl)

-- ---- moved

branch-apart : (k : BoxKey) (f : BoxForest) → IsApart same_key f → IsApart same_key (branch same_key k f)
branch-apart k empty a = tt
branch-apart k (tree j d below rest) a =
    elim (same_key k j) as (λ v. IsApart same_key (without_siblings (cond v (tree j d below rest) (cond (has same_key k below) (starting_at same_key k below) (starting_at same_key k rest))))) [
      | true ↦ (a.0, refl, (λ i h. refl), a.3, tt)
      | false ↦ elim (has same_key k below) as (λ v. IsApart same_key (without_siblings (cond v (starting_at same_key k below) (starting_at same_key k rest)))) [
        | true ↦ branch-apart k below a.3
        | false ↦ branch-apart k rest a.4
      ]
    ]

-- what is neither the box nor below it
pub out_of_branch : (j k : BoxKey) (f : BoxForest) → same_key j k ≡ false → has same_key j (children same_key k f) ≡ false → has same_key j (branch same_key k f) ≡ false
out_of_branch j k empty n h = refl
out_of_branch j k (tree i d below rest) n h =
    elim (cases (same_key k i)) [
      | inl e ↦
          let u : has same_key j below ≡ false = rw e at h in
          let v : same_key j i ≡ false = subst (λ x. same_key j x ≡ false) (same_key-sound k i e) n in
          rw e (rw (u, v) refl)
      | inr e ↦
          let c : (has same_key j (children same_key k below) || has same_key j (children same_key k rest)) ≡ false =
          sym (has-join same_key same_key-sound same_key-refl j (children same_key k below) (children same_key k rest)) ∙ (rw e at h) in
          let s : (has same_key j (children same_key k below) ≡ false) × (has same_key j (children same_key k rest) ≡ false) = either (has same_key j (children same_key k below)) (has same_key j (children same_key k rest)) c in
          rw e (elim (has same_key k below) as (λ v. has same_key j (without_siblings (cond v (starting_at same_key k below) (starting_at same_key k rest))) ≡ false) [
            | true ↦ out_of_branch j k below n s.0
            | false ↦ out_of_branch j k rest n s.1
          ])
    ]

-- a box that is put elsewhere with all below it leaves all apart
pub elsewhere_apart : (k p : BoxKey) (before : Option BoxKey) (f : BoxForest) → IsApart same_key f → IsApart same_key (put_elsewhere k p before f)
elsewhere_apart k p before f a =
    let away : AreApart same_key (without_branch same_key k f) (branch same_key k f) = λ j h. let s = stays_out same_key same_key-sound same_key-refl j k f a h in out_of_branch j k f s.0 s.1 in
    put_apart p before (branch same_key k f) (without_branch same_key k f) (apart_without same_key same_key-sound same_key-refl k f a) (branch-apart k f a) away
