-- A place that is outside of a branch stays once the branch is cut out.
use Rattle.std.proofs.Common.{◌≡◌, refl, ap, ◌∙◌, sym, subst, Bool, true, false, inl, inr}
use Rattle.std.specs.Prelude.{Option, Some, None}
use Rattle.rd_tree.specs.Forest.{Forest, empty, tree, ◌▷◌, has, children, is_among, without_branch, IsPlaceIn, IsApart}
use Rattle.rd_tree.proofs.Linking.Standing.{cases, refute, either, from_left, from_right, join-empty, has-join, out_of_children, no_children}
use Rattle.rd_tree.proofs.Forests.Under.{which}
use Rattle.rd_tree.proofs.Linking.Cutting.{no_without}
use Rattle.rd_tree.proofs.Forests.Without.{out_of_without}

module _ {K D : Type 0} (same : K → K → Bool) (sound : (a b : K) → same a b ≡ true → a ≡ b) (reflexive : (a : K) → same a a ≡ true) where
  -- Below a box outside of the branch all stays but the branch.
  children-without_branch : (q k : K) (f : Forest K D) → IsApart same f → same q k ≡ false → has same q (children same k f) ≡ false → children same q
      (without_branch same k f) ≡ without_branch same k (children same q f)
  children-without_branch q k empty a n o = refl
  children-without_branch q k (tree i d below rest) a n o =
      elim (cases (same k i)) [
        | inl e ↦
            let qi : same q i ≡ false = subst (λ x. same q x ≡ false) (sound k i e) n in
            let qb : has same q below ≡ false = rw e at o in
            let kr : has same k rest ≡ false = subst (λ x. has same x rest ≡ false) (sym (sound k i e)) a.1 in
            rw (e, qi, no_children same sound reflexive q below qb) (sym (no_without same sound reflexive k (children same q rest) (out_of_children same
            sound reflexive k q rest kr)))
        | inr e ↦
            let c : has same q (children same k below ▷ children same k rest) ≡ false = rw e at o in
            let t : (has same q (children same k below) ≡ false) × (has same q (children same k rest) ≡ false) = either (has same q (children same k
            below)) (has same q (children same k rest)) (sym (has-join same sound reflexive q (children same k below) (children same k rest)) ∙ c) in
            elim (cases (same q i)) [
              | inl u ↦ rw (e, u) refl
              | inr u ↦ elim (cases (has same q below)) [
                | inl v ↦
                    let qr : has same q rest ≡ false = a.2 q v in
                    rw (
                      e,
                      u,
                      no_children same sound reflexive q rest qr,
                      no_children same sound reflexive q (without_branch same k rest) (out_of_without
                          same sound reflexive q k rest qr),
                      join-empty (children same q (without_branch same k below)),
                      join-empty (children same q below),
                    )
                    (children-without_branch q k below a.3 n t.0)
                | inr v ↦
                    rw (
                      e,
                      u,
                      no_children same sound reflexive q below v,
                      no_children same sound reflexive q (without_branch same k below) (out_of_without
                          same sound reflexive q k below v),
                    )
                    (children-without_branch q k rest a.4 n t.1)
              ]
            ]
      ]

  among_stays : (b k : K) (c : Forest K D) → same b k ≡ false → is_among same b c ≡ true → is_among same b (without_branch same k c) ≡ true
  among_stays b k empty n m = m
  among_stays b k (tree i d low rest) n m =
      elim (cases (same k i)) [
        | inl e ↦
            let bi : same b i ≡ false = subst (λ x. same b x ≡ false) (sound k i e) n in
            rw e (rw bi at m)
        | inr e ↦
            rw e (elim (which (same b i) (is_among same b rest) m) [
              | inl u ↦ from_left (same b i) (is_among same b (without_branch same k rest)) u
              | inr u ↦ from_right (same b i) (is_among same b (without_branch same k rest)) (among_stays b k rest n u)
            ])
      ]

  pub place_stays : (before : Option K) (q k : K) (f : Forest K D) → IsApart same f → same q k ≡ false → has same q (children same k f) ≡ false → (before
      ≡ Some k → ⊥) →
      IsPlaceIn same before (children same q f) → IsPlaceIn same before (children same q (without_branch same k f))
  place_stays None q k f a n o other h = tt
  place_stays (Some b) q k f a n o other h =
      let bk : same b k ≡ false = refute (same b k) (λ e. other (ap Some (sound b k e))) in
      subst (λ c. is_among same b c ≡ true) (sym (children-without_branch q k f a n o)) (among_stays b k (children same q f) bk h)
