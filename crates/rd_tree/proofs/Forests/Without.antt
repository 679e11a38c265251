-- What is in a forest without a box, and what is below the box.
use Rattle.std.proofs.Common.{◌≡◌, refl, ap, ◌∙◌, sym, subst, ◌+◌, Bool, true, false, ◌||◌, arith, inl, inr}
use Rattle.std.specs.Prelude.{Option, Some, None}
use Rattle.rd_tree.specs.Forest.{Forest, empty, tree, size, ◌▷◌, has, children, without_branch, branch, IsApart}
use Rattle.rd_tree.specs.Internal.Links.{Node, node, Stands}
use Rattle.rd_tree.proofs.Linking.Standing.{flip, cases, never, either, from_left, from_right, join-empty, has-join, out_of_children, no_children, differs, apart_back}
use Rattle.rd_tree.proofs.Forests.Under.{which}
use Rattle.rd_tree.proofs.Linking.Cutting.{no_without}

pub flipped : {K : Type 0} (same : K → K → Bool) (sound : (a b : K) → same a b ≡ true → a ≡ b) (reflexive : (a : K) → same a a ≡ true) (a b : K) → same a b
    ≡ false → same b a ≡ false
flipped same sound reflexive a b h = flip same sound reflexive b a ∙ h

module _ {K D : Type 0} (same : K → K → Bool) (sound : (a b : K) → same a b ≡ true → a ≡ b) (reflexive : (a : K) → same a a ≡ true) where
  -- what is not in the forest is not in less of it
  pub out_of_without : (j k : K) (f : Forest K D) → has same j f ≡ false → has same j (without_branch same k f) ≡ false
  out_of_without j k empty h = refl
  out_of_without j k (tree i d below rest) h =
      let s : (same j i ≡ false) × ((has same j below || has same j rest) ≡ false) = either (same j i) (has same j below || has same j rest) h in
      let t : (has same j below ≡ false) × (has same j rest ≡ false) = either (has same j below) (has same j rest) s.1 in
      elim (cases (same k i)) [
        | inl e ↦ rw e t.1
        | inr e ↦ rw (e, s.0, out_of_without j k below t.0, out_of_without j k rest t.1) refl
      ]

  pub in_without : (j k : K) (f : Forest K D) → has same j (without_branch same k f) ≡ true → has same j f ≡ true
  in_without j k f h = elim (cases (has same j f)) [ inl e ↦ e | inr e ↦ absurd (never (has same j (without_branch same k f)) h (out_of_without j k f e)) ]

  pub apart_without : (k : K) (f : Forest K D) → IsApart same f → IsApart same (without_branch same k f)
  apart_without k empty a = tt
  apart_without k (tree i d below rest) a =
      elim (cases (same k i)) [
        | inl e ↦ rw e a.4
        | inr e ↦ rw e (
          out_of_without i k below a.0,
          out_of_without i k rest a.1,
          (λ j u. out_of_without j k rest (a.2 j (in_without j k below u))),
          apart_without k below a.3,
          apart_without k rest a.4,
        )
      ]

  -- What stays is neither the box nor below it.
  pub stays_out : (j k : K) (f : Forest K D) → IsApart same f → has same j (without_branch same k f) ≡ true → (same j k ≡ false) × (has same j
      (children same k f) ≡ false)
  stays_out j k empty a m = absurd (never false m refl)
  stays_out j k (tree i d below rest) a m =
      elim (cases (same k i)) [
        | inl e ↦
            let u : has same j rest ≡ true = rw e at m in (
              differs same sound reflexive rest j k u (subst (λ x. has same x rest ≡ false) (sym (sound k i e)) a.1),
              rw e (apart_back same sound reflexive
                  below rest a.2 j u),
            )
        | inr e ↦
            elim (which (same j i) (has same j (without_branch same k below) || has same j (without_branch same k rest)) (rw e at m)) [
              | inl u ↦
                  let n : j ≡ i = sound j i u in
                  let o : has same j (children same k below) ≡ false = subst (λ x. has same x (children same k below) ≡ false) (sym n) (out_of_children
                  same sound reflexive i k below a.0) in
                  let q : has same j (children same k rest) ≡ false = subst (λ x. has same x (children same k rest) ≡ false) (sym n) (out_of_children same
                  sound reflexive i k rest a.1) in (
                    subst (λ x. same x k ≡ false) (sym n) (flipped same sound reflexive k i e),
                    rw (
                      e,
                      has-join same sound reflexive j (children same k
                          below) (children same k rest),
                      o,
                      q,
                    ) refl,
                  )
              | inr u ↦
                  elim (which (has same j (without_branch same k below)) (has same j (without_branch same k rest)) u) [
                    | inl v ↦
                        let t : (same j k ≡ false) × (has same j (children same k below) ≡ false) = stays_out j k below a.3 v in
                        let q : has same j (children same k rest) ≡ false = out_of_children same sound reflexive j k rest (a.2 j (in_without j k below v)) in
                        (t.0, rw (e, has-join same sound reflexive j (children same k below) (children same k rest), t.1, q) refl)
                    | inr v ↦
                        let t : (same j k ≡ false) × (has same j (children same k rest) ≡ false) = stays_out j k rest a.4 v in
                        let o : has same j (children same k below) ≡ false = out_of_children same sound reflexive j k below (apart_back same sound
                        reflexive below rest a.2 j (in_without j k rest v)) in
                        (t.0, rw (e, has-join same sound reflexive j (children same k below) (children same k rest), o, t.1) refl)
                  ]
            ]
      ]

  -- What is neither the box nor below it stays.
  pub stays : (j k : K) (f : Forest K D) → has same j f ≡ true → same j k ≡ false → has same j (children same k f) ≡ false → has same j (without_branch
      same k f) ≡ true
  stays j k empty m n o = m
  stays j k (tree i d below rest) m n o =
      elim (cases (same k i)) [
        | inl e ↦
            let ji : same j i ≡ false = subst (λ x. same j x ≡ false) (sound k i e) n in
            let jb : has same j below ≡ false = rw e at o in
            rw e (rw (ji, jb) at m)
        | inr e ↦
            let c : has same j (children same k below ▷ children same k rest) ≡ false = rw e at o in
            let t : (has same j (children same k below) ≡ false) × (has same j (children same k rest) ≡ false) = either (has same j (children same k
            below)) (has same j (children same k rest)) (sym (has-join same sound reflexive j (children same k below) (children same k rest)) ∙ c) in
            rw e (elim (which (same j i) (has same j below || has same j rest) m) [
              | inl u ↦ from_left (same j i) (has same j (without_branch same k below) || has same j (without_branch same k rest)) u
              | inr u ↦ from_right (same j i) (has same j (without_branch same k below) || has same j (without_branch same k rest)) (elim (which
                  (has same j below) (has same j rest) u) [
                    | inl v ↦ from_left (has same j (without_branch same k below)) (has same j (without_branch same k rest)) (stays j k below v n t.0)
                    | inr v ↦ from_right (has same j (without_branch same k below)) (has same j (without_branch same k rest)) (stays j k rest v n t.1)
                  ])
            ])
      ]

  pub size-without_branch : (k : K) (f : Forest K D) → IsApart same f → has same k f ≡ true → size (without_branch same k f) + (1 + size (children same k
      f)) ≡ size f
  size-without_branch k empty a m = absurd (never false m refl)
  size-without_branch k (tree i d below rest) a m =
      elim (cases (same k i)) [
        | inl e ↦ rw e (omega arith)
        | inr e ↦
            elim (which (has same k below) (has same k rest) (rw e at m)) [
              | inl u ↦
                  let o : has same k rest ≡ false = a.2 k u in
                  rw (e, no_without same sound reflexive k rest o, no_children same sound reflexive k rest o, join-empty (children same k below)) (omega
                  (arith, size-without_branch k below a.3 u))
              | inr u ↦
                  let o : has same k below ≡ false = apart_back same sound reflexive below rest a.2 k u in
                  rw (e, no_without same sound reflexive k below o, no_children same sound reflexive k below o) (omega (
                    arith,
                    size-without_branch k rest
                        a.4 u,
                  ))
            ]
      ]

  -- a box with its item and what is below it
  pub branch_is : (at : K → Option (Node K D)) (up prev : Option K) (f : Forest K D) (first last after : Option K) (k : K) (x : Node K D) →
      IsApart same f → Stands at up prev f first last after → has same k f ≡ true → at k ≡ Some x → branch same k f ≡ tree k x.item (children same k f) empty
  branch_is at up prev empty first last after k x a s m found = absurd (never false m refl)
  branch_is at up prev (tree i d below rest) first last after k x a s m found =
      elim (cases (same k i)) [
        | inl e ↦
            let n : k ≡ i = sound k i e in
            let y : x ≡ node d up prev s.0 s.1 s.2 = cc (found, s.4, ap at n) in
            rw e (ap (λ z. tree z d below empty) (sym n) ∙ ap (λ z. tree k z.item below empty) (sym y))
        | inr e ↦
            elim (cases (has same k below)) [
              | inl u ↦
                  rw (e, u, no_children same sound reflexive k rest (a.2 k u), join-empty (children same k below)) (branch_is at (Some i) None below s.0
                  s.1 None k x a.3 s.5 u found)
              | inr o ↦
                  rw (e, o, no_children same sound reflexive k below o) (branch_is at up (Some i) rest s.2 last after k x a.4 s.6 (rw (e, o) at m) found)
            ]
      ]
