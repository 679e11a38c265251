-- A forest and the same with something else below one of its boxes, told from that box upward.
use Rattle.std.proofs.Common.{◌≡◌, refl, sym, subst, Bool, true, false, inl, inr}
use Rattle.rd_tree.specs.Forest.{Forest, empty, tree, has, children, with_children, IsApart}
use Rattle.rd_tree.proofs.Linking.Standing.{cases, never, join-empty, no_children}
use Rattle.rd_tree.proofs.Forests.Under.{no_under}

module _ {K D : Type 0} (same : K → K → Bool) (sound : (a b : K) → same a b ≡ true → a ≡ b) (reflexive : (a : K) → same a a ≡ true) where
  -- What holds at p, and upward from what is below and from later siblings, holds of the whole.
  pub under_by : (R : Forest K D → Forest K D → Type 0) (p : K) (c h g : Forest K D) →
      ((i : K) (d : D) (rest : Forest K D) → same p i ≡ true → IsApart same (tree i d c rest) → R (tree i d c rest) (tree i d h rest)) →
      ((i : K) (d : D) (low rest new : Forest K D) → same p i ≡ false → has same p low ≡ true → IsApart same (tree i d low rest) → R low new
      → R (tree i d low rest) (tree i d new rest)) →
      ((i : K) (d : D) (low rest new : Forest K D) → same p i ≡ false → has same p rest ≡ true → IsApart same (tree i d low rest) → R rest new
      → R (tree i d low rest) (tree i d low new)) →
      IsApart same g → has same p g ≡ true → children same p g ≡ c → R g (with_children same p h g)
  under_by R p c h empty here inner later a m is = absurd (never false m refl)
  under_by R p c h (tree i d low rest) here inner later a m is =
      elim (cases (same p i)) [
        | inl e ↦
            let n : low ≡ c = rw e at is in
            rw e (subst (λ z. R (tree i d z rest) (tree i d h rest)) (sym n) (here i d rest e (subst (λ z. IsApart same (tree i d z rest)) n a)))
        | inr e ↦ elim (cases (has same p low)) [
          | inl u ↦
              let o : has same p rest ≡ false = a.2 p u in
              let n : children same p low ≡ c = rw (e, no_children same sound reflexive p rest o, join-empty (children same p low)) at is in
              rw (e, no_under same sound reflexive p h rest o) (inner i d low rest (with_children same p h low) e u a (under_by R p c h low here inner
              later a.3 u n))
          | inr u ↦
              let v : has same p rest ≡ true = rw (e, u) at m in
              let n : children same p rest ≡ c = rw (e, no_children same sound reflexive p low u) at is in
              rw (e, no_under same sound reflexive p h low u) (later i d low rest (with_children same p h rest) e v a (under_by R p c h rest here inner
              later a.4 v n))
        ]
      ]
