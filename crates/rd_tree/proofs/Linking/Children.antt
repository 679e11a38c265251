-- The node of a box, and what is below it.
use Rattle.std.proofs.Common.{◌≡◌, refl, ap, ◌∙◌, sym, subst, Bool, true, false, inl, inr}
use Rattle.std.specs.Prelude.{Option, Some, None}
use Rattle.rd_tree.specs.Forest.{Forest, empty, tree, has, children, IsApart}
use Rattle.rd_tree.specs.Internal.Links.{Node, node, Stands}
use Rattle.rd_tree.proofs.Linking.Standing.{cases, join-empty, no_children, never}

module _ {K D : Type 0} (same : K → K → Bool) (sound : (a b : K) → same a b ≡ true → a ≡ b) (reflexive : (a : K) → same a a ≡ true) where
  -- the node of a box and what is below it
  pub stands_children : (at : K → Option (Node K D)) (up prev : Option K) (f : Forest K D) (first last after : Option K) (p : K) →
      IsApart same f → Stands at up prev f first last after → has same p f ≡ true →
      (x : Node K D) × (at p ≡ Some x) × Stands at (Some p) None (children same p f) x.first x.last None × IsApart same (children same p f) × (has same p
      (children same p f) ≡ false)
  stands_children at up prev empty first last after p h s m = absurd (never false m refl)
  stands_children at up prev (tree k d below rest) first last after p h s m =
      elim (cases (same p k)) [
        | inl e ↦
            let is : p ≡ k = sound p k e in
            let found : at p ≡ Some (node d up prev s.0 s.1 s.2) = ap at is ∙ s.4 in
            rw e (
              node d up prev s.0 s.1 s.2,
              found,
              subst (λ x. Stands at (Some x) None below s.0 s.1 None) (sym is) s.5,
              h.3,
              subst (λ x. has same x
                  below ≡ false) (sym is) h.0,
            )
        | inr e ↦
            elim (cases (has same p below)) [
              | inl i ↦
                  let t : (x : Node K D) × (at p ≡ Some x) × Stands at (Some p) None (children same p below) x.first x.last None × IsApart same
                  (children same p below) × (has same p (children same p below) ≡ false) = stands_children at (Some k) None below s.0 s.1 None p h.3
                  s.5 i in
                  rw (e, no_children same sound reflexive p rest (h.2 p i), join-empty (children same p below)) t
              | inr o ↦
                  let i : has same p rest ≡ true = rw (e, o) at m in
                  let t : (x : Node K D) × (at p ≡ Some x) × Stands at (Some p) None (children same p rest) x.first x.last None × IsApart same
                  (children same p rest) × (has same p (children same p rest) ≡ false) = stands_children at up (Some k) rest s.2 last after p h.4 s.6 i
                  in
                  rw (e, no_children same sound reflexive p below o) t
            ]
      ]
