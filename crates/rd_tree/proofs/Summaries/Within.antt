-- What is told of a box of a branch is told by the branch alone.
use Rattle.std.proofs.Common.{◌≡◌, refl, ap, ◌∙◌, sym, subst, Bool, true, false, ◌||◌, inl, inr}
use Rattle.rd_keys.specs.Keys.{same_key}
use Rattle.rd_keys.proofs.Keys.{same_key-sound, same_key-refl}
use Rattle.rd_tree.specs.Forest.{Forest, empty, tree, has, children, branch, IsApart}
use Rattle.rd_tree.specs.Document.{BoxKey, BoxForest}
use Rattle.rd_tree.specs.Internal.Summaries.{summary_first, summary_of}
use Rattle.rd_tree.proofs.Linking.Standing.{cases, never, either, has-join, differs, apart_back}
use Rattle.rd_tree.proofs.Forests.Under.{which}
use Rattle.rd_tree.proofs.Summaries.Nearby.{from-children}
use Rattle.rd_tree.proofs.Summaries.Of.{summary-here, summary-inner, summary-later}

module _ {K D : Type 0} (same : K → K → Bool) (sound : (a b : K) → same a b ≡ true → a ≡ b) (reflexive : (a : K) → same a a ≡ true) where
  -- A box is not below itself.
  pub not_own : (k : K) (f : Forest K D) → IsApart same f → has same k (children same k f) ≡ false
  not_own k empty a = refl
  not_own k (tree i d low rest) a =
      elim (cases (same k i)) [
        | inl e ↦ rw e (subst (λ z. has same z low ≡ false) (sym (sound k i e)) a.0)
        | inr e ↦ rw e (has-join same sound reflexive k (children same k low) (children same k rest) ∙ rw (not_own k low a.3, not_own k rest a.4) refl)
      ]

  -- no branch at a key that is not there
  pub out_of_branch : (j k : K) (f : Forest K D) → has same j f ≡ false → has same j (branch same k f) ≡ false
  out_of_branch j k empty h = refl
  out_of_branch j k (tree i d low rest) h =
      let s : (same j i ≡ false) × ((has same j low || has same j rest) ≡ false) = either (same j i) (has same j low || has same j rest) h in
      let t : (has same j low ≡ false) × (has same j rest ≡ false) = either (has same j low) (has same j rest) s.1 in
      elim (cases (same k i)) [
        | inl e ↦ rw e (rw (s.0, t.0) refl)
        | inr e ↦ elim (cases (has same k low)) [ inl u ↦ rw (e, u) (out_of_branch j k low t.0) | inr u ↦ rw (e, u) (out_of_branch j k rest t.1) ]
      ]

  pub in_branch : (j k : K) (f : Forest K D) → has same j (branch same k f) ≡ true → has same j f ≡ true
  in_branch j k f h = elim (cases (has same j f)) [ inl e ↦ e | inr e ↦ absurd (never (has same j (branch same k f)) h (out_of_branch j k f e)) ]

pub summary-branch : (j k : BoxKey) (f : BoxForest) → IsApart same_key f → has same_key j (branch same_key k f) ≡ true → summary_of j f ≡ summary_of j
    (branch same_key k f)
summary-branch j k empty a m = refl
summary-branch j k (tree i d low rest) a m =
    elim (cases (same_key k i)) [
      | inl e ↦
          let n : (same_key j i || (has same_key j low || false)) ≡ true = rw e at m in
          rw e (elim (cases (same_key j i)) [
            | inl v ↦ summary-here j i d low rest v ∙ sym (summary-here j i d low empty v)
            | inr v ↦ elim (which (has same_key j low) false (rw v at n)) [
              | inl u ↦ summary-inner j i d low rest v u ∙ sym (summary-inner j i d low empty v u)
              | inr u ↦ absurd (never false u refl)
            ]
          ])
      | inr e ↦ elim (cases (has same_key k low)) [
        | inl u ↦
            let n : has same_key j (branch same_key k low) ≡ true = rw (e, u) at m in
            let jl : has same_key j low ≡ true = in_branch same_key same_key-sound same_key-refl j k low n in
            rw (e, u) (summary-inner j i d low rest (differs same_key same_key-sound same_key-refl low j i jl a.0) jl ∙ summary-branch j k low a.3 n)
        | inr u ↦
            let n : has same_key j (branch same_key k rest) ≡ true = rw (e, u) at m in
            let jr : has same_key j rest ≡ true = in_branch same_key same_key-sound same_key-refl j k rest n in
            rw (e, u) (summary-later j i d low rest (differs same_key same_key-sound same_key-refl rest j i jr a.1) (apart_back same_key same_key-sound
            same_key-refl low rest a.2 j jr) ∙ summary-branch j k rest a.4 n)
      ]
    ]

-- the same of a box that is strictly below
pub summary-children : (j k : BoxKey) (f : BoxForest) → IsApart same_key f → has same_key j (children same_key k f) ≡ true → summary_of j f ≡ summary_of j
    (children same_key k f)
summary-children j k f a u = ap summary_first (from-children same_key same_key-sound same_key-refl j k f a u)
