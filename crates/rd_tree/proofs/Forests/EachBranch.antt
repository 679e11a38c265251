-- Items that change in one branch only.
use Rattle.std.proofs.Common.{◌≡◌, refl, ap, ◌∙◌, Bool, true, false, ◌||◌, cond, inl, inr}
use Rattle.rd_tree.specs.Forest.{Forest, empty, tree, has, starting_at, children, without_branch, without_siblings, branch, map_where, in_subtree, IsApart}
use Rattle.rd_tree.proofs.Linking.Standing.{cases, refute, never, from_left, from_right}
use Rattle.rd_tree.proofs.Forests.Without.{stays_out}
use Rattle.rd_tree.proofs.Nodes.Each.{has-each, children-each, join-each}
use Rattle.rd_tree.proofs.Linking.Cutting.{Among}

module _ {K D : Type 0} (t : K → Bool) (h : D → D) (same : K → K → Bool) where
  pub from-each : (j : K) (f : Forest K D) → starting_at same j (map_where t h f) ≡ map_where t h (starting_at same j f)
  from-each j empty = refl
  from-each j (tree i d low rest) =
      elim (cases (same j i)) [
        | inl e ↦ rw e refl
        | inr e ↦ elim (cases (has same j low)) [
          | inl u ↦ rw (e, has-each t h same j low, u) (from-each j low)
          | inr u ↦ rw (e, has-each t h same j low, u) (from-each j rest)
        ]
      ]

  first-each : (f : Forest K D) → without_siblings (map_where t h f) ≡ map_where t h (without_siblings f)
  first-each empty = refl
  first-each (tree i d low rest) = refl

  pub branch-each : (j : K) (f : Forest K D) → branch same j (map_where t h f) ≡ map_where t h (branch same j f)
  branch-each j f = ap (λ z. without_siblings z) (from-each j f) ∙ first-each (starting_at same j f)

  pub without_branch-each : (j : K) (f : Forest K D) → without_branch same j (map_where t h f) ≡ map_where t h (without_branch same j f)
  without_branch-each j empty = refl
  without_branch-each j (tree i d low rest) =
      elim (cases (same j i)) [ inl e ↦ rw e refl | inr e ↦ rw (e, without_branch-each j low, without_branch-each j rest) refl ]

  -- Where no item changes, the forest stays.
  pub each_none : ((a : K) → same a a ≡ true) → (f : Forest K D) → ((j : K) → has same j f ≡ true → t j ≡ false) → map_where t h f ≡ f
  each_none reflexive empty q = refl
  each_none reflexive (tree i d low rest) q =
      rw (
        q i (from_left (same i i) (has same i low || has same i rest) (reflexive i)),
        each_none reflexive low (λ j u. q j (from_right (same j i) (has same j low || has same j rest) (from_left (has same j low) (has same j rest) u))),
        each_none reflexive rest (λ j u. q j (from_right (same j i) (has same j low || has same j rest) (from_right (has same j low) (has same j rest) u))),
      ) refl

  -- The children of a box with one of them changed in place.
  pub among_each : (k p : K) (f : Forest K D) → Among k (children same p f) → Among k (children same p (map_where t h f))
  among_each k p f w = record {
    item = cond (t k) (h w.item) w.item;
    before = map_where t h w.before;
    below = map_where t h w.below;
    after = map_where t h w.after;
    is = children-each t h same p f ∙ (ap (map_where t h) w.is ∙ join-each t h w.before (tree k w.item w.below w.after));
  }

module _ {K D : Type 0} (same : K → K → Bool) where
  -- Only boxes of the branch of k change.
  abbrev pub IsWithin : (K → Bool) → K → Forest K D → Type 0
  IsWithin t k f = (j : K) → t j ≡ true → in_subtree same j k f ≡ true

  -- The box itself is in its branch,
  pub within_box : (k : K) (f : Forest K D) → IsWithin (λ j. same j k) k f
  within_box k f j e = from_left (same j k) (has same j (children same k f)) e

  -- and so are those below it.
  pub within_subtree : (k : K) (f : Forest K D) → IsWithin (λ j. in_subtree same j k f) k f
  within_subtree k f j e = e

  -- What stays without the branch stays as it is.
  pub without_branch-within : ((a b : K) → same a b ≡ true → a ≡ b) → ((a : K) → same a a ≡ true) → (t : K → Bool) (h : D → D) (k : K) (f : Forest K D)
      → IsApart same f → IsWithin t k f → without_branch same k (map_where t h f) ≡ without_branch same k f
  without_branch-within sound reflexive t h k f a q = without_branch-each t h same k f ∙ each_none t h same reflexive (without_branch same k f) (λ j u.
      let o : (same j k ≡ false) × (has same j (children same k f) ≡ false) = stays_out same sound reflexive j k f a u in
      refute (t j) (λ e. never (in_subtree same j k f) (q j e) (rw (o.0, o.1) refl)))
