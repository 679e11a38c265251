-- A forest is what stays without a box, with the box put back below its parent.
use Rattle.std.proofs.Common.{◌≡◌, refl, ap, ◌∙◌, sym, subst, Bool, true, false, ◌||◌, inl, inr}
use Rattle.rd_tree.specs.Forest.{Forest, empty, tree, ◌▷◌, has, starting_at, children, with_children, without_branch, without_siblings, branch, AreApart, IsApart}
use Rattle.rd_tree.proofs.Linking.Standing.{cases, never, either, from_left, from_right, join-empty, no_children}
use Rattle.rd_tree.proofs.Forests.Under.{which, no_under}
use Rattle.rd_tree.proofs.Linking.Cutting.{Among, among-in, among-apart, without_branch-with_children, in_children}
use Rattle.rd_tree.proofs.Forests.Without.{apart_without, stays_out}
use Rattle.rd_tree.proofs.Summaries.Nearby.{from-children}

module _ {K D : Type 0} (same : K → K → Bool) (sound : (a b : K) → same a b ≡ true → a ≡ b) (reflexive : (a : K) → same a a ≡ true) where
  with_children-with_children : (p : K) (h g f : Forest K D) → with_children same p h (with_children same p g f) ≡ with_children same p h f
  with_children-with_children p h g empty = refl
  with_children-with_children p h g (tree i d low rest) =
      elim (cases (same p i)) [
        | inl e ↦ rw e (rw e refl)
        | inr e ↦ rw e (rw (e, with_children-with_children p h g low, with_children-with_children p h g rest) refl)
      ]

  with_children-children : (p : K) (h f : Forest K D) → IsApart same f → children same p f ≡ h → with_children same p h f ≡ f
  with_children-children p h empty a is = refl
  with_children-children p h (tree i d low rest) a is =
      elim (cases (same p i)) [
        | inl e ↦
            let n : low ≡ h = rw e at is in
            rw e (ap (λ z. tree i d z rest) (sym n))
        | inr e ↦ elim (cases (has same p low)) [
          | inl u ↦
              let o : has same p rest ≡ false = a.2 p u in
              let n : children same p low ≡ h = rw (e, no_children same sound reflexive p rest o, join-empty (children same p low)) at is in
              rw (e, no_under same sound reflexive p h rest o) (ap (λ z. tree i d z rest) (with_children-children p h low a.3 n))
          | inr u ↦
              let n : children same p rest ≡ h = rw (e, no_children same sound reflexive p low u) at is in
              rw (e, no_under same sound reflexive p h low u) (ap (tree i d low) (with_children-children p h rest a.4 n))
        ]
      ]

  pub apart_children : (p : K) (f : Forest K D) → IsApart same f → IsApart same (children same p f)
  apart_children p empty a = tt
  apart_children p (tree i d low rest) a =
      elim (cases (same p i)) [
        | inl e ↦ rw e a.3
        | inr e ↦ elim (cases (has same p low)) [
          | inl u ↦ rw (e, no_children same sound reflexive p rest (a.2 p u), join-empty (children same p low)) (apart_children p low a.3)
          | inr u ↦ rw (e, no_children same sound reflexive p low u) (apart_children p rest a.4)
        ]
      ]

  pub children-with_children : (p : K) (h f : Forest K D) → IsApart same f → has same p f ≡ true → children same p (with_children same p h f) ≡ h
  children-with_children p h empty a m = absurd (never false m refl)
  children-with_children p h (tree i d low rest) a m =
      elim (cases (same p i)) [
        | inl e ↦ rw e (rw e refl)
        | inr e ↦ elim (cases (has same p low)) [
          | inl u ↦
              let o : has same p rest ≡ false = a.2 p u in
              rw (e, no_under same sound reflexive p h rest o) (rw (
                e,
                no_children same sound reflexive p rest o,
                join-empty (children same p
                    (with_children same p h low)),
              ) (children-with_children p h low a.3 u))
          | inr u ↦
              let v : has same p rest ≡ true = rw (e, u) at m in
              rw (e, no_under same sound reflexive p h low u) (rw (e, no_children same sound reflexive p low u) (children-with_children p h rest a.4 v))
        ]
      ]

  pub itself_under : (p : K) (h f : Forest K D) → has same p f ≡ true → has same p (with_children same p h f) ≡ true
  itself_under p h empty m = m
  itself_under p h (tree i d low rest) m =
      elim (cases (same p i)) [
        | inl e ↦ rw e (from_left (same p i) (has same p h || has same p rest) e)
        | inr e ↦ rw e (from_right (same p i) (has same p (with_children same p h low) || has same p (with_children same p h rest)) (elim (which
            (has same p low) (has same p rest) (rw e at m)) [
              | inl u ↦ from_left (has same p (with_children same p h low)) (has same p (with_children same p h rest)) (itself_under p h low u)
              | inr u ↦ from_right (has same p (with_children same p h low)) (has same p (with_children same p h rest)) (itself_under p h rest u)
            ]))
      ]

  -- A box that is there begins its branch, and what is below it is the rest of that.
  pub branch_there : (k : K) (f : Forest K D) → IsApart same f → has same k f ≡ true → (d : D) × (branch same k f ≡ tree k d (children same k f) empty)
  branch_there k empty a m = absurd (never false m refl)
  branch_there k (tree i d low rest) a m =
      elim (cases (same k i)) [
        | inl e ↦ rw e (d, ap (λ z. tree z d low empty) (sym (sound k i e)))
        | inr e ↦ elim (cases (has same k low)) [
          | inl u ↦ rw (e, u, no_children same sound reflexive k rest (a.2 k u), join-empty (children same k low)) (branch_there k low a.3 u)
          | inr u ↦ rw (e, u, no_children same sound reflexive k low u) (branch_there k rest a.4 (rw (e, u) at m))
        ]
      ]

  -- What stays has no key with the branch in common.
  pub branch_off : (k : K) (f : Forest K D) → IsApart same f → has same k f ≡ true → AreApart same (without_branch same k f) (branch same k f)
  branch_off k f a m j u =
      let o : (same j k ≡ false) × (has same j (children same k f) ≡ false) = stays_out same sound reflexive j k f a u in
      let t : (d : D) × (branch same k f ≡ tree k d (children same k f) empty) = branch_there k f a m in
      ap (has same j) t.1 ∙ rw (o.0, o.1) refl

  from-among : (k : K) (d : D) (xs below ys : Forest K D) → has same k xs ≡ false → starting_at same k (xs ▷ tree k d below ys) ≡ tree k d below ys
  from-among k d empty below ys h = rw (reflexive k) refl
  from-among k d (tree i c low rest) below ys h =
      let s : (same k i ≡ false) × ((has same k low || has same k rest) ≡ false) = either (same k i) (has same k low || has same k rest) h in
      let t : (has same k low ≡ false) × (has same k rest ≡ false) = either (has same k low) (has same k rest) s.1 in
      rw (s.0, t.0) (from-among k d rest below ys t.1)

  -- The box k, a child of p, with what stays without it.
  pub record Restored (p k : K) (f : Forest K D) (w : Among k (children same p f)) : Type 0 where
    pub apart : IsApart same (without_branch same k f)
    pub there : has same p (without_branch same k f) ≡ true
    pub siblings : children same p (without_branch same k f) ≡ w.before ▷ w.after
    pub branch_is : branch same k f ≡ tree k w.item w.below empty
    pub off : AreApart same (without_branch same k f) (tree k w.item w.below empty)
    pub is : f ≡ with_children same p (w.before ▷ tree k w.item w.below w.after) (without_branch same k f)

  pub restored : (p k : K) (f : Forest K D) (w : Among k (children same p f)) → IsApart same f → has same p f ≡ true → Restored p k f w
  restored p k f w a m =
      let h : Forest K D = w.before ▷ tree k w.item w.below w.after in
      let e : without_branch same k f ≡ with_children same p (w.before ▷ w.after) f = without_branch-with_children same sound reflexive p k f w a m in
      let km : has same k (children same p f) ≡ true = among-in same sound reflexive k (children same p f) w in
      let is : branch same k f ≡ tree k w.item w.below empty = ap (λ z. without_siblings z) (from-children same sound reflexive k p f a km
      ∙ (ap (starting_at same k) w.is ∙ from-among k w.item w.before w.below w.after (among-apart same sound reflexive k (children same p f) w
      (apart_children p f a)))) in
      record {
        apart = apart_without same sound reflexive k f a;
        there = subst (λ z. has same p z ≡ true) (sym e) (itself_under p (w.before ▷ w.after) f m);
        siblings = ap (children same p) e ∙ children-with_children p (w.before ▷ w.after) f a m;
        branch_is = is;
        off = subst (λ z. AreApart same (without_branch same k f) z) is (branch_off k f a (in_children same sound reflexive k p f km));
        is = sym (ap (with_children same p h) e ∙ (with_children-with_children p h (w.before ▷ w.after) f ∙ with_children-children p h f a w.is));
      }
