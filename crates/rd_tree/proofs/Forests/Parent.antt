-- Below which box another stands.
use Rattle.std.proofs.Common.{◌≡◌, refl, ap, ◌∙◌, sym, subst, Bool, true, false, ◌||◌, ◌⊎◌, inl, inr}
use Rattle.rd_tree.specs.Forest.{Forest, empty, tree, has, children, IsApart}
use Rattle.rd_tree.proofs.Linking.Standing.{cases, never, from_left, from_right, join-empty, no_children, differs, apart_back}
use Rattle.rd_tree.proofs.Linking.Cutting.{Among}
use Rattle.rd_tree.proofs.Nodes.Unlinking.{sole}

module _ {K D : Type 0} (same : K → K → Bool) (sound : (a b : K) → same a b ≡ true → a ≡ b) (reflexive : (a : K) → same a a ≡ true) where
  -- k is a child of a box
  pub record Parent (k : K) (f : Forest K D) : Type 0 where
    pub key : K
    pub there : has same key f ≡ true
    pub child : Among k (children same key f)

  among_as : (k : K) (f g : Forest K D) → g ≡ f → Among k f → Among k g
  among_as k f g e w = record { item = w.item; before = w.before; below = w.below; after = w.after; is = e ∙ w.is }

  pub among_or_parent : (k : K) (f : Forest K D) → IsApart same f → has same k f ≡ true → Among k f ⊎ Parent k f
  among_or_parent k empty a m = absurd (never false m refl)
  among_or_parent k (tree i d low rest) a m =
      elim (cases (same k i)) [
        | inl e ↦ inl (record {
          item = d;
          before = empty;
          below = low;
          after = rest;
          is = subst (λ z. tree i d low rest ≡ tree z d low rest) (sym
              (sound k i e)) refl;
        })
        | inr e ↦ elim (cases (has same k low)) [
          | inl u ↦ elim (among_or_parent k low a.3 u) [
            | inl w ↦
                inr (record {
                  key = i;
                  there = from_left (same i i) (has same i low || has same i rest) (reflexive i);
                  child = among_as k low (children same i (tree i d low rest)) (rw (reflexive i) refl) w;
                })
            | inr q ↦
                let pi : same q.key i ≡ false = differs same sound reflexive low q.key i q.there a.0 in
                inr (record {
                  key = q.key;
                  there = from_right (same q.key i) (has same q.key low || has same q.key rest) (from_left (has same q.key low) (has same q.key rest) q.there);
                  child = among_as k (children same q.key low) (children same q.key (tree i d low rest)) (rw (
                    pi,
                    no_children same sound reflexive q.key
                        rest (a.2 q.key q.there),
                  ) (join-empty (children same q.key low))) q.child;
                })
          ]
          | inr u ↦ elim (among_or_parent k rest a.4 (rw (e, u) at m)) [
            | inl w ↦ inl (record { item = w.item; before = tree i d low w.before; below = w.below; after = w.after; is = ap (tree i d low) w.is })
            | inr q ↦
                let pi : same q.key i ≡ false = differs same sound reflexive rest q.key i q.there a.1 in
                inr (record {
                  key = q.key;
                  there = from_right (same q.key i) (has same q.key low || has same q.key rest) (from_right (has same q.key low) (has same q.key rest) q.there);
                  child = among_as k (children same q.key rest) (children same q.key (tree i d low rest)) (rw (
                    pi,
                    no_children same sound reflexive q.key
                        low (apart_back same sound reflexive low rest a.2 q.key q.there),
                  ) refl) q.child;
                })
          ]
        ]
      ]

  -- Each box but the root is a child of one.
  pub parent_below : (root k : K) (d : D) (low f : Forest K D) → f ≡ tree root d low empty → IsApart same f → has same k f ≡ true → same k root ≡ false
      → Parent k f
  parent_below root k d low f is a m other =
      elim (among_or_parent k f a m) [
        | inl w ↦ absurd (never (same k root) (subst (λ z. same k z ≡ true) (sole same sound reflexive root k d w.item low w.before w.below w.after (sym is
            ∙ w.is)) (reflexive k)) other)
        | inr q ↦ q
      ]
