-- Which boxes a subtree has, from one box of the forest to the next.
use Rattle.std.proofs.Common.{◌≡◌, refl, ap, Bool, true, false, ◌||◌, cond}
use Rattle.rd_tree.specs.Forest.{Forest, empty, tree, ◌▷◌, has, children, in_subtree}
use Rattle.rd_tree.proofs.Linking.Standing.{either, join-empty, no_children, out_of_children}

module _ {K D : Type 0} (same : K → K → Bool) (sound : (a b : K) → same a b ≡ true → a ≡ b) (reflexive : (a : K) → same a a ≡ true) where
  pub subtree-here : (q j i : K) (d : D) (low rest : Forest K D) → same j i ≡ true → in_subtree same q j (tree i d low rest) ≡ (same q j || has same q low)
  subtree-here q j i d low rest e = rw e refl

  pub subtree-inner : (q j i : K) (d : D) (low rest : Forest K D) → same j i ≡ false → has same j rest ≡ false → in_subtree same q j (tree i d low rest)
      ≡ in_subtree same q j low
  subtree-inner q j i d low rest e o = rw (e, no_children same sound reflexive j rest o, join-empty (children same j low)) refl

  pub subtree-later : (q j i : K) (d : D) (low rest : Forest K D) → same j i ≡ false → has same j low ≡ false → in_subtree same q j (tree i d low rest)
      ≡ in_subtree same q j rest
  subtree-later q j i d low rest e o = rw (e, no_children same sound reflexive j low o) refl

  pub not_in_subtree : (q j : K) (f : Forest K D) → same q j ≡ false → has same q f ≡ false → in_subtree same q j f ≡ false
  not_in_subtree q j f e o = rw (e, out_of_children same sound reflexive q j f o) refl

  pub has_inner : (q j i : K) (d : D) (low rest : Forest K D) → same j i ≡ false → has same j rest ≡ false → has same q (children same j (tree i d low
      rest)) ≡ has same q (children same j low)
  has_inner q j i d low rest e o = rw (e, no_children same sound reflexive j rest o, join-empty (children same j low)) refl

  pub has_later : (q j i : K) (d : D) (low rest : Forest K D) → same j i ≡ false → has same j low ≡ false → has same q (children same j (tree i d low
      rest)) ≡ has same q (children same j rest)
  has_later q j i d low rest e o = rw (e, no_children same sound reflexive j low o) refl

  -- A box among others leaves what is below those.
  pub children-past : (j k : K) (d : D) (below xs ys : Forest K D) → same j k ≡ false → has same j below ≡ false → children same j (xs ▷ tree k d below ys)
      ≡ children same j (xs ▷ ys)
  children-past j k d below empty ys e o = rw (e, no_children same sound reflexive j below o) refl
  children-past j k d below (tree i c low rest) ys e o = ap (λ z. cond (same j i) low (children same j low ▷ z)) (children-past j k d below rest ys e o)

  -- What is below it, and below those that it has below, stays.
  pub children-one : (j k : K) (d : D) (below xs ys : Forest K D) → has same j xs ≡ false → has same j ys ≡ false → children same j (xs ▷ tree k d below
      ys) ≡ children same j (tree k d below empty)
  children-one j k d below empty ys o v = rw (no_children same sound reflexive j ys v) refl
  children-one j k d below (tree i c low rest) ys o v =
      let s : (same j i ≡ false) × ((has same j low || has same j rest) ≡ false) = either (same j i) (has same j low || has same j rest) o in
      let t : (has same j low ≡ false) × (has same j rest ≡ false) = either (has same j low) (has same j rest) s.1 in
      rw (s.0, no_children same sound reflexive j low t.0) (children-one j k d below rest ys t.1 v)
