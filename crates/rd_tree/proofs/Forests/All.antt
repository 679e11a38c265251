-- What holds of all items, once boxes change.
use Rattle.std.proofs.Common.{◌≡◌, refl, subst, Bool, true, false, ◌||◌, inl, inr}
use Rattle.std.specs.Prelude.{Option, Some, None}
use Rattle.rd_tree.specs.Forest.{Forest, empty, tree, ◌▷◌, has, starting_at, item_of, children, with_children, insert_before, insert_among, without_siblings, without_branch, branch, AllItems, IsApart}
use Rattle.rd_tree.specs.Internal.Laid.{each_by}
use Rattle.rd_tree.proofs.Linking.Standing.{cases, from_left, from_right, differs, apart_back}

same_some : {A : Type 0} (a b : A) → Some a ≡ Some b → a ≡ b
same_some a b h = cc (h)

nothing_some : {A : Type 0} (a : A) → None ≡ Some a → ⊥
nothing_some a h = cc (h)

module _ {K D : Type 0} (P : D → Type 0) where
  pub all_join : (f g : Forest K D) → AllItems P f → AllItems P g → AllItems P (f ▷ g)
  all_join empty g a b = b
  all_join (tree k d low rest) g a b = (a.0, a.1, all_join rest g a.2 b)

  pub all_of_first : (f : Forest K D) → AllItems P f → AllItems P (without_siblings f)
  all_of_first empty a = tt
  all_of_first (tree k d low rest) a = (a.0, a.1, tt)

  module _ (same : K → K → Bool) where
    pub all_children : (k : K) (f : Forest K D) → AllItems P f → AllItems P (children same k f)
    all_children k empty a = tt
    all_children k (tree i d low rest) a =
        elim (cases (same k i)) [
          | inl e ↦ rw e a.1
          | inr e ↦ rw e (all_join (children same k low) (children same k rest) (all_children k low a.1) (all_children k rest a.2))
        ]

    all_before : (j : K) (g f : Forest K D) → AllItems P g → AllItems P f → AllItems P (insert_before same j g f)
    all_before j g empty a b = a
    all_before j g (tree i d low rest) a b =
        elim (cases (same j i)) [
          | inl e ↦ rw e (all_join g (tree i d low rest) a b)
          | inr e ↦ rw e (b.0, b.1, all_before j g rest a b.2)
        ]

    pub all_among : (o : Option K) (g f : Forest K D) → AllItems P g → AllItems P f → AllItems P (insert_among same o g f)
    all_among None g f a b = all_join f g b a
    all_among (Some j) g f a b = all_before j g f a b

    pub all_put : (p : K) (g f : Forest K D) → AllItems P g → AllItems P f → AllItems P (with_children same p g f)
    all_put p g empty a b = tt
    all_put p g (tree i d low rest) a b =
        elim (cases (same p i)) [
          | inl e ↦ rw e (b.0, a, b.2)
          | inr e ↦ rw e (b.0, all_put p g low a b.1, all_put p g rest a b.2)
        ]

    pub all_without : (k : K) (f : Forest K D) → AllItems P f → AllItems P (without_branch same k f)
    all_without k empty a = tt
    all_without k (tree i d low rest) a =
        elim (cases (same k i)) [
          | inl e ↦ rw e a.2
          | inr e ↦ rw e (a.0, all_without k low a.1, all_without k rest a.2)
        ]

    pub all_from : (k : K) (f : Forest K D) → AllItems P f → AllItems P (starting_at same k f)
    all_from k empty a = tt
    all_from k (tree i d low rest) a =
        elim (cases (same k i)) [
          | inl e ↦ rw e a
          | inr e ↦ elim (cases (has same k low)) [ inl u ↦ rw (e, u) (all_from k low a.1) | inr u ↦ rw (e, u) (all_from k rest a.2) ]
        ]

    pub all_branch : (k : K) (f : Forest K D) → AllItems P f → AllItems P (branch same k f)
    all_branch k f a = all_of_first (starting_at same k f) (all_from k f a)

    pub all_item : (k : K) (d : D) (f : Forest K D) → AllItems P f → item_of same k f ≡ Some d → P d
    all_item k d empty a v = absurd (nothing_some d v)
    all_item k d (tree i e low rest) a v =
        elim (cases (same k i)) [
          | inl s ↦ subst P (same_some e d (rw s at v)) a.0
          | inr s ↦ elim (cases (has same k low)) [ inl u ↦ all_item k d low a.1 (rw (s, u) at v) | inr u ↦ all_item k d rest a.2 (rw (s, u) at v) ]
        ]

-- Items that change by their keys, each into such a one.
module _ {K D : Type 0} (same : K → K → Bool) (sound : (a b : K) → same a b ≡ true → a ≡ b) (reflexive : (a : K) → same a a ≡ true) where
  pub all_found : (P Q : D → Type 0) (g : K → D → D) (f : Forest K D) → IsApart same f → ((j : K) (d : D) → has same j f ≡ true → item_of same j f ≡ Some d → P d → Q (g j d))
      → AllItems P f → AllItems Q (each_by g f)
  all_found P Q g empty a q h = tt
  all_found P Q g (tree i d low rest) a q h = (
    q i d (from_left (same i i) (has same i low || has same i rest) (reflexive i)) (rw (reflexive i) refl) h.0,
    all_found P Q g low a.3 (λ j e u v.
        let n : same j i ≡ false = differs same sound reflexive low j i u a.0 in
        q j e (from_right (same j i) (has same j low || has same j rest) (from_left (has same j low) (has same j rest) u)) (rw (n, u) v)) h.1,
    all_found P Q g rest a.4 (λ j e u v.
        let n : same j i ≡ false = differs same sound reflexive rest j i u a.1 in
        let o : has same j low ≡ false = apart_back same sound reflexive low rest a.2 j u in
        q j e (from_right (same j i) (has same j low || has same j rest) (from_right (has same j low) (has same j rest) u)) (rw (n, o) v)) h.2,
  )
