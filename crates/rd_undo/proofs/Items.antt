-- Items that change at one box, or at a box and all below it, and change back.
use Rattle.std.proofs.Common.{◌≡◌, refl, ap, ◌∙◌, sym, subst, Bool, true, false, ◌||◌, ◌&&◌, cond, inl, inr}
use Rattle.std.specs.Prelude.{Some}
use Rattle.rd_tree.specs.Forest.{Forest, empty, tree, ◌▷◌, size, has, children, in_subtree, item_of, map_where, at_box, at_subtree, AllItems, IsApart}
use Rattle.rd_tree.proofs.Linking.Standing.{cases, either, from_left, from_right, has-join, out_of_children, differs, apart_back, flip}
use Rattle.rd_tree.proofs.Forests.EachBranch.{each_none}

module _ {K D : Type 0} where
  -- with all items changed
  abbrev pub change_all : (D → D) → Forest K D → Forest K D
  change_all g empty = empty
  change_all g (tree k d below rest) = tree k (g d) (change_all g below) (change_all g rest)

  -- Does this hold of each item?
  abbrev pub all_items : (D → Bool) → Forest K D → Bool
  all_items p empty = true
  all_items p (tree k d below rest) = p d && all_items p below && all_items p rest

  module _ (same : K → K → Bool) where
    -- with the item of k changed, and what is below it
    abbrev pub change_at : K → (D → D) → (Forest K D → Forest K D) → Forest K D → Forest K D
    change_at k g w empty = empty
    change_at k g w (tree j d below rest) =
        cond (same k j) (tree j (g d) (w below) rest) (tree j d (change_at k g w below) (change_at k g w rest))

    -- Does this hold of the items of k and of all below it?
    abbrev pub holds_at : K → (D → Bool) → Forest K D → Bool
    holds_at k p empty = true
    holds_at k p (tree j d below rest) =
        cond (same k j) (p d && all_items p below) (holds_at k p below && holds_at k p rest)

    pub no_change : (k : K) (g : D → D) (w : Forest K D → Forest K D) (f : Forest K D) → has same k f ≡ false → change_at k g w f ≡ f
    no_change k g w empty h = refl
    no_change k g w (tree j d below rest) h =
        let s : (same k j ≡ false) × ((has same k below || has same k rest) ≡ false) = either (same k j) (has same k below || has same k rest) h in
        let t : (has same k below ≡ false) × (has same k rest ≡ false) = either (has same k below) (has same k rest) s.1 in
        rw (s.0, no_change k g w below t.0, no_change k g w rest t.1) refl

    pub nowhere_holds : (k : K) (p : D → Bool) (f : Forest K D) → has same k f ≡ false → holds_at k p f ≡ true
    nowhere_holds k p empty h = refl
    nowhere_holds k p (tree j d below rest) h =
        let s : (same k j ≡ false) × ((has same k below || has same k rest) ≡ false) = either (same k j) (has same k below || has same k rest) h in
        let t : (has same k below ≡ false) × (has same k rest ≡ false) = either (has same k below) (has same k rest) s.1 in
        rw (s.0, nowhere_holds k p below t.0, nowhere_holds k p rest t.1) refl

  all_true : (t : K → Bool) (same : K → K → Bool) (reflexive : (a : K) → same a a ≡ true) (g : D → D) (f : Forest K D) → ((j : K) → has same j f ≡ true → t j ≡ true) → map_where t g f ≡ change_all g f
  all_true t same reflexive g empty h = refl
  all_true t same reflexive g (tree k d below rest) h =
      let here : t k ≡ true = h k (from_left (same k k) (has same k below || has same k rest) (reflexive k)) in
      let low : map_where t g below ≡ change_all g below = all_true t same reflexive g below (λ j u. h j (from_right (same j k) (has same j below || has same j rest) (from_left (has same j below) (has same j rest) u))) in
      let later : map_where t g rest ≡ change_all g rest = all_true t same reflexive g rest (λ j u. h j (from_right (same j k) (has same j below || has same j rest) (from_right (has same j below) (has same j rest) u))) in
      rw (here, low, later) refl

  -- ---- changed back

  pub back_all : (g h : D → D) → ((d : D) → h (g d) ≡ d) → (f : Forest K D) → change_all h (change_all g f) ≡ f
  back_all g h q empty = refl
  back_all g h q (tree k d below rest) = rw (q d, back_all g h q below, back_all g h q rest) refl

  pub all_back : (p : D → Bool) (g : D → D) (P : D → Type 0) → ((d : D) → P d → p (g d) ≡ true) → (f : Forest K D) → AllItems P f → all_items p (change_all g f) ≡ true
  all_back p g P q empty a = refl
  all_back p g P q (tree k d below rest) a = rw (q d a.0, all_back p g P q below a.1, all_back p g P q rest a.2) refl

  module _ (same : K → K → Bool) where
    pub holds_back : (k : K) (p : D → Bool) (g : D → D) (P : D → Type 0) → ((d : D) → P d → p (g d) ≡ true) → (f : Forest K D) → AllItems P f
        → holds_at same k p (change_at same k g (change_all g) f) ≡ true
    holds_back k p g P q empty a = refl
    holds_back k p g P q (tree j d below rest) a =
        elim (cases (same k j)) [
          | inl e ↦ rw e (rw (e, q d a.0, all_back p g P q below a.1) refl)
          | inr e ↦ rw e (rw (e, holds_back k p g P q below a.1, holds_back k p g P q rest a.2) refl)
        ]

    pub has-change : (x k : K) (g : D → D) (f : Forest K D) → has same x (change_at same k g (λ z. z) f) ≡ has same x f
    has-change x k g empty = refl
    has-change x k g (tree j d below rest) =
        elim (cases (same k j)) [
          | inl e ↦ rw e refl
          | inr e ↦ rw (e, has-change x k g below, has-change x k g rest) refl
        ]

    pub size-change : (k : K) (g : D → D) (f : Forest K D) → size (change_at same k g (λ z. z) f) ≡ size f
    size-change k g empty = refl
    size-change k g (tree j d below rest) =
        elim (cases (same k j)) [
          | inl e ↦ rw e refl
          | inr e ↦ rw (e, size-change k g below, size-change k g rest) refl
        ]

    has-all : (x : K) (g : D → D) (f : Forest K D) → has same x (change_all g f) ≡ has same x f
    has-all x g empty = refl
    has-all x g (tree j d below rest) = rw (has-all x g below, has-all x g rest) refl

    pub has-change_all : (x k : K) (g : D → D) (f : Forest K D) → has same x (change_at same k g (change_all g) f) ≡ has same x f
    has-change_all x k g empty = refl
    has-change_all x k g (tree j d below rest) =
        elim (cases (same k j)) [
          | inl e ↦ rw (e, has-all x g below) refl
          | inr e ↦ rw (e, has-change_all x k g below, has-change_all x k g rest) refl
        ]

  module _ (same : K → K → Bool) (sound : (a b : K) → same a b ≡ true → a ≡ b) (reflexive : (a : K) → same a a ≡ true) where
    -- What changes the item of k back, and what is below it.
    pub back_at : (k : K) (g h : D → D) (w v : Forest K D → Forest K D) → ((f : Forest K D) → v (w f) ≡ f) → (f : Forest K D) → IsApart same f
        → ((d : D) → item_of same k f ≡ Some d → h (g d) ≡ d) → change_at same k h v (change_at same k g w f) ≡ f
    back_at k g h w v r empty a q = refl
    back_at k g h w v r (tree j d below rest) a q =
        elim (cases (same k j)) [
          | inl e ↦
              let back : h (g d) ≡ d = q d (rw e refl) in
              rw e (rw (e, back, r below) refl)
          | inr e ↦ elim (cases (has same k below)) [
            | inl u ↦
                let o : has same k rest ≡ false = a.2 k u in
                let low : change_at same k h v (change_at same k g w below) ≡ below = back_at k g h w v r below a.3 (λ c s. q c (rw (e, u) s)) in
                rw (e, no_change same k g w rest o) (rw (e, no_change same k h v rest o, low) refl)
            | inr u ↦
                let later : change_at same k h v (change_at same k g w rest) ≡ rest = back_at k g h w v r rest a.4 (λ c s. q c (rw (e, u) s)) in
                rw (e, no_change same k g w below u) (rw (e, no_change same k h v below u, later) refl)
          ]
        ]

    -- ---- the changes of a tree

    pub one_is : (k : K) (g : D → D) (f : Forest K D) → IsApart same f → at_box same k g f ≡ change_at same k g (λ z. z) f
    one_is k g f a = go f a where
      go : (f : Forest K D) → IsApart same f → map_where (λ j. same j k) g f ≡ change_at same k g (λ z. z) f
      go empty a = refl
      go (tree j d below rest) a =
          elim (cases (same k j)) [
            | inl e ↦
                let t : same j k ≡ true = flip same sound reflexive j k ∙ e in
                let b : map_where (λ j. same j k) g below ≡ below = each_none (λ j. same j k) g same reflexive below (λ x u. differs same sound reflexive below x k u (subst (λ z. has same z below ≡ false) (sym (sound k j e)) a.0)) in
                let r : map_where (λ j. same j k) g rest ≡ rest = each_none (λ j. same j k) g same reflexive rest (λ x u. differs same sound reflexive rest x k u (subst (λ z. has same z rest ≡ false) (sym (sound k j e)) a.1)) in
                rw (t, e, b, r) refl
            | inr e ↦
                let t : same j k ≡ false = flip same sound reflexive j k ∙ e in
                rw (t, e, go below a.3, go rest a.4) refl
          ]

    below_is : (k : K) (t : K → Bool) (g : D → D) (f : Forest K D) → IsApart same f → ((j : K) → has same j f ≡ true → t j ≡ in_subtree same j k f)
        → map_where t g f ≡ change_at same k g (change_all g) f
    below_is k t g empty a q = refl
    below_is k t g (tree m d below rest) a q =
        let in-low : (j : K) → has same j below ≡ true → t j ≡ in_subtree same j k (tree m d below rest) = λ j u. q j (from_right (same j m) (has same j below || has same j rest) (from_left (has same j below) (has same j rest) u)) in
        let in-later : (j : K) → has same j rest ≡ true → t j ≡ in_subtree same j k (tree m d below rest) = λ j u. q j (from_right (same j m) (has same j below || has same j rest) (from_right (has same j below) (has same j rest) u)) in
        let here : t m ≡ in_subtree same m k (tree m d below rest) = q m (from_left (same m m) (has same m below || has same m rest) (reflexive m)) in
        elim (cases (same k m)) [
          | inl e ↦
              let n : k ≡ m = sound k m e in
              let at : children same k (tree m d below rest) ≡ below = rw e refl in
              let top_in : t m ≡ true = here ∙ from_left (same m k) (has same m (children same k (tree m d below rest))) (flip same sound reflexive m k ∙ e) in
              let low : map_where t g below ≡ change_all g below = all_true t same reflexive g below (λ j u. in-low j u ∙ from_right (same j k) (has same j (children same k (tree m d below rest))) (ap (has same j) at ∙ u)) in
              let later : map_where t g rest ≡ rest = each_none t g same reflexive rest (λ j u. in-later j u ∙ neither (same j k) (has same j (children same k (tree m d below rest)))
              (differs same sound reflexive rest j k u (subst (λ z. has same z rest ≡ false) (sym n) a.1))
              (ap (has same j) at ∙ apart_back same sound reflexive below rest a.2 j u)) in
              rw (top_in, e, low, later) refl
          | inr e ↦
              let at : children same k (tree m d below rest) ≡ children same k below ▷ children same k rest = rw e refl in
              let split : (j : K) → has same j (children same k (tree m d below rest)) ≡ (has same j (children same k below) || has same j (children same k rest)) = λ j. ap (has same j) at ∙ has-join same sound reflexive j (children same k below) (children same k rest) in
              let top_out : t m ≡ false = here ∙ neither (same m k) (has same m (children same k (tree m d below rest))) (flip same sound reflexive m k ∙ e)
              (split m ∙ neither (has same m (children same k below)) (has same m (children same k rest)) (out_of_children same sound reflexive m k below a.0) (out_of_children same sound reflexive m k rest a.1)) in
              let low : map_where t g below ≡ change_at same k g (change_all g) below = below_is k t g below a.3 (λ j u. in-low j u ∙ ap (λ b. same j k || b) (split j
              ∙ right_out (has same j (children same k below)) (has same j (children same k rest)) (out_of_children same sound reflexive j k rest (a.2 j u)))) in
              let later : map_where t g rest ≡ change_at same k g (change_all g) rest = below_is k t g rest a.4 (λ j u. in-later j u ∙ ap (λ b. same j k || b) (split j
              ∙ left_out (has same j (children same k below)) (has same j (children same k rest)) (out_of_children same sound reflexive j k below (apart_back same sound reflexive below rest a.2 j u)))) in
              rw (top_out, e, low, later) refl
        ]
      where
        neither : (a b : Bool) → a ≡ false → b ≡ false → (a || b) ≡ false
        neither a b h q = rw (h, q) refl

        right_out : (a b : Bool) → b ≡ false → (a || b) ≡ a
        right_out true b h = refl
        right_out false b h = h

        left_out : (a b : Bool) → a ≡ false → (a || b) ≡ b
        left_out a b h = rw h refl

    pub subtree_is : (k : K) (g : D → D) (f : Forest K D) → IsApart same f → at_subtree same k g f ≡ change_at same k g (change_all g) f
    subtree_is k g f a = below_is k (λ j. in_subtree same j k f) g f a (λ j u. refl)
