-- Items that change, each in a way that may depend on its key.
use Rattle.std.proofs.Common.{◌≡◌, refl, ap, ◌∙◌, sym, Bool, true, false, ◌||◌, cond, ◌∷◌, ◌++◌, inl, inr, arith}
use Rattle.std.specs.Prelude.{Option, Some, None, option_map}
use Rattle.rd_tree.specs.Forest.{Forest, empty, tree, keys, size, ◌▷◌, height, without_siblings, map_where, has, starting_at, item_of, children, in_subtree, with_children, is_among, insert_before, insert_among, without_branch, branch, IsApart}
use Rattle.rd_tree.specs.Places.{parent_of}
use Rattle.rd_tree.specs.Internal.Laid.{each_by}
use Rattle.rd_tree.proofs.Linking.Standing.{cases, from_left, from_right, differs, apart_back}
use Rattle.rd_tree.proofs.Linking.Cutting.{Among}

module _ {K D : Type 0} (g : K → D → D) where
  pub size-by : (f : Forest K D) → size (each_by g f) ≡ size f
  size-by empty = refl
  size-by (tree k d below rest) = omega (arith, size-by below, size-by rest)

  pub height-by : (f : Forest K D) → height (each_by g f) ≡ height f
  height-by empty = refl
  height-by (tree k d below rest) = rw (height-by below, height-by rest) refl

  pub keys-by : (f : Forest K D) → keys (each_by g f) ≡ keys f
  keys-by empty = refl
  keys-by (tree k d below rest) = λ i. k ∷ keys-by below i ++ keys-by rest i

  pub join-by : (f h : Forest K D) → each_by g (f ▷ h) ≡ each_by g f ▷ each_by g h
  join-by empty h = refl
  join-by (tree k d below rest) h = ap (tree k (g k d) (each_by g below)) (join-by rest h)

  first-by : (f : Forest K D) → without_siblings (each_by g f) ≡ each_by g (without_siblings f)
  first-by empty = refl
  first-by (tree i d low rest) = refl

  module _ (same : K → K → Bool) where
    pub has-by : (j : K) (f : Forest K D) → has same j (each_by g f) ≡ has same j f
    has-by j empty = refl
    has-by j (tree k d below rest) = rw (has-by j below, has-by j rest) refl

    pub apart_by : (f : Forest K D) → IsApart same f → IsApart same (each_by g f)
    apart_by empty a = tt
    apart_by (tree k d below rest) a = (
      has-by k below ∙ a.0,
      has-by k rest ∙ a.1,
      (λ j u. has-by j rest ∙ a.2 j (sym (has-by j below) ∙ u)),
      apart_by below a.3,
      apart_by rest a.4,
    )

    pub children-by : (j : K) (f : Forest K D) → children same j (each_by g f) ≡ each_by g (children same j f)
    children-by j empty = refl
    children-by j (tree k d below rest) =
        elim (cases (same j k)) [
          | inl e ↦ rw e refl
          | inr e ↦ rw (e, children-by j below, children-by j rest) (sym (join-by (children same j below) (children same j rest)))
        ]

    before-by : (j : K) (h f : Forest K D) → insert_before same j (each_by g h) (each_by g f) ≡ each_by g (insert_before same j h f)
    before-by j h empty = refl
    before-by j h (tree k d below rest) =
        elim (cases (same j k)) [
          | inl e ↦ rw e (sym (join-by h (tree k d below rest)))
          | inr e ↦ rw (e, before-by j h rest) refl
        ]

    pub among-by : (o : Option K) (h f : Forest K D) → insert_among same o (each_by g h) (each_by g f) ≡ each_by g (insert_among same o h f)
    among-by None h f = sym (join-by f h)
    among-by (Some j) h f = before-by j h f

    pub with_children-by : (p : K) (h f : Forest K D) → with_children same p (each_by g h) (each_by g f) ≡ each_by g (with_children same p h f)
    with_children-by p h empty = refl
    with_children-by p h (tree k d below rest) =
        elim (cases (same p k)) [
          | inl e ↦ rw e refl
          | inr e ↦ rw (e, with_children-by p h below, with_children-by p h rest) refl
        ]

    pub from-by : (j : K) (f : Forest K D) → starting_at same j (each_by g f) ≡ each_by g (starting_at same j f)
    from-by j empty = refl
    from-by j (tree i d low rest) =
        elim (cases (same j i)) [
          | inl e ↦ rw e refl
          | inr e ↦ elim (cases (has same j low)) [
            | inl u ↦ rw (e, has-by j low, u) (from-by j low)
            | inr u ↦ rw (e, has-by j low, u) (from-by j rest)
          ]
        ]

    pub branch-by : (j : K) (f : Forest K D) → branch same j (each_by g f) ≡ each_by g (branch same j f)
    branch-by j f = ap (λ z. without_siblings z) (from-by j f) ∙ first-by (starting_at same j f)

    pub without_branch-by : (j : K) (f : Forest K D) → without_branch same j (each_by g f) ≡ each_by g (without_branch same j f)
    without_branch-by j empty = refl
    without_branch-by j (tree i d low rest) =
        elim (cases (same j i)) [ inl e ↦ rw e refl | inr e ↦ rw (e, without_branch-by j low, without_branch-by j rest) refl ]

    pub subtree-by : (i j : K) (f : Forest K D) → in_subtree same i j (each_by g f) ≡ in_subtree same i j f
    subtree-by i j f = ap (λ b. same i j || b) (ap (has same i) (children-by j f) ∙ has-by i (children same j f))

    pub is_among-by : (j : K) (f : Forest K D) → is_among same j (each_by g f) ≡ is_among same j f
    is_among-by j empty = refl
    is_among-by j (tree k d below rest) = ap (λ b. same j k || b) (is_among-by j rest)

    pub parent-by : (j : K) (f : Forest K D) → parent_of same j (each_by g f) ≡ parent_of same j f
    parent-by j empty = refl
    parent-by j (tree k d below rest) = rw (is_among-by j below, has-by j below, parent-by j below, parent-by j rest) refl

    pub item-by : ((a b : K) → same a b ≡ true → a ≡ b) → (j : K) (f : Forest K D) → item_of same j (each_by g f) ≡ option_map (g j) (item_of same j f)
    item-by sound j empty = refl
    item-by sound j (tree i d low rest) =
        elim (cases (same j i)) [
          | inl e ↦ rw e (ap (λ z. Some (g z d)) (sym (sound j i e)))
          | inr e ↦ elim (cases (has same j low)) [
            | inl u ↦ rw (e, has-by j low, u) (item-by sound j low)
            | inr u ↦ rw (e, has-by j low, u) (item-by sound j rest)
          ]
        ]

    pub among_by : (k p : K) (f : Forest K D) → Among k (children same p f) → Among k (children same p (each_by g f))
    among_by k p f w = record {
      item = g k w.item;
      before = each_by g w.before;
      below = each_by g w.below;
      after = each_by g w.after;
      is = children-by p f ∙ (ap (each_by g) w.is ∙ join-by w.before (tree k w.item w.below w.after));
    }

    -- Where no item changes, the forest stays.
    pub by_none : ((a : K) → same a a ≡ true) → (f : Forest K D) → ((j : K) (d : D) → has same j f ≡ true → g j d ≡ d) → each_by g f ≡ f
    by_none reflexive empty q = refl
    by_none reflexive (tree i d low rest) q =
        let here : g i d ≡ d = q i d (from_left (same i i) (has same i low || has same i rest) (reflexive i)) in
        let l : each_by g low ≡ low = by_none reflexive low (λ j e u. q j e (from_right (same j i) (has same j low || has same j rest) (from_left (has same j low) (has same j rest) u))) in
        let r : each_by g rest ≡ rest = by_none reflexive rest (λ j e u. q j e (from_right (same j i) (has same j low || has same j rest) (from_right (has same j low) (has same j rest) u))) in
        λ x. tree i (here x) (l x) (r x)

-- one change after another
pub by-by : {K D : Type 0} (g h : K → D → D) (f : Forest K D) → each_by g (each_by h f) ≡ each_by (λ k d. g k (h k d)) f
by-by g h empty = refl
by-by g h (tree k d below rest) = λ i. tree k (g k (h k d)) (by-by g h below i) (by-by g h rest i)

-- a change of some items, before and after
pub by-where : {K D : Type 0} (p : K → Bool) (x y : D → D) (g h : K → D → D) → ((k : K) (d : D) → g k (cond (p k) (x d) d) ≡ cond (p k) (y (h k d)) (h k d))
    → (f : Forest K D) → each_by g (map_where p x f) ≡ map_where p y (each_by h f)
by-where p x y g h e empty = refl
by-where p x y g h e (tree k d below rest) = λ i. tree k (e k d i) (by-where p x y g h e below i) (by-where p x y g h e rest i)

-- the same where the item of each box is that of its key
pub by_items : {K D : Type 0} (same : K → K → Bool) (reflexive : (a : K) → same a a ≡ true) (g h : K → D → D) (f : Forest K D)
    → ((j : K) (d : D) → has same j f ≡ true → g j d ≡ h j d) → each_by g f ≡ each_by h f
by_items same reflexive g h empty q = refl
by_items same reflexive g h (tree i d low rest) q =
    let here : g i d ≡ h i d = q i d (from_left (same i i) (has same i low || has same i rest) (reflexive i)) in
    let l : each_by g low ≡ each_by h low = by_items same reflexive g h low (λ j e u. q j e (from_right (same j i) (has same j low || has same j rest) (from_left (has same j low) (has same j rest) u))) in
    let r : each_by g rest ≡ each_by h rest = by_items same reflexive g h rest (λ j e u. q j e (from_right (same j i) (has same j low || has same j rest) (from_right (has same j low) (has same j rest) u))) in
    λ x. tree i (here x) (l x) (r x)

-- Changes of items by a test, as changes by key.
pub by-map : {K D : Type 0} (g : K → D → D) (p : K → Bool) (x : D → D) (f : Forest K D) → each_by g (map_where p x f) ≡ each_by (λ k d. g k (cond (p k) (x d) d)) f
by-map g p x empty = refl
by-map g p x (tree k d below rest) = λ i. tree k (g k (cond (p k) (x d) d)) (by-map g p x below i) (by-map g p x rest i)

pub map-by : {K D : Type 0} (g : K → D → D) (p : K → Bool) (x : D → D) (f : Forest K D) → map_where p x (each_by g f) ≡ each_by (λ k d. cond (p k) (x (g k d)) (g k d)) f
map-by g p x empty = refl
map-by g p x (tree k d below rest) = λ i. tree k (cond (p k) (x (g k d)) (g k d)) (map-by g p x below i) (map-by g p x rest i)

-- Two changes are one where they agree on what each box is.
module _ {K D : Type 0} (same : K → K → Bool) (sound : (a b : K) → same a b ≡ true → a ≡ b) (reflexive : (a : K) → same a a ≡ true) where
  pub by_found : (g h : K → D → D) (f : Forest K D) → IsApart same f → ((j : K) (d : D) → has same j f ≡ true → item_of same j f ≡ Some d → g j d ≡ h j d) → each_by g f ≡ each_by h f
  by_found g h empty a q = refl
  by_found g h (tree i d low rest) a q =
      let here : g i d ≡ h i d = q i d (from_left (same i i) (has same i low || has same i rest) (reflexive i)) (rw (reflexive i) refl) in
      let l : each_by g low ≡ each_by h low = by_found g h low a.3 (λ j e u v.
      let n : same j i ≡ false = differs same sound reflexive low j i u a.0 in
      q j e (from_right (same j i) (has same j low || has same j rest) (from_left (has same j low) (has same j rest) u)) (rw (n, u) v)) in
      let r : each_by g rest ≡ each_by h rest = by_found g h rest a.4 (λ j e u v.
      let n : same j i ≡ false = differs same sound reflexive rest j i u a.1 in
      let o : has same j low ≡ false = apart_back same sound reflexive low rest a.2 j u in
      q j e (from_right (same j i) (has same j low || has same j rest) (from_right (has same j low) (has same j rest) u)) (rw (n, o) v)) in
      λ x. tree i (here x) (l x) (r x)

-- Changes of items by a test are changes by key.
pub where-by : {K D : Type 0} (p : K → Bool) (x : D → D) (f : Forest K D) → map_where p x f ≡ each_by (λ k d. cond (p k) (x d) d) f
where-by p x empty = refl
where-by p x (tree k d below rest) = λ i. tree k (cond (p k) (x d) d) (where-by p x below i) (where-by p x rest i)
