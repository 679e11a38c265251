-- The leaves that pass a test, of lists put one on another.
use Rattle.std.proofs.Common.{◌≡◌, refl, Bool, true, false, ◌&&◌, cond, List, [], ◌∷◌, ◌++◌, ◌⊎◌, inl, inr}
use Rattle.rd_item.specs.declared.leaf.Leaf.{Leaf}
use Rattle.rd_list.specs.Wrappers.{Wrapper}
use Rattle.rd_list.specs.Entries.{Entries, nil, leaf, group, flat, has_leaf, only, grouped_if_any}
use Rattle.rd_list.proofs.Leafy.{has-first}
use Rattle.rd_tree.proofs.Linking.Standing.{cases}

-- what is left has no group without a leaf: it is empty, or has a leaf
pub only-filled : (p : Leaf → Bool) (xs : Entries Wrapper Leaf) → (only p xs ≡ nil) ⊎ (has_leaf (flat (only p xs)) ≡ true)
only-filled p nil = inl refl
only-filled p (leaf l xs) = kept_filled (p l) (only-filled p xs)
  where
    kept_filled : (b : Bool) → (only p xs ≡ nil) ⊎ (has_leaf (flat (only p xs)) ≡ true) → (cond b (leaf l (only p xs)) (only p xs) ≡ nil) ⊎ (has_leaf (flat (cond b (leaf l (only p xs)) (only p xs))) ≡ true)
    kept_filled true h = inr refl
    kept_filled false h = h
only-filled p (group g inner xs) = group_filled (only p inner) (only p xs) (only-filled p inner) (only-filled p xs)
  where
    group_filled : (i ys : Entries Wrapper Leaf) → (i ≡ nil) ⊎ (has_leaf (flat i) ≡ true) → (ys ≡ nil) ⊎ (has_leaf (flat ys) ≡ true)
        → (grouped_if_any g i ys ≡ nil) ⊎ (has_leaf (flat (grouped_if_any g i ys)) ≡ true)
    group_filled nil ys h g = g
    group_filled (leaf l rest) ys h g = inr refl
    group_filled (group g' i' rest) ys (inl h) g = cc
    group_filled (group g' i' rest) ys (inr h) g = inr (has-first (flat i' ++ flat rest) (flat ys) h)

-- a list without a leaf leaves nothing
pub only-none : (p : Leaf → Bool) (w : Entries Wrapper Leaf) → has_leaf (flat w) ≡ false → only p w ≡ nil
only-none p nil h = refl
only-none p (leaf l rest) h = cc
only-none p (group g inner rest) h =
    let e = none_of (flat inner) (flat rest) h in
    rw (only-none p inner e.0, only-none p rest e.1) refl
  where
    none_of : (xs ys : List Leaf) → has_leaf (xs ++ ys) ≡ false → (has_leaf xs ≡ false) × (has_leaf ys ≡ false)
    none_of [] ys h = (refl, h)
    none_of (x ∷ xs) ys h = cc

some_leaf : (g : Wrapper) (w : Entries Wrapper Leaf) → has_leaf (flat w) ≡ true → grouped_if_any g w nil ≡ group g w nil
some_leaf g nil h = cc
some_leaf g (leaf l rest) h = refl
some_leaf g (group g' inner rest) h = refl

-- a group with what is left in it, or what is left
pub grouped-left : (p : Leaf → Bool) (g : Wrapper) (c : Bool) (w : Entries Wrapper Leaf)
    → only p (cond (c && has_leaf (flat w)) (group g w nil) w) ≡ cond (c && has_leaf (flat (only p w))) (group g (only p w) nil) (only p w)
grouped-left p g false w = refl
grouped-left p g true w =
    elim (cases (has_leaf (flat w))) [
      | inl h ↦ elim (only-filled p w) [
        | inl e ↦ rw (h, e) refl
        | inr e ↦ rw (h, e) (some_leaf g (only p w) e)
      ]
      | inr h ↦ rw (h, only-none p w h) refl
    ]

-- tests that agree on each leaf of a list leave the same of it
pub only_agree : (p q : Leaf → Bool) (xs : Entries Wrapper Leaf) → ((l : Leaf) → p l ≡ q l) → only p xs ≡ only q xs
only_agree p q nil h = refl
only_agree p q (leaf l xs) h = λ i. cond (h l i) (leaf l (only_agree p q xs h i)) (only_agree p q xs h i)
only_agree p q (group g inner xs) h = λ i. grouped_if_any g (only_agree p q inner h i) (only_agree p q xs h i)
