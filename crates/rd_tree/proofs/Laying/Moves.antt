-- A box that moves with all below it: where it stands then, and what is handed to it.
use Rattle.std.proofs.Common.{◌≡◌, refl, ap, ◌∙◌, sym, subst, true, false, ◌||◌, inl, inr}
use Rattle.std.specs.Prelude.{Option, Some, None}
use Rattle.rd_keys.specs.Keys.{same_key}
use Rattle.rd_keys.proofs.Keys.{same_key-sound, same_key-refl}
use Rattle.rd_tree.specs.Forest.{empty, tree, ◌▷◌, has, item_of, children, with_children, insert_before, insert_among, without_branch, IsApart}
use Rattle.rd_tree.specs.Document.{BoxKey, Item, BoxForest}
use Rattle.rd_tree.proofs.Linking.Standing.{cases, never, either, from_left, from_right, join-empty, no_children, has-join}
use Rattle.rd_tree.proofs.Forests.Under.{no_under}
use Rattle.rd_tree.proofs.Forests.Without.{stays, out_of_without}
use Rattle.rd_tree.proofs.Laying.Rows.{in_rest}

-- The box k stands in a forest with this item, and these boxes below it.
pub record Stands (k : BoxKey) (d : Item) (low f : BoxForest) : Type 0 where
  pub item : item_of same_key k f ≡ Some d
  pub below : children same_key k f ≡ low

pub stands_first : (k : BoxKey) (d : Item) (low rest : BoxForest) → Stands k d low (tree k d low rest)
stands_first k d low rest = record { item = rw (same_key-refl k) refl; below = rw (same_key-refl k) refl }

stands_low : (k i : BoxKey) (d e : Item) (low l r : BoxForest) → same_key k i ≡ false → has same_key k l ≡ true → has same_key k r ≡ false → Stands k d low l → Stands k d low (tree i e l r)
stands_low k i d e low l r n u o s = record {
  item = rw (n, u) s.item;
  below = rw (n, no_children same_key same_key-sound same_key-refl k r o) (join-empty (children same_key k l) ∙ s.below);
}

stands_later : (k i : BoxKey) (d e : Item) (low l r : BoxForest) → same_key k i ≡ false → has same_key k l ≡ false → Stands k d low r → Stands k d low (tree i e l r)
stands_later k i d e low l r n o s = record { item = rw (n, o) s.item; below = rw (n, no_children same_key same_key-sound same_key-refl k l o) s.below }

stands_after : (k : BoxKey) (d : Item) (low f g : BoxForest) → has same_key k f ≡ false → Stands k d low g → Stands k d low (f ▷ g)
stands_after k d low empty g o s = s
stands_after k d low (tree i e l r) g o s =
    let a : (same_key k i ≡ false) × ((has same_key k l || has same_key k r) ≡ false) = either (same_key k i) (has same_key k l || has same_key k r) o in
    let b : (has same_key k l ≡ false) × (has same_key k r ≡ false) = either (has same_key k l) (has same_key k r) a.1 in
    stands_later k i d e low l (r ▷ g) a.0 b.0 (stands_after k d low r g b.1 s)

-- put among siblings,
stands_before : (k j : BoxKey) (d : Item) (low f : BoxForest) → has same_key k f ≡ false → Stands k d low (insert_before same_key j (tree k d low empty) f)
stands_before k j d low empty o = stands_first k d low empty
stands_before k j d low (tree i e l r) o =
    let a : (same_key k i ≡ false) × ((has same_key k l || has same_key k r) ≡ false) = either (same_key k i) (has same_key k l || has same_key k r) o in
    let b : (has same_key k l ≡ false) × (has same_key k r ≡ false) = either (has same_key k l) (has same_key k r) a.1 in
    elim (cases (same_key j i)) [
      | inl s ↦
          let is : tree k d low (tree i e l r) ≡ insert_before same_key j (tree k d low empty) (tree i e l r) = rw s refl in
          subst (Stands k d low) is (stands_first k d low (tree i e l r))
      | inr s ↦
          let is : tree i e l (insert_before same_key j (tree k d low empty) r) ≡ insert_before same_key j (tree k d low empty) (tree i e l r) = rw s refl in
          subst (Stands k d low) is (stands_later k i d e low l (insert_before same_key j (tree k d low empty) r) a.0 b.0 (stands_before k j d low r b.1))
    ]

pub stands_among : (k : BoxKey) (before : Option BoxKey) (d : Item) (low f : BoxForest) → has same_key k f ≡ false → Stands k d low (insert_among same_key before (tree k d low empty) f)
stands_among k None d low f o = stands_after k d low f (tree k d low empty) o (stands_first k d low empty)
stands_among k (Some j) d low f o = stands_before k j d low f o

before_has : (k j : BoxKey) (one f : BoxForest) → has same_key k one ≡ true → has same_key k (insert_before same_key j one f) ≡ true
before_has k j one empty u = u
before_has k j one (tree i e l r) u =
    elim (cases (same_key j i)) [
      | inl s ↦ rw s (has-join same_key same_key-sound same_key-refl k one (tree i e l r) ∙ from_left (has same_key k one) (has same_key k (tree i e l r)) u)
      | inr s ↦ rw s (from_right (same_key k i) (has same_key k l || has same_key k (insert_before same_key j one r)) (from_right (has same_key k l) (has same_key k (insert_before same_key j one r))
          (before_has k j one r u)))
    ]

pub among_has : (k : BoxKey) (before : Option BoxKey) (one f : BoxForest) → has same_key k one ≡ true → has same_key k (insert_among same_key before one f) ≡ true
among_has k None one f u = has-join same_key same_key-sound same_key-refl k f one ∙ from_right (has same_key k f) (has same_key k one) u
among_has k (Some j) one f u = before_has k j one f u

-- and below a box.
pub stands_under : (k p : BoxKey) (d : Item) (low h f : BoxForest) → IsApart same_key f → has same_key p f ≡ true → has same_key k f ≡ false → has same_key k h ≡ true → Stands k d low h
    → (has same_key k (with_children same_key p h f) ≡ true) × Stands k d low (with_children same_key p h f)
stands_under k p d low h empty a m o u s = absurd (never false m refl)
stands_under k p d low h (tree i e l r) a m o u s =
    let x : (same_key k i ≡ false) × ((has same_key k l || has same_key k r) ≡ false) = either (same_key k i) (has same_key k l || has same_key k r) o in
    let y : (has same_key k l ≡ false) × (has same_key k r ≡ false) = either (has same_key k l) (has same_key k r) x.1 in
    elim (cases (same_key p i)) [
      | inl n ↦
          let is : tree i e h r ≡ with_children same_key p h (tree i e l r) = rw n refl in
          subst (λ z. (has same_key k z ≡ true) × Stands k d low z) is (
            from_right (same_key k i) (has same_key k h || has same_key k r) (from_left (has same_key k h) (has same_key k r) u),
            stands_low k i d e low h r x.0 u y.1 s,
          )
      | inr n ↦ elim (cases (has same_key p l)) [
        | inl v ↦
            let w = stands_under k p d low h l a.3 v y.0 u s in
            let is : tree i e (with_children same_key p h l) r ≡ with_children same_key p h (tree i e l r) = rw (n, no_under same_key same_key-sound same_key-refl p h r (a.2 p v)) refl in
            subst (λ z. (has same_key k z ≡ true) × Stands k d low z) is (
              from_right (same_key k i) (has same_key k (with_children same_key p h l) || has same_key k r) (from_left (has same_key k (with_children same_key p h l)) (has same_key k r) w.0),
              stands_low k i d e low (with_children same_key p h l) r x.0 w.0 y.1 w.1,
            )
        | inr v ↦
            let w = stands_under k p d low h r a.4 (in_rest p i l r n v m) y.1 u s in
            let is : tree i e l (with_children same_key p h r) ≡ with_children same_key p h (tree i e l r) = rw (n, no_under same_key same_key-sound same_key-refl p h l v) refl in
            subst (λ z. (has same_key k z ≡ true) × Stands k d low z) is (
              from_right (same_key k i) (has same_key k l || has same_key k (with_children same_key p h r)) (from_right (has same_key k l) (has same_key k (with_children same_key p h r)) w.0),
              stands_later k i d e low l (with_children same_key p h r) x.0 y.0 w.1,
            )
      ]
    ]

-- The item of a box that is not in the branch stays.
pub item-without : (p k : BoxKey) (f : BoxForest) → same_key p k ≡ false → has same_key p (children same_key k f) ≡ false → item_of same_key p (without_branch same_key k f) ≡ item_of same_key p f
item-without p k empty n o = refl
item-without p k (tree i e l r) n o =
    elim (cases (same_key k i)) [
      | inl s ↦
          let q : same_key p i ≡ false = ap (same_key p) (sym (same_key-sound k i s)) ∙ n in
          let out : has same_key p l ≡ false = rw s at o in
          rw (s, q, out) refl
      | inr s ↦
          let j : (has same_key p (children same_key k l) || has same_key p (children same_key k r)) ≡ false =
          sym (has-join same_key same_key-sound same_key-refl p (children same_key k l) (children same_key k r)) ∙ (rw s at o) in
          let b : (has same_key p (children same_key k l) ≡ false) × (has same_key p (children same_key k r) ≡ false) = either (has same_key p (children same_key k l)) (has same_key p (children same_key k r)) j in
          elim (cases (same_key p i)) [
            | inl t ↦ rw (s, t) refl
            | inr t ↦ elim (cases (has same_key p l)) [
              | inl u ↦ rw (s, t, u, stays same_key same_key-sound same_key-refl p k l u n b.0) (item-without p k l n b.0)
              | inr u ↦ rw (s, t, u, out_of_without same_key same_key-sound same_key-refl p k l u) (item-without p k r n b.1)
            ]
          ]
    ]
