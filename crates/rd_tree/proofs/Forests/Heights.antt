-- How deep boxes are, and how many levels there are, once boxes change.
use Rattle.std.proofs.Common.{◌≡◌, refl, ap, ◌∙◌, subst, ℕ, ◌+◌, ◌≤◌, max, Bool, true, false, ◌||◌, arith, inl, inr}
use Rattle.std.specs.Prelude.{Option, Some, None}
use Rattle.rd_tree.specs.Forest.{Forest, empty, tree, ◌▷◌, has, height, depth, children, with_children, insert_before, insert_among, without_branch, branch, map_where, IsApart}
use Rattle.rd_tree.proofs.Linking.Standing.{cases, never, either, join-empty, no_children}
use Rattle.rd_tree.proofs.Forests.Under.{no_under}
use Rattle.rd_tree.proofs.Forests.Without.{out_of_without, stays}
use Rattle.rd_tree.proofs.Forests.Restoring.{branch_there}

module _ {K D : Type 0} where
  pub height-each : (p : K → Bool) (g : D → D) (f : Forest K D) → height (map_where p g f) ≡ height f
  height-each p g empty = refl
  height-each p g (tree k d below rest) = rw (height-each p g below, height-each p g rest) refl

  height-join : (f g : Forest K D) → height (f ▷ g) ≡ max (height f) (height g)
  height-join empty g = omega arith
  height-join (tree k d below rest) g = let r : height (rest ▷ g) ≡ max (height rest) (height g) = height-join rest g in omega (arith, r)

  module _ (same : K → K → Bool) where
    height-before : (j : K) (g f : Forest K D) → height (insert_before same j g f) ≤ max (height f) (height g)
    height-before j g empty = omega arith
    height-before j g (tree k d below rest) =
        elim (cases (same j k)) [
          | inl e ↦ let h : height (g ▷ tree k d below rest) ≡ max (height g) (height (tree k d below rest)) = height-join g (tree k d below rest) in rw e
              (omega (arith, h))
          | inr e ↦ let h : height (insert_before same j g rest) ≤ max (height rest) (height g) = height-before j g rest in rw e (omega (arith, h))
        ]

    height-among : (o : Option K) (g f : Forest K D) → height (insert_among same o g f) ≤ max (height f) (height g)
    height-among None g f = let h : height (f ▷ g) ≡ max (height f) (height g) = height-join f g in omega (arith, h)
    height-among (Some j) g f = height-before j g f

    pub height-without : (k : K) (f : Forest K D) → height (without_branch same k f) ≤ height f
    height-without k empty = omega arith
    height-without k (tree i d below rest) =
        elim (cases (same k i)) [
          | inl e ↦ rw e (omega arith)
          | inr e ↦
              let b : height (without_branch same k below) ≤ height below = height-without k below in
              let r : height (without_branch same k rest) ≤ height rest = height-without k rest in
              rw e (omega (arith, b, r))
        ]

  module _ (same : K → K → Bool) (sound : (a b : K) → same a b ≡ true → a ≡ b) (reflexive : (a : K) → same a a ≡ true) where
    -- What is below p is deeper than it.
    depth-below : (p : K) (f : Forest K D) → IsApart same f → has same p f ≡ true → depth same p f + height (children same p f) ≤ height f
    depth-below p empty a m = absurd (never false m refl)
    depth-below p (tree i e below rest) a m =
        elim (cases (same p i)) [
          | inl s ↦ rw s (omega arith)
          | inr s ↦
              elim (cases (has same p below)) [
                | inl u ↦
                    let w : depth same p below + height (children same p below) ≤ height below = depth-below p below a.3 u in
                    rw (s, u, no_children same sound reflexive p rest (a.2 p u), join-empty (children same p below)) (omega (arith, w))
                | inr u ↦
                    let w : depth same p rest + height (children same p rest) ≤ height rest = depth-below p rest a.4 (rw (s, u) at m) in
                    rw (s, u, no_children same sound reflexive p below u) (omega (arith, w))
              ]
        ]

    -- Others are below p.
    height-under : (p : K) (g f : Forest K D) (n : ℕ) → IsApart same f → has same p f ≡ true → height f ≤ n → depth same p f + height g ≤ n
        → height (with_children same p g f) ≤ n
    height-under p g empty n a m h d = absurd (never false m refl)
    height-under p g (tree i e below rest) n a m h d =
        elim (cases (same p i)) [
          | inl s ↦ let q : 1 + height g ≤ n = rw s at d in rw s (omega (arith, h, q))
          | inr s ↦
              elim (cases (has same p below)) [
                | inl u ↦
                    let q : 1 + depth same p below + height g ≤ n = rw (s, u) at d in
                    let w : height (with_children same p g below) ≤ max (height below) (depth same p below + height g) =
                    height-under p g below (max (height below) (depth same p below + height g)) a.3 u (omega arith) (omega arith) in
                    rw (s, no_under same sound reflexive p g rest (a.2 p u)) (omega (arith, h, q, w))
                | inr u ↦
                    let q : depth same p rest + height g ≤ n = rw (s, u) at d in
                    let w : height (with_children same p g rest) ≤ n = height-under p g rest n a.4 (rw (s, u) at m) (omega (arith, h)) q in
                    rw (s, no_under same sound reflexive p g below u) (omega (arith, h, w))
              ]
        ]

    -- Others come among the children of p.
    pub height-put : (p : K) (o : Option K) (b f : Forest K D) (n : ℕ) → IsApart same f → has same p f ≡ true → height f ≤ n → depth same p f + height b ≤ n →
        height (with_children same p (insert_among same o b (children same p f)) f) ≤ n
    height-put p o b f n a m h d =
        let w : height (insert_among same o b (children same p f)) ≤ max (height (children same p f)) (height b) = height-among same o b (children same p f) in
        let l : depth same p f + height (children same p f) ≤ height f = depth-below p f a m in
        height-under p (insert_among same o b (children same p f)) f n a m h (omega (arith, h, d, w, l))

    -- What stays is as deep as before.
    pub depth-without : (p k : K) (f : Forest K D) → IsApart same f → has same p f ≡ true → same p k ≡ false → has same p (children same k f) ≡ false
        → depth same p (without_branch same k f) ≡ depth same p f
    depth-without p k empty a m n o = refl
    depth-without p k (tree i d below rest) a m n o =
        elim (cases (same k i)) [
          | inl e ↦
              let pi : same p i ≡ false = subst (λ x. same p x ≡ false) (sound k i e) n in
              let pb : has same p below ≡ false = rw e at o in
              rw (e, pi, pb) refl
          | inr e ↦
              elim (cases (same p i)) [
                | inl s ↦ rw (e, s) refl
                | inr s ↦
                    elim (cases (has same p below)) [
                      | inl u ↦
                          let out : has same p rest ≡ false = a.2 p u in
                          let c : has same p (children same k below) ≡ false = parts p (children same k below) (children same k rest) (rw e at o) in
                          rw (e, s, u, stays same sound reflexive p k below u n c) (ap (λ x. 1 + x) (depth-without p k below a.3 u n c))
                      | inr u ↦
                          let v : has same p rest ≡ true = rw (s, u) at m in
                          let c : has same p (children same k rest) ≡ false = later p (children same k below) (children same k rest) (rw e at o) in
                          rw (e, s, u, out_of_without same sound reflexive p k below u) (depth-without p k rest a.4 v n c)
                    ]
              ]
        ] where
          parts : (j : K) (f g : Forest K D) → has same j (f ▷ g) ≡ false → has same j f ≡ false
          parts j empty g h = refl
          parts j (tree i d below rest) g h =
              let s : (same j i ≡ false) × ((has same j below || has same j (rest ▷ g)) ≡ false) = either (same j i) (has same j below || has same j
              (rest ▷ g)) h in
              let t : (has same j below ≡ false) × (has same j (rest ▷ g) ≡ false) = either (has same j below) (has same j (rest ▷ g)) s.1 in
              rw (s.0, t.0) (parts j rest g t.1)

          later : (j : K) (f g : Forest K D) → has same j (f ▷ g) ≡ false → has same j g ≡ false
          later j empty g h = h
          later j (tree i d below rest) g h =
              let s : (same j i ≡ false) × ((has same j below || has same j (rest ▷ g)) ≡ false) = either (same j i) (has same j below || has same j
              (rest ▷ g)) h in
              let t : (has same j below ≡ false) × (has same j (rest ▷ g) ≡ false) = either (has same j below) (has same j (rest ▷ g)) s.1 in
              later j rest g t.1

    -- how many levels a branch has
    pub height-branch : (k : K) (f : Forest K D) → IsApart same f → has same k f ≡ true → height (branch same k f) ≡ 1 + height (children same k f)
    height-branch k f a m =
        let t : (d : D) × (branch same k f ≡ tree k d (children same k f) empty) = branch_there same sound reflexive k f a m in
        ap height t.1 ∙ omega arith
