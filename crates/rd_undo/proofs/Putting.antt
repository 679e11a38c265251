-- What a branch that is put below a box comes to: it is found, it is as deep as its place, and its place is its own.
use Rattle.std.proofs.Common.{◌≡◌, refl, ap, ◌∙◌, sym, subst, ◌+◌, Bool, true, false, ◌||◌, arith, inl, inr}
use Rattle.std.specs.Prelude.{Option, Some, None}
use Rattle.rd_tree.specs.Forest.{Forest, empty, tree, ◌▷◌, size, has, children, with_children, insert_before, insert_among, is_among, branch, AreApart, IsApart}
use Rattle.rd_tree.proofs.Linking.Standing.{cases, never, either, from_left, from_right, join-empty, no_children}
use Rattle.rd_tree.proofs.Linking.Placing.{Joined, joined}
use Rattle.rd_tree.proofs.Forests.Under.{which, no_under, apart_under, size-with_children}
use Rattle.rd_tree.proofs.Forests.Restoring.{apart_children}
use Rattle.rd_tree.proofs.Linking.Cutting.{in_children}
use Rattle.rd_tree.proofs.Summaries.Placed.{Divided, divided}
use Rattle.rd_undo.proofs.Put.{put, no_put, among-put, among-join, among-among, has-among, has-put}

module _ {K D : Type 0} (same : K → K → Bool) (sound : (a b : K) → same a b ≡ true → a ≡ b) (reflexive : (a : K) → same a a ≡ true) where
  under-miss : (p i : K) (e : D) (g below rest : Forest K D) → same p i ≡ false → with_children same p g (tree i e below rest) ≡ tree i e (with_children same p g below) (with_children same p g rest)
  under-miss p i e g below rest s = rw s refl

  put-miss : (p i : K) (e : D) (o : Option K) (b below rest : Forest K D) → same p i ≡ false → put same p o b (tree i e below rest) ≡ tree i e (put same p o b below) (put same p o b rest)
  put-miss p i e o b below rest s = rw s refl

  -- it is the change of the tree's own definitions
  pub put_is : (p : K) (o : Option K) (b f : Forest K D) → IsApart same f → with_children same p (insert_among same o b (children same p f)) f ≡ put same p o b f
  put_is p o b empty a = refl
  put_is p o b (tree i e below rest) a =
      let f : Forest K D = tree i e below rest in
      let under : Forest K D → Forest K D = λ z. with_children same p (insert_among same o b z) f in
      elim (cases (same p i)) [
        | inl s ↦ rw s refl
        | inr s ↦ elim (cases (has same p below)) [
          | inl h ↦
              let out : has same p rest ≡ false = a.2 p h in
              let g : Forest K D = insert_among same o b (children same p below) in
              let c : children same p f ≡ children same p below = rw (s, no_children same sound reflexive p rest out) (join-empty (children same p below)) in
              ap under c ∙ (under-miss p i e g below rest s
              ∙ (ap (tree i e (with_children same p g below)) (no_under same sound reflexive p g rest out)
              ∙ (ap (λ z. tree i e z rest) (put_is p o b below a.3)
              ∙ sym (put-miss p i e o b below rest s ∙ ap (tree i e (put same p o b below)) (no_put same p o b rest out)))))
          | inr h ↦
              let g : Forest K D = insert_among same o b (children same p rest) in
              let c : children same p f ≡ children same p rest = rw (s, no_children same sound reflexive p below h) refl in
              ap under c ∙ (under-miss p i e g below rest s
              ∙ (ap (λ z. tree i e z (with_children same p g rest)) (no_under same sound reflexive p g below h)
              ∙ (ap (tree i e below) (put_is p o b rest a.4)
              ∙ sym (put-miss p i e o b below rest s ∙ ap (λ z. tree i e z (put same p o b rest)) (no_put same p o b below h)))))
        ]
      ]

  -- the boxes are apart, and as many more as are put
  pub apart-put : (p : K) (o : Option K) (b f : Forest K D) → IsApart same f → IsApart same b → AreApart same f b → IsApart same (put same p o b f)
  apart-put p o b f a ab away =
      let c : Forest K D = children same p f in
      let s : Divided same sound reflexive o c = divided same sound reflexive o c in
      let below : AreApart same c b = λ j h. away j (in_children same sound reflexive j p f h) in
      let w : Joined same sound reflexive b c (s.xs ▷ (b ▷ s.ys)) = joined same sound reflexive b c s.xs s.ys (apart_children same sound reflexive p f a) ab below s.is in
      elim (cases (has same p f)) [
        | inl e ↦ subst (λ z. IsApart same z) (ap (λ z. with_children same p z f) (sym (s.amid_is b)) ∙ put_is p o b f a)
            (apart_under same sound reflexive p (s.xs ▷ (b ▷ s.ys)) f a w.apart e (λ j u v. w.no_more j u (away j v)))
        | inr e ↦ subst (λ z. IsApart same z) (sym (no_put same p o b f e)) a
      ]

  pub size-put : (p : K) (o : Option K) (b f : Forest K D) → IsApart same f → IsApart same b → AreApart same f b → has same p f ≡ true → size (put same p o b f) ≡ size f + size b
  size-put p o b f a ab away m =
      let c : Forest K D = children same p f in
      let s : Divided same sound reflexive o c = divided same sound reflexive o c in
      let below : AreApart same c b = λ j h. away j (in_children same sound reflexive j p f h) in
      let w : Joined same sound reflexive b c (s.xs ▷ (b ▷ s.ys)) = joined same sound reflexive b c s.xs s.ys (apart_children same sound reflexive p f a) ab below s.is in
      let e : size (put same p o b f) ≡ size (with_children same p (s.xs ▷ (b ▷ s.ys)) f) = ap size (sym (put_is p o b f a) ∙ ap (λ z. with_children same p z f) (s.amid_is b)) in
      let n : size (with_children same p (s.xs ▷ (b ▷ s.ys)) f) + size c ≡ size f + size (s.xs ▷ (b ▷ s.ys)) = size-with_children same sound reflexive p (s.xs ▷ (b ▷ s.ys)) f a m in
      let t : size (s.xs ▷ (b ▷ s.ys)) ≡ size c + size b = w.size_is in
      omega (arith, e, n, t)

  -- ---- the branch is found

  branch-first : (i : K) (b f : Forest K D) (d : D) (c : Forest K D) → b ≡ tree i d c empty → branch same i (b ▷ f) ≡ b
  branch-first i b f d c e = ap (λ z. branch same i (z ▷ f)) e ∙ (rw (reflexive i) refl ∙ sym e)

  branch-among : (i : K) (d : D) (c : Forest K D) (o : Option K) (f : Forest K D) → has same i f ≡ false → branch same i (insert_among same o (tree i d c empty) f) ≡ tree i d c empty
  branch-among i d c None empty h = rw (reflexive i) refl
  branch-among i d c None (tree k e below rest) h =
      let s : (same i k ≡ false) × ((has same i below || has same i rest) ≡ false) = either (same i k) (has same i below || has same i rest) h in
      let t : (has same i below ≡ false) × (has same i rest ≡ false) = either (has same i below) (has same i rest) s.1 in
      rw (s.0, t.0) (branch-among i d c None rest t.1)
  branch-among i d c (Some j) empty h = rw (reflexive i) refl
  branch-among i d c (Some j) (tree k e below rest) h =
      let s : (same i k ≡ false) × ((has same i below || has same i rest) ≡ false) = either (same i k) (has same i below || has same i rest) h in
      let t : (has same i below ≡ false) × (has same i rest ≡ false) = either (has same i below) (has same i rest) s.1 in
      elim (cases (same j k)) [
        | inl u ↦ rw u (rw (reflexive i) refl)
        | inr u ↦ rw u (rw (s.0, t.0) (branch-among i d c (Some j) rest t.1))
      ]

  there-among : (i : K) (d : D) (c : Forest K D) (o : Option K) (f : Forest K D) → has same i (insert_among same o (tree i d c empty) f) ≡ true
  there-among i d c o f = has-among same sound reflexive i o (tree i d c empty) f
      ∙ from_right (has same i f) (same i i || (has same i c || false)) (from_left (same i i) (has same i c || false) (reflexive i))

  pub there-put : (i p : K) (d : D) (c : Forest K D) (o : Option K) (f : Forest K D) → has same p f ≡ true → has same i (put same p o (tree i d c empty) f) ≡ true
  there-put i p d c o f m = has-put same sound reflexive i p o (tree i d c empty) f m
      ∙ from_right (has same i f) (same i i || (has same i c || false)) (from_left (same i i) (has same i c || false) (reflexive i))

  pub branch-put : (i p : K) (d : D) (c : Forest K D) (o : Option K) (f : Forest K D) → has same p f ≡ true → has same i f ≡ false
      → branch same i (put same p o (tree i d c empty) f) ≡ tree i d c empty
  branch-put i p d c o empty m h = absurd (never false m refl)
  branch-put i p d c o (tree k e below rest) m h =
      let s : (same i k ≡ false) × ((has same i below || has same i rest) ≡ false) = either (same i k) (has same i below || has same i rest) h in
      let t : (has same i below ≡ false) × (has same i rest ≡ false) = either (has same i below) (has same i rest) s.1 in
      elim (cases (same p k)) [
        | inl u ↦ rw u (rw (s.0, there-among i d c o below) (branch-among i d c o below t.0))
        | inr u ↦ elim (cases (has same p below)) [
          | inl v ↦ rw u (rw (s.0, there-put i p d c o below v) (branch-put i p d c o below v t.0))
          | inr v ↦ rw (u, no_put same p o (tree i d c empty) below v) (rw (s.0, t.0) (branch-put i p d c o rest (rw (u, v) at m) t.1))
        ]
      ]

  children-among : (i : K) (d : D) (c : Forest K D) (o : Option K) (f : Forest K D) → has same i f ≡ false → children same i (insert_among same o (tree i d c empty) f) ≡ c
  children-among i d c None empty h = rw (reflexive i) refl
  children-among i d c None (tree k e below rest) h =
      let s : (same i k ≡ false) × ((has same i below || has same i rest) ≡ false) = either (same i k) (has same i below || has same i rest) h in
      let t : (has same i below ≡ false) × (has same i rest ≡ false) = either (has same i below) (has same i rest) s.1 in
      rw (s.0, no_children same sound reflexive i below t.0) (children-among i d c None rest t.1)
  children-among i d c (Some j) empty h = rw (reflexive i) refl
  children-among i d c (Some j) (tree k e below rest) h =
      let s : (same i k ≡ false) × ((has same i below || has same i rest) ≡ false) = either (same i k) (has same i below || has same i rest) h in
      let t : (has same i below ≡ false) × (has same i rest ≡ false) = either (has same i below) (has same i rest) s.1 in
      elim (cases (same j k)) [
        | inl u ↦ rw u (rw (reflexive i) refl)
        | inr u ↦ rw u (rw (s.0, no_children same sound reflexive i below t.0) (children-among i d c (Some j) rest t.1))
      ]

  -- what is below it
  pub children-put : (i p : K) (d : D) (c : Forest K D) (o : Option K) (f : Forest K D) → IsApart same f → has same p f ≡ true → has same i f ≡ false
      → children same i (put same p o (tree i d c empty) f) ≡ c
  children-put i p d c o empty a m h = absurd (never false m refl)
  children-put i p d c o (tree k e below rest) a m h =
      let s : (same i k ≡ false) × ((has same i below || has same i rest) ≡ false) = either (same i k) (has same i below || has same i rest) h in
      let t : (has same i below ≡ false) × (has same i rest ≡ false) = either (has same i below) (has same i rest) s.1 in
      elim (cases (same p k)) [
        | inl u ↦ rw u (rw (s.0, no_children same sound reflexive i rest t.1, children-among i d c o below t.0) (join-empty c))
        | inr u ↦ elim (cases (has same p below)) [
          | inl v ↦ rw (u, no_put same p o (tree i d c empty) rest (a.2 p v)) (rw (s.0, no_children same sound reflexive i rest t.1, children-put i p d c o below a.3 v t.0) (join-empty c))
          | inr v ↦ rw (u, no_put same p o (tree i d c empty) below v) (rw (s.0, no_children same sound reflexive i below t.0) (children-put i p d c o rest a.4 (rw (u, v) at m) t.1))
        ]
      ]

  -- ---- children of other boxes

  children-beyond : (q : K) (b f : Forest K D) → has same q b ≡ false → children same q (b ▷ f) ≡ children same q f
  children-beyond q empty f h = refl
  children-beyond q (tree k e below rest) f h =
      let s : (same q k ≡ false) × ((has same q below || has same q rest) ≡ false) = either (same q k) (has same q below || has same q rest) h in
      let t : (has same q below ≡ false) × (has same q rest ≡ false) = either (has same q below) (has same q rest) s.1 in
      rw (s.0, no_children same sound reflexive q below t.0) (children-beyond q rest f t.1)

  child-among : (x q : K) (o : Option K) (b f : Forest K D) → has same q b ≡ false → is_among same x (children same q f) ≡ true → is_among same x (children same q (insert_among same o b f)) ≡ true
  child-among x q None b empty n h = absurd (never false h refl)
  child-among x q None b (tree k e below rest) n h =
      elim (cases (same q k)) [
        | inl u ↦ rw u (rw u at h)
        | inr u ↦ rw u (among-join same x (children same q below) (children same q (rest ▷ b)) ∙ elim (which (is_among same x (children same q below)) (is_among same x (children same q rest))
            (sym (among-join same x (children same q below) (children same q rest)) ∙ (rw u at h))) [
              | inl v ↦ from_left (is_among same x (children same q below)) (is_among same x (children same q (rest ▷ b))) v
              | inr v ↦ from_right (is_among same x (children same q below)) (is_among same x (children same q (rest ▷ b))) (child-among x q None b rest n v)
            ])
      ]
  child-among x q (Some j) b empty n h = absurd (never false h refl)
  child-among x q (Some j) b (tree k e below rest) n h =
      elim (cases (same j k)) [
        | inl w ↦ rw w (ap (is_among same x) (children-beyond q b (tree k e below rest) n) ∙ h)
        | inr w ↦ rw w (elim (cases (same q k)) [
          | inl u ↦ rw u (rw u at h)
          | inr u ↦ rw u (among-join same x (children same q below) (children same q (insert_before same j b rest)) ∙ elim (which (is_among same x (children same q below)) (is_among same x (children same q rest))
              (sym (among-join same x (children same q below) (children same q rest)) ∙ (rw u at h))) [
                | inl v ↦ from_left (is_among same x (children same q below)) (is_among same x (children same q (insert_before same j b rest))) v
                | inr v ↦ from_right (is_among same x (children same q below)) (is_among same x (children same q (insert_before same j b rest))) (child-among x q (Some j) b rest n v)
              ])
        ])
      ]

  -- a child of a box stays one
  pub child-put : (x q p : K) (o : Option K) (b f : Forest K D) → has same q b ≡ false → is_among same x (children same q f) ≡ true → is_among same x (children same q (put same p o b f)) ≡ true
  child-put x q p o b empty n h = absurd (never false h refl)
  child-put x q p o b (tree k e below rest) n h =
      elim (cases (same p k)) [
        | inl w ↦ rw w (elim (cases (same q k)) [
          | inl u ↦ rw u (among-among same x o b below (rw u at h))
          | inr u ↦ rw u (among-join same x (children same q (insert_among same o b below)) (children same q rest) ∙ elim (which (is_among same x (children same q below)) (is_among same x (children same q rest))
              (sym (among-join same x (children same q below) (children same q rest)) ∙ (rw u at h))) [
                | inl v ↦ from_left (is_among same x (children same q (insert_among same o b below))) (is_among same x (children same q rest)) (child-among x q o b below n v)
                | inr v ↦ from_right (is_among same x (children same q (insert_among same o b below))) (is_among same x (children same q rest)) v
              ])
        ])
        | inr w ↦ rw w (elim (cases (same q k)) [
          | inl u ↦ rw u (among-put same x p o b below ∙ (rw u at h))
          | inr u ↦ rw u (among-join same x (children same q (put same p o b below)) (children same q (put same p o b rest)) ∙ elim (which (is_among same x (children same q below)) (is_among same x (children same q rest))
              (sym (among-join same x (children same q below) (children same q rest)) ∙ (rw u at h))) [
                | inl v ↦ from_left (is_among same x (children same q (put same p o b below))) (is_among same x (children same q (put same p o b rest))) (child-put x q p o b below n v)
                | inr v ↦ from_right (is_among same x (children same q (put same p o b below))) (is_among same x (children same q (put same p o b rest))) (child-put x q p o b rest n v)
              ])
        ])
      ]
