-- A branch put back at its place, depths, and children that come one after another.
use Rattle.std.proofs.Common.{◌≡◌, refl, ap, ◌∙◌, sym, subst, ◌+◌, ◌≤◌, max, Bool, true, false, ◌||◌, arith, inl, inr}
use Rattle.std.specs.Prelude.{Option, Some, None}
use Rattle.rd_tree.specs.Forest.{Forest, empty, tree, ◌▷◌, height, depth, has, head, starting_at, without_siblings, insert_before, insert_among, is_among, without_branch, branch, IsApart}
use Rattle.rd_tree.specs.Places.{after_first, parent_of, next_of}
use Rattle.rd_tree.proofs.Linking.Standing.{cases, never, either, from_left, from_right, differs, apart_back}
use Rattle.rd_tree.proofs.Linking.Cutting.{no_without}
use Rattle.rd_undo.proofs.Put.{put, no_put, has-among, has-put_other, among_has}
use Rattle.rd_undo.proofs.Putting.{there-put}

module _ {K D : Type 0} (same : K → K → Bool) (sound : (a b : K) → same a b ≡ true → a ≡ b) (reflexive : (a : K) → same a a ≡ true) where
  -- ---- the place of a box

  in-below : (j k : K) (below rest : Forest K D) → has same j below ≡ true → (same j k || (has same j below || has same j rest)) ≡ true
  in-below j k below rest h = from_right (same j k) (has same j below || has same j rest) (from_left (has same j below) (has same j rest) h)

  in-rest : (j k : K) (below rest : Forest K D) → has same j rest ≡ true → (same j k || (has same j below || has same j rest)) ≡ true
  in-rest j k below rest h = from_right (same j k) (has same j below || has same j rest) (from_right (has same j below) (has same j rest) h)

  -- a parent is there, and its child
  pub record Kin (i p : K) (f : Forest K D) : Type 0 where
    pub parent : has same p f ≡ true
    pub child : has same i f ≡ true

  pub kin : (i p : K) (f : Forest K D) → parent_of same i f ≡ Some p → Kin i p f
  kin i p empty h = cc
  kin i p (tree k d below rest) h =
      elim (cases (is_among same i below)) [
        | inl u ↦
            let e : Some k ≡ Some p = rw u at h in
            let n : k ≡ p = cc (e) in
            record {
              parent = subst (λ z. (same z k || (has same z below || has same z rest)) ≡ true) n (from_left (same k k) (has same k below || has same k rest) (reflexive k));
              child = in-below i k below rest (among_has same i below u);
            }
        | inr u ↦ elim (cases (has same i below)) [
          | inl v ↦ let w : Kin i p below = kin i p below (rw (u, v) at h) in record { parent = in-below p k below rest w.parent; child = in-below i k below rest w.child }
          | inr v ↦ let w : Kin i p rest = kin i p rest (rw (u, v) at h) in record { parent = in-rest p k below rest w.parent; child = in-rest i k below rest w.child }
        ]
      ]

  parent-here : (i k : K) (d : D) (below rest : Forest K D) → is_among same i below ≡ true → parent_of same i (tree k d below rest) ≡ Some k
  parent-here i k d below rest u = rw u refl

  parent-below : (i k : K) (d : D) (below rest : Forest K D) → is_among same i below ≡ false → has same i below ≡ true → parent_of same i (tree k d below rest) ≡ parent_of same i below
  parent-below i k d below rest u v = rw (u, v) refl

  parent-beside : (i k : K) (d : D) (below rest : Forest K D) → is_among same i below ≡ false → has same i below ≡ false → parent_of same i (tree k d below rest) ≡ parent_of same i rest
  parent-beside i k d below rest u v = rw (u, v) refl

  there-beside : (i k : K) (d : D) (below rest : Forest K D) → same i k ≡ false → has same i below ≡ false → has same i (tree k d below rest) ≡ true → has same i rest ≡ true
  there-beside i k d below rest n v m = rw (n, v) at m

  -- Each box but the first ones has a parent.
  pub has_parent : (i : K) (f : Forest K D) → has same i f ≡ true → is_among same i f ≡ false → (p : K) × (parent_of same i f ≡ Some p)
  has_parent i empty m n = absurd (never false m refl)
  has_parent i (tree k d below rest) m n =
      let s : (same i k ≡ false) × (is_among same i rest ≡ false) = either (same i k) (is_among same i rest) n in
      elim (cases (is_among same i below)) [
        | inl u ↦ (k, parent-here i k d below rest u)
        | inr u ↦ elim (cases (has same i below)) [
          | inl v ↦ let w : (p : K) × (parent_of same i below ≡ Some p) = has_parent i below v u in (w.0, parent-below i k d below rest u v ∙ w.1)
          | inr v ↦
              let w : (p : K) × (parent_of same i rest ≡ Some p) = has_parent i rest (there-beside i k d below rest s.0 v m) s.1 in
              (w.0, parent-beside i k d below rest u v ∙ w.1)
        ]
      ]

  -- the next sibling is one of them
  pub next_among : (i x : K) (f : Forest K D) → IsApart same f → is_among same i f ≡ true → next_of same i f ≡ Some x → is_among same x f ≡ true
  next_among i x empty a m h = absurd (never false m refl)
  next_among i x (tree k d below rest) a m h =
      elim (cases (same i k)) [
        | inl u ↦ from_right (same x k) (is_among same x rest) (first rest (rw u at h))
        | inr u ↦
            let v : is_among same i rest ≡ true = rw u at m in
            let w : has same i below ≡ false = apart_back same sound reflexive below rest a.2 i (among_has same i rest v) in
            from_right (same x k) (is_among same x rest) (next_among i x rest a.4 v (rw (u, w) at h))
      ]
    where
      first : (f : Forest K D) → head f ≡ Some x → is_among same x f ≡ true
      first empty h = cc
      first (tree j e low later) h =
          let n : j ≡ x = cc (h) in
          from_left (same x j) (is_among same x later) (subst (λ z. same x z ≡ true) (sym n) (reflexive x))

  before-first : (k : K) (d : D) (below rest : Forest K D) → insert_among same (head rest) (tree k d below empty) rest ≡ tree k d below rest
  before-first k d below empty = refl
  before-first k d below (tree j e low later) = rw (reflexive j) refl

  skip : (o : Option K) (m : K) (d : D) (b low w : Forest K D) → ((x : K) → o ≡ Some x → same x m ≡ false) → insert_among same o b (tree m d low w) ≡ tree m d low (insert_among same o b w)
  skip None m d b low w h = refl
  skip (Some x) m d b low w h = rw (h x refl) refl

  restore-among : (i : K) (f : Forest K D) → IsApart same f → is_among same i f ≡ true → insert_among same (next_of same i f) (branch same i f) (without_branch same i f) ≡ f
  restore-among i empty a m = absurd (never false m refl)
  restore-among i (tree k d below rest) a m =
      elim (cases (same i k)) [
        | inl u ↦ rw u (before-first k d below rest)
        | inr u ↦
            let v : is_among same i rest ≡ true = rw u at m in
            let w : has same i below ≡ false = apart_back same sound reflexive below rest a.2 i (among_has same i rest v) in
            rw (u, w, no_without same sound reflexive i below w) (skip (next_of same i rest) k d (branch same i rest) below (without_branch same i rest)
            (λ x e. differs same sound reflexive rest x k (among_has same x rest (next_among i x rest a.4 v e)) a.1) ∙ ap (tree k d below) (restore-among i rest a.4 v))
      ]

  put-below : (p k : K) (d : D) (o : Option K) (b low rest : Forest K D) → same p k ≡ false → has same p rest ≡ false → put same p o b (tree k d low rest) ≡ tree k d (put same p o b low) rest
  put-below p k d o b low rest n v = rw (n, no_put same p o b rest v) refl

  put-beside : (p k : K) (d : D) (o : Option K) (b low rest : Forest K D) → same p k ≡ false → has same p low ≡ false → put same p o b (tree k d low rest) ≡ tree k d low (put same p o b rest)
  put-beside p k d o b low rest n v = rw (n, no_put same p o b low v) refl

  from-below : (i k : K) (d : D) (below rest : Forest K D) → same i k ≡ false → has same i below ≡ true → starting_at same i (tree k d below rest) ≡ starting_at same i below
  from-below i k d below rest n v = rw (n, v) refl

  from-beside : (i k : K) (d : D) (below rest : Forest K D) → same i k ≡ false → has same i below ≡ false → starting_at same i (tree k d below rest) ≡ starting_at same i rest
  from-beside i k d below rest n v = rw (n, v) refl

  left-below : (i k : K) (d : D) (below rest : Forest K D) → same i k ≡ false → has same i rest ≡ false → without_branch same i (tree k d below rest) ≡ tree k d (without_branch same i below) rest
  left-below i k d below rest n v = rw (n, no_without same sound reflexive i rest v) refl

  left-beside : (i k : K) (d : D) (below rest : Forest K D) → same i k ≡ false → has same i below ≡ false → without_branch same i (tree k d below rest) ≡ tree k d below (without_branch same i rest)
  left-beside i k d below rest n v = rw (n, no_without same sound reflexive i below v) refl

  -- what is put back, by where the branch begins and what is left
  abbrev back : K → Forest K D → Forest K D → Forest K D
  back p s w = put same p (head (after_first s)) (without_siblings s) w

  -- A branch that is put back where it stood.
  pub restore : (i p : K) (f : Forest K D) → IsApart same f → parent_of same i f ≡ Some p → put same p (next_of same i f) (branch same i f) (without_branch same i f) ≡ f
  restore i p empty a h = cc
  restore i p (tree k d below rest) a h =
      elim (cases (is_among same i below)) [
        | inl u ↦
            let e : Some k ≡ Some p = rw u at h in
            let n : k ≡ p = cc (e) in
            let v : has same i below ≡ true = among_has same i below u in
            let ik : same i k ≡ false = differs same sound reflexive below i k v a.0 in
            let pk : same p k ≡ true = subst (λ z. same z k ≡ true) n (reflexive k) in
            rw (ik, v, no_without same sound reflexive i rest (a.2 i v)) (rw pk (ap (λ z. tree k d z rest) (restore-among i below a.3 u)))
        | inr u ↦ elim (cases (has same i below)) [
          | inl v ↦
              let g : parent_of same i below ≡ Some p = rw (u, v) at h in
              let w : Kin i p below = kin i p below g in
              let ik : same i k ≡ false = differs same sound reflexive below i k v a.0 in
              let pk : same p k ≡ false = differs same sound reflexive below p k w.parent a.0 in
              let pr : has same p rest ≡ false = a.2 p w.parent in
              ap (λ z. back p z (without_branch same i (tree k d below rest))) (from-below i k d below rest ik v)
              ∙ (ap (back p (starting_at same i below)) (left-below i k d below rest ik (a.2 i v))
              ∙ (put-below p k d (next_of same i below) (branch same i below) (without_branch same i below) rest pk pr ∙ ap (λ z. tree k d z rest) (restore i p below a.3 g)))
          | inr v ↦
              let g : parent_of same i rest ≡ Some p = rw (u, v) at h in
              let w : Kin i p rest = kin i p rest g in
              let ik : same i k ≡ false = differs same sound reflexive rest i k w.child a.1 in
              let pk : same p k ≡ false = differs same sound reflexive rest p k w.parent a.1 in
              let pb : has same p below ≡ false = apart_back same sound reflexive below rest a.2 p w.parent in
              ap (λ z. back p z (without_branch same i (tree k d below rest))) (from-beside i k d below rest ik v)
              ∙ (ap (back p (starting_at same i rest)) (left-beside i k d below rest ik v)
              ∙ (put-beside p k d (next_of same i rest) (branch same i rest) below (without_branch same i rest) pk pb ∙ ap (tree k d below) (restore i p rest a.4 g)))
        ]
      ]

  -- ---- depths

  depth-beyond : (q : K) (b f : Forest K D) → has same q b ≡ false → depth same q (b ▷ f) ≡ depth same q f
  depth-beyond q empty f h = refl
  depth-beyond q (tree k e below rest) f h =
      let s : (same q k ≡ false) × ((has same q below || has same q rest) ≡ false) = either (same q k) (has same q below || has same q rest) h in
      let t : (has same q below ≡ false) × (has same q rest ≡ false) = either (has same q below) (has same q rest) s.1 in
      rw (s.0, t.0) (depth-beyond q rest f t.1)

  depth-among : (q : K) (o : Option K) (b f : Forest K D) → has same q f ≡ true → has same q b ≡ false → depth same q (insert_among same o b f) ≡ depth same q f
  depth-among q None b empty m n = absurd (never false m refl)
  depth-among q None b (tree k e below rest) m n =
      elim (cases (same q k)) [
        | inl u ↦ rw u refl
        | inr u ↦ elim (cases (has same q below)) [ inl v ↦ rw (u, v) refl | inr v ↦ rw (u, v) (depth-among q None b rest (rw (u, v) at m) n) ]
      ]
  depth-among q (Some j) b empty m n = absurd (never false m refl)
  depth-among q (Some j) b (tree k e below rest) m n =
      elim (cases (same j k)) [
        | inl w ↦ rw w (depth-beyond q b (tree k e below rest) n)
        | inr w ↦ rw w (elim (cases (same q k)) [
          | inl u ↦ rw u refl
          | inr u ↦ elim (cases (has same q below)) [ inl v ↦ rw (u, v) refl | inr v ↦ rw (u, v) (depth-among q (Some j) b rest (rw (u, v) at m) n) ]
        ])
      ]

  -- what was there is as deep as before
  pub depth-put : (q p : K) (o : Option K) (b f : Forest K D) → has same q f ≡ true → has same q b ≡ false → depth same q (put same p o b f) ≡ depth same q f
  depth-put q p o b empty m n = refl
  depth-put q p o b (tree k e below rest) m n =
      elim (cases (same p k)) [
        | inl w ↦
            let t : has same q (insert_among same o b below) ≡ has same q below = has-among same sound reflexive q o b below ∙ rw n (plain (has same q below)) in
            rw w (elim (cases (same q k)) [
              | inl u ↦ rw u refl
              | inr u ↦ elim (cases (has same q below)) [
                | inl v ↦ rw (u, t, v) (ap (λ z. 1 + z) (depth-among q o b below v n))
                | inr v ↦ rw (u, t, v) refl
              ]
            ])
        | inr w ↦
            let t : has same q (put same p o b below) ≡ has same q below = has-put_other same sound reflexive q p o b below n in
            rw w (elim (cases (same q k)) [
              | inl u ↦ rw u refl
              | inr u ↦ elim (cases (has same q below)) [
                | inl v ↦ rw (u, t, v) (ap (λ z. 1 + z) (depth-put q p o b below v n))
                | inr v ↦ rw (u, t, v) (depth-put q p o b rest (rw (u, v) at m) n)
              ]
            ])
      ] where
        plain : (a : Bool) → (a || false) ≡ a
        plain true = refl
        plain false = refl

  depth-one : (i : K) (d : D) (c : Forest K D) (o : Option K) (f : Forest K D) → has same i f ≡ false → depth same i (insert_among same o (tree i d c empty) f) ≡ 1
  depth-one i d c None empty h = rw (reflexive i) refl
  depth-one i d c None (tree k e below rest) h =
      let s : (same i k ≡ false) × ((has same i below || has same i rest) ≡ false) = either (same i k) (has same i below || has same i rest) h in
      let t : (has same i below ≡ false) × (has same i rest ≡ false) = either (has same i below) (has same i rest) s.1 in
      rw (s.0, t.0) (depth-one i d c None rest t.1)
  depth-one i d c (Some j) empty h = rw (reflexive i) refl
  depth-one i d c (Some j) (tree k e below rest) h =
      let s : (same i k ≡ false) × ((has same i below || has same i rest) ≡ false) = either (same i k) (has same i below || has same i rest) h in
      let t : (has same i below ≡ false) × (has same i rest ≡ false) = either (has same i below) (has same i rest) s.1 in
      elim (cases (same j k)) [
        | inl u ↦ rw u (rw (reflexive i) refl)
        | inr u ↦ rw u (rw (s.0, t.0) (depth-one i d c (Some j) rest t.1))
      ]

  -- the new box is one deeper than its parent
  pub depth-new : (i p : K) (d : D) (c : Forest K D) (o : Option K) (f : Forest K D) → has same p f ≡ true → has same i f ≡ false → depth same i (put same p o (tree i d c empty) f) ≡ 1 + depth same p f
  depth-new i p d c o empty m h = absurd (never false m refl)
  depth-new i p d c o (tree k e below rest) m h =
      let s : (same i k ≡ false) × ((has same i below || has same i rest) ≡ false) = either (same i k) (has same i below || has same i rest) h in
      let t : (has same i below ≡ false) × (has same i rest ≡ false) = either (has same i below) (has same i rest) s.1 in
      elim (cases (same p k)) [
        | inl u ↦
            let there : has same i (insert_among same o (tree i d c empty) below) ≡ true = has-among same sound reflexive i o (tree i d c empty) below
            ∙ from_right (has same i below) (same i i || (has same i c || false)) (from_left (same i i) (has same i c || false) (reflexive i)) in
            rw u (rw (s.0, there, depth-one i d c o below t.0) refl)
        | inr u ↦ elim (cases (has same p below)) [
          | inl v ↦ rw (u, v) (rw (s.0, there-put same sound reflexive i p d c o below v, depth-new i p d c o below v t.0) refl)
          | inr v ↦ rw (u, v, no_put same p o (tree i d c empty) below v) (rw (s.0, t.0) (depth-new i p d c o rest (rw (u, v) at m) t.1))
        ]
      ]

  height-join : (f g : Forest K D) → height (f ▷ g) ≡ max (height f) (height g)
  height-join empty g = omega arith
  height-join (tree k d below rest) g = let r : height (rest ▷ g) ≡ max (height rest) (height g) = height-join rest g in omega (arith, r)

  height-among : (o : Option K) (b f : Forest K D) → height b ≤ height (insert_among same o b f)
  height-among None b f = let h : height (f ▷ b) ≡ max (height f) (height b) = height-join f b in omega (arith, h)
  height-among (Some j) b empty = omega arith
  height-among (Some j) b (tree k d below rest) =
      elim (cases (same j k)) [
        | inl e ↦ let h : height (b ▷ tree k d below rest) ≡ max (height b) (height (tree k d below rest)) = height-join b (tree k d below rest) in rw e (omega (arith, h))
        | inr e ↦ let h : height b ≤ height (insert_before same j b rest) = height-among (Some j) b rest in rw e (omega (arith, h))
      ]

  -- There are as many levels as what is put has, below its parent.
  pub height-put : (p : K) (o : Option K) (b f : Forest K D) → has same p f ≡ true → depth same p f + height b ≤ height (put same p o b f)
  height-put p o b empty m = absurd (never false m refl)
  height-put p o b (tree k d below rest) m =
      elim (cases (same p k)) [
        | inl e ↦ let h : height b ≤ height (insert_among same o b below) = height-among o b below in rw e (omega (arith, h))
        | inr e ↦ elim (cases (has same p below)) [
          | inl u ↦ let h : depth same p below + height b ≤ height (put same p o b below) = height-put p o b below u in rw (e, u) (omega (arith, h))
          | inr u ↦ let h : depth same p rest + height b ≤ height (put same p o b rest) = height-put p o b rest (rw (e, u) at m) in rw (e, u) (omega (arith, h))
        ]
      ]

  -- ---- a box that is filled

  fill-among : (i : K) (d : D) (low : Forest K D) (o : Option K) (f : Forest K D) → has same i f ≡ false
      → put same i None low (insert_among same o (tree i d empty empty) f) ≡ insert_among same o (tree i d low empty) f
  fill-among i d low None empty h = rw (reflexive i) refl
  fill-among i d low None (tree k e below rest) h =
      let s : (same i k ≡ false) × ((has same i below || has same i rest) ≡ false) = either (same i k) (has same i below || has same i rest) h in
      let t : (has same i below ≡ false) × (has same i rest ≡ false) = either (has same i below) (has same i rest) s.1 in
      rw (s.0, no_put same i None low below t.0) (ap (tree k e below) (fill-among i d low None rest t.1))
  fill-among i d low (Some j) empty h = rw (reflexive i) refl
  fill-among i d low (Some j) (tree k e below rest) h =
      let s : (same i k ≡ false) × ((has same i below || has same i rest) ≡ false) = either (same i k) (has same i below || has same i rest) h in
      let t : (has same i below ≡ false) × (has same i rest ≡ false) = either (has same i below) (has same i rest) s.1 in
      elim (cases (same j k)) [
        | inl u ↦ rw u (rw (reflexive i) refl)
        | inr u ↦ rw u (rw (s.0, no_put same i None low below t.0) (ap (tree k e below) (fill-among i d low (Some j) rest t.1)))
      ]

  -- A box that is put alone and then given its children is put with them.
  pub fill : (i p : K) (d : D) (low : Forest K D) (o : Option K) (f : Forest K D) → has same i f ≡ false
      → put same i None low (put same p o (tree i d empty empty) f) ≡ put same p o (tree i d low empty) f
  fill i p d low o empty h = refl
  fill i p d low o (tree k e below rest) h =
      let s : (same i k ≡ false) × ((has same i below || has same i rest) ≡ false) = either (same i k) (has same i below || has same i rest) h in
      let t : (has same i below ≡ false) × (has same i rest ≡ false) = either (has same i below) (has same i rest) s.1 in
      elim (cases (same p k)) [
        | inl u ↦ rw u (rw (s.0, fill-among i d low o below t.0, no_put same i None low rest t.1) refl)
        | inr u ↦ rw u (rw (s.0, fill i p d low o below t.0, fill i p d low o rest t.1) refl)
      ]
