-- A forest with siblings put among the children of one of its boxes.
use Rattle.std.proofs.Common.{◌≡◌, refl, ap, ◌∙◌, Bool, true, false, ◌||◌, cond, inl, inr}
use Rattle.std.specs.Prelude.{Option, Some, None}
use Rattle.rd_tree.specs.Forest.{Forest, empty, tree, ◌▷◌, has, insert_before, insert_among, is_among, without_branch}
use Rattle.rd_tree.proofs.Linking.Standing.{cases, never, either, from_left, from_right, join-empty, has-join}
use Rattle.rd_tree.proofs.Linking.Cutting.{no_without}
use Rattle.rd_tree.proofs.Forests.Under.{which}

module _ {K D : Type 0} (same : K → K → Bool) where
  -- with b among the children of p, before one of them or last
  abbrev pub put : K → Option K → Forest K D → Forest K D → Forest K D
  put p o b empty = empty
  put p o b (tree k d below rest) =
      cond (same p k) (tree k d (insert_among same o b below) rest) (tree k d (put p o b below) (put p o b rest))

-- ---- what holds of any test

join-assoc : {K D : Type 0} (f g h : Forest K D) → (f ▷ g) ▷ h ≡ f ▷ (g ▷ h)
join-assoc empty g h = refl
join-assoc (tree k d below rest) g h = ap (tree k d below) (join-assoc rest g h)

or_assoc : (a b c : Bool) → (a || (b || c)) ≡ ((a || b) || c)
or_assoc true b c = refl
or_assoc false b c = refl

or_swap : (a b c : Bool) → (a || (b || c)) ≡ (b || (a || c))
or_swap true true c = refl
or_swap true false c = refl
or_swap false b c = refl

or_false : (a : Bool) → (a || false) ≡ a
or_false true = refl
or_false false = refl

module _ {K D : Type 0} (same : K → K → Bool) where
  -- where p is not, nothing is put
  pub no_put : (p : K) (o : Option K) (b f : Forest K D) → has same p f ≡ false → put same p o b f ≡ f
  no_put p o b empty h = refl
  no_put p o b (tree k d below rest) h =
      let s : (same p k ≡ false) × ((has same p below || has same p rest) ≡ false) = either (same p k) (has same p below || has same p rest) h in
      let t : (has same p below ≡ false) × (has same p rest ≡ false) = either (has same p below) (has same p rest) s.1 in
      rw (s.0, no_put p o b below t.0, no_put p o b rest t.1) refl

  pub put_nothing : (p : K) (f : Forest K D) → put same p None empty f ≡ f
  put_nothing p empty = refl
  put_nothing p (tree k d below rest) =
      elim (cases (same p k)) [
        | inl e ↦ rw (e, join-empty below) refl
        | inr e ↦ rw (e, put_nothing p below, put_nothing p rest) refl
      ]

  -- what is put last after what was put last
  pub put_put : (p : K) (x y f : Forest K D) → put same p None y (put same p None x f) ≡ put same p None (x ▷ y) f
  put_put p x y empty = refl
  put_put p x y (tree k d below rest) =
      elim (cases (same p k)) [
        | inl e ↦ rw e (rw e (ap (λ z. tree k d z rest) (join-assoc below x y)))
        | inr e ↦ rw e (rw (e, put_put p x y below, put_put p x y rest) refl)
      ]

  -- ---- among siblings

  pub among-join : (x : K) (f g : Forest K D) → is_among same x (f ▷ g) ≡ (is_among same x f || is_among same x g)
  among-join x empty g = refl
  among-join x (tree k d below rest) g = ap (λ z. same x k || z) (among-join x rest g) ∙ or_assoc (same x k) (is_among same x rest) (is_among same x g)

  -- a sibling stays one
  among-before : (x j : K) (b f : Forest K D) → is_among same x f ≡ true → is_among same x (insert_before same j b f) ≡ true
  among-before x j b empty h = absurd (never false h refl)
  among-before x j b (tree k d below rest) h =
      elim (cases (same j k)) [
        | inl e ↦ rw e (among-join x b (tree k d below rest) ∙ from_right (is_among same x b) (is_among same x (tree k d below rest)) h)
        | inr e ↦ rw e (elim (which (same x k) (is_among same x rest) h) [
          | inl u ↦ from_left (same x k) (is_among same x (insert_before same j b rest)) u
          | inr u ↦ from_right (same x k) (is_among same x (insert_before same j b rest)) (among-before x j b rest u)
        ])
      ]

  pub among-among : (x : K) (o : Option K) (b f : Forest K D) → is_among same x f ≡ true → is_among same x (insert_among same o b f) ≡ true
  among-among x None b f h = among-join x f b ∙ from_left (is_among same x f) (is_among same x b) h
  among-among x (Some j) b f h = among-before x j b f h

  -- the first ones stay
  pub among-put : (x p : K) (o : Option K) (b f : Forest K D) → is_among same x (put same p o b f) ≡ is_among same x f
  among-put x p o b empty = refl
  among-put x p o b (tree k d below rest) =
      elim (cases (same p k)) [
        | inl e ↦ rw e refl
        | inr e ↦ rw (e, among-put x p o b rest) refl
      ]

  -- one of some siblings is there
  pub among_has : (x : K) (f : Forest K D) → is_among same x f ≡ true → has same x f ≡ true
  among_has x empty h = h
  among_has x (tree k d below rest) h =
      elim (which (same x k) (is_among same x rest) h) [
        | inl u ↦ from_left (same x k) (has same x below || has same x rest) u
        | inr u ↦ from_right (same x k) (has same x below || has same x rest) (from_right (has same x below) (has same x rest) (among_has x rest u))
      ]

module _ {K D : Type 0} (same : K → K → Bool) (sound : (a b : K) → same a b ≡ true → a ≡ b) (reflexive : (a : K) → same a a ≡ true) where
  -- ---- what is there

  has-before : (x j : K) (b f : Forest K D) → has same x (insert_before same j b f) ≡ (has same x f || has same x b)
  has-before x j b empty = refl
  has-before x j b (tree k d below rest) =
      elim (cases (same j k)) [
        | inl e ↦ rw e (has-join same sound reflexive x b (tree k d below rest) ∙ or_turn (has same x b) (has same x (tree k d below rest)))
        | inr e ↦ rw (e, has-before x j b rest) (last_beside (same x k) (has same x below) (has same x rest) (has same x b))
      ] where
        or_turn : (a b : Bool) → (a || b) ≡ (b || a)
        or_turn true true = refl
        or_turn true false = refl
        or_turn false true = refl
        or_turn false false = refl

        last_beside : (a b r n : Bool) → (a || (b || (r || n))) ≡ ((a || (b || r)) || n)
        last_beside true b r n = refl
        last_beside false true r n = refl
        last_beside false false r n = refl

  pub has-among : (x : K) (o : Option K) (b f : Forest K D) → has same x (insert_among same o b f) ≡ (has same x f || has same x b)
  has-among x None b f = has-join same sound reflexive x f b
  has-among x (Some j) b f = has-before x j b f

  -- what was there, and what is put
  pub has-put : (x p : K) (o : Option K) (b f : Forest K D) → has same p f ≡ true → has same x (put same p o b f) ≡ (has same x f || has same x b)
  has-put x p o b empty m = absurd (never false m refl)
  has-put x p o b (tree k d below rest) m =
      elim (cases (same p k)) [
        | inl e ↦ rw (e, has-among x o b below) (amid (same x k) (has same x below) (has same x rest) (has same x b))
        | inr e ↦ elim (cases (has same p below)) [
          | inl u ↦ elim (cases (has same p rest)) [
            | inl v ↦ rw (e, has-put x p o b below u, has-put x p o b rest v) (twice (same x k) (has same x below) (has same x rest) (has same x b))
            | inr v ↦ rw (e, has-put x p o b below u, no_put same p o b rest v) (amid (same x k) (has same x below) (has same x rest) (has same x b))
          ]
          | inr u ↦ rw (e, no_put same p o b below u, has-put x p o b rest (rw (e, u) at m)) (last (same x k) (has same x below) (has same x rest) (has same x b))
        ]
      ] where
        amid : (a b r n : Bool) → (a || ((b || n) || r)) ≡ ((a || (b || r)) || n)
        amid true b r n = refl
        amid false true r n = refl
        amid false false r true = elim r as (λ v. true ≡ (v || true)) [ true ↦ refl | false ↦ refl ]
        amid false false r false = elim r as (λ v. v ≡ (v || false)) [ true ↦ refl | false ↦ refl ]

        last : (a b r n : Bool) → (a || (b || (r || n))) ≡ ((a || (b || r)) || n)
        last true b r n = refl
        last false true r n = refl
        last false false r n = refl

        twice : (a b r n : Bool) → (a || ((b || n) || (r || n))) ≡ ((a || (b || r)) || n)
        twice true b r n = refl
        twice false true r n = refl
        twice false false r true = elim r as (λ v. true ≡ (v || true)) [ true ↦ refl | false ↦ refl ]
        twice false false r false = refl

  -- what is not in what is put
  pub has-put_other : (x p : K) (o : Option K) (b f : Forest K D) → has same x b ≡ false → has same x (put same p o b f) ≡ has same x f
  has-put_other x p o b f n =
      elim (cases (has same p f)) [
        | inl u ↦ has-put x p o b f u ∙ rw n (or_false (has same x f))
        | inr u ↦ ap (has same x) (no_put same p o b f u)
      ]

  -- ---- the new branch

  without-among : (i : K) (d : D) (c : Forest K D) (o : Option K) (f : Forest K D) → has same i f ≡ false → without_branch same i (insert_among same o (tree i d c empty) f) ≡ f
  without-among i d c None empty h = rw (reflexive i) refl
  without-among i d c None (tree k e below rest) h =
      let s : (same i k ≡ false) × ((has same i below || has same i rest) ≡ false) = either (same i k) (has same i below || has same i rest) h in
      let t : (has same i below ≡ false) × (has same i rest ≡ false) = either (has same i below) (has same i rest) s.1 in
      rw (s.0, no_without same sound reflexive i below t.0) (ap (tree k e below) (without-among i d c None rest t.1))
  without-among i d c (Some j) empty h = rw (reflexive i) refl
  without-among i d c (Some j) (tree k e below rest) h =
      let s : (same i k ≡ false) × ((has same i below || has same i rest) ≡ false) = either (same i k) (has same i below || has same i rest) h in
      let t : (has same i below ≡ false) × (has same i rest ≡ false) = either (has same i below) (has same i rest) s.1 in
      elim (cases (same j k)) [
        | inl u ↦ rw u (rw (reflexive i) refl)
        | inr u ↦ rw u (rw (s.0, no_without same sound reflexive i below t.0) (ap (tree k e below) (without-among i d c (Some j) rest t.1)))
      ]

  -- A branch that is put is taken away again.
  pub without-put : (i p : K) (d : D) (c : Forest K D) (o : Option K) (f : Forest K D) → has same i f ≡ false → without_branch same i (put same p o (tree i d c empty) f) ≡ f
  without-put i p d c o empty h = refl
  without-put i p d c o (tree k e below rest) h =
      let s : (same i k ≡ false) × ((has same i below || has same i rest) ≡ false) = either (same i k) (has same i below || has same i rest) h in
      let t : (has same i below ≡ false) × (has same i rest ≡ false) = either (has same i below) (has same i rest) s.1 in
      elim (cases (same p k)) [
        | inl u ↦ rw u (rw (s.0, without-among i d c o below t.0, no_without same sound reflexive i rest t.1) refl)
        | inr u ↦ rw u (rw (s.0, without-put i p d c o below t.0, without-put i p d c o rest t.1) refl)
      ]
