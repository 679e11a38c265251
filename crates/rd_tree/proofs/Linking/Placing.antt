-- A new box at a place among the children of another.
use Rattle.std.proofs.Common.{◌≡◌, refl, ap, ◌∙◌, sym, subst, ◌+◌, Bool, true, false, ◌||◌, arith, inl, inr}
use Rattle.std.specs.Prelude.{Option, Some, None}
use Rattle.rd_tree.specs.Forest.{Forest, empty, tree, size, ◌▷◌, has, children, with_children, is_among, insert_before, insert_among, IsPlaceIn, AreApart, IsApart}
use Rattle.rd_tree.specs.Internal.Links.{Node, node, Stands, put, grafted, prev_of, left_of}
use Rattle.rd_tree.proofs.Linking.Standing.{cases, never, either, from_left, from_right, frame, split, agree_put, join-empty, has-join, out_of_children, differs, differs_back, apart_back}
use Rattle.rd_tree.proofs.Forests.Under.{which, size-join, apart_join}
use Rattle.rd_tree.proofs.Linking.Cutting.{Among, apart_left, apart_right, apart_between}
use Rattle.rd_tree.proofs.Linking.Grafting.{stands_grafted}

module _ {K D : Type 0} (same : K → K → Bool) (sound : (a b : K) → same a b ≡ true → a ≡ b) (reflexive : (a : K) → same a a ≡ true) where
  pub among_of : (b : K) (f : Forest K D) → is_among same b f ≡ true → Among b f
  among_of b empty h = absurd (never false h refl)
  among_of b (tree k d below rest) h =
      elim (cases (same b k)) [
        | inl e ↦ record {
          item = d;
          before = empty;
          below = below;
          after = rest;
          is = subst (λ i. tree k d below rest ≡ tree i d below rest) (sym
              (sound b k e)) refl;
        }
        | inr e ↦
            let w : Among b rest = among_of b rest (rw e at h) in
            record { item = w.item; before = tree k d below w.before; below = w.below; after = w.after; is = ap (tree k d below) w.is }
      ]

  pub insert_before-among : (b : K) (d : D) (g xs below ys : Forest K D) → IsApart same (xs ▷ tree b d below ys) → insert_before same b g (xs ▷ tree b d
      below ys) ≡ xs ▷ (g ▷ tree b d below ys)
  insert_before-among b d g empty below ys a = rw (reflexive b) refl
  insert_before-among b d g (tree k e low rest) below ys a =
      let b_in : has same b (rest ▷ tree b d below ys) ≡ true = has-join same sound reflexive b rest (tree b d below ys) ∙ from_right (has same b rest)
      (has same b (tree b d below ys)) (from_left (same b b) (has same b below || has same b ys) (reflexive b)) in
      let n : same b k ≡ false = differs same sound reflexive (rest ▷ tree b d below ys) b k b_in a.1 in
      rw n (ap (tree k e low) (insert_before-among b d g rest below ys a.4))

  -- A place among the children of p, right of v.
  pub record Gap (at : K → Option (Node K D)) (p : K) (first last : Option K) (c : Forest K D) (before v : Option K) : Type 0 where
    pub xs : Forest K D
    pub ys : Forest K D
    pub is : c ≡ xs ▷ ys
    pub amid_is : (g : Forest K D) → insert_among same before g c ≡ xs ▷ (g ▷ ys)
    pub left : Stands at (Some p) None xs first v before
    pub right : Stands at (Some p) v ys before last None

  pub gap : (at : K → Option (Node K D)) (p : K) (first last : Option K) (c : Forest K D) (before : Option K) →
      IsApart same c → Stands at (Some p) None c first last None → IsPlaceIn same before c → Gap at p first last c before (left_of at last before)
  gap at p first last c None a s h =
      record { xs = c; ys = empty; is = sym (join-empty c); amid_is = λ g. ap (λ z. c ▷ z) (sym (join-empty g)); left = s; right = (refl, refl) }
  gap at p first last c (Some b) a s h =
      let w : Among b c = among_of b c h in
      let one : Forest K D = tree b w.item w.below w.after in
      let t : (between : Option K) × (middle : Option K) × Stands at (Some p) None w.before first between middle × Stands at (Some p) between one middle
      last None =
      split at (Some p) None w.before one first last None (subst (λ f. Stands at (Some p) None f first last None) w.is s) in
      let e : t.0 ≡ prev_of (at b) = sym (ap prev_of t.3.4) in
      let ac : IsApart same (w.before ▷ one) = subst (λ f. IsApart same f) w.is a in
      record {
        xs = w.before;
        ys = one;
        is = w.is;
        amid_is = λ g. ap (insert_before same b g) w.is ∙ insert_before-among b w.item g w.before w.below w.after ac;
        left = subst (λ v. Stands at (Some p) None w.before first v (Some b)) e (subst (λ m. Stands at (Some p) None w.before first t.0 m) t.3.3 t.2);
        right = subst (λ v. Stands at (Some p) v one (Some b) last None) e (subst (λ m. Stands at (Some p) t.0 one m last None) t.3.3 t.3);
      }

  -- the siblings once others are among them
  pub record Joined (one c g : Forest K D) : Type 0 where
    pub apart : IsApart same g
    pub has_new : (j : K) → has same j one ≡ true → has same j g ≡ true
    pub has_old : (j : K) → has same j c ≡ true → has same j g ≡ true
    pub no_more : (j : K) → has same j g ≡ true → has same j one ≡ false → has same j c ≡ true
    pub size_is : size g ≡ size c + size one

  pub joined : (one c xs ys : Forest K D) → IsApart same c → IsApart same one → AreApart same c one → c ≡ xs ▷ ys → Joined one c (xs ▷ (one ▷ ys))
  joined one c xs ys a b away is =
      let g : Forest K D = xs ▷ (one ▷ ys) in
      let ac : IsApart same (xs ▷ ys) = subst (λ f. IsApart same f) is a in
      let hg : (j : K) → has same j g ≡ (has same j xs || (has same j one || has same j ys)) = λ j. has-join same sound reflexive j xs (one ▷ ys)
      ∙ ap (λ t. has same j xs || t) (has-join same sound reflexive j one ys) in
      let hc : (j : K) → has same j c ≡ (has same j xs || has same j ys) = λ j. ap (has same j) is ∙ has-join same sound reflexive j xs ys in
      let left : AreApart same xs one = λ j u. away j (hc j ∙ from_left (has same j xs) (has same j ys) u) in
      let right : AreApart same one ys = λ j u. (either (has same j xs) (has same j ys) (sym (hc j) ∙ apart_back same sound reflexive c one away j u)).1 in
      let later : IsApart same (one ▷ ys) = apart_join same sound reflexive one ys b (apart_right same sound reflexive xs ys ac) right in
      let between : AreApart same xs (one ▷ ys) = λ j u. has-join same sound reflexive j one ys ∙ rw (
        left j u,
        apart_between same sound reflexive xs ys ac
            j u,
      ) refl in
      record {
        apart = apart_join same sound reflexive xs (one ▷ ys) (apart_left same sound reflexive xs ys ac) later between;
        has_new = λ j u. hg j ∙ from_right (has same j xs) (has same j one || has same j ys) (from_left (has same j one) (has same j ys) u);
        has_old = λ j u. hg j ∙ elim (which (has same j xs) (has same j ys) (sym (hc j) ∙ u)) [
          | inl i ↦ from_left (has same j xs) (has same j one || has same j ys) i
          | inr i ↦ from_right (has same j xs) (has same j one || has same j ys) (from_right (has same j one) (has same j ys) i)
        ];
        no_more = λ j u e. hc j ∙ (rw e at (sym (hg j) ∙ u));
        size_is = let s : size g ≡ size xs + size (one ▷ ys) = size-join xs (one ▷ ys) in let t : size c ≡ size xs + size ys = ap size is
            ∙ size-join xs ys in omega (arith, s, size-join one ys, t);
      }

  -- Once the links say so, the new box k stands at its place below p.
  pub stands_put : (at : K → Option (Node K D)) (up prev : Option K) (f : Forest K D) (first last after : Option K) (p k : K) (d : D) (y : Node K D)
      (before v : Option K) →
      IsApart same f → Stands at up prev f first last after → has same p f ≡ true → at p ≡ Some y → (g : Gap at p y.first y.last (children same p f) before
      v) → has same k f ≡ false →
      Stands (grafted same p k v before y.first y.last (put same k (node d (Some p) v None None before) at)) up prev (with_children same p (g.xs ▷ tree k d
      empty g.ys) f) first last after
  stands_put at up prev f first last after p k d y before v a s m found g n =
      let new : Node K D = node d (Some p) v None None before in
      let at2 : K → Option (Node K D) = put same k new at in
      let c : Forest K D = children same p f in
      let kc : has same k (g.xs ▷ g.ys) ≡ false = subst (λ h. has same k h ≡ false) g.is (out_of_children same sound reflexive k p f n) in
      let ks : (has same k g.xs ≡ false) × (has same k g.ys ≡ false) = either (has same k g.xs) (has same k g.ys) (sym (has-join same sound reflexive k
      g.xs g.ys) ∙ kc) in
      let s2 : Stands at2 up prev f first last after = frame at at2 up prev f first last after (agree_put same sound reflexive k new at f n) s in
      let found2 : at2 p ≡ Some y = rw (differs_back same sound reflexive f k p n m) found in
      let left : Stands at2 (Some p) None g.xs y.first v before = frame at at2 (Some p) None g.xs y.first v before (agree_put same sound reflexive k new at
      g.xs ks.0) g.left in
      let right : Stands at2 (Some p) v g.ys before y.last None = frame at at2 (Some p) v g.ys before y.last None (agree_put same sound reflexive k new at
      g.ys ks.1) g.right in
      let here : at2 k ≡ Some new = rw (reflexive k) refl in
      let one : Stands at2 (Some p) v (tree k d empty empty) (Some k) (Some k) before = (None, None, before, refl, here, (refl, refl), (refl, refl)) in
      let strange : AreApart same f (tree k d empty empty) = λ j u. rw (differs same sound reflexive f j k u n) refl in
      stands_grafted same sound reflexive at2 up prev f first last after p k d y empty g.xs g.ys v before a s2 m found2 g.is left right one strange
