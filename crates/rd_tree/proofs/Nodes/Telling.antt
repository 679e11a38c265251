-- What is told of each box by it and all below it, once one more box stands, with all below it, among the children of another.
use Rattle.std.proofs.Common.{◌≡◌, refl, ap, ◌∙◌, sym, subst, ◌+◌, Bool, true, false, ◌||◌, cond, arith, inl, inr}
use Rattle.rd_geom.specs.Plane.{hull_of}
use Rattle.rd_keys.specs.Keys.{same_key}
use Rattle.rd_keys.proofs.Keys.{same_key-sound, same_key-refl}
use Rattle.rd_tree.specs.Forest.{empty, tree, ◌▷◌, has, children, in_subtree, with_children, AreApart, IsApart}
use Rattle.rd_tree.specs.Document.{BoxKey, Item, BoxForest}
use Rattle.rd_tree.specs.Hulls.{breadth, extent, hull_in, touched_in}
use Rattle.rd_tree.proofs.Linking.Standing.{cases, either, from_left, from_right, has-join, differs_back, apart_back}
use Rattle.rd_tree.proofs.Nodes.Putting.{under_by}
use Rattle.rd_tree.proofs.Forests.Subtrees.{subtree-here, subtree-inner, subtree-later, not_in_subtree}
use Rattle.rd_tree.proofs.Summaries.Sums.{breadth-join, touched-join}
use Rattle.rd_tree.proofs.Summaries.Hulls.{hull-later, hull-inner, hull-insert_among}

between : (x s b y : Bool) → (x || (s || (b || y))) ≡ ((x || y) || (s || (b || false)))
between true s b y = refl
between false true b true = refl
between false true b false = refl
between false false true true = refl
between false false true false = refl
between false false false true = refl
between false false false false = refl

inside : (s c o r : Bool) → (s || ((c || o) || r)) ≡ ((s || (c || r)) || o)
inside true c o r = refl
inside false true o r = refl
inside false false true true = refl
inside false false true false = refl
inside false false false r = grind arith

beside : (s l r o : Bool) → (s || (l || (r || o))) ≡ ((s || (l || r)) || o)
beside true l r o = refl
beside false true r o = refl
beside false false r o = refl

out_of_both : (b c : Bool) → b ≡ false → c ≡ false → (b || c) ≡ false
out_of_both b c h k = rw (h, k) refl

module _ (k : BoxKey) (d : Item) (below xs ys : BoxForest) where
  abbrev one : BoxForest
  one = tree k d below empty

  abbrev old : BoxForest
  old = xs ▷ ys

  abbrev new : BoxForest
  new = xs ▷ tree k d below ys

  pub has-new : (j : BoxKey) → has same_key j new ≡ (has same_key j old || has same_key j one)
  has-new j =
      has-join same_key same_key-sound same_key-refl j xs (tree k d below ys)
      ∙ (between (has same_key j xs) (same_key j k) (has same_key j below) (has same_key j ys)
      ∙ ap (λ b. b || (same_key j k || (has same_key j below || false))) (sym (has-join same_key same_key-sound same_key-refl j xs ys)))

  -- The same boxes with this one: what is in them, and their sums.
  pub record Sums (g f : BoxForest) : Type 0 where
    pub has_is : (j : BoxKey) → has same_key j f ≡ (has same_key j g || has same_key j one)
    pub breadth_is : breadth f ≡ breadth g
    pub touched_is : touched_in f ≡ touched_in g + touched_in one
    pub hull_is : hull_in f ≡ hull_of (hull_in g) (hull_in one)

  pub breadth-new : breadth new ≡ breadth old + 1
  breadth-new = omega (arith, breadth-join xs (tree k d below ys), breadth-join xs ys)

  pub touched-new : touched_in new ≡ touched_in old + touched_in one
  touched-new = omega (arith, touched-join xs (tree k d below ys), touched-join xs ys)

  pub hull-new : hull_in new ≡ hull_of (hull_in old) (hull_in one)
  hull-new = hull-insert_among k d below xs ys

  sums_here : (i : BoxKey) (c : Item) (rest : BoxForest) → Sums (tree i c old rest) (tree i c new rest)
  sums_here i c rest = record {
    has_is = λ j. ap (λ b. same_key j i || (b || has same_key j rest)) (has-new j) ∙ inside (same_key j i) (has same_key j old) (has same_key j one)
        (has same_key j rest);
    breadth_is = refl;
    touched_is = omega (arith, touched-new);
    hull_is = ap (λ h. hull_of (hull_of (extent c) h) (hull_in rest)) hull-new ∙ hull-inner (extent c) (hull_in old) (hull_in one) (hull_in rest);
  }

  sums_inner : (i : BoxKey) (c : Item) (low rest more : BoxForest) → Sums low more → Sums (tree i c low rest) (tree i c more rest)
  sums_inner i c low rest more r = record {
    has_is = λ j. ap (λ b. same_key j i || (b || has same_key j rest)) (r.has_is j) ∙ inside (same_key j i) (has same_key j low) (has same_key j one)
        (has same_key j rest);
    breadth_is = refl;
    touched_is = omega (arith, r.touched_is);
    hull_is = ap (λ h. hull_of (hull_of (extent c) h) (hull_in rest)) r.hull_is ∙ hull-inner (extent c) (hull_in low) (hull_in one) (hull_in rest);
  }

  sums_later : (i : BoxKey) (c : Item) (low rest more : BoxForest) → Sums rest more → Sums (tree i c low rest) (tree i c low more)
  sums_later i c low rest more r = record {
    has_is = λ j. ap (λ b. same_key j i || (has same_key j low || b)) (r.has_is j) ∙ beside (same_key j i) (has same_key j low) (has same_key j rest)
        (has same_key j one);
    breadth_is = ap (λ n. 1 + n) r.breadth_is;
    touched_is = omega (arith, r.touched_is);
    hull_is = ap (hull_of (hull_of (extent c) (hull_in low))) r.hull_is ∙ hull-later (hull_of (extent c) (hull_in low)) (hull_in rest) (hull_in one);
  }

  pub sums_put : (p : BoxKey) (g : BoxForest) → IsApart same_key g → has same_key p g ≡ true → children same_key p g ≡ xs ▷ ys → Sums g (with_children
      same_key p new g)
  sums_put p g a m is = under_by same_key same_key-sound same_key-refl Sums p old new g
      (λ i c rest e q. sums_here i c rest) (λ i c low rest more e u q r. sums_inner i c low rest more r) (λ i c low rest more e u q r. sums_later i c low
      rest more r) a m is

  -- What is told of each box by it and all below it, and how the box that is put changes it.
  pub record Tells {X : Type 0} (T : BoxKey → BoxForest → X) (p : BoxKey) (change : BoxKey → X → X) : Type 0 where
    pub here : (j i : BoxKey) (c : Item) (low rest : BoxForest) → same_key j i ≡ true → T j (tree i c low rest) ≡ T j (tree i c low empty)
    pub inner : (j i : BoxKey) (c : Item) (low rest : BoxForest) → same_key j i ≡ false → has same_key j low ≡ true → has same_key j rest ≡ false
        → T j (tree i c low rest) ≡ T j low
    pub later : (j i : BoxKey) (c : Item) (low rest : BoxForest) → same_key j i ≡ false → has same_key j low ≡ false → T j (tree i c low rest) ≡ T j rest
    pub past : (j : BoxKey) → has same_key j one ≡ false → T j new ≡ T j old
    pub fresh : (j : BoxKey) → has same_key j xs ≡ false → has same_key j ys ≡ false → T j new ≡ T j one
    pub at : (j i : BoxKey) (c : Item) → same_key p j ≡ true → same_key j i ≡ true → T j (tree i c new empty) ≡ change j (T j (tree i c old empty))
    pub up : (j i : BoxKey) (c : Item) (low more : BoxForest) → same_key p j ≡ false → same_key j i ≡ true → Sums low more → T j (tree i c more empty)
        ≡ change j (T j (tree i c low empty))

  module _ {X : Type 0} (T : BoxKey → BoxForest → X) (p : BoxKey) (change : BoxKey → X → X) (t : Tells T p change) where
    abbrev Told : BoxForest → BoxForest → Type 0
    Told x y = AreApart same_key x one → (j : BoxKey) → has same_key j x ≡ true → T j y ≡ cond (in_subtree same_key p j x) (change j (T j x)) (T j x)

    above : (j : BoxKey) (x y : BoxForest) → in_subtree same_key p j x ≡ true → T j y ≡ change j (T j x) → T j y ≡ cond (in_subtree same_key p j x)
        (change j (T j x)) (T j x)
    above j x y s e = e ∙ ap (λ b. cond b (change j (T j x)) (T j x)) (sym s)

    off : (j : BoxKey) (x y : BoxForest) → in_subtree same_key p j x ≡ false → T j y ≡ T j x → T j y ≡ cond (in_subtree same_key p j x) (change j (T j x))
        (T j x)
    off j x y s e = e ∙ ap (λ b. cond b (change j (T j x)) (T j x)) (sym s)

    carried : (j : BoxKey) (x y x2 y2 : BoxForest) → T j y2 ≡ T j y → T j x2 ≡ T j x → in_subtree same_key p j x2 ≡ in_subtree same_key p j x → T j y
        ≡ cond (in_subtree same_key p j x) (change j (T j x)) (T j x) →
        T j y2 ≡ cond (in_subtree same_key p j x2) (change j (T j x2)) (T j x2)
    carried j x y x2 y2 e n s h = e ∙ (h ∙ (ap (λ b. cond b (change j (T j x)) (T j x)) (sym s) ∙ ap (λ z. cond (in_subtree same_key p j x2) (change j z)
        z) (sym n)))

    not_new : (x y : BoxForest) (j : BoxKey) → Sums x y → has same_key j x ≡ false → has same_key j one ≡ false → has same_key j y ≡ false
    not_new x y j r h o = r.has_is j ∙ out_of_both (has same_key j x) (has same_key j one) h o

    told_here : (i : BoxKey) (c : Item) (rest : BoxForest) → same_key p i ≡ true → IsApart same_key (tree i c old rest) → Told (tree i c old rest)
        (tree i c new rest)
    told_here i c rest e q w j m =
        let n : p ≡ i = same_key-sound p i e in
        let po : has same_key p old ≡ false = subst (λ z. has same_key z old ≡ false) (sym n) q.0 in
        let pr : has same_key p rest ≡ false = subst (λ z. has same_key z rest ≡ false) (sym n) q.1 in
        let x : BoxForest = tree i c old rest in
        let y : BoxForest = tree i c new rest in
        elim (cases (same_key j i)) [
          | inl v ↦
              let is : same_key p j ≡ true = ap (same_key p) (same_key-sound j i v) ∙ e in
              above j x y (subtree-here same_key same_key-sound same_key-refl p j i c old rest v ∙ from_left (same_key p j) (has same_key p old) is)
              (t.here j i c new rest v ∙ (t.at j i c is v ∙ ap (change j) (sym (t.here j i c old rest v))))
          | inr v ↦ elim (cases (has same_key j old)) [
            | inl u ↦
                let jr : has same_key j rest ≡ false = q.2 j u in
                off j x y (subtree-inner same_key same_key-sound same_key-refl p j i c old rest v jr ∙ not_in_subtree same_key same_key-sound same_key-refl
                p j old (differs_back same_key same_key-sound same_key-refl old p j po u) po)
                (t.inner j i c new rest v (has-new j ∙ from_left (has same_key j old) (has same_key j one) u) jr ∙ (t.past j (w j m)
                ∙ sym (t.inner j i c old rest v u jr)))
            | inr u ↦
                let jr : has same_key j rest ≡ true = rw (v, u) at m in
                off j x y (subtree-later same_key same_key-sound same_key-refl p j i c old rest v u ∙ not_in_subtree same_key same_key-sound same_key-refl
                p j rest (differs_back same_key same_key-sound same_key-refl rest p j pr jr) pr)
                (t.later j i c new rest v (has-new j ∙ out_of_both (has same_key j old) (has same_key j one) u (w j m)) ∙ sym (t.later j i c old rest v u))
          ]
        ]

    told_inner : (i : BoxKey) (c : Item) (low rest more : BoxForest) → same_key p i ≡ false → has same_key p low ≡ true → IsApart same_key (tree i c low
        rest) → Sums low more → Told low more → Told (tree i c low rest) (tree i c more rest)
    told_inner i c low rest more e pl q r h w j m =
        let pr : has same_key p rest ≡ false = q.2 p pl in
        let x : BoxForest = tree i c low rest in
        let y : BoxForest = tree i c more rest in
        elim (cases (same_key j i)) [
          | inl v ↦
              above j x y (subtree-here same_key same_key-sound same_key-refl p j i c low rest v ∙ from_right (same_key p j) (has same_key p low) pl)
              (t.here j i c more rest v ∙ (t.up j i c low more (ap (same_key p) (same_key-sound j i v) ∙ e) v r ∙ ap (change j) (sym (t.here j i c low rest
              v))))
          | inr v ↦ elim (cases (has same_key j low)) [
            | inl u ↦
                let jr : has same_key j rest ≡ false = q.2 j u in
                let wl : AreApart same_key low one = λ l z. w l (from_right (same_key l i) (has same_key l low || has same_key l rest) (from_left
                (has same_key l low) (has same_key l rest) z)) in
                carried j low more x y (t.inner j i c more rest v (r.has_is j ∙ from_left (has same_key j low) (has same_key j one) u) jr) (t.inner j i c
                low rest v u jr) (subtree-inner same_key same_key-sound same_key-refl p j i c low rest v jr) (h wl j u)
            | inr u ↦
                let jr : has same_key j rest ≡ true = rw (v, u) at m in
                off j x y (subtree-later same_key same_key-sound same_key-refl p j i c low rest v u ∙ not_in_subtree same_key same_key-sound same_key-refl
                p j rest (differs_back same_key same_key-sound same_key-refl rest p j pr jr) pr)
                (t.later j i c more rest v (not_new low more j r u (w j m)) ∙ sym (t.later j i c low rest v u))
          ]
        ]

    told_later : (i : BoxKey) (c : Item) (low rest more : BoxForest) → same_key p i ≡ false → has same_key p rest ≡ true → IsApart same_key (tree i c low
        rest) → Sums rest more → Told rest more → Told (tree i c low rest) (tree i c low more)
    told_later i c low rest more e pr q r h w j m =
        let pl : has same_key p low ≡ false = apart_back same_key same_key-sound same_key-refl low rest q.2 p pr in
        let x : BoxForest = tree i c low rest in
        let y : BoxForest = tree i c low more in
        elim (cases (same_key j i)) [
          | inl v ↦
              off j x y (subtree-here same_key same_key-sound same_key-refl p j i c low rest v ∙ out_of_both (same_key p j) (has same_key p low)
              (ap (same_key p) (same_key-sound j i v) ∙ e) pl)
              (t.here j i c low more v ∙ sym (t.here j i c low rest v))
          | inr v ↦ elim (cases (has same_key j low)) [
            | inl u ↦
                let jr : has same_key j rest ≡ false = q.2 j u in
                off j x y (subtree-inner same_key same_key-sound same_key-refl p j i c low rest v jr ∙ not_in_subtree same_key same_key-sound same_key-refl
                p j low (differs_back same_key same_key-sound same_key-refl low p j pl u) pl)
                (t.inner j i c low more v u (not_new rest more j r jr (w j m)) ∙ sym (t.inner j i c low rest v u jr))
            | inr u ↦
                let jr : has same_key j rest ≡ true = rw (v, u) at m in
                let wr : AreApart same_key rest one = λ l z. w l (from_right (same_key l i) (has same_key l low || has same_key l rest) (from_right
                (has same_key l low) (has same_key l rest) z)) in
                carried j rest more x y (t.later j i c low more v u) (t.later j i c low rest v u) (subtree-later same_key same_key-sound same_key-refl p j
                i c low rest v u) (h wr j jr)
          ]
        ]

    abbrev Both : BoxForest → BoxForest → Type 0
    Both x y = Sums x y × Told x y

    pub told_put : (g : BoxForest) → IsApart same_key g → has same_key p g ≡ true → children same_key p g ≡ xs ▷ ys → AreApart same_key g one
        → (j : BoxKey) → has same_key j g ≡ true →
        T j (with_children same_key p new g) ≡ cond (in_subtree same_key p j g) (change j (T j g)) (T j g)
    told_put g a m is w j u =
        let r : Both g (with_children same_key p new g) = under_by same_key same_key-sound same_key-refl Both p old new g
        (λ i c rest e q. (sums_here i c rest, told_here i c rest e q))
        (λ i c low rest more e v q r. (sums_inner i c low rest more r.0, told_inner i c low rest more e v q r.0 r.1))
        (λ i c low rest more e v q r. (sums_later i c low rest more r.0, told_later i c low rest more e v q r.0 r.1))
        a m is in
        r.1 w j u

    abbrev New : BoxForest → BoxForest → Type 0
    New x y = Sums x y × (AreApart same_key x one → (j : BoxKey) → has same_key j one ≡ true → T j y ≡ T j one)

    -- the box itself and those below it
    pub told_new : (g : BoxForest) → IsApart same_key g → has same_key p g ≡ true → children same_key p g ≡ xs ▷ ys → AreApart same_key g one
        → (j : BoxKey) → has same_key j one ≡ true → T j (with_children same_key p new g) ≡ T j one
    told_new g a m is w j u =
        let r : New g (with_children same_key p new g) = under_by same_key same_key-sound same_key-refl New p old new g
        (λ i c rest e q. (sums_here i c rest, new_here i c rest))
        (λ i c low rest more e v q r. (sums_inner i c low rest more r.0, new_inner i c low rest more r.0 r.1))
        (λ i c low rest more e v q r. (sums_later i c low rest more r.0, new_later i c low rest more r.1))
        a m is in
        r.1 w j u where
          outside : (i : BoxKey) (c : Item) (low rest : BoxForest) (j : BoxKey) → AreApart same_key (tree i c low rest) one → has same_key j one ≡ true
              → (same_key j i ≡ false) × ((has same_key j low ≡ false) × (has same_key j rest ≡ false))
          outside i c low rest j w u =
              let s : (same_key j i ≡ false) × ((has same_key j low || has same_key j rest) ≡ false) = either (same_key j i) (has same_key j low || has
              same_key j rest) (apart_back same_key same_key-sound same_key-refl (tree i c low rest) one w j u) in
              (s.0, either (has same_key j low) (has same_key j rest) s.1)

          new_here : (i : BoxKey) (c : Item) (rest : BoxForest) → AreApart same_key (tree i c old rest) one → (j : BoxKey) → has same_key j one ≡ true
              → T j (tree i c new rest) ≡ T j one
          new_here i c rest w j u =
              let s : (same_key j i ≡ false) × ((has same_key j old ≡ false) × (has same_key j rest ≡ false)) = outside i c old rest j w u in
              let v : (has same_key j xs ≡ false) × (has same_key j ys ≡ false) = either (has same_key j xs) (has same_key j ys) (sym (has-join same_key
              same_key-sound same_key-refl j xs ys) ∙ s.1.0) in
              t.inner j i c new rest s.0 (has-new j ∙ from_right (has same_key j old) (has same_key j one) u) s.1.1 ∙ t.fresh j v.0 v.1

          new_inner : (i : BoxKey) (c : Item) (low rest more : BoxForest) → Sums low more → (AreApart same_key low one → (j : BoxKey) → has same_key j one
              ≡ true → T j more ≡ T j one) →
              AreApart same_key (tree i c low rest) one → (j : BoxKey) → has same_key j one ≡ true → T j (tree i c more rest) ≡ T j one
          new_inner i c low rest more r h w j u =
              let s : (same_key j i ≡ false) × ((has same_key j low ≡ false) × (has same_key j rest ≡ false)) = outside i c low rest j w u in
              t.inner j i c more rest s.0 (r.has_is j ∙ from_right (has same_key j low) (has same_key j one) u) s.1.1
              ∙ h (λ l z. w l (from_right (same_key l i) (has same_key l low || has same_key l rest) (from_left (has same_key l low) (has same_key l rest)
              z))) j u

          new_later : (i : BoxKey) (c : Item) (low rest more : BoxForest) → (AreApart same_key rest one → (j : BoxKey) → has same_key j one ≡ true
              → T j more ≡ T j one) →
              AreApart same_key (tree i c low rest) one → (j : BoxKey) → has same_key j one ≡ true → T j (tree i c low more) ≡ T j one
          new_later i c low rest more h w j u =
              let s : (same_key j i ≡ false) × ((has same_key j low ≡ false) × (has same_key j rest ≡ false)) = outside i c low rest j w u in
              t.later j i c low more s.0 s.1.0
              ∙ h (λ l z. w l (from_right (same_key l i) (has same_key l low || has same_key l rest) (from_right (has same_key l low) (has same_key l rest)
              z))) j u
