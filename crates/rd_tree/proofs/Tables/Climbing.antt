-- What the link to the parent tells.
use Rattle.std.proofs.Common.{◌≡◌, refl, ap, ◌∙◌, sym, subst, ℕ, ◌+◌, ◌≤◌, Bool, true, false, ◌||◌, cond, arith, ◌⊎◌, inl, inr}
use Rattle.std.specs.Prelude.{Option, Some, None}
use Rattle.rd_keys.specs.Keys.{same_key}
use Rattle.rd_keys.specs.Arena.{Arena}
use Rattle.rd_keys.proofs.Calls.{live_occupied}
use Rattle.rd_keys.proofs.Keys.{same_key-sound, same_key-refl}
use Rattle.rd_tree.specs.declared.node.Node as inner
use Rattle.rd_tree.specs.Forest.{Forest, empty, tree, ◌▷◌, size, has, children, depth, is_among, IsApart}
use Rattle.rd_tree.specs.Internal.Links.{Node, Stands, parent_of}
use Rattle.rd_tree.specs.Document.{BoxKey, Item, BoxForest}
use Rattle.rd_tree.specs.Internal.Linked.{linked, IsTree, seen}
use Rattle.rd_tree.proofs.Linking.Standing.{flip, cases, never, refute, from_left, from_right, has-join, out_of_children, differs, apart_back}
use Rattle.rd_tree.proofs.Linking.Children.{stands_children}
use Rattle.rd_tree.proofs.Forests.Under.{which}
use Rattle.rd_tree.proofs.Linking.Cutting.{place}
use Rattle.rd_tree.proofs.Nodes.Grow.{seen_is, size_seen}

module _ {K D : Type 0} (same : K → K → Bool) (sound : (a b : K) → same a b ≡ true → a ≡ b) (reflexive : (a : K) → same a a ≡ true) where
  -- a box that is one of the first ones
  pub record First (up : Option K) (k : K) (o : Option K) (f : Forest K D) : Type 0 where
    pub up_is : o ≡ up
    pub deep : depth same k f ≡ 1
    pub below_none : (q : K) → has same k (children same q f) ≡ false

  -- a box that has a parent
  pub record Child (k : K) (o : Option K) (f : Forest K D) : Type 0 where
    pub parent : K
    pub up_is : o ≡ Some parent
    pub there : has same parent f ≡ true
    pub deep : depth same k f ≡ depth same parent f + 1
    pub below_too : (q : K) → has same k (children same q f) ≡ (same parent q || has same parent (children same q f))

  both : (k : K) (f g : Forest K D) (b c : Bool) → has same k f ≡ b → has same k g ≡ c → has same k (f ▷ g) ≡ (b || c)
  both k f g b c u v = has-join same sound reflexive k f g ∙ rw (u, v) refl

  pub climb : (at : K → Option (Node K D)) (up prev : Option K) (f : Forest K D) (first last after : Option K) (k : K) → IsApart same f
      → Stands at up prev f first last after → has same k f ≡ true →
      First up k (parent_of (at k)) f ⊎ Child k (parent_of (at k)) f
  climb at up prev empty first last after k a s m = absurd (never false m refl)
  climb at up prev (tree j d below rest) first last after k a s m =
      elim (cases (same k j)) [
        | inl e ↦
            let is : k ≡ j = sound k j e in
            let kb : has same k below ≡ false = subst (λ x. has same x below ≡ false) (sym is) a.0 in
            let kr : has same k rest ≡ false = subst (λ x. has same x rest ≡ false) (sym is) a.1 in
            inl (record {
              up_is = ap parent_of (ap at is ∙ s.4);
              deep = rw e refl;
              below_none = λ q. elim (cases (same q j)) [
                | inl u ↦ rw u kb
                | inr u ↦
                    let l : has same k (children same q below ▷ children same q rest) ≡ (false || false) = both k (children same q below) (children same q
                    rest) false false (out_of_children same sound reflexive k q below kb) (out_of_children same sound reflexive k q rest kr) in
                    rw u l
              ];
            })
        | inr e ↦ elim (cases (has same k below)) [
          | inl i ↦
              let kr : has same k rest ≡ false = a.2 k i in
              elim (climb at (Some j) None below s.0 s.1 None k a.3 s.5 i) [
                | inl t ↦ inr (record {
                  parent = j;
                  up_is = t.up_is;
                  there = from_left (same j j) (has same j below || has same j rest) (reflexive j);
                  deep = rw (e, i, reflexive j) (omega (arith, t.deep));
                  below_too = λ q. elim (cases (same q j)) [
                    | inl u ↦ let v : same j q ≡ true = flip same sound reflexive j q ∙ u in rw (u, v) i
                    | inr u ↦
                        let v : same j q ≡ false = flip same sound reflexive j q ∙ u in
                        let l : has same k (children same q below ▷ children same q rest) ≡ (false || false) = both k (children same q below)
                        (children same q rest) false false (t.below_none q) (out_of_children same sound reflexive k q rest kr) in
                        let r : has same j (children same q below ▷ children same q rest) ≡ (false || false) = both j (children same q below)
                        (children same q rest) false false (out_of_children same sound reflexive j q below a.0) (out_of_children same sound reflexive j
                        q rest a.1) in
                        rw (u, v) (l ∙ sym r)
                  ];
                })
                | inr t ↦
                    let pj : same t.parent j ≡ false = differs same sound reflexive below t.parent j t.there a.0 in
                    let pr : has same t.parent rest ≡ false = a.2 t.parent t.there in
                    let pb : has same t.parent below ≡ true = t.there in
                    inr (record {
                      parent = t.parent;
                      up_is = t.up_is;
                      there = from_right (same t.parent j) (has same t.parent below || has same t.parent rest) (from_left (has same t.parent below)
                          (has same t.parent rest) t.there);
                      deep = rw (e, i, pj, pb) (omega (arith, t.deep));
                      below_too = λ q. elim (cases (same q j)) [
                        | inl u ↦ rw u (i ∙ sym (or_true (same t.parent q) (has same t.parent below) pb))
                        | inr u ↦
                            let l : has same k (children same q below ▷ children same q rest) ≡ ((same t.parent q || has same t.parent (children same q
                            below)) || false) =
                            both k (children same q below) (children same q rest) (same t.parent q || has same t.parent (children same q below)) false
                            (t.below_too q) (out_of_children same sound reflexive k q rest kr) in
                            let r : has same t.parent (children same q below ▷ children same q rest) ≡ (has same t.parent (children same q below) || false) =
                            both t.parent (children same q below) (children same q rest) (has same t.parent (children same q below)) false refl
                            (out_of_children same sound reflexive t.parent q rest pr) in
                            rw u (l ∙ (sym (or_assoc (same t.parent q) (has same t.parent (children same q below))) ∙ ap (λ b. same t.parent q || b) (sym r)))
                      ];
                    })
              ]
          | inr o ↦
              let i : has same k rest ≡ true = rw (e, o) at m in
              elim (climb at up (Some j) rest s.2 last after k a.4 s.6 i) [
                | inl t ↦ inl (record {
                  up_is = t.up_is;
                  deep = rw (e, o) t.deep;
                  below_none = λ q. elim (cases (same q j)) [
                    | inl u ↦ rw u o
                    | inr u ↦
                        let l : has same k (children same q below ▷ children same q rest) ≡ (false || false) = both k (children same q below)
                        (children same q rest) false false (out_of_children same sound reflexive k q below o) (t.below_none q) in
                        rw u l
                  ];
                })
                | inr t ↦
                    let pj : same t.parent j ≡ false = differs same sound reflexive rest t.parent j t.there a.1 in
                    let pb : has same t.parent below ≡ false = apart_back same sound reflexive below rest a.2 t.parent t.there in
                    inr (record {
                      parent = t.parent;
                      up_is = t.up_is;
                      there = from_right (same t.parent j) (has same t.parent below || has same t.parent rest) (from_right (has same t.parent below)
                          (has same t.parent rest) t.there);
                      deep = rw (e, o, pj, pb) t.deep;
                      below_too = λ q. elim (cases (same q j)) [
                        | inl u ↦
                            let pq : same t.parent q ≡ false = subst (λ x. same t.parent x ≡ false) (sym (sound q j u)) pj in
                            rw (u, pq) (o ∙ sym pb)
                        | inr u ↦
                            let l : has same k (children same q below ▷ children same q rest) ≡ (false || (same t.parent q || has same t.parent
                            (children same q rest))) =
                            both k (children same q below) (children same q rest) false (same t.parent q || has same t.parent (children same q rest))
                            (out_of_children same sound reflexive k q below o) (t.below_too q) in
                            let r : has same t.parent (children same q below ▷ children same q rest) ≡ (false || has same t.parent (children same q rest)) =
                            both t.parent (children same q below) (children same q rest) false (has same t.parent (children same q rest)) (out_of_children
                            same sound reflexive t.parent q below pb) refl in
                            rw u (l ∙ ap (λ b. same t.parent q || b) (sym r))
                      ];
                    })
              ]
        ]
      ] where
        or_true : (a b : Bool) → b ≡ true → (a || b) ≡ true
        or_true true b e = refl
        or_true false b e = e

        or_assoc : (a b : Bool) → (a || (b || false)) ≡ ((a || b) || false)
        or_assoc true b = refl
        or_assoc false b = refl

-- the box above a box of the tree that is seen
pub climb_seen : (a : Arena inner.Node) (root k : BoxKey) → IsTree a root → has same_key k (seen a root) ≡ true →
    First same_key same_key-sound same_key-refl None k (parent_of (linked a k)) (seen a root) ⊎ Child same_key same_key-sound same_key-refl k (parent_of
    (linked a k)) (seen a root)
climb_seen a root k t m =
    let e : seen a root ≡ t.boxes = seen_is a root t in
    subst (λ f. First same_key same_key-sound same_key-refl None k (parent_of (linked a k)) f ⊎ Child same_key same_key-sound same_key-refl k (parent_of
    (linked a k)) f) (sym e)
    (climb same_key same_key-sound same_key-refl (linked a) None None t.boxes (Some root) (Some root) None k t.is.apart t.is.stands (subst
    (λ f. has same_key k f ≡ true) e m))

-- What a step to the parent tells.
pub record Stepped (f : BoxForest) (k p : BoxKey) : Type 0 where
  pub there : has same_key p f ≡ true
  pub deep : depth same_key k f ≡ depth same_key p f + 1
  pub below_too : (q : BoxKey) → has same_key k (children same_key q f) ≡ (same_key p q || has same_key p (children same_key q f))

pub step_up : (a : Arena inner.Node) (root k p : BoxKey) → IsTree a root → has same_key k (seen a root) ≡ true → Some p ≡ parent_of (linked a k)
    → Stepped (seen a root) k p
step_up a root k p t m e =
    elim (climb_seen a root k t m) [
      | inl x ↦ cc (e, x.up_is)
      | inr x ↦ let n : x.parent ≡ p = cc (e, x.up_is) in subst (λ q. Stepped (seen a root) k q) n (record {
        there = x.there;
        deep = x.deep;
        below_too =
            x.below_too;
      })
    ]

pub record AtTop (f : BoxForest) (k : BoxKey) : Type 0 where
  pub deep : depth same_key k f ≡ 1
  pub below_none : (q : BoxKey) → has same_key k (children same_key q f) ≡ false

pub end_up : (a : Arena inner.Node) (root k : BoxKey) → IsTree a root → has same_key k (seen a root) ≡ true → None ≡ parent_of (linked a k)
    → AtTop (seen a root) k
end_up a root k t m e =
    elim (climb_seen a root k t m) [
      | inl x ↦ record { deep = x.deep; below_none = x.below_none }
      | inr x ↦ cc (e, x.up_is)
    ]

module _ {K D : Type 0} (same : K → K → Bool) (sound : (a b : K) → same a b ≡ true → a ≡ b) (reflexive : (a : K) → same a a ≡ true) where
  among_up : (at : K → Option (Node K D)) (up prev : Option K) (f : Forest K D) (first last after : Option K) (k : K) → Stands at up prev f first last
      after → is_among same k f ≡ true → parent_of (at k) ≡ up
  among_up at up prev empty first last after k s m = absurd (never false m refl)
  among_up at up prev (tree j d below rest) first last after k s m =
      elim (which (same k j) (is_among same k rest) m) [
        | inl e ↦ ap parent_of (ap at (sound k j e) ∙ s.4)
        | inr u ↦ among_up at up (Some j) rest s.2 last after k s.6 u
      ]

  among-is : (k : K) (d : D) (before below after : Forest K D) → is_among same k (before ▷ tree k d below after) ≡ true
  among-is k d empty below after = from_left (same k k) (is_among same k after) (reflexive k)
  among-is k d (tree j e low rest) below after = from_right (same k j) (is_among same k (rest ▷ tree k d below after)) (among-is k d rest below after)

up_equal : (b c : Bool) → (b ≡ true → c ≡ true) → (c ≡ true → b ≡ true) → b ≡ c
up_equal true c f g = sym (f refl)
up_equal false true f g = g refl
up_equal false false f g = refl

pub child_is : (a : Arena inner.Node) (root k p q : BoxKey) → IsTree a root → has same_key k (seen a root) ≡ true → has same_key q (seen a root) ≡ true
    → Some p ≡ parent_of (linked a k) → same_key p q ≡ is_among same_key k (children same_key q (seen a root))
child_is a root k p q t m n e = subst (λ f. same_key p q ≡ is_among same_key k (children same_key q f)) (sym se) (up_equal (same_key p q)
    (is_among same_key k (children same_key q t.boxes)) forward back) where
      se : seen a root ≡ t.boxes
      se = seen_is a root t

      mk : has same_key k t.boxes ≡ true
      mk = sym (ap (has same_key k) (seen_is a root t)) ∙ m

      forward : same_key p q ≡ true → is_among same_key k (children same_key q t.boxes) ≡ true
      forward u =
          let x : (y : Node BoxKey Item) × (linked a k ≡ Some y) × Stands (linked a) (Some k) None (children same_key k t.boxes) y.first y.last None
          × IsApart same_key (children same_key k t.boxes) × (has same_key k (children same_key k t.boxes) ≡ false) =
          stands_children same_key same_key-sound same_key-refl (linked a) None None t.boxes (Some root) (Some root) None k t.is.apart t.is.stands mk in
          let up : x.0.up ≡ Some p = sym (ap parent_of x.1) ∙ sym e in
          elim (place same_key same_key-sound same_key-refl (linked a) None None t.boxes (Some root) (Some root) None k x.0 t.is.apart t.is.stands mk x.1) [
            | inl v ↦ cc (v.1, up)
            | inr v ↦
                let i : v.0 ≡ p = cc (v.1, up) in
                let j : v.0 ≡ q = i ∙ same_key-sound p q u in
                subst (λ z. is_among same_key k (children same_key z t.boxes) ≡ true) j (ap (is_among same_key k) v.3.0.is ∙ among-is same_key same_key-sound
                same_key-refl k v.3.0.item v.3.0.before v.3.0.below v.3.0.after)
          ]

      back : is_among same_key k (children same_key q t.boxes) ≡ true → same_key p q ≡ true
      back u =
          let x : (y : Node BoxKey Item) × (linked a q ≡ Some y) × Stands (linked a) (Some q) None (children same_key q t.boxes) y.first y.last None
          × IsApart same_key (children same_key q t.boxes) × (has same_key q (children same_key q t.boxes) ≡ false) =
          stands_children same_key same_key-sound same_key-refl (linked a) None None t.boxes (Some root) (Some root) None q t.is.apart t.is.stands (sym
          (ap (has same_key q) (seen_is a root t)) ∙ n) in
          let up : parent_of (linked a k) ≡ Some q = among_up same_key same_key-sound same_key-refl (linked a) (Some q) None (children same_key q t.boxes)
          x.0.first x.0.last None k x.2 u in
          let i : p ≡ q = cc (e, up) in
          subst (λ z. same_key p z ≡ true) i (same_key-refl p)

pub no_child : (a : Arena inner.Node) (root k q : BoxKey) → IsTree a root → has same_key q (seen a root) ≡ true → None ≡ parent_of (linked a k) → false
    ≡ is_among same_key k (children same_key q (seen a root))
no_child a root k q t n e = subst (λ f. false ≡ is_among same_key k (children same_key q f)) (sym (seen_is a root t)) (sym (refute (is_among same_key k
    (children same_key q t.boxes)) back)) where
      back : is_among same_key k (children same_key q t.boxes) ≡ true → ⊥
      back u =
          let x : (y : Node BoxKey Item) × (linked a q ≡ Some y) × Stands (linked a) (Some q) None (children same_key q t.boxes) y.first y.last None
          × IsApart same_key (children same_key q t.boxes) × (has same_key q (children same_key q t.boxes) ≡ false) =
          stands_children same_key same_key-sound same_key-refl (linked a) None None t.boxes (Some root) (Some root) None q t.is.apart t.is.stands (sym
          (ap (has same_key q) (seen_is a root t)) ∙ n) in
          let up : parent_of (linked a k) ≡ Some q = among_up same_key same_key-sound same_key-refl (linked a) (Some q) None (children same_key q t.boxes)
          x.0.first x.0.last None k x.2 u in
          cc (e, up)

pub depth_size : (k : BoxKey) (f : BoxForest) → depth same_key k f ≤ size f
depth_size k empty = omega arith
depth_size k (tree j d below rest) = at (same_key k j) (has same_key k below) (depth same_key k below) (depth same_key k rest) (size below) (size rest)
    (depth_size k below) (depth_size k rest) where
      at : (b c : Bool) (x y m n : ℕ) → x ≤ m → y ≤ n → cond b 1 (cond c (1 + x) y) ≤ 1 + (m + n)
      at true c x y m n u v = omega arith
      at false true x y m n u v = omega arith
      at false false x y m n u v = omega arith

-- No box is deeper than a tree has boxes.
pub depth_small : (a : Arena inner.Node) (root k : BoxKey) → IsTree a root → depth same_key k (seen a root) ≤ a.limit
depth_small a root k t = omega (arith, depth_size k (seen a root), size_seen a root t, live_occupied a, t.most)
