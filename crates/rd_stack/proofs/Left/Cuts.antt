-- Trees from which subtrees are cut off, and what edits leave of them.
use Rattle.std.proofs.Common.{◌≡◌, refl, ap, ◌∙◌, sym, subst, Bool, true, false, ◌&&◌, ◌||◌, cond, inl, inr}
use Rattle.std.specs.Prelude.{Option, Some, None}
use Rattle.rd_keys.specs.Keys.{BoxKey, same_key}
use Rattle.rd_keys.proofs.Keys.{same_key-sound, same_key-refl}
use Rattle.rd_list.proofs.Merges.Routing.{both_true}
use Rattle.rd_tree.specs.Forest.{empty, tree, ◌▷◌, has, starting_at, children, with_children, insert_among, insert_before, without_branch, branch, without_siblings, map_where, in_subtree, IsApart}
use Rattle.rd_tree.specs.declared.node.Item.{Item}
use Rattle.rd_tree.specs.Document.{BoxForest, is_touched}
use Rattle.rd_tree.proofs.Linking.Standing.{cases, never, refute, from_left, from_right, join-empty, has-join, out_of_children, no_children, apart_back, differs}
use Rattle.rd_tree.proofs.Forests.Under.{which, no_under}
use Rattle.rd_stack.specs.Cut.{pruned, all_cut, IsClosed}

and_true : (a b : Bool) → a ≡ true → b ≡ true → (a && b) ≡ true
and_true true b h k = k
and_true false b h k = cc

module _ (cut : BoxKey → Bool) where
  all-three : (k : BoxKey) (d : Item) (below rest : BoxForest) → all_cut cut (tree k d below rest) ≡ true → (cut k ≡ true) × (all_cut cut below ≡ true) × (all_cut cut rest ≡ true)
  all-three k d below rest h =
      let p = both_true (cut k && all_cut cut below) (all_cut cut rest) h in
      let q = both_true (cut k) (all_cut cut below) p.0 in
      (q.0, q.1, p.1)

  all_of : (k : BoxKey) (d : Item) (below rest : BoxForest) → cut k ≡ true → all_cut cut below ≡ true → all_cut cut rest ≡ true → all_cut cut (tree k d below rest) ≡ true
  all_of k d below rest a b c = and_true (cut k && all_cut cut below) (all_cut cut rest) (and_true (cut k) (all_cut cut below) a b) c

  -- all are cut off, if each is
  pub all_from_has : (f : BoxForest) → ((j : BoxKey) → has same_key j f ≡ true → cut j ≡ true) → all_cut cut f ≡ true
  all_from_has empty h = refl
  all_from_has (tree k d below rest) h =
      all_of k d below rest
      (h k (from_left (same_key k k) (has same_key k below || has same_key k rest) (same_key-refl k)))
      (all_from_has below (λ j u. h j (from_right (same_key j k) (has same_key j below || has same_key j rest) (from_left (has same_key j below) (has same_key j rest) u))))
      (all_from_has rest (λ j u. h j (from_right (same_key j k) (has same_key j below || has same_key j rest) (from_right (has same_key j below) (has same_key j rest) u))))

  -- what is below boxes that all are cut off is cut off
  pub closed_all : (f : BoxForest) → all_cut cut f ≡ true → IsClosed cut f
  closed_all empty h = tt
  closed_all (tree k d below rest) h = let t = all-three k d below rest h in ((λ _. t.1), closed_all below t.1, closed_all rest t.2)

  -- nothing is cut off
  pub closed_none : (f : BoxForest) → ((j : BoxKey) → has same_key j f ≡ true → cut j ≡ false) → IsClosed cut f
  closed_none empty h = tt
  closed_none (tree k d below rest) h = (
    (λ c. absurd (never (cut k) c (h k (from_left (same_key k k) (has same_key k below || has same_key k rest) (same_key-refl k))))),
    closed_none below (λ j u. h j (from_right (same_key j k) (has same_key j below || has same_key j rest) (from_left (has same_key j below) (has same_key j rest) u))),
    closed_none rest (λ j u. h j (from_right (same_key j k) (has same_key j below || has same_key j rest) (from_right (has same_key j below) (has same_key j rest) u))),
  )

  pub pruned_all : (f : BoxForest) → all_cut cut f ≡ true → pruned cut f ≡ empty
  pruned_all empty h = refl
  pruned_all (tree k d below rest) h = let t = all-three k d below rest h in rw t.0 (pruned_all rest t.2)

  -- siblings after siblings
  pub pruned_join : (f g : BoxForest) → pruned cut (f ▷ g) ≡ pruned cut f ▷ pruned cut g
  pruned_join empty g = refl
  pruned_join (tree k d below rest) g = by (cut k) (pruned_join rest g)
    where
      by : (b : Bool) → pruned cut (rest ▷ g) ≡ pruned cut rest ▷ pruned cut g → cond b (pruned cut (rest ▷ g)) (tree k d (pruned cut below) (pruned cut (rest ▷ g))) ≡ cond b (pruned cut rest) (tree k d (pruned cut below) (pruned cut rest)) ▷ pruned cut g
      by true h = h
      by false h = ap (tree k d (pruned cut below)) h

  all_join : (f g : BoxForest) → all_cut cut f ≡ true → all_cut cut g ≡ true → all_cut cut (f ▷ g) ≡ true
  all_join empty g h q = q
  all_join (tree k d below rest) g h q = let t = all-three k d below rest h in all_of k d below (rest ▷ g) t.0 t.1 (all_join rest g t.2 q)

  closed_join : (f g : BoxForest) → IsClosed cut f → IsClosed cut g → IsClosed cut (f ▷ g)
  closed_join empty g h q = q
  closed_join (tree k d below rest) g h q = (h.0, h.1, closed_join rest g h.2 q)

  pub closed_children : (p : BoxKey) (f : BoxForest) → IsClosed cut f → IsClosed cut (children same_key p f)
  closed_children p empty h = tt
  closed_children p (tree k d below rest) h =
      elim (same_key p k) as (λ b. IsClosed cut (cond b below (children same_key p below ▷ children same_key p rest))) [
        | true ↦ h.1
        | false ↦ closed_join (children same_key p below) (children same_key p rest) (closed_children p below h.1) (closed_children p rest h.2)
      ]

  closed_from : (j : BoxKey) (f : BoxForest) → IsClosed cut f → IsClosed cut (starting_at same_key j f)
  closed_from j empty h = tt
  closed_from j (tree k d below rest) h =
      elim (same_key j k) as (λ b. IsClosed cut (cond b (tree k d below rest) (cond (has same_key j below) (starting_at same_key j below) (starting_at same_key j rest)))) [
        | true ↦ h
        | false ↦ elim (has same_key j below) as (λ b. IsClosed cut (cond b (starting_at same_key j below) (starting_at same_key j rest))) [ true ↦ closed_from j below h.1 | false ↦ closed_from j rest h.2 ]
      ]

  closed_first : (f : BoxForest) → IsClosed cut f → IsClosed cut (without_siblings f)
  closed_first empty h = tt
  closed_first (tree k d below rest) h = (h.0, h.1, tt)

  pub closed_branch : (j : BoxKey) (f : BoxForest) → IsClosed cut f → IsClosed cut (branch same_key j f)
  closed_branch j f h = closed_first (starting_at same_key j f) (closed_from j f h)

  -- all of a branch is cut off, if the box and all below it are
  pub all_branch : (k : BoxKey) (f : BoxForest) → cut k ≡ true → ((j : BoxKey) → has same_key j (children same_key k f) ≡ true → cut j ≡ true) → all_cut cut (branch same_key k f) ≡ true
  all_branch k empty c h = refl
  all_branch k (tree i d below rest) c h =
      elim (cases (same_key k i)) [
        | inl e ↦ rw e (all_of i d below empty (subst (λ x. cut x ≡ true) (same_key-sound k i e) c) (all_from_has below (λ j u. h j (rw e u))) refl)
        | inr e ↦
            let g : (j : BoxKey) → (has same_key j (children same_key k below) || has same_key j (children same_key k rest)) ≡ true → cut j ≡ true =
            λ j u. h j (rw e (has-join same_key same_key-sound same_key-refl j (children same_key k below) (children same_key k rest) ∙ u)) in
            elim (cases (has same_key k below)) [
              | inl u ↦ rw (e, u) (all_branch k below c (λ j v. g j (from_left (has same_key j (children same_key k below)) (has same_key j (children same_key k rest)) v)))
              | inr u ↦ rw (e, u) (all_branch k rest c (λ j v. g j (from_right (has same_key j (children same_key k below)) (has same_key j (children same_key k rest)) v)))
            ]
      ]

  -- Others among siblings.
  closed_ahead : (j : BoxKey) (g f : BoxForest) → IsClosed cut g → IsClosed cut f → IsClosed cut (insert_before same_key j g f)
  closed_ahead j g empty h q = h
  closed_ahead j g (tree k d below rest) h q =
      elim (same_key j k) as (λ b. IsClosed cut (cond b (g ▷ tree k d below rest) (tree k d below (insert_before same_key j g rest)))) [
        | true ↦ closed_join g (tree k d below rest) h q
        | false ↦ (q.0, q.1, closed_ahead j g rest h q.2)
      ]

  pub closed_amid : (o : Option BoxKey) (g f : BoxForest) → IsClosed cut g → IsClosed cut f → IsClosed cut (insert_among same_key o g f)
  closed_amid None g f h q = closed_join f g q h
  closed_amid (Some j) g f h q = closed_ahead j g f h q

  pruned_ahead : (j : BoxKey) (g f : BoxForest) → all_cut cut g ≡ true → pruned cut (insert_before same_key j g f) ≡ pruned cut f
  pruned_ahead j g empty h = pruned_all g h
  pruned_ahead j g (tree k d below rest) h =
      elim (same_key j k) as (λ b. pruned cut (cond b (g ▷ tree k d below rest) (tree k d below (insert_before same_key j g rest))) ≡ pruned cut (tree k d below rest)) [
        | true ↦ pruned_join g (tree k d below rest) ∙ ap (λ z. z ▷ pruned cut (tree k d below rest)) (pruned_all g h)
        | false ↦ ap (λ z. cond (cut k) z (tree k d (pruned cut below) z)) (pruned_ahead j g rest h)
      ]

  pub pruned_amid : (o : Option BoxKey) (g f : BoxForest) → all_cut cut g ≡ true → pruned cut (insert_among same_key o g f) ≡ pruned cut f
  pruned_amid None g f h = pruned_join f g ∙ (ap (λ z. pruned cut f ▷ z) (pruned_all g h) ∙ join-empty (pruned cut f))
  pruned_amid (Some j) g f h = pruned_ahead j g f h

  -- Others below a box.
  all_under : (p : BoxKey) (g f : BoxForest) → cut p ≡ false → all_cut cut f ≡ true → all_cut cut (with_children same_key p g f) ≡ true
  all_under p g empty n h = refl
  all_under p g (tree k d below rest) n h =
      let t = all-three k d below rest h in
      elim (cases (same_key p k)) [
        | inl e ↦ absurd (never (cut k) t.0 (subst (λ x. cut x ≡ false) (same_key-sound p k e) n))
        | inr e ↦ rw e (all_of k d (with_children same_key p g below) (with_children same_key p g rest) t.0 (all_under p g below n t.1) (all_under p g rest n t.2))
      ]

  pub closed_under : (p : BoxKey) (g f : BoxForest) → cut p ≡ false → IsClosed cut g → IsClosed cut f → IsClosed cut (with_children same_key p g f)
  closed_under p g empty n h q = tt
  closed_under p g (tree k d below rest) n h q =
      elim (cases (same_key p k)) [
        | inl e ↦ rw e ((λ c. absurd (never (cut k) c (subst (λ x. cut x ≡ false) (same_key-sound p k e) n))), h, q.2)
        | inr e ↦ rw e ((λ c. all_under p g below n (q.0 c)), closed_under p g below n h q.1, closed_under p g rest n h q.2)
      ]

  pub pruned_under : (p : BoxKey) (g f : BoxForest) → IsApart same_key f → pruned cut g ≡ pruned cut (children same_key p f) → pruned cut (with_children same_key p g f) ≡ pruned cut f
  pruned_under p g empty a h = refl
  pruned_under p g (tree k d below rest) a h =
      elim (cases (same_key p k)) [
        | inl e ↦
            let h2 : pruned cut g ≡ pruned cut below = rw e at h in
            rw e (ap (λ z. cond (cut k) (pruned cut rest) (tree k d z (pruned cut rest))) h2)
        | inr e ↦
            let h2 : pruned cut g ≡ pruned cut (children same_key p below ▷ children same_key p rest) = rw e at h in
            elim (cases (has same_key p below)) [
              | inl u ↦
                  let o : has same_key p rest ≡ false = a.2 p u in
                  let h3 : pruned cut g ≡ pruned cut (children same_key p below) = h2 ∙ ap (pruned cut) (ap (λ z. children same_key p below ▷ z) (no_children same_key same_key-sound same_key-refl p rest o) ∙ join-empty (children same_key p below)) in
                  rw (e, no_under same_key same_key-sound same_key-refl p g rest o) (ap (λ z. cond (cut k) (pruned cut rest) (tree k d z (pruned cut rest))) (pruned_under p g below a.3 h3))
              | inr u ↦
                  let h3 : pruned cut g ≡ pruned cut (children same_key p rest) = h2 ∙ ap (λ z. pruned cut (z ▷ children same_key p rest)) (no_children same_key same_key-sound same_key-refl p below u) in
                  rw (e, no_under same_key same_key-sound same_key-refl p g below u) (ap (λ z. cond (cut k) z (tree k d (pruned cut below) z)) (pruned_under p g rest a.4 h3))
            ]
      ]

  -- A box with its subtree taken out.
  all_without : (k : BoxKey) (f : BoxForest) → all_cut cut f ≡ true → all_cut cut (without_branch same_key k f) ≡ true
  all_without k empty h = refl
  all_without k (tree i d below rest) h =
      let t = all-three i d below rest h in
      elim (same_key k i) as (λ b. all_cut cut (cond b rest (tree i d (without_branch same_key k below) (without_branch same_key k rest))) ≡ true) [
        | true ↦ t.2
        | false ↦ all_of i d (without_branch same_key k below) (without_branch same_key k rest) t.0 (all_without k below t.1) (all_without k rest t.2)
      ]

  pub closed_without : (k : BoxKey) (f : BoxForest) → IsClosed cut f → IsClosed cut (without_branch same_key k f)
  closed_without k empty q = tt
  closed_without k (tree i d below rest) q =
      elim (same_key k i) as (λ b. IsClosed cut (cond b rest (tree i d (without_branch same_key k below) (without_branch same_key k rest)))) [
        | true ↦ q.2
        | false ↦ ((λ c. all_without k below (q.0 c)), closed_without k below q.1, closed_without k rest q.2)
      ]

  pub pruned_without : (k : BoxKey) (f : BoxForest) → cut k ≡ true → pruned cut (without_branch same_key k f) ≡ pruned cut f
  pruned_without k empty c = refl
  pruned_without k (tree i d below rest) c =
      elim (cases (same_key k i)) [
        | inl e ↦ let ci : cut i ≡ true = subst (λ x. cut x ≡ true) (same_key-sound k i e) c in rw (e, ci) refl
        | inr e ↦ rw e (λ t. cond (cut i) (pruned_without k rest c t) (tree i d (pruned_without k below c t) (pruned_without k rest c t)))
      ]

  -- Items that change.
  module _ (t : BoxKey → Bool) (h : Item → Item) where
    pub all-each : (f : BoxForest) → all_cut cut (map_where t h f) ≡ all_cut cut f
    all-each empty = refl
    all-each (tree k d below rest) = λ i. cut k && all-each below i && all-each rest i

    pub closed_each : (f : BoxForest) → IsClosed cut f → IsClosed cut (map_where t h f)
    closed_each empty q = tt
    closed_each (tree k d below rest) q = ((λ c. all-each below ∙ q.0 c), closed_each below q.1, closed_each rest q.2)

    pub pruned_each : (f : BoxForest) → ((j : BoxKey) → t j ≡ true → cut j ≡ true) → pruned cut (map_where t h f) ≡ pruned cut f
    pruned_each empty w = refl
    pruned_each (tree k d below rest) w = by (t k) refl (pruned_each below w) (pruned_each rest w)
      where
        by : (b : Bool) → t k ≡ b → pruned cut (map_where t h below) ≡ pruned cut below → pruned cut (map_where t h rest) ≡ pruned cut rest → cond (cut k) (pruned cut (map_where t h rest)) (tree k (cond b (h d) d) (pruned cut (map_where t h below)) (pruned cut (map_where t h rest))) ≡ cond (cut k) (pruned cut rest) (tree k d (pruned cut below) (pruned cut rest))
        by true e p q = let c : cut k ≡ true = w k e in rw c q
        by false e p q = λ i. cond (cut k) (q i) (tree k d (p i) (q i))

-- Sets of boxes that are put together.
pub all_or : (a b : BoxKey → Bool) (f : BoxForest) → all_cut a f ≡ true → all_cut (λ j. a j || b j) f ≡ true
all_or a b empty h = refl
all_or a b (tree k d below rest) h =
    let t = all-three a k d below rest h in
    all_of (λ j. a j || b j) k d below rest (from_left (a k) (b k) t.0) (all_or a b below t.1) (all_or a b rest t.2)

all_or_later : (a b : BoxKey → Bool) (f : BoxForest) → all_cut b f ≡ true → all_cut (λ j. a j || b j) f ≡ true
all_or_later a b empty h = refl
all_or_later a b (tree k d below rest) h =
    let t = all-three b k d below rest h in
    all_of (λ j. a j || b j) k d below rest (from_right (a k) (b k) t.0) (all_or_later a b below t.1) (all_or_later a b rest t.2)

pub closed_or : (a b : BoxKey → Bool) (f : BoxForest) → IsClosed a f → IsClosed b f → IsClosed (λ j. a j || b j) f
closed_or a b empty p q = tt
closed_or a b (tree k d below rest) p q = (
  (λ h. elim (which (a k) (b k) h) [ inl e ↦ all_or a b below (p.0 e) | inr e ↦ all_or_later a b below (q.0 e) ]),
  closed_or a b below p.1 q.1,
  closed_or a b rest p.2 q.2,
)

pub closed_and : (c : Bool) (a : BoxKey → Bool) (f : BoxForest) → IsClosed a f → IsClosed (λ j. c && a j) f
closed_and true a f p = p
closed_and false a f p = closed_none (λ j. false) f (λ j u. refl)

module _ (cut : BoxKey → Bool) where
  -- what is below a box that is cut off
  pub all_children : (p : BoxKey) (f : BoxForest) → IsClosed cut f → cut p ≡ true → all_cut cut (children same_key p f) ≡ true
  all_children p empty q c = refl
  all_children p (tree k d below rest) q c =
      elim (cases (same_key p k)) [
        | inl e ↦ rw e (q.0 (subst (λ x. cut x ≡ true) (same_key-sound p k e) c))
        | inr e ↦ rw e (all_join cut (children same_key p below) (children same_key p rest) (all_children p below q.1 c) (all_children p rest q.2 c))
      ]

  all_ahead : (j : BoxKey) (g f : BoxForest) → all_cut cut g ≡ true → all_cut cut f ≡ true → all_cut cut (insert_before same_key j g f) ≡ true
  all_ahead j g empty h q = h
  all_ahead j g (tree k d below rest) h q =
      let t = all-three cut k d below rest q in
      elim (same_key j k) as (λ b. all_cut cut (cond b (g ▷ tree k d below rest) (tree k d below (insert_before same_key j g rest))) ≡ true) [
        | true ↦ all_join cut g (tree k d below rest) h q
        | false ↦ all_of cut k d below (insert_before same_key j g rest) t.0 t.1 (all_ahead j g rest h t.2)
      ]

  pub all_amid : (o : Option BoxKey) (g f : BoxForest) → all_cut cut g ≡ true → all_cut cut f ≡ true → all_cut cut (insert_among same_key o g f) ≡ true
  all_amid None g f h q = all_join cut f g q h
  all_amid (Some j) g f h q = all_ahead j g f h q

  -- others below a box that may be cut off with all below it
  all_anew : (p : BoxKey) (g f : BoxForest) → (cut p ≡ true → all_cut cut g ≡ true) → all_cut cut f ≡ true → all_cut cut (with_children same_key p g f) ≡ true
  all_anew p g empty n h = refl
  all_anew p g (tree k d below rest) n h =
      let t = all-three cut k d below rest h in
      elim (cases (same_key p k)) [
        | inl e ↦ rw e (all_of cut k d g rest t.0 (n (subst (λ x. cut x ≡ true) (sym (same_key-sound p k e)) t.0)) t.2)
        | inr e ↦ rw e (all_of cut k d (with_children same_key p g below) (with_children same_key p g rest) t.0 (all_anew p g below n t.1) (all_anew p g rest n t.2))
      ]

  pub closed_anew : (p : BoxKey) (g f : BoxForest) → (cut p ≡ true → all_cut cut g ≡ true) → IsClosed cut g → IsClosed cut f → IsClosed cut (with_children same_key p g f)
  closed_anew p g empty n h q = tt
  closed_anew p g (tree k d below rest) n h q =
      elim (cases (same_key p k)) [
        | inl e ↦ rw e ((λ c. n (subst (λ x. cut x ≡ true) (sym (same_key-sound p k e)) c)), h, q.2)
        | inr e ↦ rw e ((λ c. all_anew p g below n (q.0 c)), closed_anew p g below n h q.1, closed_anew p g rest n h q.2)
      ]

-- The subtree of a box is closed.
closed_agree : (c e : BoxKey → Bool) (f : BoxForest) → ((j : BoxKey) → has same_key j f ≡ true → c j ≡ e j) → IsClosed c f → IsClosed e f
closed_agree c e empty h q = tt
closed_agree c e (tree k d below rest) h q =
    let hb : (j : BoxKey) → has same_key j below ≡ true → c j ≡ e j = λ j u. h j (from_right (same_key j k) (has same_key j below || has same_key j rest) (from_left (has same_key j below) (has same_key j rest) u)) in
    let hr : (j : BoxKey) → has same_key j rest ≡ true → c j ≡ e j = λ j u. h j (from_right (same_key j k) (has same_key j below || has same_key j rest) (from_right (has same_key j below) (has same_key j rest) u)) in
    let hk : c k ≡ e k = h k (from_left (same_key k k) (has same_key k below || has same_key k rest) (same_key-refl k)) in (
      (λ u. all_from_has e below (λ j v. sym (hb j v) ∙ all_has c below (q.0 (hk ∙ u)) j v)),
      closed_agree c e below hb q.1,
      closed_agree c e rest hr q.2,
    )
  where
    all_has : (c : BoxKey → Bool) (f : BoxForest) → all_cut c f ≡ true → (j : BoxKey) → has same_key j f ≡ true → c j ≡ true
    all_has c empty a j u = absurd (never false u refl)
    all_has c (tree k d below rest) a j u =
        let t = all-three c k d below rest a in
        elim (which (same_key j k) (has same_key j below || has same_key j rest) u) [
          | inl e ↦ subst (λ x. c x ≡ true) (sym (same_key-sound j k e)) t.0
          | inr v ↦ elim (which (has same_key j below) (has same_key j rest) v) [ inl w ↦ all_has c below t.1 j w | inr w ↦ all_has c rest t.2 j w ]
        ]

pub closed_subtree : (k : BoxKey) (f : BoxForest) → IsApart same_key f → IsClosed (λ j. in_subtree same_key j k f) f
closed_subtree k empty a = tt
closed_subtree k (tree i d below rest) a =
    elim (cases (same_key k i)) [
      | inl e ↦
          let n : k ≡ i = same_key-sound k i e in
          let s : BoxKey → Bool = λ j. same_key j k || has same_key j below in
          let low : all_cut s below ≡ true = all_from_has s below (λ j u. from_right (same_key j k) (has same_key j below) u) in
          let out : (j : BoxKey) → has same_key j rest ≡ true → s j ≡ false = λ j u. rw (differs same_key same_key-sound same_key-refl rest j k u (subst (λ x. has same_key x rest ≡ false) (sym n) a.1), apart_back same_key same_key-sound same_key-refl below rest a.2 j u) refl in
          subst (λ b. IsClosed (λ j. same_key j k || has same_key j (cond b below (children same_key k below ▷ children same_key k rest))) (tree i d below rest)) (sym e) ((λ _. low), closed_all s below low, closed_none s rest out)
      | inr e ↦
          let s : BoxKey → Bool = λ j. same_key j k || has same_key j (children same_key k below ▷ children same_key k rest) in
          let ik : same_key i k ≡ false = refute (same_key i k) (λ u. never (same_key k i) (subst (λ x. same_key x i ≡ true) (same_key-sound i k u) (same_key-refl i)) e) in
          let ib : has same_key i (children same_key k below ▷ children same_key k rest) ≡ false =
          has-join same_key same_key-sound same_key-refl i (children same_key k below) (children same_key k rest)
          ∙ rw (out_of_children same_key same_key-sound same_key-refl i k below a.0, out_of_children same_key same_key-sound same_key-refl i k rest a.1) refl in
          let here : s i ≡ false = rw (ik, ib) refl in
          let bb : (j : BoxKey) → has same_key j below ≡ true → in_subtree same_key j k below ≡ s j = λ j u.
          ap (λ z. same_key j k || z) (sym (has-join same_key same_key-sound same_key-refl j (children same_key k below) (children same_key k rest)
          ∙ (ap (λ z. has same_key j (children same_key k below) || z) (out_of_children same_key same_key-sound same_key-refl j k rest (a.2 j u)) ∙ or_false (has same_key j (children same_key k below))))) in
          let br : (j : BoxKey) → has same_key j rest ≡ true → in_subtree same_key j k rest ≡ s j = λ j u.
          ap (λ z. same_key j k || z) (sym (has-join same_key same_key-sound same_key-refl j (children same_key k below) (children same_key k rest)
          ∙ ap (λ z. z || has same_key j (children same_key k rest)) (out_of_children same_key same_key-sound same_key-refl j k below (apart_back same_key same_key-sound same_key-refl below rest a.2 j u)))) in
          subst (λ b. IsClosed (λ j. same_key j k || has same_key j (cond b below (children same_key k below ▷ children same_key k rest))) (tree i d below rest)) (sym e)
          ((λ c. absurd (never (s i) c here)), closed_agree (λ j. in_subtree same_key j k below) s below bb (closed_subtree k below a.3), closed_agree (λ j. in_subtree same_key j k rest) s rest br (closed_subtree k rest a.4))
    ]
  where
    or_false : (b : Bool) → (b || false) ≡ b
    or_false true = refl
    or_false false = refl

-- The boxes below a box are closed.
pub closed_below : (k : BoxKey) (f : BoxForest) → IsApart same_key f → IsClosed (λ j. has same_key j (children same_key k f)) f
closed_below k empty a = tt
closed_below k (tree i d below rest) a =
    elim (cases (same_key k i)) [
      | inl e ↦
          let s : BoxKey → Bool = λ j. has same_key j below in
          let low : all_cut s below ≡ true = all_from_has s below (λ j u. u) in
          let out : (j : BoxKey) → has same_key j rest ≡ true → s j ≡ false = λ j u. apart_back same_key same_key-sound same_key-refl below rest a.2 j u in
          subst (λ b. IsClosed (λ j. has same_key j (cond b below (children same_key k below ▷ children same_key k rest))) (tree i d below rest)) (sym e) ((λ _. low), closed_all s below low, closed_none s rest out)
      | inr e ↦
          let s : BoxKey → Bool = λ j. has same_key j (children same_key k below ▷ children same_key k rest) in
          let here : s i ≡ false =
          has-join same_key same_key-sound same_key-refl i (children same_key k below) (children same_key k rest)
          ∙ rw (out_of_children same_key same_key-sound same_key-refl i k below a.0, out_of_children same_key same_key-sound same_key-refl i k rest a.1) refl in
          let bb : (j : BoxKey) → has same_key j below ≡ true → has same_key j (children same_key k below) ≡ s j = λ j u.
          sym (has-join same_key same_key-sound same_key-refl j (children same_key k below) (children same_key k rest)
          ∙ (ap (λ z. has same_key j (children same_key k below) || z) (out_of_children same_key same_key-sound same_key-refl j k rest (a.2 j u)) ∙ or_false (has same_key j (children same_key k below)))) in
          let br : (j : BoxKey) → has same_key j rest ≡ true → has same_key j (children same_key k rest) ≡ s j = λ j u.
          sym (has-join same_key same_key-sound same_key-refl j (children same_key k below) (children same_key k rest)
          ∙ ap (λ z. z || has same_key j (children same_key k rest)) (out_of_children same_key same_key-sound same_key-refl j k below (apart_back same_key same_key-sound same_key-refl below rest a.2 j u))) in
          subst (λ b. IsClosed (λ j. has same_key j (cond b below (children same_key k below ▷ children same_key k rest))) (tree i d below rest)) (sym e)
          ((λ c. absurd (never (s i) c here)), closed_agree (λ j. has same_key j (children same_key k below)) s below bb (closed_below k below a.3), closed_agree (λ j. has same_key j (children same_key k rest)) s rest br (closed_below k rest a.4))
    ]
  where
    or_false : (b : Bool) → (b || false) ≡ b
    or_false true = refl
    or_false false = refl

-- Marks.
module _ (cut : BoxKey → Bool) where
  -- Each box that is cut off is touched.
  abbrev pub AreMarked : BoxForest → Type 0
  AreMarked empty = Unit {0}
  AreMarked (tree k d below rest) = (cut k ≡ true → d.touched ≡ true) × AreMarked below × AreMarked rest

  pub marked : (j : BoxKey) (f : BoxForest) → AreMarked f → cut j ≡ true → is_touched j f ≡ true
  marked j empty m c = refl
  marked j (tree k d below rest) m c =
      elim (cases (same_key j k)) [
        | inl e ↦ rw e (m.0 (subst (λ x. cut x ≡ true) (same_key-sound j k e) c))
        | inr e ↦ elim (cases (has same_key j below)) [
          | inl u ↦ rw (e, u) (marked j below m.1 c)
          | inr u ↦ rw (e, u) (marked j rest m.2 c)
        ]
      ]

  marked_join : (f g : BoxForest) → AreMarked f → AreMarked g → AreMarked (f ▷ g)
  marked_join empty g m n = n
  marked_join (tree k d below rest) g m n = (m.0, m.1, marked_join rest g m.2 n)

  pub marked_children : (p : BoxKey) (f : BoxForest) → AreMarked f → AreMarked (children same_key p f)
  marked_children p empty m = tt
  marked_children p (tree k d below rest) m =
      elim (same_key p k) as (λ b. AreMarked (cond b below (children same_key p below ▷ children same_key p rest))) [
        | true ↦ m.1
        | false ↦ marked_join (children same_key p below) (children same_key p rest) (marked_children p below m.1) (marked_children p rest m.2)
      ]

  marked_from : (j : BoxKey) (f : BoxForest) → AreMarked f → AreMarked (starting_at same_key j f)
  marked_from j empty m = tt
  marked_from j (tree k d below rest) m =
      elim (same_key j k) as (λ b. AreMarked (cond b (tree k d below rest) (cond (has same_key j below) (starting_at same_key j below) (starting_at same_key j rest)))) [
        | true ↦ m
        | false ↦ elim (has same_key j below) as (λ b. AreMarked (cond b (starting_at same_key j below) (starting_at same_key j rest))) [ true ↦ marked_from j below m.1 | false ↦ marked_from j rest m.2 ]
      ]

  marked_first : (f : BoxForest) → AreMarked f → AreMarked (without_siblings f)
  marked_first empty m = tt
  marked_first (tree k d below rest) m = (m.0, m.1, tt)

  pub marked_branch : (j : BoxKey) (f : BoxForest) → AreMarked f → AreMarked (branch same_key j f)
  marked_branch j f m = marked_first (starting_at same_key j f) (marked_from j f m)

  marked_ahead : (j : BoxKey) (g f : BoxForest) → AreMarked g → AreMarked f → AreMarked (insert_before same_key j g f)
  marked_ahead j g empty m n = m
  marked_ahead j g (tree k d below rest) m n =
      elim (same_key j k) as (λ b. AreMarked (cond b (g ▷ tree k d below rest) (tree k d below (insert_before same_key j g rest)))) [
        | true ↦ marked_join g (tree k d below rest) m n
        | false ↦ (n.0, n.1, marked_ahead j g rest m n.2)
      ]

  pub marked_amid : (o : Option BoxKey) (g f : BoxForest) → AreMarked g → AreMarked f → AreMarked (insert_among same_key o g f)
  marked_amid None g f m n = marked_join f g n m
  marked_amid (Some j) g f m n = marked_ahead j g f m n

  pub marked_under : (p : BoxKey) (g f : BoxForest) → AreMarked g → AreMarked f → AreMarked (with_children same_key p g f)
  marked_under p g empty m n = tt
  marked_under p g (tree k d below rest) m n =
      elim (same_key p k) as (λ b. AreMarked (cond b (tree k d g rest) (tree k d (with_children same_key p g below) (with_children same_key p g rest)))) [
        | true ↦ (n.0, m, n.2)
        | false ↦ (n.0, marked_under p g below m n.1, marked_under p g rest m n.2)
      ]

  pub marked_without : (k : BoxKey) (f : BoxForest) → AreMarked f → AreMarked (without_branch same_key k f)
  marked_without k empty m = tt
  marked_without k (tree i d below rest) m =
      elim (same_key k i) as (λ b. AreMarked (cond b rest (tree i d (without_branch same_key k below) (without_branch same_key k rest)))) [
        | true ↦ m.2
        | false ↦ (m.0, marked_without k below m.1, marked_without k rest m.2)
      ]

  pub marked_each : (t : BoxKey → Bool) (h : Item → Item) → ((d : Item) → (h d).touched ≡ true) → ((j : BoxKey) → cut j ≡ true → t j ≡ true) → (f : BoxForest) → AreMarked (map_where t h f)
  marked_each t h q w empty = tt
  marked_each t h q w (tree k d below rest) = ((λ c. let e : t k ≡ true = w k c in rw e (q d)), marked_each t h q w below, marked_each t h q w rest)

  pub marked_none : (f : BoxForest) → ((j : BoxKey) → has same_key j f ≡ true → cut j ≡ false) → AreMarked f
  marked_none empty h = tt
  marked_none (tree k d below rest) h = (
    (λ c. absurd (never (cut k) c (h k (from_left (same_key k k) (has same_key k below || has same_key k rest) (same_key-refl k))))),
    marked_none below (λ j u. h j (from_right (same_key j k) (has same_key j below || has same_key j rest) (from_left (has same_key j below) (has same_key j rest) u))),
    marked_none rest (λ j u. h j (from_right (same_key j k) (has same_key j below || has same_key j rest) (from_right (has same_key j below) (has same_key j rest) u))),
  )
