-- A change of some siblings leaves which boxes are grouped, but for the stacking context round them.
use Rattle.std.proofs.Common.{◌≡◌, refl, ap, ◌∙◌, sym, subst, Bool, true, false, not, ◌&&◌, ◌||◌, cond, ◌⊎◌, inl, inr}
use Rattle.std.specs.Prelude.{Option, Some, None}
use Rattle.rd_style.specs.Classes.{real, blended}
use Rattle.rd_keys.specs.Keys.{BoxKey, same_key}
use Rattle.rd_keys.proofs.Keys.{same_key-sound, same_key-refl}
use Rattle.rd_tree.specs.Forest.{empty, tree, ◌▷◌, has, starting_at, children, with_children, without_branch, at_box, IsApart}
use Rattle.rd_tree.specs.declared.node.Item.{Item}
use Rattle.rd_tree.specs.Document.{BoxForest, or_else}
use Rattle.rd_tree.specs.Contexts.{nearest_context, own_context, blends, blends_in}
use Rattle.rd_tree.proofs.Linking.Standing.{cases, never, either, flip, join-empty, no_children}
use Rattle.rd_tree.proofs.Linking.Cutting.{no_without}
use Rattle.rd_tree.proofs.Forests.Under.{no_under}
use Rattle.rd_tree.proofs.Forests.EachBranch.{each_none}
use Rattle.rd_stack.proofs.Grouping.Shape.{grouped_box, grouped_low}

-- A place in a forest: at its first box and the siblings after it, below a box that has later siblings, or after a box.
pub data Hole : Type 0 where
  here : Hole
  down : BoxKey → Item → Hole → BoxForest → Hole
  along : BoxKey → Item → BoxForest → Hole → Hole

-- with some siblings at the place
abbrev pub fill : Hole → BoxForest → BoxForest
fill here f = f
fill (down k d h rest) f = tree k d (fill h f) rest
fill (along k d below h) f = tree k d below (fill h f)

-- the nearest stacking context round the place
abbrev pub round : Hole → Option BoxKey
round here = None
round (down k d h rest) = or_else (round h) (own_context k d)
round (along k d below h) = round h

-- The context is another box than j.
abbrev pub IsOther : BoxKey → Option BoxKey → Type 0
IsOther j o = (e : BoxKey) → o ≡ Some e → same_key j e ≡ false

own_is : (k e : BoxKey) (d : Item) → own_context k d ≡ Some e → real d.style false ≡ true
own_is k e d h = by (real d.style false) h
  where
    by : (b : Bool) → cond b (Some k) None ≡ Some e → b ≡ true
    by true h = refl
    by false h = cc

blends-fill : (h : Hole) (f g : BoxForest) → blends_in f ≡ blends_in g → blends_in (fill h f) ≡ blends_in (fill h g)
blends-fill here f g e = e
blends-fill (down k d h rest) f g e = ap (λ b. blends d b || blends_in rest) (blends-fill h f g e)
blends-fill (along k d below h) f g e = ap (λ b. blends d (blends_in below) || b) (blends-fill h f g e)

-- What is below a stacking context blends with it alone.
shield : (h : Hole) (e : BoxKey) (f g : BoxForest) → round h ≡ Some e → blends_in (fill h f) ≡ blends_in (fill h g)
shield here e f g q = cc
shield (down k d h rest) e f g q = by (round h) refl (λ x c. shield h x f g c)
  where
    by : (o : Option BoxKey) → round h ≡ o → ((x : BoxKey) → round h ≡ Some x → blends_in (fill h f) ≡ blends_in (fill h g))
        → (blends d (blends_in (fill h f)) || blends_in rest) ≡ (blends d (blends_in (fill h g)) || blends_in rest)
    by (Some x) c low = ap (λ b. blends d b || blends_in rest) (low x c)
    by None c low =
        let own : own_context k d ≡ Some e = sym (ap (λ o. or_else o (own_context k d)) c) ∙ q in
        let r : real d.style false ≡ true = own_is k e d own in
        ap (λ t. (blended d.style || (not t && blends_in (fill h f))) || blends_in rest) r ∙ sym (ap (λ t. (blended d.style || (not t && blends_in (fill h g))) || blends_in rest) r)
shield (along k d below h) e f g q = ap (λ b. blends d (blends_in below) || b) (shield h e f g q)

module _ (j : BoxKey) where
  pub low-fill_same : (h : Hole) (f g : BoxForest) → blends_in f ≡ blends_in g → grouped_low f j ≡ grouped_low g j → grouped_low (fill h f) j ≡ grouped_low (fill h g) j
  low-fill_same here f g e q = q
  low-fill_same (down k d h rest) f g e q =
      λ i. (same_key j k && grouped_box d (blends-fill h f g e i)) || (low-fill_same h f g e q i || grouped_low rest j)
  low-fill_same (along k d below h) f g e q =
      ap (λ b. (same_key j k && grouped_box d (blends_in below)) || (grouped_low below j || b)) (low-fill_same h f g e q)

  -- the box round the place
  top_same : (k : BoxKey) (d : Item) (h : Hole) (f g : BoxForest) → IsOther j (or_else (round h) (own_context k d))
      → (same_key j k && grouped_box d (blends_in (fill h f))) ≡ (same_key j k && grouped_box d (blends_in (fill h g)))
  top_same k d h f g n = by (round h) refl
    where
      none : (b : Bool) → real d.style false ≡ b → (b ≡ true → same_key j k ≡ false) → (same_key j k && grouped_box d (blends_in (fill h f))) ≡ (same_key j k && grouped_box d (blends_in (fill h g)))
      none true r m = let e : same_key j k ≡ false = m refl in rw e refl
      none false r m = rw r refl

      by : (o : Option BoxKey) → round h ≡ o → (same_key j k && grouped_box d (blends_in (fill h f))) ≡ (same_key j k && grouped_box d (blends_in (fill h g)))
      by (Some x) c = ap (λ b. same_key j k && grouped_box d b) (shield h x f g c)
      by None c = none (real d.style false) refl (λ r. n k (ap (λ o. or_else o (own_context k d)) c ∙ ap (λ b. cond b (Some k) None) r))

  pub low-fill : (h : Hole) (f g : BoxForest) → IsOther j (round h) → grouped_low f j ≡ grouped_low g j → grouped_low (fill h f) j ≡ grouped_low (fill h g) j
  low-fill here f g n q = q
  low-fill (down k d h rest) f g n q =
      let low = low-fill h f g (λ e c. n e (ap (λ o. or_else o (own_context k d)) c)) q in
      λ i. top_same k d h f g n i || (low i || grouped_low rest j)
  low-fill (along k d below h) f g n q =
      ap (λ b. (same_key j k && grouped_box d (blends_in below)) || (grouped_low below j || b)) (low-fill h f g n q)

  -- A box is spared where nothing blends in a change, or where it is another than the context round it.
  abbrev pub IsSpared : Bool → Option BoxKey → Type 0
  IsSpared blending o = (blending ≡ false) ⊎ IsOther j o

  pub low-spared : (h : Hole) (f g : BoxForest) (blending : Bool) (o : Option BoxKey) → o ≡ round h → IsSpared blending o → (blending ≡ false → blends_in f ≡ blends_in g) → grouped_low f j ≡ grouped_low g j
      → grouped_low (fill h f) j ≡ grouped_low (fill h g) j
  low-spared h f g blending o c (inl n) e q = low-fill_same h f g (e n) q
  low-spared h f g blending o c (inr n) e q = low-fill h f g (λ x y. n x (c ∙ y)) q

-- the place of a box, its later siblings with it
abbrev pub hole_at : BoxKey → BoxForest → Hole
hole_at j empty = here
hole_at j (tree k d below rest) = cond (same_key j k) here (cond (has same_key j below) (down k d (hole_at j below) rest) (along k d below (hole_at j rest)))

-- the place below a box
abbrev pub hole_below : BoxKey → BoxForest → Hole
hole_below p empty = here
hole_below p (tree k d below rest) = cond (same_key p k) (down k d here rest) (cond (has same_key p below) (down k d (hole_below p below) rest) (along k d below (hole_below p rest)))

abbrev pub after_first : BoxForest → BoxForest
after_first empty = empty
after_first (tree k d below rest) = rest

abbrev pub with_first : (Item → Item) → BoxForest → BoxForest
with_first h empty = empty
with_first h (tree k d below rest) = tree k (h d) below rest

pub filled : (j : BoxKey) (f : BoxForest) → fill (hole_at j f) (starting_at same_key j f) ≡ f
filled j empty = refl
filled j (tree k d below rest) =
    elim (cases (same_key j k)) [
      | inl e ↦ rw e refl
      | inr e ↦ elim (cases (has same_key j below)) [
        | inl u ↦ rw (e, u) (ap (λ z. tree k d z rest) (filled j below))
        | inr u ↦ rw (e, u) (ap (tree k d below) (filled j rest))
      ]
    ]

pub in_rest : (j k : BoxKey) (below rest : BoxForest) → same_key j k ≡ false → has same_key j below ≡ false → (same_key j k || (has same_key j below || has same_key j rest)) ≡ true → has same_key j rest ≡ true
in_rest j k below rest e u h = rw (e, u) at h

pub without-fill : (j : BoxKey) (f : BoxForest) → IsApart same_key f → has same_key j f ≡ true → without_branch same_key j f ≡ fill (hole_at j f) (after_first (starting_at same_key j f))
without-fill j empty a m = cc
without-fill j (tree k d below rest) a m =
    elim (cases (same_key j k)) [
      | inl e ↦ rw e refl
      | inr e ↦ elim (cases (has same_key j below)) [
        | inl u ↦
            let o : without_branch same_key j rest ≡ rest = no_without same_key same_key-sound same_key-refl j rest (a.2 j u) in
            let low = without-fill j below a.3 u in
            rw (e, u) (λ i. tree k d (low i) (o i))
        | inr u ↦
            let o : without_branch same_key j below ≡ below = no_without same_key same_key-sound same_key-refl j below u in
            let later = without-fill j rest a.4 (in_rest j k below rest e u m) in
            rw (e, u) (λ i. tree k d (o i) (later i))
      ]
    ]

key_flip : (i j : BoxKey) → same_key i j ≡ same_key j i
key_flip i j = flip same_key same_key-sound same_key-refl i j

pub off_key : (k : BoxKey) (h : Item → Item) (f : BoxForest) → has same_key k f ≡ false → at_box same_key k h f ≡ f
off_key k h f o = each_none (λ i. same_key i k) h same_key same_key-refl f (λ i u. other i u)
  where
    other : (i : BoxKey) → has same_key i f ≡ true → same_key i k ≡ false
    other i u = elim (cases (same_key i k)) [
      | inl e ↦ absurd (never (has same_key i f) u (subst (λ x. has same_key x f ≡ false) (sym (same_key-sound i k e)) o))
      | inr e ↦ e
    ]

pub box-fill : (k : BoxKey) (h : Item → Item) (f : BoxForest) → IsApart same_key f → has same_key k f ≡ true → at_box same_key k h f ≡ fill (hole_at k f) (with_first h (starting_at same_key k f))
box-fill k h empty a m = cc
box-fill k h (tree i d below rest) a m =
    elim (cases (same_key k i)) [
      | inl e ↦
          let n : k ≡ i = same_key-sound k i e in
          let low : at_box same_key k h below ≡ below = off_key k h below (subst (λ x. has same_key x below ≡ false) (sym n) a.0) in
          let later : at_box same_key k h rest ≡ rest = off_key k h rest (subst (λ x. has same_key x rest ≡ false) (sym n) a.1) in
          let own : same_key i k ≡ true = key_flip i k ∙ e in
          rw (e, own) (λ t. tree i (h d) (low t) (later t))
      | inr e ↦
          let own : same_key i k ≡ false = key_flip i k ∙ e in
          elim (cases (has same_key k below)) [
            | inl u ↦
                let low = box-fill k h below a.3 u in
                let later : at_box same_key k h rest ≡ rest = off_key k h rest (a.2 k u) in
                rw (e, u, own) (λ t. tree i d (low t) (later t))
            | inr u ↦
                let low : at_box same_key k h below ≡ below = off_key k h below u in
                let later = box-fill k h rest a.4 (in_rest k i below rest e u m) in
                rw (e, u, own) (λ t. tree i d (low t) (later t))
          ]
    ]

pub under-fill : (p : BoxKey) (g f : BoxForest) → IsApart same_key f → has same_key p f ≡ true → with_children same_key p g f ≡ fill (hole_below p f) g
under-fill p g empty a m = cc
under-fill p g (tree k d below rest) a m =
    elim (cases (same_key p k)) [
      | inl e ↦ rw e refl
      | inr e ↦ elim (cases (has same_key p below)) [
        | inl u ↦
            let o : with_children same_key p g rest ≡ rest = no_under same_key same_key-sound same_key-refl p g rest (a.2 p u) in
            let low = under-fill p g below a.3 u in
            rw (e, u) (λ i. tree k d (low i) (o i))
        | inr u ↦
            let o : with_children same_key p g below ≡ below = no_under same_key same_key-sound same_key-refl p g below u in
            let later = under-fill p g rest a.4 (in_rest p k below rest e u m) in
            rw (e, u) (λ i. tree k d (o i) (later i))
      ]
    ]

pub children-fill : (p : BoxKey) (f : BoxForest) → IsApart same_key f → has same_key p f ≡ true → fill (hole_below p f) (children same_key p f) ≡ f
children-fill p empty a m = cc
children-fill p (tree k d below rest) a m =
    elim (cases (same_key p k)) [
      | inl e ↦ rw e refl
      | inr e ↦ elim (cases (has same_key p below)) [
        | inl u ↦
            let c : children same_key p below ▷ children same_key p rest ≡ children same_key p below =
            ap (λ z. children same_key p below ▷ z) (no_children same_key same_key-sound same_key-refl p rest (a.2 p u)) ∙ join-empty (children same_key p below) in
            rw (e, u) (ap (λ z. tree k d (fill (hole_below p below) z) rest) c ∙ ap (λ z. tree k d z rest) (children-fill p below a.3 u))
        | inr u ↦
            let c : children same_key p below ▷ children same_key p rest ≡ children same_key p rest =
            ap (λ z. z ▷ children same_key p rest) (no_children same_key same_key-sound same_key-refl p below u) in
            rw (e, u) (ap (λ z. tree k d below (fill (hole_below p rest) z)) c ∙ ap (tree k d below) (children-fill p rest a.4 (in_rest p k below rest e u m)))
      ]
    ]

-- The nearest context above a box, and that of its children, are those round the two places.
abbrev above_of : BoxKey → BoxKey → BoxForest → Bool
above_of j k below = has same_key j below

abbrev at_or_above : BoxKey → BoxKey → BoxForest → Bool
at_or_above p k below = same_key p k || has same_key p below

pub above-none : (j : BoxKey) (f : BoxForest) → has same_key j f ≡ false → nearest_context (λ k below. has same_key j below) f ≡ None
above-none j empty h = refl
above-none j (tree k d below rest) h =
    let s = either (same_key j k) (has same_key j below || has same_key j rest) h in
    let t = either (has same_key j below) (has same_key j rest) s.1 in
    rw t.0 (above-none j rest t.1)

pub above-round : (j : BoxKey) (f : BoxForest) → IsApart same_key f → has same_key j f ≡ true → nearest_context (λ k below. has same_key j below) f ≡ round (hole_at j f)
above-round j empty a m = cc
above-round j (tree k d below rest) a m =
    elim (cases (same_key j k)) [
      | inl e ↦
          let n : j ≡ k = same_key-sound j k e in
          let o : has same_key j below ≡ false = subst (λ x. has same_key x below ≡ false) (sym n) a.0 in
          rw (e, o) (above-none j rest (subst (λ x. has same_key x rest ≡ false) (sym n) a.1))
      | inr e ↦ elim (cases (has same_key j below)) [
        | inl u ↦ rw (e, u) (ap (λ o. or_else o (own_context k d)) (above-round j below a.3 u))
        | inr u ↦ rw (e, u) (above-round j rest a.4 (in_rest j k below rest e u m))
      ]
    ]

pub at-none : (p : BoxKey) (f : BoxForest) → has same_key p f ≡ false → nearest_context (λ k below. same_key p k || has same_key p below) f ≡ None
at-none p empty h = refl
at-none p (tree k d below rest) h =
    let s = either (same_key p k) (has same_key p below || has same_key p rest) h in
    let t = either (has same_key p below) (has same_key p rest) s.1 in
    rw (s.0, t.0) (at-none p rest t.1)

pub at-round : (p : BoxKey) (f : BoxForest) → IsApart same_key f → has same_key p f ≡ true → nearest_context (λ k below. same_key p k || has same_key p below) f ≡ round (hole_below p f)
at-round p empty a m = cc
at-round p (tree k d below rest) a m =
    elim (cases (same_key p k)) [
      | inl e ↦
          let o : has same_key p below ≡ false = subst (λ x. has same_key x below ≡ false) (sym (same_key-sound p k e)) a.0 in
          rw e (ap (λ o. or_else o (own_context k d)) (at-none p below o))
      | inr e ↦ elim (cases (has same_key p below)) [
        | inl u ↦ rw (e, u) (ap (λ o. or_else o (own_context k d)) (at-round p below a.3 u))
        | inr u ↦ rw (e, u) (at-round p rest a.4 (in_rest p k below rest e u m))
      ]
    ]
