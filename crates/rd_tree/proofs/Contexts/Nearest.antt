-- The nearest stacking context round a place.
use Rattle.std.proofs.Common.{◌≡◌, refl, ap, ◌∙◌, sym, subst, Bool, true, false, ◌||◌, cond, ◌⊎◌, inl, inr}
use Rattle.std.specs.Prelude.{Option, Some, None}
use Rattle.rd_style.specs.Classes.{real}
use Rattle.rd_keys.specs.Keys.{same_key}
use Rattle.rd_keys.proofs.Keys.{same_key-sound, same_key-refl}
use Rattle.rd_tree.specs.Forest.{empty, tree, has, children, item_of, IsApart}
use Rattle.rd_tree.specs.Document.{BoxKey, Item, BoxForest, or_else}
use Rattle.rd_tree.specs.Contexts.{own_context, nearest_context}
use Rattle.rd_tree.proofs.Linking.Standing.{cases, never, either, from_left, from_right, join-empty, no_children, differs, apart_back}

or_none : (o : Option BoxKey) → or_else o None ≡ o
or_none None = refl
or_none (Some k) = refl

or_assoc : (a b c : Option BoxKey) → or_else (or_else a b) c ≡ or_else a (or_else b c)
or_assoc None b c = refl
or_assoc (Some k) b c = refl

or_some : (a b : Option BoxKey) (k : BoxKey) → or_else a b ≡ Some k → (a ≡ Some k) ⊎ (b ≡ Some k)
or_some None b k h = inr h
or_some (Some j) b k h = inl h

own_key : (k e : BoxKey) (d : Item) → own_context k d ≡ Some e → k ≡ e
own_key k e d h = by (real d.style false) h where
  by : (b : Bool) → cond b (Some k) None ≡ Some e → k ≡ e
  by true h = cc (h)
  by false h = cc (h)

-- that above j, and that of the children of p
abbrev pub above : BoxKey → BoxForest → Option BoxKey
above j f = nearest_context (λ k below. has same_key j below) f

abbrev pub round : BoxKey → BoxForest → Option BoxKey
round p f = nearest_context (λ k below. same_key p k || has same_key p below) f

pub above-none : (j : BoxKey) (f : BoxForest) → has same_key j f ≡ false → above j f ≡ None
above-none j empty h = refl
above-none j (tree k d below rest) h =
    let s = either (same_key j k) (has same_key j below || has same_key j rest) h in
    let t = either (has same_key j below) (has same_key j rest) s.1 in
    rw t.0 (above-none j rest t.1)

pub round-none : (p : BoxKey) (f : BoxForest) → has same_key p f ≡ false → round p f ≡ None
round-none p empty h = refl
round-none p (tree k d below rest) h =
    let s = either (same_key p k) (has same_key p below || has same_key p rest) h in
    let t = either (has same_key p below) (has same_key p rest) s.1 in
    rw (s.0, t.0) (round-none p rest t.1)

in_rest : (j k : BoxKey) (below rest : BoxForest) → same_key j k ≡ false → has same_key j below ≡ false → (same_key j k || (has same_key j below || has same_key j rest)) ≡ true → has same_key j rest ≡ true
in_rest j k below rest e u h = rw (e, u) at h

-- The context of the children of a box is that which the box makes, or that above it.
pub round-above : (k : BoxKey) (f : BoxForest) → IsApart same_key f → has same_key k f ≡ true → (d : Item) → item_of same_key k f ≡ Some d → round k f ≡ or_else (own_context k d) (above k f)
round-above k empty a m d h = absurd (never false m refl)
round-above k (tree i c below rest) a m d h =
    elim (cases (same_key k i)) [
      | inl e ↦
          let n : k ≡ i = same_key-sound k i e in
          let o : has same_key k below ≡ false = subst (λ x. has same_key x below ≡ false) (sym n) a.0 in
          let v : has same_key k rest ≡ false = subst (λ x. has same_key x rest ≡ false) (sym n) a.1 in
          let w : Some c ≡ Some d = rw e at h in
          let q : c ≡ d = cc (w) in
          let own : own_context i c ≡ own_context k d = ap (λ x. own_context x c) (sym n) ∙ ap (own_context k) q in
          rw (e, o, round-none k below o, above-none k rest v) (own ∙ sym (or_none (own_context k d)))
      | inr e ↦ elim (cases (has same_key k below)) [
        | inl u ↦
            let low : round k below ≡ or_else (own_context k d) (above k below) = round-above k below a.3 u d (rw (e, u) at h) in
            rw (e, u) (ap (λ o. or_else o (own_context i c)) low ∙ or_assoc (own_context k d) (above k below) (own_context i c))
        | inr u ↦ rw (e, u) (round-above k rest a.4 (in_rest k i below rest e u m) d (rw (e, u) at h))
      ]
    ]

-- what is below a box that is below the first one, or after it
pub children-inner : (j i : BoxKey) (d : Item) (below rest : BoxForest) → IsApart same_key (tree i d below rest) → has same_key j below ≡ true → children same_key j (tree i d below rest) ≡ children same_key j below
children-inner j i d below rest a u =
    let e : same_key j i ≡ false = differs same_key same_key-sound same_key-refl below j i u a.0 in
    rw (e, no_children same_key same_key-sound same_key-refl j rest (a.2 j u)) (join-empty (children same_key j below))

pub children-later : (j i : BoxKey) (d : Item) (below rest : BoxForest) → IsApart same_key (tree i d below rest) → has same_key j rest ≡ true → children same_key j (tree i d below rest) ≡ children same_key j rest
children-later j i d below rest a u =
    let e : same_key j i ≡ false = differs same_key same_key-sound same_key-refl rest j i u a.1 in
    let o : has same_key j below ≡ false = apart_back same_key same_key-sound same_key-refl below rest a.2 j u in
    rw (e, no_children same_key same_key-sound same_key-refl j below o) refl

-- Tests that agree of each box with what is below it find the same context.
pub nearest-same : (p q : BoxKey → BoxForest → Bool) (f : BoxForest) → IsApart same_key f
    → ((j : BoxKey) → has same_key j f ≡ true → p j (children same_key j f) ≡ q j (children same_key j f)) → nearest_context p f ≡ nearest_context q f
nearest-same p q empty a h = refl
nearest-same p q (tree i d below rest) a h =
    let here : p i below ≡ q i below =
    rw (same_key-refl i) at (h i (from_left (same_key i i) (has same_key i below || has same_key i rest) (same_key-refl i))) in
    let low : nearest_context p below ≡ nearest_context q below = nearest-same p q below a.3
    (λ j u. subst (λ z. p j z ≡ q j z) (children-inner j i d below rest a u)
    (h j (from_right (same_key j i) (has same_key j below || has same_key j rest) (from_left (has same_key j below) (has same_key j rest) u)))) in
    let later : nearest_context p rest ≡ nearest_context q rest = nearest-same p q rest a.4
    (λ j u. subst (λ z. p j z ≡ q j z) (children-later j i d below rest a u)
    (h j (from_right (same_key j i) (has same_key j below || has same_key j rest) (from_right (has same_key j below) (has same_key j rest) u)))) in
    λ t. cond (here t) (or_else (low t) (own_context i d)) (later t)

-- The context that is found is one of the boxes, and the test holds of it.
pub record Found (p : BoxKey → BoxForest → Bool) (f : BoxForest) (e : BoxKey) : Type 0 where
  pub there : has same_key e f ≡ true
  pub test : p e (children same_key e f) ≡ true

pub found : (p : BoxKey → BoxForest → Bool) (f : BoxForest) (e : BoxKey) → IsApart same_key f → nearest_context p f ≡ Some e → Found p f e
found p empty e a h = cc (h)
found p (tree i d below rest) e a h =
    elim (cases (p i below)) [
      | inl t ↦
          let n : or_else (nearest_context p below) (own_context i d) ≡ Some e = rw t at h in
          elim (or_some (nearest_context p below) (own_context i d) e n) [
            | inl u ↦ let w : Found p below e = found p below e a.3 u in record {
              there = from_right (same_key e i) (has same_key e below || has same_key e rest) (from_left (has same_key e below) (has same_key e rest) w.there);
              test = subst (λ z. p e z ≡ true) (sym (children-inner e i d below rest a w.there)) w.test;
            }
            | inr u ↦ subst (λ x. Found p (tree i d below rest) x) (own_key i e d u) (record {
              there = from_left (same_key i i) (has same_key i below || has same_key i rest) (same_key-refl i);
              test = rw (same_key-refl i) t;
            })
          ]
      | inr t ↦
          let w : Found p rest e = found p rest e a.4 (rw t at h) in
          record {
            there = from_right (same_key e i) (has same_key e below || has same_key e rest) (from_right (has same_key e below) (has same_key e rest) w.there);
            test = subst (λ z. p e z ≡ true) (sym (children-later e i d below rest a w.there)) w.test;
          }
    ]
