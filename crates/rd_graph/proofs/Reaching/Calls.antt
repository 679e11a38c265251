-- The laws of the calls of a graph.
use Rattle.std.proofs.Common.{ℕ, ◌<◌, ◌≤◌, ◌≡◌, ap, ◌∙◌, sym, Bool, true, false, List, [], ◌∷◌, inl, inr, ◌⊎◌, arith}
use Rattle.std.proofs.lemmas.Bool.{cases_lt}
use Rattle.rd_graph.specs.Orders as spec
use Rattle.rd_graph.specs.Orders.{Before, last}
use Rattle.rd_graph.specs.Graphs.{Precedes, Reaches, Next, Stitch, Hop, here, over}
use Rattle.rd_graph.specs.Laws.{Stitching, Linking, Pruning, Lining, Patching}
use Rattle.rd_graph.specs.Internal.Lines.{SomeIsOpen, Checking, Moving, Labelling}
use Rattle.rd_graph.proofs.Lists.Listing.{Has, Once, cases, never, has_from, contains_from, before_to}
use Rattle.rd_graph.proofs.Reaching.Chains.{chain_of, chain_map, stitched, to_stitched, prune, before_next, next_before, forward_all, region, chain_reach, patched}

module _ {E : Type 0} where
  pub once_of : (xs : List E) → spec.Once xs → Once xs
  once_of [] o = tt
  once_of (x ∷ xs) o = ((λ h. o.0 (contains_from xs x h)), once_of xs o.1)

  pub once_to : (xs : List E) → Once xs → spec.Once xs
  once_to [] o = tt
  once_to (x ∷ xs) o = ((λ c. o.0 (has_from xs x c)), once_to xs o.1)

  first_left : (line : List E) (is_left : E → Bool) (a : E) → Once line → Has line a → is_left a ≡ true → (b : E) × (is_left b ≡ true) × ((c : E) → Before line c b → is_left c ≡ false)
  first_left [] is_left a o h t = absurd h
  first_left (x ∷ xs) is_left a o h t = elim (cases (is_left x)) [
    | inl u ↦ (
      x,
      u,
      λ c b. elim b [
        | inl p ↦ absurd (o.0 (has_from xs x p.1))
        | inr p ↦ absurd (o.0 (before_to xs c x p))
      ],
    )
    | inr u ↦ elim h [
      | inl e ↦ absurd (never (is_left x) (ap is_left e ∙ t) u)
      | inr m ↦
          let r = first_left xs is_left a o.1 m t in
          (r.0, r.1, λ c b. elim b [ inl p ↦ ap is_left (sym p.0) ∙ u | inr p ↦ r.2 c p ])
    ]
  ]

pub stitching : (E : Type 0) → Stitching E
stitching E = λ old new gone edges a b. (
  (λ h. stitched (Precedes old) gone a b (chain_map (Precedes new) (Stitch (Precedes old) gone) (λ x y s. (edges x y).0 s) a b h)),
  (λ h. chain_map (Stitch (Precedes old) gone) (Precedes new) (λ x y s. (edges x y).1 s) a b (to_stitched (Precedes old) gone a b h.0 h.1 h.2)),
)

pub linking : (E : Type 0) → Linking E
linking E = λ old new chain once edges a b.
    let step : E → E → Type 0 = λ x y. Reaches old x y ⊎ Before chain x y in
    let old_new : (x y : E) → Reaches old x y → Reaches new x y = λ x y h. chain_map (Precedes old) (Precedes new) (λ u v s. (edges u v).1 (inl s)) x y h in
    let next_new : (x y : E) → Before chain x y → Reaches new x y = λ x y h. chain_map (Next chain) (Precedes new) (λ u v s. (edges u v).1 (inr s)) x y (before_next chain x y h) in (
      (λ h. chain_map (Precedes new) step (λ x y s. elim ((edges x y).0 s) [ inl p ↦ inl (last p) | inr p ↦ inr (next_before chain (once_of chain once) x y (last p)) ]) a b h),
      (λ h. chain_of step (Precedes new) (λ x y s. elim s [ inl p ↦ old_new x y p | inr p ↦ next_new x y p ]) a b h),
    )

pub pruning : (E : Type 0) → Pruning E
pruning E = λ old new place up fewer implied a b. (
  (λ h. chain_map (Precedes new) (Precedes old) fewer a b h),
  (λ h. prune (Precedes old) (Precedes new) place up implied (place b) a b (omega arith) h),
)

pub some_is_open : (E : Type 0) → SomeIsOpen E
some_is_open E = λ g line is_left once forward a c t.
    let r = first_left line is_left a (once_of line once) (has_from line a c) t in
    (r.0, r.1, λ d s. r.2 d (forward d r.0 s))

pub checking : (E : Type 0) → Checking E
checking E = λ g line once forward. forward_all (Precedes g) line (once_of line once) forward

pub moving : (E : Type 0) → Moving E
moving E = λ g us part other vs keep inside forward a b s.
    region us part other vs a b (λ x h. has_from other x (keep x (contains_from part x h))) (inside a b s) (forward a b s)

pub lining : (E : Type 0) → Lining E
lining E = λ chain once. chain_reach chain (once_of chain once)

pub patching : (E : Type 0) → Patching E
patching E = λ old new gone chain place once up sound implied. patched old new gone chain (once_of chain once) place up sound implied

module _ {E : Type 0} (step : E → E → Type 0) (gone : E → Bool) (label place : E → ℕ) (up : (a b : E) → step a b → (place a < place b) × (label a ≤ label b)) where
  hop_up : (a b : E) → Hop step gone a b → (place a < place b) × (label a ≤ label b)
  hop_up a b (here s) = up a b s
  hop_up a b (over {c = c} s g r) =
      let u = up a c s in
      let v = hop_up c b r in
      let p = u.0 in
      let q = v.0 in
      let m = u.1 in
      let k = v.1 in
      (omega (arith, p, q), omega (arith, m, k))

  by_label : (a b : E) → (place a < place b) × (label a ≤ label b) → (label a < label b) ⊎ ((label a ≡ label b) × (place a < place b))
  by_label a b h = elim (cases_lt (label a) (label b)) [
    | inl l ↦ inl l
    | inr l ↦ let m = h.1 in inr (omega (arith, l, m), h.0)
  ]

pub labelling : (E : Type 0) → Labelling E
labelling E = λ old gone chain line label place up rise sorted a b s. sorted a b s (elim s [
  | inl t ↦ by_label (Precedes old) gone label place up a b (hop_up (Precedes old) gone label place up a b t.hop)
  | inr t ↦ inl (rise a b t)
])
