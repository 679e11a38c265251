-- Laws of reaching.
use Rattle.std.proofs.Common.{◌≡◌, refl, ap, sym, subst, ℕ, zero, suc, ◌+◌, ◌<◌, ◌≤◌, Bool, true, false, cond, List, [], ◌∷◌, ◌++◌, inl, inr, ◌⊎◌, arith}
use Rattle.std.specs.Prelude.{Contains, ◌↔◌}
use Rattle.rd_graph.specs.Orders.{Before, Chain, last, more}
use Rattle.rd_graph.specs.Graphs.{Graph, Precedes, Reaches, Next, Hop, here, over, Stitch, linked, chain_graph}
use Rattle.rd_graph.specs.Laws.{Full, Steps}
use Rattle.rd_graph.proofs.Lists.Listing.{Has, Once, cases, has_from, contains_from, has_left, has_right, has_either, before_from, before_to, before_trans, before_left, before_right, before_across, before_join}

module _ {E : Type 0} where
  -- steps that are chains of others make such chains
  pub chain_join : (step : E → E → Type 0) (a b c : E) → Chain step a b → Chain step b c → Chain step a c
  chain_join step a b c (last s) k = more s k
  chain_join step a b c (more {b = d} s r) k = more s (chain_join step d b c r k)

  pub chain_of : (step other : E → E → Type 0) → ((a b : E) → step a b → Chain other a b) → (a b : E) → Chain step a b → Chain other a b
  chain_of step other f a b (last s) = f a b s
  chain_of step other f a b (more {b = c} s r) = chain_join other a c b (f a c s) (chain_of step other f c b r)

  pub chain_map : (step other : E → E → Type 0) → ((a b : E) → step a b → other a b) → (a b : E) → Chain step a b → Chain other a b
  chain_map step other f a b h = chain_of step other (λ x y s. last (f x y s)) a b h

  -- ---- stitching: reaching is exactly kept among those that stay

  module _ (step : E → E → Type 0) (gone : E → Bool) where
    hop_chain : (a b : E) → Hop step gone a b → Chain step a b
    hop_chain a b (here s) = last s
    hop_chain a b (over {c = c} s g r) = more s (hop_chain c b r)

    -- the first that stays on the way
    to_next : (c b : E) → Chain step c b → gone b ≡ false → (d : E) × Hop step gone c d × (gone d ≡ false) × ((d ≡ b) ⊎ Chain step d b)
    to_next c b (last s) k = (b, here s, k, inl refl)
    to_next c b (more {b = d} s r) k = elim (cases (gone d)) [
      | inr f ↦ (d, here s, f, inr r)
      | inl t ↦ let q = to_next d b r k in (q.0, over s t q.1, q.2, q.3)
    ]

    long : (a b : E) → Chain step a b → ℕ
    long a b (last s) = 1
    long a b (more {b = c} s r) = suc (long c b r)

    pub stitched : (a b : E) → Chain (Stitch step gone) a b → Chain step a b × (gone a ≡ false) × (gone b ≡ false)
    stitched a b (last s) = (hop_chain a b s.hop, s.first, s.second)
    stitched a b (more {b = c} s r) = let q = stitched c b r in (chain_join step a c b (hop_chain a c s.hop) q.0, s.first, q.2)

    -- a chain, with the hop that it is in the middle of
    from_chain : (a c b : E) → gone a ≡ false → gone b ≡ false → ((x : E) → Hop step gone c x → Hop step gone a x) → Chain step c b → Chain (Stitch step gone) a b
    from_chain a c b ga gb f (last s) = last (record { hop = f b (here s); first = ga; second = gb })
    from_chain a c b ga gb f (more {b = d} s r) = elim (cases (gone d)) [
      | inl t ↦ from_chain a d b ga gb (λ x h. f x (over s t h)) r
      | inr u ↦ more (record { hop = f d (here s); first = ga; second = u }) (from_chain d d b u gb (λ x h. h) r)
    ]

    pub to_stitched : (a b : E) → Chain step a b → gone a ≡ false → gone b ≡ false → Chain (Stitch step gone) a b
    to_stitched a b h ga gb = from_chain a a b ga gb (λ x k. k) h

  -- ---- edges that other edges imply may go, all at once

  module _ (step kept : E → E → Type 0) (rank : E → ℕ)
      (up : (a b : E) → step a b → rank a < rank b)
      (implied : (a b : E) → step a b → kept a b ⊎ ((c : E) × Chain step a c × Chain step c b)) where
    rises : (a b : E) → Chain step a b → rank a < rank b
    rises a b (last s) = up a b s
    rises a b (more {b = c} s r) = omega (arith, up a c s, rises c b r)

    pub prune : (fuel : ℕ) (a b : E) → rank b ≤ rank a + fuel → Chain step a b → Chain kept a b
    prune zero a b l h = absurd (let r = rises a b h in omega (arith, r))
    prune (suc fuel) a b l (last s) = elim (implied a b s) [
      | inl k ↦ last k
      | inr k ↦
          let u = rises a k.0 k.1 in
          let v = rises k.0 b k.2 in
          chain_join kept a k.0 b (prune fuel a k.0 (omega (arith, u, v)) k.1) (prune fuel k.0 b (omega (arith, u, v)) k.2)
    ]
    prune (suc fuel) a b l (more {b = c} s r) =
        let u = up a c s in
        let v = rises c b r in
        chain_join kept a c b (prune fuel a c (omega (arith, u, v)) (last s)) (prune fuel c b (omega (arith, u, v)) r)

  -- ---- a chain by its neighbours

  pub next_to : (xs : List E) (a b : E) → Next xs a b → Before xs a b
  next_to [] a b h = h
  next_to (x ∷ []) a b h = absurd h
  next_to (x ∷ y ∷ rest) a b (inl h) = inl (h.0, contains_from (y ∷ rest) b (inl h.1))
  next_to (x ∷ y ∷ rest) a b (inr h) = inr (next_to (y ∷ rest) a b h)

  later : (x y : E) (rest : List E) (a b : E) → Chain (Next (y ∷ rest)) a b → Chain (Next (x ∷ y ∷ rest)) a b
  later x y rest a b h = chain_map (Next (y ∷ rest)) (Next (x ∷ y ∷ rest)) (λ c d s. inr s) a b h

  from_first : (x : E) (xs : List E) (b : E) → Has xs b → Chain (Next (x ∷ xs)) x b
  from_first x [] b h = absurd h
  from_first x (y ∷ rest) b (inl e) = last (inl (refl, e))
  from_first x (y ∷ rest) b (inr h) = more (inl (refl, refl)) (later x y rest y b (from_first y rest b h))

  pub before_next : (xs : List E) (a b : E) → Before xs a b → Chain (Next xs) a b
  before_next [] a b h = absurd h
  before_next (x ∷ xs) a b (inl h) = subst (λ (z : E). Chain (Next (x ∷ xs)) z b) h.0 (from_first x xs b (has_from xs b h.1))
  before_next (x ∷ []) a b (inr h) = absurd h
  before_next (x ∷ y ∷ rest) a b (inr h) = later x y rest a b (before_next (y ∷ rest) a b h)

  pub next_before : (xs : List E) → Once xs → (a b : E) → Chain (Next xs) a b → Before xs a b
  next_before xs o a b (last s) = next_to xs a b s
  next_before xs o a b (more {b = c} s r) = before_trans xs a c b o (next_to xs a c s) (next_before xs o c b r)

  -- ---- what stands forward: along chains, and after a part of the list has another order

  pub forward_all : (step : E → E → Type 0) (line : List E) → Once line → ((a b : E) → step a b → Before line a b) → (a b : E) → Chain step a b → Before line a b
  forward_all step line o f a b (last s) = f a b s
  forward_all step line o f a c (more {b = b} s r) = before_trans line a b c o (f a b s) (forward_all step line o f b c r)

  pub region : (us mid other vs : List E) (a b : E) → ((x : E) → Has mid x → Has other x) → (Before mid a b → Before other a b) → Before (us ++ (mid ++ vs)) a b → Before (us ++ (other ++ vs)) a b
  region us mid other vs a b keep inside h = elim (before_join us (mid ++ vs) a b h) [
    | inl k ↦ before_left us (other ++ vs) a b k
    | inr k ↦ elim k [
      | inl m ↦ before_across us (other ++ vs) a b m.0 (elim (has_either mid vs b m.1) [ inl r ↦ has_left other vs b (keep b r) | inr r ↦ has_right other vs b r ])
      | inr m ↦ before_right us (other ++ vs) a b (elim (before_join mid vs a b m) [
        | inl r ↦ before_left other vs a b (inside r)
        | inr r ↦ elim r [ inl q ↦ before_across other vs a b (keep a q.0) q.1 | inr q ↦ before_right other vs a b q ]
      ])
    ]
  ]

-- ---- the graph of a chain

module _ {E : Type 0} where
  linked_next : (p : E) (xs : List E) (a b : E) → Precedes (linked p xs) a b → Next (p ∷ xs) a b
  linked_next p [] a b h = absurd (has_from [] (b, h.0) h.1)
  linked_next p (x ∷ xs) a b h = elim (has_from ((x, p ∷ []) ∷ linked x xs) (b, h.0) h.1) [
    | inl e ↦
        let c : Contains (p ∷ []) a = subst (λ (ps : List E). Contains ps a) (sym (ap (λ q. q.1) e)) h.2 in
        elim (has_from (p ∷ []) a c) [ inl k ↦ inl (k, ap (λ q. q.0) e) | inr k ↦ absurd k ]
    | inr m ↦ inr (linked_next x xs a b (h.0, contains_from (linked x xs) (b, h.0) m, h.2))
  ]

  next_linked : (p : E) (xs : List E) (a b : E) → Next (p ∷ xs) a b → Precedes (linked p xs) a b
  next_linked p [] a b h = absurd h
  next_linked p (x ∷ xs) a b (inl h) = (p ∷ [], contains_from ((x, p ∷ []) ∷ linked x xs) (b, p ∷ []) (inl (ap (λ q. (q, p ∷ [])) h.1)), contains_from (p ∷ []) a (inl h.0))
  next_linked p (x ∷ xs) a b (inr h) =
      let r = next_linked x xs a b h in
      (r.0, contains_from ((x, p ∷ []) ∷ linked x xs) (b, r.0) (inr (has_from (linked x xs) (b, r.0) r.1)), r.2)

  pub chain_next : (xs : List E) (a b : E) → Precedes (chain_graph xs) a b → Next xs a b
  chain_next [] a b h = absurd (has_from [] (b, h.0) h.1)
  chain_next (x ∷ xs) a b h = elim (has_from ((x, []) ∷ linked x xs) (b, h.0) h.1) [
    | inl e ↦ absurd (has_from [] a (subst (λ (ps : List E). Contains ps a) (sym (ap (λ q. q.1) e)) h.2))
    | inr m ↦ linked_next x xs a b (h.0, contains_from (linked x xs) (b, h.0) m, h.2)
  ]

  pub next_chain : (xs : List E) (a b : E) → Next xs a b → Precedes (chain_graph xs) a b
  next_chain [] a b h = absurd h
  next_chain (x ∷ xs) a b h =
      let r = next_linked x xs a b h in
      (r.0, contains_from ((x, []) ∷ linked x xs) (b, r.0) (inr (has_from (linked x xs) (b, r.0) r.1)), r.2)

  pub chain_reach : (xs : List E) → Once xs → (a b : E) → Reaches (chain_graph xs) a b ↔ Before xs a b
  chain_reach xs o a b = (
    (λ h. next_before xs o a b (chain_map (Precedes (chain_graph xs)) (Next xs) (chain_next xs) a b h)),
    (λ h. chain_map (Next xs) (Precedes (chain_graph xs)) (next_chain xs) a b (before_next xs a b h)),
  )

-- ---- patches: the stitches and the neighbours of a chain, without what is implied

module _ {E : Type 0} where
  module _ (old new : Graph E) (gone : E → Bool) (chain : List E) (once : Once chain) where
    full_steps : (a b : E) → Full old gone chain a b → Chain (Steps old gone chain) a b
    full_steps a b (inl s) = last (inl (stitched (Precedes old) gone a b (last s)))
    full_steps a b (inr s) = last (inr (next_before chain once a b (last s)))

    steps_full : (a b : E) → Steps old gone chain a b → Chain (Full old gone chain) a b
    steps_full a b (inl s) = chain_map (Stitch (Precedes old) gone) (Full old gone chain) (λ x y h. inl h) a b (to_stitched (Precedes old) gone a b s.0 s.1 s.2)
    steps_full a b (inr s) = chain_map (Next chain) (Full old gone chain) (λ x y h. inr h) a b (before_next chain a b s)

    pub patched : (place : E → ℕ) → ((a b : E) → Full old gone chain a b → place a < place b)
        → ((a b : E) → Precedes new a b → Chain (Full old gone chain) a b)
        → ((a b : E) → Full old gone chain a b → Precedes new a b ⊎ ((c : E) × Chain (Full old gone chain) a c × Chain (Full old gone chain) c b))
        → (a b : E) → Reaches new a b ↔ Chain (Steps old gone chain) a b
    patched place up sound implied a b = (
      (λ h. chain_of (Full old gone chain) (Steps old gone chain) full_steps a b (chain_of (Precedes new) (Full old gone chain) sound a b h)),
      (λ h. prune (Full old gone chain) (Precedes new) place up implied (place b) a b (omega arith) (chain_of (Steps old gone chain) (Full old gone chain) steps_full a b h)),
    )

-- ---- the place of an element in a list

module _ {E : Type 0} (same : E → E → Bool) (sound : (a b : E) → same a b ≡ true → a ≡ b) (reflexive : (a : E) → same a a ≡ true) where
  abbrev pub place_in : List E → E → ℕ
  place_in [] a = 0
  place_in (x ∷ xs) a = cond (same x a) 0 (1 + place_in xs a)

  differ : (x a : E) → (x ≡ a → ⊥) → same x a ≡ false
  differ x a d = elim (cases (same x a)) [ inl t ↦ absurd (d (sound x a t)) | inr f ↦ f ]

  pub place_before : (xs : List E) (a b : E) → Once xs → Before xs a b → place_in xs a < place_in xs b
  place_before [] a b o h = absurd h
  place_before (x ∷ xs) a b o (inl h) =
      let t : same x a ≡ true = subst (λ (y : E). same x y ≡ true) h.0 (reflexive x) in
      let f : same x b ≡ false = differ x b (λ e. o.0 (subst (λ (y : E). Has xs y) (sym e) (has_from xs b h.1))) in
      rw (t, f) (omega arith)
  place_before (x ∷ xs) a b o (inr h) =
      let f : same x a ≡ false = differ x a (λ e. o.0 (subst (λ (y : E). Has xs y) (sym e) (before_from xs a b h))) in
      let g : same x b ≡ false = differ x b (λ e. o.0 (subst (λ (y : E). Has xs y) (sym e) (before_to xs a b h))) in
      rw (f, g) (omega (arith, place_before xs a b o.1 h))
