-- The line by ranks: what is sorted, and that each edge of a merge goes forward in it.
use Rattle.std.proofs.Common.{◌≡◌, refl, ap, ◌∙◌, sym, subst, ℕ, suc, ◌+◌, ◌<◌, ◌≤◌, Bool, true, false, List, [], ◌∷◌, ◌++◌, length, map, get_or, inl, inr, ◌⊎◌, arith}
use Rattle.std.proofs.lemmas.Bool.{cases_lt}
use Rattle.rd_graph.specs.Orders.{Before}
use Rattle.rd_graph.specs.Internal.Walks.{stays_at}
use Rattle.rd_graph.specs.Internal.Ranks.{fixed, rank_after, loose_one, loose, ranked}
use Rattle.rd_graph.proofs.Lists.Listing.{Has, Once, cases, has_from, contains_from, has_left, has_right, has_either, has_map, map_has, before_right, before_across}
use Rattle.rd_graph.proofs.Lists.Gatherings.{AreBelow, one_at}

-- ---- places with ranks

module _ {E : Type 0} (rank : E → ℕ) (names : List E) where
  pub ranked_map : (ps : List ℕ) (d : E) → AreBelow (length names) ps → ranked rank names ps ≡ map (λ p. (rank (get_or names p d), p)) ps
  ranked_map [] d h = refl
  ranked_map (p ∷ ps) d h = let l = h.0 in rw (one_at names p d l, ranked_map ps d h.1) refl

  seconds : (d : E) (ps : List ℕ) → map (λ (x : ℕ × ℕ). x.1) (map (λ p. (rank (get_or names p d), p)) ps) ≡ ps
  seconds d [] = refl
  seconds d (p ∷ ps) = ap (λ qs. p ∷ qs) (seconds d ps)

pub ranked_places : {E : Type 0} (rank : E → ℕ) (names : List E) (ps : List ℕ) → AreBelow (length names) ps → map (λ (x : ℕ × ℕ). x.1) (ranked rank names ps) ≡ ps
ranked_places rank names [] h = refl
ranked_places rank [] (p ∷ ps) h = absurd (let l = h.0 in omega (arith, l))
ranked_places rank (x ∷ xs) (p ∷ ps) h = ap (λ zs. map (λ (y : ℕ × ℕ). y.1) zs) (ranked_map rank (x ∷ xs) (p ∷ ps) x h) ∙ seconds rank (x ∷ xs) x (p ∷ ps)

module _ (stays : List Bool) where
  -- the places of a chain with their ranks
  abbrev pub chain_pairs : ℕ → List ℕ → List (ℕ × ℕ)
  chain_pairs rank [] = []
  chain_pairs rank (p ∷ ps) = (rank, p) ∷ chain_pairs (rank_after stays rank p) ps

  pub chain_seconds : (rank : ℕ) (ps : List ℕ) → map (λ (x : ℕ × ℕ). x.1) (chain_pairs rank ps) ≡ ps
  chain_seconds rank [] = refl
  chain_seconds rank (p ∷ ps) = ap (λ qs. p ∷ qs) (chain_seconds (rank_after stays rank p) ps)

  after_low : (rank p : ℕ) → rank ≤ rank_after stays rank p
  after_low rank p = elim (cases (stays_at stays p)) [ inl t ↦ rw t (omega arith) | inr f ↦ rw f (omega arith) ]

  rank_low : (rank : ℕ) (ps : List ℕ) (x : ℕ × ℕ) → Has (chain_pairs rank ps) x → rank ≤ x.0
  rank_low rank [] x h = absurd h
  rank_low rank (p ∷ ps) x (inl e) = let f : rank ≡ x.0 = ap (λ (y : ℕ × ℕ). y.0) e in omega (arith, f)
  rank_low rank (p ∷ ps) x (inr h) = let l = after_low rank p in let m = rank_low (rank_after stays rank p) ps x h in omega (arith, l, m)

  pub ranks_rise : (rank : ℕ) (ps : List ℕ) (x y : ℕ × ℕ) → Before (chain_pairs rank ps) x y → (x.0 < y.0) ⊎ ((x.0 ≡ y.0) × (stays_at stays x.1 ≡ false))
  ranks_rise rank [] x y h = absurd h
  ranks_rise rank (p ∷ ps) x y (inr h) = ranks_rise (rank_after stays rank p) ps x y h
  ranks_rise rank (p ∷ ps) x y (inl h) =
      let m = rank_low (rank_after stays rank p) ps y (has_from (chain_pairs (rank_after stays rank p) ps) y h.1) in
      let e : rank ≡ x.0 = ap (λ (z : ℕ × ℕ). z.0) h.0 in
      let f : p ≡ x.1 = ap (λ (z : ℕ × ℕ). z.1) h.0 in
      elim (cases (stays_at stays p)) [
        | inl t ↦ let n : rank + 1 ≤ y.0 = (rw t at m) in inl (omega (arith, n, e))
        | inr u ↦ let n : rank ≤ y.0 = (rw u at m) in elim (cases_lt x.0 y.0) [ inl v ↦ inl v | inr v ↦ inr (omega (arith, n, e, v), ap (stays_at stays) (sym f) ∙ u) ]
      ]

  loose_pair : (rank p : ℕ) → stays_at stays p ≡ false → loose_one stays rank p ≡ (rank, p) ∷ []
  loose_pair rank p f = rw f refl

  loose_none : (rank p : ℕ) → stays_at stays p ≡ true → loose_one stays rank p ≡ []
  loose_none rank p t = rw t refl

  pub loose_has : (rank : ℕ) (ps : List ℕ) (x : ℕ × ℕ) → Has (chain_pairs rank ps) x → stays_at stays x.1 ≡ false → Has (loose stays rank ps) x
  loose_has rank [] x h f = absurd h
  loose_has rank (p ∷ ps) x (inr h) f = has_right (loose_one stays rank p) (loose stays (rank_after stays rank p) ps) x (loose_has (rank_after stays rank p) ps x h f)
  loose_has rank (p ∷ ps) x (inl e) f =
      let u : stays_at stays p ≡ false = ap (λ (z : ℕ × ℕ). stays_at stays z.1) e ∙ f in
      has_left (loose_one stays rank p) (loose stays (rank_after stays rank p) ps) x (subst (λ (zs : List (ℕ × ℕ)). Has zs x) (sym (loose_pair rank p u)) (inl e))

  pub loose_before : (rank : ℕ) (ps : List ℕ) (x y : ℕ × ℕ) → Before (chain_pairs rank ps) x y → stays_at stays x.1 ≡ false → stays_at stays y.1 ≡ false → Before (loose stays rank ps) x y
  loose_before rank [] x y h f g = absurd h
  loose_before rank (p ∷ ps) x y (inr h) f g = before_right (loose_one stays rank p) (loose stays (rank_after stays rank p) ps) x y (loose_before (rank_after stays rank p) ps x y h f g)
  loose_before rank (p ∷ ps) x y (inl h) f g =
      let u : stays_at stays p ≡ false = ap (λ (z : ℕ × ℕ). stays_at stays z.1) h.0 ∙ f in
      before_across (loose_one stays rank p) (loose stays (rank_after stays rank p) ps) x y (subst (λ (zs : List (ℕ × ℕ)). Has zs x) (sym (loose_pair rank p u)) (inl h.0))
      (loose_has (rank_after stays rank p) ps y (has_from (chain_pairs (rank_after stays rank p) ps) y h.1) g)

  pub loose_to : (rank : ℕ) (ps : List ℕ) (x : ℕ × ℕ) → Has (loose stays rank ps) x → Has ps x.1 × (stays_at stays x.1 ≡ false)
  loose_to rank [] x h = absurd h
  loose_to rank (p ∷ ps) x h = elim (has_either (loose_one stays rank p) (loose stays (rank_after stays rank p) ps) x h) [
    | inr m ↦ let r = loose_to (rank_after stays rank p) ps x m in (inr r.0, r.1)
    | inl m ↦ elim (cases (stays_at stays p)) [
      | inl t ↦ absurd (let k : Has [] x = subst (λ (zs : List (ℕ × ℕ)). Has zs x) (loose_none rank p t) m in k)
      | inr f ↦
          let k : Has ((rank, p) ∷ []) x = subst (λ (zs : List (ℕ × ℕ)). Has zs x) (loose_pair rank p f) m in
          elim k [ inl e ↦ (let s : p ≡ x.1 = ap (λ (z : ℕ × ℕ). z.1) e in (inl s, ap (stays_at stays) (sym s) ∙ f)) | inr n ↦ absurd n ]
    ]
  ]

  pub loose_once : (rank : ℕ) (ps : List ℕ) → Once ps → Once (map (λ (x : ℕ × ℕ). x.1) (loose stays rank ps))
  loose_once rank [] o = tt
  loose_once rank (p ∷ ps) o =
      let rest : List (ℕ × ℕ) = loose stays (rank_after stays rank p) ps in
      elim (cases (stays_at stays p)) [
        | inl t ↦ subst (λ (zs : List (ℕ × ℕ)). Once (map (λ (x : ℕ × ℕ). x.1) (zs ++ rest))) (sym (loose_none rank p t)) (loose_once (rank_after stays rank p) ps o.1)
        | inr f ↦ subst (λ (zs : List (ℕ × ℕ)). Once (map (λ (x : ℕ × ℕ). x.1) (zs ++ rest))) (sym (loose_pair rank p f)) (
          (λ h. let r = map_has (λ (x : ℕ × ℕ). x.1) rest p h in o.0 (subst (λ (z : ℕ). Has ps z) r.2 (loose_to (rank_after stays rank p) ps r.0 r.1).0)),
          loose_once (rank_after stays rank p) ps o.1,
        )
      ]

  -- ---- places and names of the chain that stay

  pub fixed_places : (ps : List ℕ) (p : ℕ) → Has (fixed stays ps ps) p → stays_at stays p ≡ true
  fixed_places [] p h = absurd h
  fixed_places (q ∷ ps) p h = elim (cases (stays_at stays q)) [
    | inl t ↦ let k : Has (q ∷ fixed stays ps ps) p = rw t at h in elim k [ inl e ↦ ap (stays_at stays) (sym e) ∙ t | inr m ↦ fixed_places ps p m ]
    | inr f ↦ let k : Has (fixed stays ps ps) p = rw f at h in fixed_places ps p k
  ]

  pub fixed_length : {E : Type 0} (ps : List ℕ) (ks : List E) → length ps ≡ length ks → length (fixed stays ps ps) ≡ length (fixed stays ps ks)
  fixed_length [] [] e = refl
  fixed_length [] (k ∷ ks) e = absurd (omega (arith, e))
  fixed_length (p ∷ ps) [] e = absurd (omega (arith, e))
  fixed_length (p ∷ ps) (k ∷ ks) e =
      let rest = fixed_length ps ks (omega (arith, e)) in
      elim (cases (stays_at stays p)) [ inl t ↦ rw t (omega (arith, rest)) | inr f ↦ rw f rest ]

  pub fixed_map : {E : Type 0} (f : ℕ → E) (ps : List ℕ) → fixed stays ps (map f ps) ≡ map f (fixed stays ps ps)
  fixed_map f [] = refl
  fixed_map f (p ∷ ps) = elim (cases (stays_at stays p)) [ inl t ↦ rw t (ap (λ ks. f p ∷ ks) (fixed_map f ps)) | inr u ↦ rw u (fixed_map f ps) ]

  module _ {E : Type 0} (name : ℕ → E) where
    abbrev pub fixed_of : List ℕ → List E
    fixed_of ps = fixed stays ps (map name ps)

    pub fixed_to : (ps : List ℕ) (a : E) → Has (fixed_of ps) a → (p : ℕ) × Has ps p × (stays_at stays p ≡ true) × (name p ≡ a)
    fixed_to [] a h = absurd h
    fixed_to (p ∷ ps) a h = elim (cases (stays_at stays p)) [
      | inl t ↦
          let k : Has (name p ∷ fixed_of ps) a = rw t at h in
          elim k [ inl e ↦ (p, inl refl, t, e) | inr m ↦ let r = fixed_to ps a m in (r.0, inr r.1, r.2, r.3) ]
      | inr f ↦ let k : Has (fixed_of ps) a = rw f at h in let r = fixed_to ps a k in (r.0, inr r.1, r.2, r.3)
    ]

    pub fixed_before : (ps : List ℕ) (a b : E) → Before (fixed_of ps) a b → Before (map name ps) a b
    fixed_before [] a b h = absurd h
    fixed_before (p ∷ ps) a b h = elim (cases (stays_at stays p)) [
      | inl t ↦
          let k : Before (name p ∷ fixed_of ps) a b = rw t at h in
          elim k [
            | inl m ↦ let r = fixed_to ps b (has_from (fixed_of ps) b m.1) in inl (m.0, contains_from (map name ps) b (subst (λ (z : E). Has (map name ps) z) r.3 (has_map name ps r.0 r.1)))
            | inr m ↦ inr (fixed_before ps a b m)
          ]
      | inr f ↦ let k : Before (fixed_of ps) a b = rw f at h in inr (fixed_before ps a b k)
    ]

    pub fixed_once : (ps : List ℕ) → Once (map name ps) → Once (fixed_of ps)
    fixed_once [] o = tt
    fixed_once (p ∷ ps) o = elim (cases (stays_at stays p)) [
      | inl t ↦ rw t ((λ h. let r = fixed_to ps (name p) h in o.0 (subst (λ (z : E). Has (map name ps) z) r.3 (has_map name ps r.0 r.1))), fixed_once ps o.1)
      | inr f ↦ rw f (fixed_once ps o.1)
    ]

    -- the rank of one that stays is its place among them
    pub fixed_rank : (rank : ℕ) (ps : List ℕ) (x : ℕ × ℕ) → Has (chain_pairs rank ps) x → stays_at stays x.1 ≡ true → (t : ℕ) × (x.0 ≡ rank + t) × (t < length (fixed_of ps)) × ((d : E) → get_or (fixed_of ps) t d ≡ name x.1)
    fixed_rank rank [] x h s = absurd h
    fixed_rank rank (p ∷ ps) x (inl e) s =
        let f : p ≡ x.1 = ap (λ (z : ℕ × ℕ). z.1) e in
        let r : rank ≡ x.0 = ap (λ (z : ℕ × ℕ). z.0) e in
        let t : stays_at stays p ≡ true = ap (stays_at stays) f ∙ s in
        rw t (0, omega (arith, r), omega arith, λ d. ap name f)
    fixed_rank rank (p ∷ ps) x (inr h) s = elim (cases (stays_at stays p)) [
      | inl t ↦
          let k : Has (chain_pairs (rank + 1) ps) x = rw t at h in
          let r = fixed_rank (rank + 1) ps x k s in
          let u = r.1 in
          let l = r.2 in
          rw t (suc r.0, omega (arith, u), omega (arith, l), r.3)
      | inr f ↦
          let k : Has (chain_pairs rank ps) x = rw f at h in
          let r = fixed_rank rank ps x k s in
          rw f r
    ]
