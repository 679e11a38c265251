-- A chain is added to a graph.
use Rattle.std.proofs.Common.{◌≡◌, refl, ap, ◌∙◌, sym, subst, ℕ, zero, suc, ◌<◌, ◌≤◌, Bool, true, false, cond, List, [], ◌∷◌, ◌++◌, length, take, drop, get_or, Option, Some, None, inl, inr, ◌⊎◌, arith}
use Rattle.std.proofs.lemmas.Bool.{cases_lt}
use Rattle.std.proofs.lemmas.List.{map-append}
use Rattle.rd_graph.specs.Orders.{Before}
use Rattle.rd_graph.specs.Graphs.{Graph, nodes, Precedes, Reaches, Next, GoTogether}
use Rattle.rd_graph.specs.Names.{place_of}
use Rattle.rd_graph.specs.Internal.Chains.{AreLabels, before_place, just_before, old_part, new_among, new_part}
use Rattle.rd_graph.specs.Names.{is_in}
use Rattle.rd_graph.proofs.Lists.Listing.{Has, Once, cases, never, has_from, contains_from, has_left, has_right, has_either, before_once, has_map, map_has, once_join}
use Rattle.rd_graph.proofs.Lists.Entries.{has_get, in_has, has_in, place_some, place_has}
use Rattle.rd_graph.proofs.Reaching.Calls.{once_of}

module _ {E : Type 0} (same : E → E → Bool) (sound : (a b : E) → same a b ≡ true → a ≡ b) (reflexive : (a : E) → same a a ≡ true) where
  -- neighbours in a chain, by their places
  next_places : (chain : List E) (a b : E) → Next chain a b → (i : ℕ) × (suc i < length chain) × ((d : E) → get_or chain i d ≡ a) × ((d : E) → get_or chain (suc i) d ≡ b)
  next_places [] a b h = absurd h
  next_places (x ∷ []) a b h = absurd h
  next_places (x ∷ y ∷ rest) a b (inl h) = (0, omega arith, (λ d. h.0), (λ d. h.1))
  next_places (x ∷ y ∷ rest) a b (inr h) = let r = next_places (y ∷ rest) a b h in (suc r.0, (let l = r.1 in omega (arith, l)), r.2, r.3)

  places_next : (chain : List E) (i : ℕ) (d : E) → suc i < length chain → Next chain (get_or chain i d) (get_or chain (suc i) d)
  places_next [] i d l = absurd (omega arith)
  places_next (x ∷ []) i d l = absurd (omega arith)
  places_next (x ∷ y ∷ rest) zero d l = inl (refl, refl)
  places_next (x ∷ y ∷ rest) (suc i) d l = inr (places_next (y ∷ rest) i d (omega arith))

  gets_before : (xs : List E) (i j : ℕ) (d : E) → i < j → j < length xs → Before xs (get_or xs i d) (get_or xs j d)
  gets_before [] i j d u l = absurd (omega arith)
  gets_before (x ∷ xs) i zero d u l = absurd (omega arith)
  gets_before (x ∷ xs) zero (suc j) d u l = inl (refl, contains_from xs (get_or xs j d) (has_get xs j d (omega arith)))
  gets_before (x ∷ xs) (suc i) (suc j) d u l = inr (gets_before xs i j d (omega arith) (omega arith))

  some_apart : (m n : ℕ) → m < n → Some m ≡ Some n → ⊥
  some_apart m n l e = let f : m ≡ n = cc in omega (arith, l, f)

  take_one : (xs : List E) (i : ℕ) (a : E) → Has (take 1 (drop i xs)) a → (i < length xs) × (get_or xs i a ≡ a)
  take_one [] zero a h = absurd h
  take_one [] (suc i) a h = absurd h
  take_one (x ∷ xs) zero a (inl e) = (omega arith, e)
  take_one (x ∷ xs) zero a (inr h) = absurd h
  take_one (x ∷ xs) (suc i) a h = let r = take_one xs i a h in ((let l = r.0 in omega (arith, l)), r.1)

  one_take : (xs : List E) (i : ℕ) (d : E) → i < length xs → Has (take 1 (drop i xs)) (get_or xs i d)
  one_take [] i d l = absurd (omega arith)
  one_take (x ∷ xs) zero d l = inl refl
  one_take (x ∷ xs) (suc i) d l = one_take xs i d (omega arith)

  pub before_next : (chain : List E) (a b : E) → Has (just_before same chain b) a → Next chain a b
  before_next chain a b h = by (place_of same chain b) refl h
    where
      by : (o : Option ℕ) → place_of same chain b ≡ o → Has (before_place chain o) a → Next chain a b
      by None e m = absurd m
      by (Some zero) e m = absurd m
      by (Some (suc i)) e m =
          let r = place_some same sound reflexive chain b (suc i) e in
          let s = take_one chain i a m in
          subst (λ (z : E). Next chain z b) s.1 (subst (λ (z : E). Next chain (get_or chain i a) z) (r.1 a) (places_next chain i a r.0))

  pub next_before : (chain : List E) → Once chain → (a b : E) → Next chain a b → Has (just_before same chain b) a
  next_before chain o a b h =
      let r = next_places chain a b h in
      let e : place_of same chain b ≡ Some (suc r.0) = subst (λ (z : E). place_of same chain z ≡ Some (suc r.0)) (r.3 b) (place_has same sound reflexive chain (suc r.0) b o r.1) in
      rw e (subst (λ (z : E). Has (take 1 (drop r.0 chain)) z) (r.2 a) (one_take chain r.0 a (let l = r.1 in omega (arith, l))))

  pub next_in : (chain : List E) (a b : E) → Next chain a b → Has chain b
  next_in chain a b h = let r = next_places chain a b h in subst (λ (z : E). Has chain z) (r.3 b) (has_get chain (suc r.0) b r.1)

  -- ---- the nodes and edges of both parts

  module _ (chain : List E) (g : Graph E) where
    abbrev both : Graph E
    both = old_part same chain g ++ new_part same chain g

    old_to : (xs : Graph E) (b : E) (ps : List E) → Has (old_part same chain xs) (b, ps) → (qs : List E) × Has xs (b, qs) × (ps ≡ qs ++ just_before same chain b)
    old_to [] b ps h = absurd h
    old_to (x ∷ xs) b ps (inl e) = (x.1, inl (ap (λ p. (p.0, x.1)) e), sym (ap (λ p. p.1) e) ∙ ap (λ p. x.1 ++ just_before same chain p.0) e)
    old_to (x ∷ xs) b ps (inr h) = let r = old_to xs b ps h in (r.0, inr r.1, r.2)

    old_from : (xs : Graph E) (b : E) (qs : List E) → Has xs (b, qs) → Has (old_part same chain xs) (b, qs ++ just_before same chain b)
    old_from xs b qs h = has_map (λ (x : E × List E). (x.0, x.1 ++ just_before same chain x.0)) xs (b, qs) h

    new_to : (stands : E → Bool) (ks : List E) (b : E) (ps : List E) → Has (new_among same stands chain ks) (b, ps) → Has ks b × (stands b ≡ false) × (ps ≡ just_before same chain b)
    new_to stands [] b ps h = absurd h
    new_to stands (k ∷ ks) b ps h = elim (cases (stands k)) [
      | inl t ↦ let m : Has (new_among same stands chain ks) (b, ps) = rw t at h in let r = new_to stands ks b ps m in (inr r.0, r.1, r.2)
      | inr f ↦
          let m : Has ((k, just_before same chain k) ∷ new_among same stands chain ks) (b, ps) = rw f at h in
          elim m [
            | inl e ↦ (inl (ap (λ p. p.0) e), ap (λ p. stands p.0) (sym e) ∙ f, sym (ap (λ p. p.1) e) ∙ ap (λ p. just_before same chain p.0) e)
            | inr n ↦ let r = new_to stands ks b ps n in (inr r.0, r.1, r.2)
          ]
    ]

    new_from : (stands : E → Bool) (ks : List E) (b : E) → Has ks b → stands b ≡ false → Has (new_among same stands chain ks) (b, just_before same chain b)
    new_from stands [] b h f = absurd h
    new_from stands (k ∷ ks) b (inl e) f = let u : stands k ≡ false = ap stands e ∙ f in rw u (inl (ap (λ z. (z, just_before same chain z)) e))
    new_from stands (k ∷ ks) b (inr h) f = has_right (cond (stands k) [] ((k, just_before same chain k) ∷ [])) (new_among same stands chain ks) (b, just_before same chain b) (new_from stands ks b h f)

    -- a node of either
    node_of : (b : E) → Has (nodes g) b ⊎ Has chain b → (qs : List E) × Has both (b, qs) × ((a : E) → Has (just_before same chain b) a → Has qs a)
    node_of b h = elim (cases (is_in same (nodes g) b)) [
      | inl t ↦
          let r = map_has (λ (x : E × List E). x.0) g b (in_has same sound (nodes g) b t) in
          let m : Has g (b, r.0.1) = subst (λ (z : E). Has g (z, r.0.1)) r.2 r.1 in
          (r.0.1 ++ just_before same chain b, has_left (old_part same chain g) (new_part same chain g) (b, r.0.1 ++ just_before same chain b) (old_from g b r.0.1 m), λ a k. has_right r.0.1 (just_before same chain b) a k)
      | inr f ↦
          let c : Has chain b = elim h [ inl m ↦ absurd (never (is_in same (nodes g) b) (has_in same reflexive (nodes g) b m) f) | inr m ↦ m ] in
          (just_before same chain b, has_right (old_part same chain g) (new_part same chain g) (b, just_before same chain b) (new_from (is_in same (nodes g)) chain b c f), λ a k. k)
    ]

    pub edges_to : (a b : E) → Precedes both a b → Precedes g a b ⊎ Next chain a b
    edges_to a b s = elim (has_either (old_part same chain g) (new_part same chain g) (b, s.0) (has_from both (b, s.0) s.1)) [
      | inl h ↦
          let r = old_to g b s.0 h in
          elim (has_either r.0 (just_before same chain b) a (subst (λ (ps : List E). Has ps a) r.2 (has_from s.0 a s.2))) [
            | inl m ↦ inl (r.0, contains_from g (b, r.0) r.1, contains_from r.0 a m)
            | inr m ↦ inr (before_next chain a b m)
          ]
      | inr h ↦ let r = new_to (is_in same (nodes g)) chain b s.0 h in inr (before_next chain a b (subst (λ (ps : List E). Has ps a) r.2 (has_from s.0 a s.2)))
    ]

    pub edges_from : Once chain → (a b : E) → Precedes g a b ⊎ Next chain a b → Precedes both a b
    edges_from o a b (inl s) =
        let h = has_left (old_part same chain g) (new_part same chain g) (b, s.0 ++ just_before same chain b) (old_from g b s.0 (has_from g (b, s.0) s.1)) in
        (s.0 ++ just_before same chain b, contains_from both (b, s.0 ++ just_before same chain b) h, contains_from (s.0 ++ just_before same chain b) a (has_left s.0 (just_before same chain b) a (has_from s.0 a s.2)))
    edges_from o a b (inr s) =
        let r = node_of b (inr (next_in chain a b s)) in
        (r.0, contains_from both (b, r.0) r.1, contains_from r.0 a (r.2 a (next_before chain o a b s)))

    pub nodes_from : (b : E) → Has (nodes g) b ⊎ Has chain b → Has (nodes both) b
    nodes_from b h = let r = node_of b h in has_map (λ (x : E × List E). x.0) both (b, r.0) r.1

    pub nodes_to : (b : E) → Has (nodes both) b → Has (nodes g) b ⊎ Has chain b
    nodes_to b h =
        let r = map_has (λ (x : E × List E). x.0) both b h in
        elim (has_either (old_part same chain g) (new_part same chain g) r.0 r.1) [
          | inl m ↦ let q = old_to g r.0.0 r.0.1 m in inl (subst (λ (z : E). Has (nodes g) z) r.2 (has_map (λ (x : E × List E). x.0) g (r.0.0, q.0) q.1))
          | inr m ↦ let q = new_to (is_in same (nodes g)) chain r.0.0 r.0.1 m in inr (subst (λ (z : E). Has chain z) r.2 q.0)
        ]

    nodes_old : (xs : Graph E) → nodes (old_part same chain xs) ≡ nodes xs
    nodes_old [] = refl
    nodes_old (x ∷ xs) = ap (λ zs. x.0 ∷ zs) (nodes_old xs)

    once_new : (stands : E → Bool) (ks : List E) → Once ks → Once (nodes (new_among same stands chain ks))
    once_new stands [] o = tt
    once_new stands (k ∷ ks) o = elim (cases (stands k)) [
      | inl t ↦ rw t (once_new stands ks o.1)
      | inr f ↦ rw f ((λ h. let r = map_has (λ (x : E × List E). x.0) (new_among same stands chain ks) k h in o.0 (subst (λ (z : E). Has ks z) r.2 (new_to stands ks r.0.0 r.0.1 r.1).0)), once_new stands ks o.1)
    ]

    pub nodes_both : nodes both ≡ nodes g ++ nodes (new_part same chain g)
    nodes_both = map-append {B = E} (λ (x : E × List E). x.0) (old_part same chain g) (new_part same chain g) ∙ ap (λ zs. zs ++ nodes (new_part same chain g)) (nodes_old g)

    pub once_both : Once (nodes g) → Once chain → Once (nodes both)
    once_both o c = rw nodes_both (once_join (nodes g) (nodes (new_part same chain g)) o (once_new (is_in same (nodes g)) chain c) (λ a h k.
        let r = map_has (λ (x : E × List E). x.0) (new_part same chain g) a k in
        let q = new_to (is_in same (nodes g)) chain r.0.0 r.0.1 r.1 in
        never (is_in same (nodes g) a) (has_in same reflexive (nodes g) a h) (subst (λ (z : E). is_in same (nodes g) z ≡ false) r.2 q.1)))

    -- labels rise along the chain
    pub chain_rises : (label : E → ℕ) → Once chain → AreLabels g chain label → GoTogether chain g → (a b : E) → Next chain a b → label a < label b
    chain_rises label o labels go a b h =
        let r = next_places chain a b h in
        let l = r.1 in
        let low : label a ≤ r.0 = subst (λ (z : E). label z ≤ r.0) (r.2 a) (labels.own r.0 a (omega (arith, l))) in
        elim (labels.from b) [
          | inl e ↦ omega (arith, e, low, l)
          | inr q ↦
              let e = q.2 in
              let m = q.1 in
              elim (cases_lt r.0 q.0) [
                | inl u ↦ omega (arith, e, u, low)
                | inr u ↦ absurd (back r.0 q.0 (omega (arith, u)) l (r.3 b) m (q.3 b))
              ]
        ]
      where
        line_once : Once go.line
        line_once = once_of go.line go.once

        -- b is at i + 1, and is or reaches what stands at j, no later than i
        back : (i j : ℕ) → j ≤ i → suc i < length chain → get_or chain (suc i) b ≡ b → j < length chain → (get_or chain j b ≡ b) ⊎ Reaches g b (get_or chain j b) → ⊥
        back i j u l e m (inl f) = let p = place_has same sound reflexive chain j b o m in let q = place_has same sound reflexive chain (suc i) b o l in some_apart j (suc i) (omega (arith, u)) (sym p ∙ ap (place_of same chain) (f ∙ sym e) ∙ q)
        back i j u l e m (inr f) =
            let forth : Before go.line (get_or chain j b) (get_or chain (suc i) b) = go.added (get_or chain j b) (get_or chain (suc i) b) (gets_before chain j (suc i) b (omega (arith, u)) l) in
            before_once go.line b (get_or chain j b) line_once (go.old b (get_or chain j b) f) (subst (λ (z : E). Before go.line (get_or chain j b) z) e forth)
