-- The nodes that a merge makes, and their edges.
use Rattle.std.proofs.Common.{◌≡◌, refl, ap, ◌∙◌, sym, subst, List, [], ◌∷◌, ◌++◌, ℕ, zero, suc, ◌<◌, ◌+◌, length, drop, get_or, arith, append_assoc, drop-cons, add-one, inl, inr, ◌⊎◌}
use Rattle.std.specs.Prelude.{map, Option, Some, None}
use Rattle.rd_graph.specs.Graphs.{Graph, nodes, Next}
use Rattle.rd_graph.specs.Patches.{not_found}
use Rattle.rd_graph.specs.Internal.Chains.{before_place}
use Rattle.rd_graph.specs.Internal.MadeNodes.{made_one, made_after}
use Rattle.rd_graph.proofs.Lists.Listing.{Has, Once}
use Rattle.rd_graph.proofs.Patches.PutInPlace.{one_at}

module _ {E : Type 0} where
  -- ---- the loop

  made_step : (ps : List E) (k : E) (ks : List E) (o : Option ℕ) (found : List (Option ℕ)) → made_after ps (k ∷ ks) (o ∷ found) ≡ made_one ps k o ++ made_after (k ∷ []) ks found
  made_step ps k ks None found = refl
  made_step ps k ks (Some i) found = refl

  pub made_next : (chain : List E) (found : List (Option ℕ)) (i : ℕ) (d : E) (o : Option ℕ) (was now total : Graph E) → i < length chain → i < length found
      → was ++ made_after (before_place chain (Some i)) (drop i chain) (drop i found) ≡ total
      → now ≡ was ++ made_one (before_place chain (Some i)) (get_or chain i d) (get_or found i o)
      → now ++ made_after (before_place chain (Some (i + 1))) (drop (i + 1) chain) (drop (i + 1) found) ≡ total
  made_next chain found i d o was now total h g so_far is =
      let k : E = get_or chain i d in
      let f : Option ℕ = get_or found i o in
      let ps : List E = before_place chain (Some i) in
      let last : before_place chain (Some (suc i)) ≡ k ∷ [] = one_at chain i k h (get_same chain i d k h) in
      let step : made_after ps (drop i chain) (drop i found) ≡ made_one ps k f ++ made_after (k ∷ []) (drop (suc i) chain) (drop (suc i) found) = rw (drop-cons chain i d h, drop-cons found i o g) (made_step ps k (drop (suc i) chain) f (drop (suc i) found)) in
      rw (is, add-one i, last) (append_assoc was (made_one ps k f) (made_after (k ∷ []) (drop (suc i) chain) (drop (suc i) found)) ∙ ap (λ g. was ++ g) (sym step) ∙ so_far)
    where
      get_same : (xs : List E) (i : ℕ) (d e : E) → i < length xs → get_or xs i d ≡ get_or xs i e
      get_same [] i d e h = absurd (omega arith)
      get_same (x ∷ xs) zero d e h = refl
      get_same (x ∷ xs) (suc i) d e h = get_same xs i d e (omega arith)

  -- ---- names

  pub made_names : (ps chain : List E) (found : List (Option ℕ)) → nodes (made_after ps chain found) ≡ not_found chain found
  made_names ps [] found = refl
  made_names ps (k ∷ ks) [] = ap (λ ns. k ∷ ns) (made_names (k ∷ []) ks [])
  made_names ps (k ∷ ks) (None ∷ found) = ap (λ ns. k ∷ ns) (made_names (k ∷ []) ks found)
  made_names ps (k ∷ ks) (Some i ∷ found) = made_names (k ∷ []) ks found

  pub not_found_in : (chain : List E) (found : List (Option ℕ)) (a : E) → Has (not_found chain found) a → Has chain a
  not_found_in [] found a h = h
  not_found_in (k ∷ ks) [] a (inl e) = inl e
  not_found_in (k ∷ ks) [] a (inr h) = inr (not_found_in ks [] a h)
  not_found_in (k ∷ ks) (None ∷ found) a (inl e) = inl e
  not_found_in (k ∷ ks) (None ∷ found) a (inr h) = inr (not_found_in ks found a h)
  not_found_in (k ∷ ks) (Some i ∷ found) a h = inr (not_found_in ks found a h)

  pub not_found_once : (chain : List E) (found : List (Option ℕ)) → Once chain → Once (not_found chain found)
  not_found_once [] found o = tt
  not_found_once (k ∷ ks) [] o = ((λ h. o.0 (not_found_in ks [] k h)), not_found_once ks [] o.1)
  not_found_once (k ∷ ks) (None ∷ found) o = ((λ h. o.0 (not_found_in ks found k h)), not_found_once ks found o.1)
  not_found_once (k ∷ ks) (Some i ∷ found) o = not_found_once ks found o.1

  pub not_found_none : (place : E → Option ℕ) (chain : List E) (a : E) → Has (not_found chain (map place chain)) a → place a ≡ None
  not_found_none place [] a h = absurd h
  not_found_none place (k ∷ ks) a h = by (place k) refl (not_found_none place ks a) h
    where
      by : (o : Option ℕ) → place k ≡ o → (Has (not_found ks (map place ks)) a → place a ≡ None) → Has (not_found (k ∷ ks) (o ∷ map place ks)) a → place a ≡ None
      by None e rest (inl f) = ap place (sym f) ∙ e
      by None e rest (inr h) = rest h
      by (Some i) e rest h = rest h

  -- ---- edges

  -- a node with a predecessor
  abbrev pub Edge : Graph E → E → E → Type 0
  Edge g a b = (ps : List E) × Has g (b, ps) × Has ps a

  head_edge : (k : E) (ps : List E) (g : Graph E) (a b : E) → Edge ((k, ps) ∷ g) a b → ((k ≡ b) × Has ps a) ⊎ Edge g a b
  head_edge k ps g a b h = elim h.1 [
    | inl e ↦ inl (ap (λ x. x.0) e, subst (λ (qs : List E). Has qs a) (sym (ap (λ x. x.1) e)) h.2)
    | inr m ↦ inr (h.0, m, h.2)
  ]

  later_edge : (x : E × List E) (g : Graph E) (a b : E) → Edge g a b → Edge (x ∷ g) a b
  later_edge x g a b h = (h.0, inr h.1, h.2)

  made_edge : (p : E) (ks : List E) (found : List (Option ℕ)) (a b : E) → Edge (made_after (p ∷ []) ks found) a b → Next (p ∷ ks) a b
  made_edge p [] found a b h = absurd h.1
  made_edge p (k ∷ ks) [] a b h = elim (head_edge k (p ∷ []) (made_after (k ∷ []) ks []) a b h) [
    | inl e ↦ elim e.1 [ inl f ↦ inl (f, e.0) | inr n ↦ absurd n ]
    | inr m ↦ inr (made_edge k ks [] a b m)
  ]
  made_edge p (k ∷ ks) (None ∷ found) a b h = elim (head_edge k (p ∷ []) (made_after (k ∷ []) ks found) a b h) [
    | inl e ↦ elim e.1 [ inl f ↦ inl (f, e.0) | inr n ↦ absurd n ]
    | inr m ↦ inr (made_edge k ks found a b m)
  ]
  made_edge p (k ∷ ks) (Some i ∷ found) a b h = inr (made_edge k ks found a b h)

  pub made_next_edge : (chain : List E) (found : List (Option ℕ)) (a b : E) → Edge (made_after [] chain found) a b → Next chain a b
  made_next_edge [] found a b h = absurd h.1
  made_next_edge (k ∷ ks) [] a b h = elim (head_edge k [] (made_after (k ∷ []) ks []) a b h) [ inl e ↦ absurd e.1 | inr m ↦ made_edge k ks [] a b m ]
  made_next_edge (k ∷ ks) (None ∷ found) a b h = elim (head_edge k [] (made_after (k ∷ []) ks found) a b h) [ inl e ↦ absurd e.1 | inr m ↦ made_edge k ks found a b m ]
  made_next_edge (k ∷ ks) (Some i ∷ found) a b h = made_edge k ks found a b h

  -- the second of two neighbours is no earlier one
  next_in : (k : E) (ks : List E) (a b : E) → Next (k ∷ ks) a b → Has ks b
  next_in k [] a b h = absurd h
  next_in k (x ∷ ks) a b (inl e) = inl e.1
  next_in k (x ∷ ks) a b (inr h) = inr (next_in x ks a b h)

  not_first : (k : E) (ks : List E) (a b : E) → Once (k ∷ ks) → Next (k ∷ ks) a b → k ≡ b → ⊥
  not_first k ks a b o h e = o.0 (subst (λ (z : E). Has ks z) (sym e) (next_in k ks a b h))

  edge_made : (p : E) (ks : List E) (found : List (Option ℕ)) (a b : E) → Once ks → Next (p ∷ ks) a b → Has (not_found ks found) b → Edge (made_after (p ∷ []) ks found) a b
  edge_made p [] found a b o h m = absurd h
  edge_made p (k ∷ ks) [] a b o (inl e) m = (p ∷ [], inl (ap (λ (z : E). (z, p ∷ [])) e.1), inl e.0)
  edge_made p (k ∷ ks) [] a b o (inr h) (inl e) = absurd (not_first k ks a b o h e)
  edge_made p (k ∷ ks) [] a b o (inr h) (inr m) = later_edge (k, p ∷ []) (made_after (k ∷ []) ks []) a b (edge_made k ks [] a b o.1 h m)
  edge_made p (k ∷ ks) (None ∷ found) a b o (inl e) m = (p ∷ [], inl (ap (λ (z : E). (z, p ∷ [])) e.1), inl e.0)
  edge_made p (k ∷ ks) (None ∷ found) a b o (inr h) (inl e) = absurd (not_first k ks a b o h e)
  edge_made p (k ∷ ks) (None ∷ found) a b o (inr h) (inr m) = later_edge (k, p ∷ []) (made_after (k ∷ []) ks found) a b (edge_made k ks found a b o.1 h m)
  edge_made p (k ∷ ks) (Some i ∷ found) a b o (inl e) m = absurd (o.0 (subst (λ (z : E). Has ks z) (sym e.1) (not_found_in ks found b m)))
  edge_made p (k ∷ ks) (Some i ∷ found) a b o (inr h) m = edge_made k ks found a b o.1 h m

  pub next_edge_made : (chain : List E) (found : List (Option ℕ)) (a b : E) → Once chain → Next chain a b → Has (not_found chain found) b → Edge (made_after [] chain found) a b
  next_edge_made [] found a b o h m = absurd h
  next_edge_made (k ∷ ks) [] a b o h (inl e) = absurd (not_first k ks a b o h e)
  next_edge_made (k ∷ ks) [] a b o h (inr m) = later_edge (k, []) (made_after (k ∷ []) ks []) a b (edge_made k ks [] a b o.1 h m)
  next_edge_made (k ∷ ks) (None ∷ found) a b o h (inl e) = absurd (not_first k ks a b o h e)
  next_edge_made (k ∷ ks) (None ∷ found) a b o h (inr m) = later_edge (k, []) (made_after (k ∷ []) ks found) a b (edge_made k ks found a b o.1 h m)
  next_edge_made (k ∷ ks) (Some i ∷ found) a b o h m = edge_made k ks found a b o.1 h m
