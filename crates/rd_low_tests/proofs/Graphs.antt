-- Tests of places and of a chain, for calls of graphs that are tried first.
use Rattle.std.proofs.Common.{◌≡◌, refl, ap, ◌∙◌, sym, subst, ℕ, zero, suc, ◌+◌, ◌<◌, ◌≤◌, Bool, true, false, List, [], ◌∷◌, ◌++◌, length, take, get_or, map, inl, inr, arith}
use Rattle.std.specs.Prelude.{Contains, Option}
use Rattle.std.proofs.lemmas.Bool.{cases_lt}
use Rattle.std.proofs.lemmas.List.{take_more}
use Rattle.rd_keys.specs.declared.entry.EntryKey.{EntryKey}
use Rattle.rd_graph.specs.Gathered.{gathered}
use Rattle.rd_graph.specs.Graphs.{Graph, nodes, Drops, GoesForward, GoTogether, IsLinear, Reaches}
use Rattle.rd_graph.specs.Names.{is_in, place_of, same_entry}
use Rattle.rd_graph.specs.Orders as spec
use Rattle.rd_graph.specs.Patches.{AreRising, found_in, is_gone}
use Rattle.rd_graph.proofs.Lists.Listing.{Has, Once, never, once_join}
use Rattle.rd_graph.proofs.Reaching.Calls.{once_of, once_to}
use Rattle.rd_graph.proofs.Lists.Entries.{has_in, same_entry-refl}
use Rattle.rd_graph.proofs.Patches.Marks.{gathered-next}

-- ---- names, each once

pub once_pushed : (xs new : List EntryKey) (k : EntryKey) → spec.Once xs → is_in same_entry xs k ≡ false → new ≡ xs ++ k ∷ [] → spec.Once new
once_pushed xs new k o f e = subst (λ (zs : List EntryKey). spec.Once zs) (sym e) (once_to (xs ++ k ∷ []) (once_join xs (k ∷ []) (once_of xs o) ((λ h. h), tt) (λ a h m. elim m [
  | inl s ↦ never (is_in same_entry xs k) (has_in same_entry same_entry-refl xs k (subst (λ (z : EntryKey). Has xs z) (sym s) h)) f
  | inr n ↦ n
])))

-- ---- a chain

pub together : (line chain : List EntryKey) (g linear : Graph EntryKey) → spec.Once line → IsLinear chain linear → GoesForward (Reaches g) line → GoesForward (Reaches linear) line → GoTogether chain g
together line chain g linear once is old new = record { line = line; once = once; old = old; added = λ a b k. new a b ((is.reach a b).1 k) }

take_all : {A : Type 0} (xs : List A) (i : ℕ) → length xs ≤ i → take i xs ≡ xs
take_all [] zero l = refl
take_all [] (suc i) l = refl
take_all (x ∷ xs) zero l = absurd (omega arith)
take_all (x ∷ xs) (suc i) l = ap (λ zs. x ∷ zs) (take_all xs i (omega arith))

-- ---- places

left_at : (ps : List ℕ) (p k : ℕ) → k < length ps → get_or (ps ++ p ∷ []) k 0 ≡ get_or ps k 0
left_at [] p k l = absurd (omega arith)
left_at (q ∷ ps) p zero l = refl
left_at (q ∷ ps) p (suc k) l = left_at ps p k (omega arith)

end_at : (ps : List ℕ) (p : ℕ) → get_or (ps ++ p ∷ []) (length ps) 0 ≡ p
end_at [] p = refl
end_at (q ∷ ps) p = end_at ps p

longer : (ps : List ℕ) (p : ℕ) → length (ps ++ p ∷ []) ≡ length ps + 1
longer [] p = refl
longer (q ∷ ps) p = let l = longer ps p in omega (arith, l)

module _ (ps : List ℕ) (p : ℕ) (below : (k : ℕ) → k < length ps → get_or ps k 0 < p) where
  at_end : (k : ℕ) → k ≡ length ps → get_or (ps ++ p ∷ []) k 0 ≡ p
  at_end k e = subst (λ (i : ℕ). get_or (ps ++ p ∷ []) i 0 ≡ p) (sym e) (end_at ps p)

  rising_more : AreRising ps → AreRising (ps ++ p ∷ [])
  rising_more rising j k l m =
      let n = longer ps p in
      elim (cases_lt k (length ps)) [
        | inl q ↦
            let u = left_at ps p j (omega (arith, l, q)) in
            let v = left_at ps p k q in
            let w = rising j k l q in
            omega (arith, u, v, w)
        | inr q ↦
            let e : k ≡ length ps = omega (arith, m, n, q) in
            let s : j < length ps = omega (arith, l, e) in
            let u = left_at ps p j s in
            let v = at_end k e in
            let w = below j s in
            omega (arith, u, v, w)
      ]

  below_more : (k : ℕ) → k < length (ps ++ p ∷ []) → get_or (ps ++ p ∷ []) k 0 < p + 1
  below_more k m =
      let n = longer ps p in
      elim (cases_lt k (length ps)) [
        | inl q ↦
            let v = left_at ps p k q in
            let w = below k q in
            omega (arith, v, w)
        | inr q ↦
            let e : k ≡ length ps = omega (arith, m, n, q) in
            let v = at_end k e in
            omega (arith, v)
      ]

pub rising_push : (ps new : List ℕ) (p : ℕ) → ((k : ℕ) → k < length ps → get_or ps k 0 < p) → AreRising ps → new ≡ ps ++ p ∷ [] → AreRising new
rising_push ps new p below rising is = subst (λ (qs : List ℕ). AreRising qs) (sym is) (rising_more ps p below rising)

pub below_push : (ps new : List ℕ) (p : ℕ) → ((k : ℕ) → k < length ps → get_or ps k 0 < p) → new ≡ ps ++ p ∷ [] → (k : ℕ) → k < length new → get_or new k 0 < p + 1
below_push ps new p below is = subst (λ (qs : List ℕ). (k : ℕ) → k < length qs → get_or qs k 0 < p + 1) (sym is) (below_more ps p below)

pub gathered_push : (ps : List ℕ) (xs now then : List EntryKey) (i : ℕ) (d : EntryKey) → i < length ps → get_or ps i 0 < length xs → now ≡ gathered (take i ps) xs → then ≡ now ++ get_or xs (get_or ps i 0) d ∷ []
    → then ≡ gathered (take (i + 1) ps) xs
gathered_push ps xs now then i d l m was is = is ∙ ap (λ zs. zs ++ get_or xs (get_or ps i 0) d ∷ []) was ∙ sym (gathered-next ps xs i d l m)

pub gathered_all : (ps : List ℕ) (xs now : List EntryKey) (i : ℕ) → length ps ≤ i → now ≡ gathered (take i ps) xs → now ≡ gathered ps xs
gathered_all ps xs now i l was = was ∙ ap (λ (qs : List ℕ). gathered qs xs) (take_all ps i l)

map_end : {A B : Type 0} (f : A → B) (xs : List A) (x : A) → map f (xs ++ x ∷ []) ≡ map f xs ++ f x ∷ []
map_end f [] x = refl
map_end f (y ∷ ys) x = ap (λ zs. f y ∷ zs) (map_end f ys x)

module _ (order chain : List EntryKey) where
  abbrev pub sought : List EntryKey → List (Option ℕ)
  sought part = map (λ k. place_of same_entry order k) part

  pub sought_push : (now then : List (Option ℕ)) (i : ℕ) (d : EntryKey) (r : Option ℕ) → i < length chain → now ≡ sought (take i chain) → r ≡ place_of same_entry order (get_or chain i d) → then ≡ now ++ r ∷ []
      → then ≡ sought (take (i + 1) chain)
  sought_push now then i d r l was at is =
      is ∙ ap (λ zs. zs ++ r ∷ []) was ∙ ap (λ z. sought (take i chain) ++ z ∷ []) at
      ∙ sym (ap (λ (zs : List EntryKey). sought zs) (take_more chain i d l) ∙ map_end (λ k. place_of same_entry order k) (take i chain) (get_or chain i d))

  pub sought_all : (now : List (Option ℕ)) (i : ℕ) → length chain ≤ i → now ≡ sought (take i chain) → now ≡ sought chain
  sought_all now i l was = was ∙ ap (λ (zs : List EntryKey). sought zs) (take_all chain i l)

  pub found_of : (g : Graph EntryKey) (found : List (Option ℕ)) → order ≡ nodes g → found ≡ sought chain → found ≡ found_in chain g
  found_of g found e is = is ∙ ap (λ (zs : List EntryKey). map (λ k. place_of same_entry zs k) chain) e

-- ---- what goes

nodes_length : (g : Graph EntryKey) → length (nodes g) ≡ length g
nodes_length [] = refl
nodes_length (x ∷ g) = let l = nodes_length g in omega (arith, l)

pub order_length : (order : List EntryKey) (g : Graph EntryKey) → order ≡ nodes g → length order ≡ length g
order_length order g e = ap (λ (zs : List EntryKey). length zs) e ∙ nodes_length g

pub can_drop : (gone : List ℕ) (chain order names : List EntryKey) (g left : Graph EntryKey) → order ≡ nodes g → names ≡ gathered gone order → Drops (is_in same_entry names) g left → GoTogether chain left
    → (dropped : Graph EntryKey) → Drops (is_gone gone g) g dropped → GoTogether chain dropped
can_drop gone chain order names g left e f d go dropped h =
    let s : names ≡ gathered gone (nodes g) = f ∙ ap (λ (zs : List EntryKey). gathered gone zs) e in
    let k : Drops (is_gone gone g) g left = subst (λ (zs : List EntryKey). Drops (is_in same_entry zs) g left) s d in
    record { line = go.line; once = go.once; old = λ a b r. go.old a b ((k.reach a b).1 ((h.reach a b).0 r)); added = go.added }
