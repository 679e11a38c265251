-- A line of old places that stay and of the places of a chain.
use Rattle.std.proofs.Common.{◌≡◌, refl, ap, ◌∙◌, sym, subst, ℕ, ◌+◌, ◌<◌, Bool, true, false, List, [], ◌∷◌, ◌++◌, length, map, get_or, Option, Some, inl, inr, ◌⊎◌, arith, zero, suc}
use Rattle.std.specs.Prelude.{◌↔◌, Contains, IsTrue}
use Rattle.std.proofs.lemmas.Bool.{cases_lt}
use Rattle.rd_keys.specs.declared.entry.EntryKey.{EntryKey}
use Rattle.rd_graph.specs.Graphs.{Graph, nodes, IsInOrder, Precedes, Stitch}
use Rattle.rd_graph.specs.Orders.{Before}
use Rattle.rd_graph.specs.Laws.{Full}
use Rattle.rd_graph.specs.Gathered.{gathered}
use Rattle.rd_graph.specs.Names.{place_of, same_entry}
use Rattle.rd_graph.specs.Patches.{CanBePatched, IsArranged, is_gone, not_found}
use Rattle.rd_graph.specs.Internal.Walks.{stays_at, counted}
use Rattle.rd_graph.proofs.Lists.Listing.{Has, Once, cases, never, has_from, contains_from, map_has}
use Rattle.rd_graph.proofs.Reaching.Calls.{once_of}
use Rattle.rd_graph.proofs.Lists.Entries.{same_entry-refl, has_in, has_get}
use Rattle.rd_graph.proofs.Reaching.Sorting.{before_map, map_before}
use Rattle.rd_graph.proofs.Lists.Gatherings.{AreBelow, below_has, has_below, gathered_map, gathered_once, apart_at}
use Rattle.rd_graph.proofs.LinedUp.LineFacts.{node_length, all_length, once_all, line_given}
use Rattle.rd_graph.proofs.LinedUp.ChainPlaces.{gathered_has, has_gathered, get_left, chain_named}
use Rattle.rd_graph.proofs.LinedUp.StandingStill.{gone_below, gone_at, stitch_before}
use Rattle.rd_graph.proofs.LinedUp.Walks.{stays_below}
use Rattle.rd_graph.proofs.Reaching.Chains.{next_to}

module _ {E : Type 0} where
  once_map_apart : (f : ℕ → E) (ps : List ℕ) → ((p q : ℕ) → Has ps p → Has ps q → f p ≡ f q → p ≡ q) → Once ps → Once (map f ps)
  once_map_apart f [] apart o = tt
  once_map_apart f (p ∷ ps) apart o = (
    (λ h. let r = map_has f ps (f p) h in o.0 (subst (λ (z : ℕ). Has ps z) (apart r.0 p (inr r.1) (inl refl) r.2) r.1)),
    once_map_apart f ps (λ q r h k e. apart q r (inr h) (inr k) e) o.1,
  )

  pub same_place : (xs : List E) (p q : ℕ) (d : E) → Once xs → p < length xs → q < length xs → get_or xs p d ≡ get_or xs q d → p ≡ q
  same_place xs p q d o l m e = elim (cases_lt p q) [
    | inl u ↦ absurd (apart_at xs p q d o u m e)
    | inr u ↦ elim (cases_lt q p) [
      | inl v ↦ absurd (apart_at xs q p d o v l (sym e))
      | inr v ↦ omega (arith, u, v)
    ]
  ]

  once_gathered : (xs : List E) (ps : List ℕ) → Once xs → AreBelow (length xs) ps → Once ps → Once (gathered ps xs)
  once_gathered xs [] o below once = tt
  once_gathered [] (p ∷ ps) o below once = absurd (let l = below.0 in omega (arith, l))
  once_gathered (x ∷ xs) (p ∷ ps) o below once =
      subst Once (sym (gathered_map (p ∷ ps) (x ∷ xs) x below))
      (once_map_apart (λ q. get_or (x ∷ xs) q x) (p ∷ ps) (λ q r h k e. same_place (x ∷ xs) q r x o (below_has (length (x ∷ xs)) (p ∷ ps) q below h) (below_has (length (x ∷ xs)) (p ∷ ps) r below k) e) once)

  pub before_places : (xs : List E) (a b d : E) → Before xs a b → (i : ℕ) × (j : ℕ) × (i < j) × (j < length xs) × (get_or xs i d ≡ a) × (get_or xs j d ≡ b)
  before_places [] a b d h = absurd h
  before_places (x ∷ xs) a b d (inl h) = let c = at_any xs b d (has_from xs b h.1) in (0, suc c.0, omega arith, (let l = c.1 in omega (arith, l)), h.0, c.2)
    where
      at_any : (ys : List E) (b d : E) → Has ys b → (k : ℕ) × (k < length ys) × (get_or ys k d ≡ b)
      at_any [] b d m = absurd m
      at_any (y ∷ ys) b d (inl e) = (0, omega arith, e)
      at_any (y ∷ ys) b d (inr m) = let c = at_any ys b d m in (suc c.0, (let l = c.1 in omega (arith, l)), c.2)
  before_places (x ∷ xs) a b d (inr h) = let r = before_places xs a b d h in (suc r.0, suc r.1, (let l = r.2 in omega (arith, l)), (let l = r.3 in omega (arith, l)), r.4, r.5)

module _ (gone : List ℕ) (chain : List EntryKey) (found : List (Option ℕ)) (g : Graph EntryKey) (can : CanBePatched gone chain found g) (sound : IsInOrder g)
    (stays : List Bool) (places : List ℕ) (size : length stays ≡ length g) (marked : (p : ℕ) → p < length g → IsTrue (stays_at stays p) ↔ (Contains gone p → ⊥))
    (are : places ≡ counted (length g) found) where
  abbrev old : List EntryKey
  old = nodes g

  abbrev every : List EntryKey
  every = old ++ not_found chain found

  pub once_every : Once every
  once_every = once_all gone chain found g can sound

  pub once_old : Once old
  once_old = once_of old sound.once

  pub count : length every ≡ length g + length (not_found chain found)
  count = all_length gone chain found g can sound

  pub at_old : (p : ℕ) (d : EntryKey) → p < length g → get_or every p d ≡ get_or old p d
  at_old p d l = let e = node_length g in get_left old (not_found chain found) p d (omega (arith, l, e))

  pub chained : (gathered places every ≡ chain) × AreBelow (length every) places
  chained =
      let e = node_length g in
      let whole : places ≡ counted (length g) (map (λ k. place_of same_entry old k) chain) = are ∙ ap (λ fs. counted (length g) fs) can.found_are in
      let r = chain_named old every (λ i d l. get_left old (not_found chain found) i d l) (omega (arith, count, e)) old chain (length g) (omega (arith, e)) (ap (λ fs. old ++ not_found chain fs) can.found_are) in
      subst (λ (ps : List ℕ). (gathered ps every ≡ chain) × AreBelow (length every) ps) (sym whole) r

  pub once_places : Once places
  once_places = gathered_once places every chained.1 (subst Once (sym chained.0) (once_of chain can.once))

  -- an old name that stays, and its place
  pub stays_if : (a : EntryKey) (p : ℕ) → p < length g → get_or old p a ≡ a → is_gone gone g a ≡ false → stays_at stays p ≡ true
  stays_if a p l e f = (marked p l).1 (λ c. never (is_gone gone g a)
      (has_in same_entry same_entry-refl (gathered gone old) a (subst (λ (z : EntryKey). Has (gathered gone old) z) e (has_gathered gone old p a (gone_below gone chain found g can sound) (has_from gone p c)))) f)

  pub not_gone : (a : EntryKey) (p : ℕ) → p < length g → get_or old p a ≡ a → stays_at stays p ≡ true → is_gone gone g a ≡ false
  not_gone a p l e t = elim (cases (is_gone gone g a)) [
    | inr f ↦ f
    | inl y ↦
        let q = gone_at gone chain found g can sound a y in
        let m = below_has (length old) gone q.0 (gone_below gone chain found g can sound) q.1 in
        let n = node_length g in
        let s : q.0 ≡ p = same_place old q.0 p a once_old m (omega (arith, l, n)) (q.2 ∙ sym e) in
        absurd ((marked p l).0 t (contains_from gone p (subst (λ (z : ℕ). Has gone z) s q.1)))
  ]

  module _ (line : List ℕ) (to : (p : ℕ) → Has line p → (stays_at stays p ≡ true) ⊎ Has places p) (from_stays : (p : ℕ) → stays_at stays p ≡ true → Has line p) (from_chain : (p : ℕ) → Has places p → Has line p) (once : Once line)
      (stitch_forward : (a b : EntryKey) (p q : ℕ) → Stitch (Precedes g) (is_gone gone g) a b → p < q → p < length g → q < length g → get_or (nodes g) p a ≡ a → get_or (nodes g) q a ≡ b → stays_at stays p ≡ true → stays_at stays q ≡ true → Before line p q)
      (chain_forward : (p q : ℕ) → Before places p q → Before line p q) where
    below : AreBelow (length every) line
    below = has_below (length every) line (λ p h. elim (to p h) [
      | inl t ↦ let l = stays_below stays p t in omega (arith, l, size, count)
      | inr k ↦ below_has (length every) places p chained.1 k
    ])

    once_line : Once (gathered line every)
    once_line = once_gathered every line once_every below once

    name_to : (a : EntryKey) → Has (gathered line every) a → (Has old a × (is_gone gone g a ≡ false)) ⊎ Has chain a
    name_to a h =
        let r = gathered_has line every a below h in
        elim (to r.0 r.1) [
          | inl t ↦
              let u = stays_below stays r.0 t in
              let n = node_length g in
              let l : r.0 < length g = omega (arith, u, size) in
              let e : get_or old r.0 a ≡ a = sym (at_old r.0 a l) ∙ r.2 in
              inl (subst (λ (z : EntryKey). Has old z) e (has_get old r.0 a (omega (arith, l, n))), not_gone a r.0 l e t)
          | inr k ↦ inr (subst (λ (ks : List EntryKey). Has ks a) chained.0 (subst (λ (z : EntryKey). Has (gathered places every) z) r.2 (has_gathered places every r.0 a chained.1 k)))
        ]

    name_from : (a : EntryKey) → (Has old a × (is_gone gone g a ≡ false)) ⊎ Has chain a → Has (gathered line every) a
    name_from a (inl h) =
        let c = contains_from old a h.0 in
        let m = c.1 in
        let n = node_length g in
        let l : c.0 < length g = omega (arith, m, n) in
        let k : Has line c.0 = from_stays c.0 (stays_if a c.0 l c.2 h.1) in
        subst (λ (z : EntryKey). Has (gathered line every) z) (at_old c.0 a l ∙ c.2) (has_gathered line every c.0 a below k)
    name_from a (inr h) =
        let r = gathered_has places every a chained.1 (subst (λ (ks : List EntryKey). Has ks a) (sym chained.0) h) in
        subst (λ (z : EntryKey). Has (gathered line every) z) r.2 (has_gathered line every r.0 a below (from_chain r.0 r.1))

    -- two places of the line, one before the other
    in_line : (a b d : EntryKey) (p q : ℕ) → Before line p q → get_or every p d ≡ a → get_or every q d ≡ b → Before (gathered line every) a b
    in_line a b d p q h e f =
        subst (λ (ks : List EntryKey). Before ks a b) (sym (gathered_map line every d below))
        (subst (λ (z : EntryKey). Before (map (λ (r : ℕ). get_or every r d) line) z b) e (subst (λ (z : EntryKey). Before (map (λ (r : ℕ). get_or every r d) line) (get_or every p d) z) f (before_map (λ (r : ℕ). get_or every r d) line p q h)))

    along : (a b : EntryKey) → Before chain a b → Before (gathered line every) a b
    along a b h =
        let k : Before (map (λ (r : ℕ). get_or every r a) places) a b = subst (λ (ks : List EntryKey). Before ks a b) (sym chained.0 ∙ gathered_map places every a chained.1) h in
        let r = map_before (λ (r : ℕ). get_or every r a) places a b k in
        in_line a b a r.0 r.1 (chain_forward r.0 r.1 r.2) r.3 r.4

    goes_forward : (a b : EntryKey) → Full g (is_gone gone g) chain a b → Before (gathered line every) a b
    goes_forward a b (inr s) = along a b (next_to chain a b s)
    goes_forward a b (inl s) = elim (stitch_before gone chain found g can sound a b (inl s)) [
      | inr h ↦ along a b h
      | inl h ↦
          let r = before_places old a b a h.0 in
          let n = node_length g in
          let u = r.2 in
          let v = r.3 in
          let l : r.0 < length g = omega (arith, u, v, n) in
          let m : r.1 < length g = omega (arith, v, n) in
          let t = stays_if a r.0 l r.4 h.1 in
          let w = stays_if b r.1 m (other_default old r.1 a b v ∙ r.5) h.2 in
          in_line a b a r.0 r.1 (stitch_forward a b r.0 r.1 s u l m r.4 r.5 t w) (at_old r.0 a l ∙ r.4) (at_old r.1 a m ∙ r.5)
    ]
      where
        other_default : (xs : List EntryKey) (k : ℕ) (d e : EntryKey) → k < length xs → get_or xs k e ≡ get_or xs k d
        other_default [] k d e l = absurd (omega arith)
        other_default (x ∷ xs) zero d e l = refl
        other_default (x ∷ xs) (suc k) d e l = other_default xs k d e (omega arith)

    pub placed_line : IsArranged gone chain found g (Some line)
    placed_line = line_given gone chain found g can sound line below once_line (λ a. (name_to a, name_from a)) goes_forward
