-- Places that are counted through, and places that rise.
use Rattle.std.proofs.Common.{◌≡◌, refl, ap, ◌∙◌, sym, subst, ℕ, zero, suc, ◌+◌, ◌<◌, ◌≤◌, Bool, true, false, List, [], ◌∷◌, ◌++◌, length, take, drop, get_or, Option, Some, None, inl, inr, ◌⊎◌, arith}
use Rattle.std.proofs.lemmas.List.{take_more}
use Rattle.std.specs.Prelude.{◌↔◌, ◌≢◌, Contains, IsTrue}
use Rattle.rd_graph.specs.Internal.Walks.{counted, place_or, free_after, RisesTo}
use Rattle.std.proofs.lemmas.Bool.{cases_lt}
use Rattle.rd_graph.specs.Patches.{AreRising}
use Rattle.rd_graph.proofs.Lists.Entries.{has_get}
use Rattle.rd_graph.proofs.Lists.Listing.{Has, has_from, contains_from, has_left, has_right, has_either}
use Rattle.rd_graph.proofs.Lists.Gatherings.{drop_at, drop_end, joins_on}

pub counted_next : (found : List (Option ℕ)) (i : ℕ) (d : Option ℕ) (free next : ℕ) (now then whole : List ℕ) → i < length found → now ++ counted free (drop i found) ≡ whole
    → next ≡ free_after free (get_or found i d) → then ≡ now ++ place_or free (get_or found i d) ∷ [] → then ++ counted next (drop (i + 1) found) ≡ whole
counted_next found i d free next now then whole l was next_is then_is =
    joins_on now then (place_or free (get_or found i d) ∷ []) (counted next (drop (i + 1) found)) whole then_is
    (ap (λ n. now ++ place_or free (get_or found i d) ∷ counted n (drop (i + 1) found)) next_is ∙ sym (ap (λ os. now ++ counted free os) (drop_at found i d l)) ∙ was)

pub free_few : (free next n i : ℕ) (o : Option ℕ) → next ≡ free_after free o → free ≤ n + i → next ≤ n + (i + 1)
free_few free next n i None e l = omega (arith, e, l)
free_few free next n i (Some p) e l = omega (arith, e, l)

-- a test and what it tells
pub yes_if : (whole : Type 0) → whole → IsTrue true ↔ whole
yes_if whole w = ((λ t. w), (λ h. refl))

pub no_if : (whole : Type 0) → (whole → ⊥) → IsTrue false ↔ whole
no_if whole n = ((λ t. absurd (cc)), (λ h. absurd (n h)))

module _ (whole : Type 0) (end least : ℕ) (ps : List ℕ) (i : ℕ) where
  pub rises_more : i < length ps → (whole ↔ RisesTo end least (drop i ps)) → least ≤ get_or ps i 0 → get_or ps i 0 < end → whole ↔ RisesTo end (get_or ps i 0 + 1) (drop (i + 1) ps)
  rises_more l was up below =
      let e = drop_at ps i 0 l in (
        (λ w. let r : RisesTo end least (get_or ps i 0 ∷ drop (i + 1) ps) = subst (λ (qs : List ℕ). RisesTo end least qs) e (was.0 w) in r.2),
        (λ r. was.1 (subst (λ (qs : List ℕ). RisesTo end least qs) (sym e) (up, below, r))),
      )

  pub rises_least : i < length ps → (whole ↔ RisesTo end least (drop i ps)) → get_or ps i 0 < least → whole → ⊥
  rises_least l was low w =
      let r : RisesTo end least (get_or ps i 0 ∷ drop (i + 1) ps) = subst (λ (qs : List ℕ). RisesTo end least qs) (drop_at ps i 0 l) (was.0 w) in
      let u = r.0 in
      omega (arith, u, low)

  pub rises_end : i < length ps → (whole ↔ RisesTo end least (drop i ps)) → end ≤ get_or ps i 0 → whole → ⊥
  rises_end l was high w =
      let r : RisesTo end least (get_or ps i 0 ∷ drop (i + 1) ps) = subst (λ (qs : List ℕ). RisesTo end least qs) (drop_at ps i 0 l) (was.0 w) in
      let u = r.1 in
      omega (arith, u, high)

  pub rises_all : length ps ≤ i → (whole ↔ RisesTo end least (drop i ps)) → whole
  rises_all l was = was.1 (subst (λ (qs : List ℕ). RisesTo end least qs) (sym (drop_end ps i l)) tt)

-- ---- those that are met on a walk

abbrev pub Met : List ℕ → List ℕ → ℕ → ℕ → ℕ → Type 0
Met gone ps i met next = ((next ≡ met) × (met < length gone → get_or gone met 0 ≢ get_or ps i 0)) ⊎ ((next ≡ met + 1) × (met < length gone) × (get_or gone met 0 ≡ get_or ps i 0))

pub met_next : (gone ps : List ℕ) (i met next : ℕ) → i < length ps → ((p : ℕ) → Has (take met gone) p → Has (take i ps) p) → Met gone ps i met next → (p : ℕ) → Has (take next gone) p → Has (take (i + 1) ps) p
met_next gone ps i met next l was (inl e) p h = rw (take_more ps i 0 l) (has_left (take i ps) (get_or ps i 0 ∷ []) p (was p (subst (λ (n : ℕ). Has (take n gone) p) e.0 h)))
met_next gone ps i met next l was (inr e) p h =
    let m = e.1 in
    let k : Has (take met gone ++ get_or gone met 0 ∷ []) p = subst (λ (qs : List ℕ). Has qs p) (take_more gone met 0 m) (subst (λ (n : ℕ). Has (take n gone) p) e.0 h) in
    rw (take_more ps i 0 l) (elim (has_either (take met gone) (get_or gone met 0 ∷ []) p k) [
      | inl r ↦ has_left (take i ps) (get_or ps i 0 ∷ []) p (was p r)
      | inr r ↦ elim r [ inl u ↦ has_right (take i ps) (get_or ps i 0 ∷ []) p (inl (sym e.2 ∙ u)) | inr u ↦ absurd u ]
    ])

-- what was gone over is no greater than the last of it
has_place : (ps : List ℕ) (i q : ℕ) → Has (take i ps) q → (j : ℕ) × (j < i) × (j < length ps) × (get_or ps j 0 ≡ q)
has_place [] zero q h = absurd h
has_place [] (suc i) q h = absurd h
has_place (x ∷ ps) zero q h = absurd h
has_place (x ∷ ps) (suc i) q (inl e) = (0, omega arith, omega arith, e)
has_place (x ∷ ps) (suc i) q (inr h) = let r = has_place ps i q h in let l = r.1 in let m = r.2 in (suc r.0, omega (arith, l), omega (arith, m), r.3)

gone_over : (ps : List ℕ) (i q : ℕ) → AreRising ps → i < length ps → Has (take (i + 1) ps) q → q ≤ get_or ps i 0
gone_over ps i q up l h =
    let r = has_place ps (i + 1) q h in
    let m = r.1 in
    let e = r.3 in
    elim (cases_lt r.0 i) [
      | inl k ↦ let u = up r.0 i k l in omega (arith, u, e)
      | inr k ↦ let s : r.0 ≡ i = omega (arith, k, m) in let f : get_or ps i 0 ≡ q = subst (λ (j : ℕ). get_or ps j 0 ≡ q) s e in omega (arith, f)
    ]

-- the next one that is looked for was not gone over
pub ahead_next : (gone ps : List ℕ) (i met next : ℕ) → AreRising gone → AreRising ps → i < length ps → (met < length gone → Has (take i ps) (get_or gone met 0) → ⊥) → Met gone ps i met next
    → next < length gone → Has (take (i + 1) ps) (get_or gone next 0) → ⊥
ahead_next gone ps i met next up rise l was (inl e) m h =
    let s = e.0 in
    let n : met < length gone = omega (arith, s, m) in
    let k : Has (take i ps ++ get_or ps i 0 ∷ []) (get_or gone met 0) = subst (λ (qs : List ℕ). Has qs (get_or gone met 0)) (take_more ps i 0 l) (subst (λ (j : ℕ). Has (take (i + 1) ps) (get_or gone j 0)) s h) in
    elim (has_either (take i ps) (get_or ps i 0 ∷ []) (get_or gone met 0) k) [ inl r ↦ was n r | inr r ↦ elim r [ inl u ↦ e.1 n (sym u) | inr u ↦ u ] ]
ahead_next gone ps i met next up rise l was (inr e) m h =
    let s = e.0 in
    let low = gone_over ps i (get_or gone next 0) rise l h in
    let more = up met next (omega (arith, s)) m in
    let same = e.2 in
    omega (arith, low, more, same)

pub take_all : {A : Type 0} (xs : List A) (i : ℕ) → length xs ≤ i → take i xs ≡ xs
take_all [] zero h = refl
take_all [] (suc i) h = refl
take_all (x ∷ xs) zero h = absurd (omega arith)
take_all (x ∷ xs) (suc i) h = ap (λ ys. x ∷ ys) (take_all xs i (omega arith))

pub met_all : (gone ps : List ℕ) (i met : ℕ) → length ps ≤ i → length gone ≤ met → ((p : ℕ) → Has (take met gone) p → Has (take i ps) p) → (p : ℕ) → Contains gone p → Contains ps p
met_all gone ps i met l m was p c = contains_from ps p (subst (λ (qs : List ℕ). Has qs p) (take_all ps i l) (was p (subst (λ (qs : List ℕ). Has qs p) (sym (take_all gone met m)) (has_from gone p c))))

pub met_not : (gone ps : List ℕ) (i met : ℕ) → length ps ≤ i → met < length gone → (met < length gone → Has (take i ps) (get_or gone met 0) → ⊥) → ((p : ℕ) → Contains gone p → Contains ps p) → ⊥
met_not gone ps i met l m was all =
    was m (subst (λ (qs : List ℕ). Has qs (get_or gone met 0)) (sym (take_all ps i l)) (has_from ps (get_or gone met 0) (all (get_or gone met 0) (contains_from gone (get_or gone met 0) (has_get gone met 0 m)))))

-- ---- places that rise, by any two of them

rises_past : (end least : ℕ) (ps : List ℕ) (k : ℕ) → RisesTo end least ps → k < length ps → least ≤ get_or ps k 0
rises_past end least [] k r l = absurd (omega arith)
rises_past end least (p ∷ ps) zero r l = r.0
rises_past end least (p ∷ ps) (suc k) r l = let u = r.0 in let v = rises_past end (p + 1) ps k r.2 (omega arith) in omega (arith, u, v)

pub are_rising : (end least : ℕ) (ps : List ℕ) → RisesTo end least ps → AreRising ps
are_rising end least [] r j k l m = absurd (omega arith)
are_rising end least (p ∷ ps) r j zero l m = absurd (omega arith)
are_rising end least (p ∷ ps) r zero (suc k) l m = let u = rises_past end (p + 1) ps k r.2 (omega arith) in omega (arith, u)
are_rising end least (p ∷ ps) r (suc j) (suc k) l m = are_rising end (p + 1) ps r.2 j k (omega arith) (omega arith)

pub both_if : (first second : Type 0) (b : Bool) → first → (IsTrue b ↔ second) → IsTrue b ↔ (first × second)
both_if first second b f s = ((λ t. (f, s.0 t)), (λ h. s.1 h.1))
