-- The loops of a walk along the old places.
use Rattle.std.proofs.Common.{◌≡◌, refl, ap, ◌∙◌, sym, subst, ℕ, ◌+◌, ◌-◌, ◌<◌, ◌≤◌, Bool, false, List, [], ◌∷◌, ◌++◌, length, take, drop, get_or, inl, inr, arith}
use Rattle.std.proofs.lemmas.Bool.{cases_lt}
use Rattle.std.proofs.lemmas.List.{take_more}
use Rattle.std.specs.Prelude.{IsTrue, ◌↔◌, ◌≢◌, Contains}
use Rattle.rd_graph.specs.Internal.Walks.{stays_at, staying, from_after, led_to, walk, RisesWhere}
use Rattle.rd_graph.proofs.Lists.Listing.{Has, never, has_from, contains_from, has_left, has_right, has_either}
use Rattle.rd_graph.proofs.Lists.Gatherings.{drop_at, drop_end, joins_on}
use Rattle.rd_graph.proofs.Lists.Countings.{take_all}

-- ---- marks

pub marks_next : (old new : List Bool) (count : ℕ) (gone : List ℕ) (i : ℕ) → i < length gone → stays_at new (get_or gone i 0) ≡ false → ((p : ℕ) → p ≢ get_or gone i 0 → stays_at new p ≡ stays_at old p)
    → ((p : ℕ) → p < count → IsTrue (stays_at old p) ↔ (Has (take i gone) p → ⊥)) → (p : ℕ) → p < count → IsTrue (stays_at new p) ↔ (Has (take (i + 1) gone) p → ⊥)
marks_next old new count gone i l here others was p m = rw (take_more gone i 0 l) (elim (cases_lt (get_or gone i 0) p) [
  | inl v ↦ let d : p ≢ get_or gone i 0 = omega (arith, v) in other d
  | inr v ↦ elim (cases_lt p (get_or gone i 0)) [
    | inl w ↦ let d : p ≢ get_or gone i 0 = omega (arith, w) in other d
    | inr w ↦ let e : p ≡ get_or gone i 0 = omega (arith, v, w) in same e
  ]
])
  where
    other : (p ≢ get_or gone i 0) → IsTrue (stays_at new p) ↔ (Has (take i gone ++ get_or gone i 0 ∷ []) p → ⊥)
    other d = subst (λ (b : Bool). IsTrue b ↔ (Has (take i gone ++ get_or gone i 0 ∷ []) p → ⊥)) (sym (others p d)) (
      (λ t h. elim (has_either (take i gone) (get_or gone i 0 ∷ []) p h) [ inl k ↦ (was p m).0 t k | inr k ↦ elim k [ inl e ↦ d (sym e) | inr z ↦ z ] ]),
      (λ f. (was p m).1 (λ h. f (has_left (take i gone) (get_or gone i 0 ∷ []) p h))),
    )

    same : p ≡ get_or gone i 0 → IsTrue (stays_at new p) ↔ (Has (take i gone ++ get_or gone i 0 ∷ []) p → ⊥)
    same e = subst (λ (q : ℕ). IsTrue (stays_at new q) ↔ (Has (take i gone ++ get_or gone i 0 ∷ []) q → ⊥)) (sym e) (
      (λ t. absurd (never _ t here)),
      (λ f. absurd (f (has_right (take i gone) (get_or gone i 0 ∷ []) (get_or gone i 0) (inl refl)))),
    )

pub marks_all : (stays : List Bool) (count : ℕ) (gone : List ℕ) (i : ℕ) → length gone ≤ i → ((p : ℕ) → p < count → IsTrue (stays_at stays p) ↔ (Has (take i gone) p → ⊥))
    → (p : ℕ) → p < count → IsTrue (stays_at stays p) ↔ (Contains gone p → ⊥)
marks_all stays count gone i l was p m =
    let r : IsTrue (stays_at stays p) ↔ (Has gone p → ⊥) = subst (λ (qs : List ℕ). IsTrue (stays_at stays p) ↔ (Has qs p → ⊥)) (take_all gone i l) (was p m) in
    ((λ t c. r.0 t (has_from gone p c)), (λ f. r.1 (λ h. f (contains_from gone p h))))

-- ---- the walk

pub walk_next : (stays : List Bool) (ps : List ℕ) (i from next : ℕ) (now then whole : List ℕ) → i < length ps → now ++ walk stays from (drop i ps) ≡ whole
    → then ≡ now ++ led_to stays from (get_or ps i 0) → next ≡ from_after stays from (get_or ps i 0) → then ++ walk stays next (drop (i + 1) ps) ≡ whole
walk_next stays ps i from next now then whole l was is next_is =
    joins_on now then (led_to stays from (get_or ps i 0)) (walk stays next (drop (i + 1) ps)) whole is
    (ap (λ f. now ++ (led_to stays from (get_or ps i 0) ++ walk stays f (drop (i + 1) ps))) next_is ∙ sym (ap (λ qs. now ++ walk stays from qs) (drop_at ps i 0 l)) ∙ was)

-- where there is no old place, the walk is the chain
pub walk_none : (stays : List Bool) (ps : List ℕ) → length stays ≡ 0 → walk stays 0 ps ≡ ps
walk_none [] ps e = along 0 ps
  where
    along : (f : ℕ) (qs : List ℕ) → walk [] f qs ≡ qs
    along f [] = ap (staying [] f) (let z : 0 - f ≡ 0 = omega arith in z)
    along f (q ∷ qs) = ap (λ ks. q ∷ ks) (along f qs)
walk_none (b ∷ bs) ps e = absurd (omega (arith, e))

pub walk_end : (stays : List Bool) (ps : List ℕ) (i from : ℕ) (now then whole : List ℕ) → length ps ≤ i → now ++ walk stays from (drop i ps) ≡ whole
    → then ≡ now ++ staying stays from (length stays - from) → then ≡ whole
walk_end stays ps i from now then whole l was is = is ∙ sym (ap (λ qs. now ++ walk stays from qs) (drop_end ps i l)) ∙ was

-- ---- the test

module _ (whole : Type 0) (stays : List Bool) (from : ℕ) (ps : List ℕ) (i : ℕ) where
  pub where_more : (next : ℕ) → i < length ps → (whole ↔ RisesWhere stays from (drop i ps)) → (IsTrue (stays_at stays (get_or ps i 0)) → from ≤ get_or ps i 0)
      → next ≡ from_after stays from (get_or ps i 0) → whole ↔ RisesWhere stays next (drop (i + 1) ps)
  where_more next l was up is =
      let e = drop_at ps i 0 l in
      subst (λ f. whole ↔ RisesWhere stays f (drop (i + 1) ps)) (sym is) (
        (λ w. let r : RisesWhere stays from (get_or ps i 0 ∷ drop (i + 1) ps) = subst (λ (qs : List ℕ). RisesWhere stays from qs) e (was.0 w) in r.1),
        (λ r. was.1 (subst (λ (qs : List ℕ). RisesWhere stays from qs) (sym e) (up, r))),
      )

  pub where_not : i < length ps → (whole ↔ RisesWhere stays from (drop i ps)) → IsTrue (stays_at stays (get_or ps i 0)) → get_or ps i 0 < from → whole → ⊥
  where_not l was t low w =
      let r : RisesWhere stays from (get_or ps i 0 ∷ drop (i + 1) ps) = subst (λ (qs : List ℕ). RisesWhere stays from qs) (drop_at ps i 0 l) (was.0 w) in
      let u = r.0 t in
      omega (arith, u, low)

  pub where_all : length ps ≤ i → (whole ↔ RisesWhere stays from (drop i ps)) → whole
  where_all l was = was.1 (subst (λ (qs : List ℕ). RisesWhere stays from qs) (sym (drop_end ps i l)) tt)
