-- What a stable sort by labels does to the order of names.
use Rattle.std.proofs.Common.{◌≡◌, refl, ap, ◌∙◌, sym, subst, ℕ, suc, ◌+◌, ◌<◌, ◌≤◌, Bool, true, false, cond, List, [], ◌∷◌, get_or, map, inl, inr, arith}
use Rattle.std.specs.Prelude.{filter, IsPermutation}
use Rattle.std.specs.List.{sum_by}
use Rattle.std.specs.List.Sorted.{IsNonDecreasingBy, IsStableByKey, ties}
use Rattle.std.specs.Ordering.{nat_cmp, is_lt}
use Rattle.std.proofs.lemmas.List.Sorted.{Contains-permutation, sum_by-IsPermutation}
use Rattle.std.specs.declared.cmp.Ordering.{Ordering}
use Rattle.std.specs.declared.cmp.Ordering.TheVariants.{Less, Equal, Greater}
use Rattle.std.proofs.lemmas.Cmp.{ranked}
use Rattle.std.proofs.lemmas.List.Sums.{sum_by-cons}
use Rattle.rd_graph.specs.Orders.{Before}
use Rattle.rd_graph.proofs.Lists.Listing.{Has, Once, cases, has_from, contains_from, before_from, before_to, before_either, has_map, map_has, has_filter, filter_has}

module _ {E : Type 0} (same : E → E → Bool) (sound : (a b : E) → same a b ≡ true → a ≡ b) (reflexive : (a : E) → same a a ≡ true) where
  abbrev count : E → E → ℕ
  count a x = cond (same a x) 1 0

  some : (xs : List E) (a : E) → Has xs a → 1 ≤ sum_by (count a) xs
  some [] a h = absurd h
  some (x ∷ xs) a (inl e) = let t : same a x ≡ true = subst (λ (z : E). same a z ≡ true) (sym e) (reflexive a) in let c : count a x ≡ 1 = rw t refl in rw (sum_by-cons (count a) x xs, c) (omega arith)
  some (x ∷ xs) a (inr h) = let r = some xs a h in rw (sum_by-cons (count a) x xs) (omega (arith, r))

  none : (xs : List E) (a : E) → (Has xs a → ⊥) → sum_by (count a) xs ≡ 0
  none [] a h = refl
  none (x ∷ xs) a h =
      let f : same a x ≡ false = elim (cases (same a x)) [ inl t ↦ absurd (h (inl (sym (sound a x t)))) | inr f ↦ f ] in
      let c : count a x ≡ 0 = rw f refl in
      let r = none xs a (λ k. h (inr k)) in
      rw (sum_by-cons (count a) x xs, c, r) refl

  at_most : (xs : List E) (a : E) → Once xs → sum_by (count a) xs ≤ 1
  at_most [] a o = omega arith
  at_most (x ∷ xs) a o = elim (cases (same a x)) [
    | inl t ↦
        let c : count a x ≡ 1 = rw t refl in
        let r = none xs a (λ h. o.0 (subst (λ (z : E). Has xs z) (sound a x t) h)) in
        rw (sum_by-cons (count a) x xs, c, r) (omega arith)
    | inr f ↦ let c : count a x ≡ 0 = rw f refl in let r = at_most xs a o.1 in rw (sum_by-cons (count a) x xs, c) (omega (arith, r))
  ]

  once_at_most : (xs : List E) → ((a : E) → sum_by (count a) xs ≤ 1) → Once xs
  once_at_most [] h = tt
  once_at_most (x ∷ xs) h = (
    (λ m. let s = some xs x m in let t : count x x ≡ 1 = (let u = reflexive x in rw u refl) in let l : count x x + sum_by (count x) xs ≤ 1 = (let u = h x in rw (sum_by-cons (count x) x xs) at u) in absurd (omega (arith, s, t, l))),
    once_at_most xs (λ a. let l : count a x + sum_by (count a) xs ≤ 1 = (let u = h a in rw (sum_by-cons (count a) x xs) at u) in omega (arith, l)),
  )

  pub once_sums : (xs ys : List E) → ((n : E → ℕ) → sum_by n ys ≡ sum_by n xs) → Once xs → Once ys
  once_sums xs ys same_sums o = once_at_most ys (λ a. let l = at_most xs a o in let e = same_sums (count a) in omega (arith, l, e))

  pub once_permutation : (xs ys : List E) → IsPermutation xs ys → Once xs → Once ys
  once_permutation xs ys p = once_sums xs ys (λ n. sum_by-IsPermutation n xs ys p)

  found : (xs : List E) (a : E) → 1 ≤ sum_by (count a) xs → Has xs a
  found [] a l = absurd (omega (arith, l))
  found (x ∷ xs) a l = elim (cases (same a x)) [
    | inl t ↦ inl (sym (sound a x t))
    | inr f ↦
        let c : count a x ≡ 0 = rw f refl in
        let m : 1 ≤ count a x + sum_by (count a) xs = (rw (sum_by-cons (count a) x xs) at l) in
        inr (found xs a (omega (arith, c, m)))
  ]

  pub has_sums : (xs ys : List E) → ((n : E → ℕ) → sum_by n ys ≡ sum_by n xs) → (a : E) → Has xs a → Has ys a
  has_sums xs ys same_sums a h = let l = some xs a h in let e = same_sums (count a) in found ys a (omega (arith, l, e))

lt_same : (m n : ℕ) → m ≡ n → is_lt (nat_cmp m n) ≡ false
lt_same m n e = by (nat_cmp m n) refl
  where
    by : (r : Ordering) → r ≡ nat_cmp m n → is_lt r ≡ false
    by Less h = absurd (let l : m < n = ranked m n Less h in omega (arith, l, e))
    by Equal h = refl
    by Greater h = refl

module _ {A : Type 0} where
  pub before_filter : (t : A → Bool) (xs : List A) (a b : A) → t a ≡ true → t b ≡ true → Before xs a b → Before (filter t xs) a b
  before_filter t [] a b ta tb h = absurd h
  before_filter t (x ∷ xs) a b ta tb (inl h) = let u : t x ≡ true = ap t h.0 ∙ ta in rw u (inl (h.0, contains_from (filter t xs) b (has_filter t xs b (has_from xs b h.1) tb)))
  before_filter t (x ∷ xs) a b ta tb (inr h) = elim (t x) as (λ u. Before (cond u (x ∷ filter t xs) (filter t xs)) a b) [ true ↦ inr (before_filter t xs a b ta tb h) | false ↦ before_filter t xs a b ta tb h ]

  filter_before : (t : A → Bool) (xs : List A) (a b : A) → Before (filter t xs) a b → Before xs a b
  filter_before t [] a b h = absurd h
  filter_before t (x ∷ xs) a b h = elim (cases (t x)) [
    | inl u ↦
        let k : Before (x ∷ filter t xs) a b = rw u at h in
        elim k [ inl m ↦ inl (m.0, contains_from xs b (filter_has t xs b (has_from (filter t xs) b m.1)).0) | inr m ↦ inr (filter_before t xs a b m) ]
    | inr u ↦ let k : Before (filter t xs) a b = rw u at h in inr (filter_before t xs a b k)
  ]

  -- along a sorted list numbers do not fall
  pub rises : (num : A → ℕ) (xs : List A) → IsNonDecreasingBy num xs → (a b : A) → Before xs a b → num a ≤ num b
  rises num [] up a b h = absurd h
  rises num (x ∷ xs) up a b (inl h) =
      let r = up 0 (suc h.1.0) b (omega arith) (let l = h.1.1 in omega (arith, l)) in
      let e : num (get_or xs h.1.0 b) ≡ num b = ap num h.1.2 in
      let f : num x ≡ num a = ap num h.0 in
      omega (arith, r, e, f)
  rises num (x ∷ xs) up a b (inr h) = rises num xs (λ i j d l m. up (suc i) (suc j) d (omega (arith, l)) (omega (arith, m))) a b h

  module _ {E : Type 0} (f : A → E) where
    pub before_map : (xs : List A) (a b : A) → Before xs a b → Before (map f xs) (f a) (f b)
    before_map [] a b h = absurd h
    before_map (x ∷ xs) a b (inl h) = inl (ap f h.0, contains_from (map f xs) (f b) (has_map f xs b (has_from xs b h.1)))
    before_map (x ∷ xs) a b (inr h) = inr (before_map xs a b h)

    pub map_before : (xs : List A) (u v : E) → Before (map f xs) u v → (a : A) × (b : A) × Before xs a b × (f a ≡ u) × (f b ≡ v)
    map_before [] u v h = absurd h
    map_before (x ∷ xs) u v (inl h) = let r = map_has f xs v (has_from (map f xs) v h.1) in (x, r.0, inl (refl, contains_from xs r.0 r.1), h.0, r.2)
    map_before (x ∷ xs) u v (inr h) = let r = map_before xs u v h in (r.0, r.1, inr r.2, r.3, r.4)

  module _ {E : Type 0} (key : A → E) (label : E → ℕ) (num : A → ℕ) (all sorted : List A)
      (numbered : (a : A) → Has all a → num a ≡ label (key a))
      (moved : IsPermutation all sorted) (up : IsNonDecreasingBy num sorted) (stable : IsStableByKey num nat_cmp all sorted) where
    kept : (a : A) → Has all a → Has sorted a
    kept a h = has_from sorted a (Contains-permutation all sorted a moved (contains_from all a h))

    pub by_label : (a b : A) → Has all a → Has all b → num a < num b → Before sorted a b
    by_label a b h k l = elim (before_either sorted a b (kept a h) (kept b k) (λ e. let s : num a ≡ num b = ap num e in omega (arith, s, l))) [
      | inl r ↦ r
      | inr r ↦ absurd (let s = rises num sorted up b a r in omega (arith, s, l))
    ]

    pub by_place : (a b : A) → Before all a b → num a ≡ num b → Before sorted a b
    by_place a b h e =
        let t : A → Bool = ties (λ x y. is_lt (nat_cmp (num x) (num y))) a in
        let ta : t a ≡ true = rw (lt_same (num a) (num a) refl) refl in
        let tb : t b ≡ true = rw (lt_same (num a) (num b) e, lt_same (num b) (num a) (sym e)) refl in
        filter_before t sorted a b (subst (λ (xs : List A). Before xs a b) (sym (stable a)) (before_filter t all a b ta tb h))

    pub labels_before : (x y : E) → Has (map key all) x → Has (map key all) y → label x < label y → Before (map key sorted) x y
    labels_before x y h k l =
        let r = map_has key all x h in
        let s = map_has key all y k in
        let m : num r.0 ≡ label x = numbered r.0 r.1 ∙ ap label r.2 in
        let n : num s.0 ≡ label y = numbered s.0 s.1 ∙ ap label s.2 in
        subst (λ (z : E). Before (map key sorted) z y) r.2 (subst (λ (z : E). Before (map key sorted) (key r.0) z) s.2 (before_map key sorted r.0 s.0 (by_label r.0 s.0 r.1 s.1 (omega (arith, m, n, l)))))

    pub places_before : (x y : E) → Before (map key all) x y → label x ≡ label y → Before (map key sorted) x y
    places_before x y h e =
        let r = map_before key all x y h in
        let m : num r.0 ≡ label x = numbered r.0 (before_from all r.0 r.1 r.2) ∙ ap label r.3 in
        let n : num r.1 ≡ label y = numbered r.1 (before_to all r.0 r.1 r.2) ∙ ap label r.4 in
        subst (λ (z : E). Before (map key sorted) z y) r.3 (subst (λ (z : E). Before (map key sorted) (key r.0) z) r.4 (before_map key sorted r.0 r.1 (by_place r.0 r.1 r.2 (m ∙ e ∙ sym n))))
