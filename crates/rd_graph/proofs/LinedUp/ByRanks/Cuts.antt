-- Cuts between which the places of a chain are in order or out of order.
use Rattle.std.proofs.Common.{◌≡◌, ap, ◌∙◌, ℕ, ◌+◌, ◌-◌, ◌<◌, ◌≤◌, List, length, get_or, inl, inr, arith, subst}
use Rattle.std.specs.Prelude.{max, min, slice_set}
use Rattle.std.proofs.lemmas.Bool.{cases_lt}
use Rattle.std.proofs.lemmas.List.{get_or-set_same, get_or-set_other, get_or_default, length-set}
use Rattle.std.proofs.Math.Nat.{min-le_left, min-le_right, le-min, le-max_left, le-max_right, max-le}
use Rattle.rd_graph.specs.Internal.Regions.{AreLeast, IsCut, RiseFrom}
use Rattle.rd_graph.specs.declared.regions.Cut.{Cut}

-- ---- from the last place to the first

-- what is known of the least ones from one on
pub record LeastSoFar (ps : List ℕ) (end at : ℕ) (least : List ℕ) : Type 0 where
  pub count : length least ≡ length ps + 1
  pub within : (i : ℕ) → at ≤ i → i ≤ length ps → get_or least i 0 ≤ end
  pub low : (i k : ℕ) → at ≤ i → i ≤ k → k < length ps → get_or least i 0 ≤ get_or ps k 0
  pub high : (i x : ℕ) → at ≤ i → i ≤ length ps → x ≤ end → ((k : ℕ) → i ≤ k → k < length ps → x ≤ get_or ps k 0) → x ≤ get_or least i 0

pub least_first : (ps : List ℕ) (end : ℕ) (least : List ℕ) → length least ≡ length ps + 1 → get_or least (length ps) 0 ≡ end → LeastSoFar ps end (length ps) least
least_first ps end least size last = record {
  count = size;
  within = λ i l m. (let e = at i l m in omega (arith, e, last));
  low = λ i k l m n. omega (arith, l, m, n);
  high = λ i x l m u h. (let e = at i l m in omega (arith, e, last, u));
}
  where
    at : (i : ℕ) → length ps ≤ i → i ≤ length ps → get_or least i 0 ≡ get_or least (length ps) 0
    at i l m = ap (λ n. get_or least n 0) (let e : i ≡ length ps = omega (arith, l, m) in e)

-- one more before them
pub least_more : (ps : List ℕ) (end at : ℕ) (least next : List ℕ) → at < length ps → LeastSoFar ps end (at + 1) least → length next ≡ length least → ((k : ℕ) → at < k → k ≤ length ps → get_or next k 0 ≡ get_or least k 0)
    → get_or next at 0 ≤ get_or least (at + 1) 0 → get_or next at 0 ≤ get_or ps at 0 → ((x : ℕ) → x ≤ get_or least (at + 1) 0 → x ≤ get_or ps at 0 → x ≤ get_or next at 0) → LeastSoFar ps end at next
least_more ps end at least next l so size others low_next low_this greatest = record {
  count = size ∙ so.count;
  within = λ i a m. elim (cases_lt at i) [
    | inl u ↦ let e = others i u m in let w = so.within i (omega (arith, u)) m in omega (arith, e, w)
    | inr u ↦ let e = this i (omega (arith, a, u)) in let w = so.within (at + 1) (omega arith) (omega (arith, l)) in omega (arith, e, w, low_next)
  ];
  low = λ i k a m n. elim (cases_lt at i) [
    | inl u ↦ let e = others i u (omega (arith, m, n)) in let w = so.low i k (omega (arith, u)) m n in omega (arith, e, w)
    | inr u ↦
        let e = this i (omega (arith, a, u)) in
        elim (cases_lt at k) [
          | inl v ↦ let w = so.low (at + 1) k (omega arith) (omega (arith, v)) n in omega (arith, e, w, low_next)
          | inr v ↦ let f : get_or ps k 0 ≡ get_or ps at 0 = ap (λ p. get_or ps p 0) (let g : k ≡ at = omega (arith, a, m, v) in g) in omega (arith, e, f, low_this)
        ]
  ];
  high = λ i x a m u h. elim (cases_lt at i) [
    | inl v ↦ let e = others i v m in let w = so.high i x (omega (arith, v)) m u h in omega (arith, e, w)
    | inr v ↦
        let e = this i (omega (arith, a, v)) in
        let first = so.high (at + 1) x (omega arith) (omega (arith, l)) u (λ k n o. h k (omega (arith, v, n)) o) in
        let second = h at v l in
        let w = greatest x first second in
        omega (arith, e, w)
  ];
}
  where
    this : (i : ℕ) → i ≡ at → get_or next i 0 ≡ get_or next at 0
    this i e = ap (λ n. get_or next n 0) e

pub least_put : (ps : List ℕ) (end i : ℕ) (least : List ℕ) (n x : ℕ) → i < length ps → LeastSoFar ps end (length ps - i) least → n ≡ min (get_or least (length ps - 1 - i + 1) x) (get_or ps (length ps - 1 - i) 0)
    → LeastSoFar ps end (length ps - (i + 1)) (slice_set least (length ps - 1 - i) n)
least_put ps end i least n x l so was =
    let at : ℕ = length ps - 1 - i in
    let e : at ≡ length ps - (i + 1) = omega arith in
    let f : length ps - i ≡ at + 1 = omega (arith, l) in
    let size = so.count in
    let is : n ≡ min (get_or least (at + 1) 0) (get_or ps at 0) = was ∙ ap (λ m. min m (get_or ps at 0)) (get_or_default least (at + 1) x 0 (omega (arith, l, size))) in
    let here : get_or (slice_set least at n) at 0 ≡ n = get_or-set_same least at n 0 (omega (arith, l, size)) in
    let low_next = min-le_left (get_or least (at + 1) 0) (get_or ps at 0) in
    let low_this = min-le_right (get_or least (at + 1) 0) (get_or ps at 0) in
    subst (λ (k : ℕ). LeastSoFar ps end k (slice_set least at n)) e
    (least_more ps end at least (slice_set least at n) (omega (arith, l)) (subst (λ (k : ℕ). LeastSoFar ps end k least) f so) (length-set least at n)
    (λ k a m. get_or-set_other least at k n 0 (λ g. omega (arith, g, a))) (omega (arith, here, low_next, is)) (omega (arith, here, low_this, is))
    (λ y a b. let c = le-min a b in omega (arith, c, here, is)))

pub least_all : (ps : List ℕ) (end : ℕ) (least : List ℕ) → LeastSoFar ps end 0 least → AreLeast ps end least
least_all ps end least so = record {
  count = so.count;
  within = λ i m. so.within i (omega arith) m;
  low = λ i k m n. so.low i k (omega arith) m n;
  high = λ i x m u h. so.high i x (omega arith) m u h;
}

-- ---- from one cut to the next

-- places have risen from a cut up to one of them
pub record RisenSoFar (ps least : List ℕ) (from : Cut) (met : ℕ) : Type 0 where
  pub after : from.met ≤ met
  pub within : met ≤ length ps
  pub low : (k : ℕ) → k < met → get_or ps k 0 < get_or least met 0
  pub rises : (j k : ℕ) → from.met ≤ j → j < k → k < met → get_or ps j 0 < get_or ps k 0

-- all places up to one are lower than another place
pub record MetSoFar (ps : List ℕ) (end : ℕ) (from : Cut) (met place : ℕ) : Type 0 where
  pub more : from.met < met
  pub within : met ≤ length ps
  pub after : from.place ≤ place
  pub low : place ≤ end
  pub before : (k : ℕ) → k < met → get_or ps k 0 < place

module _ (ps : List ℕ) (least : List ℕ) (end : ℕ) (are : AreLeast ps end least) where
  next_least : (i : ℕ) → i < length ps → get_or least i 0 ≤ get_or least (i + 1) 0
  next_least i l = are.high (i + 1) (get_or least i 0) (omega (arith, l)) (are.within i (omega (arith, l))) (λ k m n. are.low i k (omega (arith, m)) n)

  module _ (from : Cut) (cut : IsCut ps end from) where
    least_after : (met : ℕ) → from.met ≤ met → met ≤ length ps → from.place ≤ get_or least met 0
    least_after met l m = are.high met from.place m cut.low (λ k n o. cut.after k (omega (arith, l, n)) o)

    pub risen_first : RisenSoFar ps least from from.met
    risen_first = record {
      after = omega arith;
      within = cut.few;
      low = λ k l. (let u = cut.before k l in let v = least_after from.met (omega arith) cut.few in omega (arith, u, v));
      rises = λ j k l m n. omega (arith, l, m, n);
    }

    pub risen_more : (met : ℕ) → RisenSoFar ps least from met → met < length ps → get_or ps met 0 < get_or least (met + 1) 0 → RisenSoFar ps least from (met + 1)
    risen_more met so l high = record {
      after = (let u = so.after in omega (arith, u));
      within = omega (arith, l);
      low = λ k m. elim (cases_lt k met) [
        | inl u ↦ let v = so.low k u in let w = next_least met l in omega (arith, v, w)
        | inr u ↦ let e : get_or ps k 0 ≡ get_or ps met 0 = ap (λ n. get_or ps n 0) (let f : k ≡ met = omega (arith, m, u) in f) in omega (arith, e, high)
      ];
      rises = λ j k m n o. elim (cases_lt k met) [
        | inl u ↦ so.rises j k m n u
        | inr u ↦
            let e : get_or ps k 0 ≡ get_or ps met 0 = ap (λ n. get_or ps n 0) (let f : k ≡ met = omega (arith, o, u) in f) in
            let v = so.low j (omega (arith, n, o)) in
            let w = are.low met met (omega arith) l in
            omega (arith, e, v, w)
      ];
    }

    pub risen_cut : (met : ℕ) → RisenSoFar ps least from met → IsCut ps end (record { met = met; place = get_or least met 0 })
    risen_cut met so = record { few = so.within; low = are.within met so.within; before = so.low; after = λ k l m. are.low met k l m }

    pub risen_after : (met : ℕ) → RisenSoFar ps least from met → from.place ≤ get_or least met 0
    risen_after met so = least_after met so.after so.within

    pub risen_rises : (met : ℕ) → RisenSoFar ps least from met → RiseFrom ps from.met met
    risen_rises met so = record { next = so.after; rises = so.rises }

    module _ (below : (k : ℕ) → k < length ps → get_or ps k 0 < end) where
      pub met_first : from.met < length ps → MetSoFar ps end from (from.met + 1) (get_or ps from.met 0 + 1)
      met_first l = record {
        more = omega arith;
        within = omega (arith, l);
        after = (let u = cut.after from.met (omega arith) l in omega (arith, u));
        low = (let u = below from.met l in omega (arith, u));
        before = λ k m. elim (cases_lt k from.met) [
          | inl u ↦ let v = cut.before k u in let w = cut.after from.met (omega arith) l in omega (arith, v, w)
          | inr u ↦ let e : get_or ps k 0 ≡ get_or ps from.met 0 = ap (λ n. get_or ps n 0) (let f : k ≡ from.met = omega (arith, m, u) in f) in omega (arith, e)
        ];
      }

      pub met_more : (met place next : ℕ) → MetSoFar ps end from met place → met < length ps → next ≡ max place (get_or ps met 0 + 1) → MetSoFar ps end from (met + 1) next
      met_more met place next so l is =
          let high = le-max_left place (get_or ps met 0 + 1) in
          let above = le-max_right place (get_or ps met 0 + 1) in
          record {
            more = (let u = so.more in omega (arith, u));
            within = omega (arith, l);
            after = (let u = so.after in omega (arith, u, high, is));
            low = (let u = below met l in let v : max place (get_or ps met 0 + 1) ≤ end = max-le so.low (omega (arith, u)) in omega (arith, v, is));
            before = λ k m. elim (cases_lt k met) [
              | inl u ↦ let v = so.before k u in omega (arith, v, high, is)
              | inr u ↦ let e : get_or ps k 0 ≡ get_or ps met 0 = ap (λ n. get_or ps n 0) (let f : k ≡ met = omega (arith, m, u) in f) in omega (arith, e, above, is)
            ];
          }

    pub met_cut : (met place : ℕ) → MetSoFar ps end from met place → (met < length ps → place ≤ get_or least met 0) → IsCut ps end (record { met = met; place = place })
    met_cut met place so high = record {
      few = so.within;
      low = so.low;
      before = so.before;
      after = λ k l m. (let u = high (omega (arith, l, m)) in let v = are.low met k l m in omega (arith, u, v));
    }

-- before all places
pub first_cut : (ps : List ℕ) (end : ℕ) → IsCut ps end (record { met = 0; place = 0 })
first_cut ps end = record { few = omega arith; low = omega arith; before = λ k l. omega (arith, l); after = λ k l m. omega arith }
