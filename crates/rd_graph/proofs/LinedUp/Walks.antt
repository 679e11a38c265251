-- A walk along the old places: what it has, in which order, and that nothing comes twice.
use Rattle.std.proofs.Common.{◌≡◌, refl, ap, ◌∙◌, sym, subst, ℕ, zero, suc, ◌+◌, ◌-◌, ◌<◌, ◌≤◌, Bool, true, false, cond, List, [], ◌∷◌, ◌++◌, length, get_or, inl, inr, ◌⊎◌, arith, append_assoc}
use Rattle.std.proofs.lemmas.Bool.{cases_lt}
use Rattle.rd_graph.specs.Orders.{Before}
use Rattle.rd_graph.specs.Internal.Walks.{stays_at, staying, from_after, led_to, walk, RisesWhere}
use Rattle.rd_graph.proofs.Lists.Listing.{Has, Once, cases, has_from, contains_from, has_left, has_right, has_either, once_join, before_left, before_right, before_across}

module _ (stays : List Bool) where
  -- ---- those that stay, of a stretch

  pub staying_to : (from count p : ℕ) → Has (staying stays from count) p → (stays_at stays p ≡ true) × (from ≤ p) × (p < from + count)
  staying_to from zero p h = absurd h
  staying_to from (suc count) p h = elim (cases (stays_at stays from)) [
    | inl t ↦
        let k : Has (from ∷ staying stays (from + 1) count) p = rw t at h in
        elim k [
          | inl e ↦ (ap (stays_at stays) (sym e) ∙ t, omega (arith, e), omega (arith, e))
          | inr m ↦ let r = staying_to (from + 1) count p m in let u = r.1 in let v = r.2 in (r.0, omega (arith, u), omega (arith, v))
        ]
    | inr f ↦
        let k : Has (staying stays (from + 1) count) p = rw f at h in
        let r = staying_to (from + 1) count p k in
        let u = r.1 in
        let v = r.2 in
        (r.0, omega (arith, u), omega (arith, v))
  ]

  pub staying_from : (from count p : ℕ) → stays_at stays p ≡ true → from ≤ p → p < from + count → Has (staying stays from count) p
  staying_from from zero p t l u = absurd (omega arith)
  staying_from from (suc count) p t l u = elim (cases_lt from p) [
    | inl m ↦ has_right (cond (stays_at stays from) (from ∷ []) []) (staying stays (from + 1) count) p (staying_from (from + 1) count p t (omega (arith, m)) (omega (arith, u)))
    | inr m ↦
        let e : from ≡ p = omega (arith, l, m) in
        let s : stays_at stays from ≡ true = ap (stays_at stays) e ∙ t in
        rw s (inl e)
  ]

  pub staying_before : (from count p q : ℕ) → stays_at stays p ≡ true → stays_at stays q ≡ true → from ≤ p → p < q → q < from + count → Before (staying stays from count) p q
  staying_before from zero p q t s l m u = absurd (omega arith)
  staying_before from (suc count) p q t s l m u = elim (cases_lt from p) [
    | inl k ↦ before_right (cond (stays_at stays from) (from ∷ []) []) (staying stays (from + 1) count) p q (staying_before (from + 1) count p q t s (omega (arith, k)) m (omega (arith, u)))
    | inr k ↦
        let e : from ≡ p = omega (arith, l, k) in
        let w : stays_at stays from ≡ true = ap (stays_at stays) e ∙ t in
        rw w (inl (e, contains_from (staying stays (from + 1) count) q (staying_from (from + 1) count q s (omega (arith, m, e)) (omega (arith, u)))))
  ]

  pub staying_once : (from count : ℕ) → Once (staying stays from count)
  staying_once from zero = tt
  staying_once from (suc count) = elim (cases (stays_at stays from)) [
    | inl t ↦ rw t ((λ h. let r = staying_to (from + 1) count from h in let u = r.1 in omega (arith, u)), staying_once (from + 1) count)
    | inr f ↦ rw f (staying_once (from + 1) count)
  ]

  -- ---- one step of the walk

  after_true : (from p : ℕ) → stays_at stays p ≡ true → from_after stays from p ≡ p + 1
  after_true from p t = rw t refl

  after_false : (from p : ℕ) → stays_at stays p ≡ false → from_after stays from p ≡ from
  after_false from p f = rw f refl

  led_has : (from p : ℕ) → Has (led_to stays from p) p
  led_has from p = has_right (cond (stays_at stays p) (staying stays from (p - from)) []) (p ∷ []) p (inl refl)

  led_from : (from p q : ℕ) → Has (led_to stays from p) q → (p ≡ q) ⊎ ((stays_at stays q ≡ true) × (from ≤ q) × (q < p) × (stays_at stays p ≡ true))
  led_from from p q h = elim (cases (stays_at stays p)) [
    | inl t ↦
        let k : Has (staying stays from (p - from) ++ p ∷ []) q = rw t at h in
        elim (has_either (staying stays from (p - from)) (p ∷ []) q k) [
          | inl m ↦ let r = staying_to from (p - from) q m in let u = r.1 in let v = r.2 in inr (r.0, u, omega (arith, u, v), t)
          | inr m ↦ elim m [ inl e ↦ inl e | inr n ↦ absurd n ]
        ]
    | inr f ↦ let k : Has (p ∷ []) q = rw f at h in elim k [ inl e ↦ inl e | inr n ↦ absurd n ]
  ]

  led_stays : (from p q : ℕ) → stays_at stays p ≡ true → stays_at stays q ≡ true → from ≤ q → q < p → Has (led_to stays from p) q
  led_stays from p q t s l u = rw t (has_left (staying stays from (p - from)) (p ∷ []) q (staying_from from (p - from) q s l (omega (arith, l, u))))

  led_before : (from p q r : ℕ) → stays_at stays p ≡ true → stays_at stays q ≡ true → stays_at stays r ≡ true → from ≤ q → q < r → r ≤ p → Before (led_to stays from p) q r
  led_before from p q r t s w l m u = elim (cases_lt r p) [
    | inl k ↦ rw t (before_left (staying stays from (p - from)) (p ∷ []) q r (staying_before from (p - from) q r s w l m (omega (arith, k, l, m))))
    | inr k ↦ rw t (before_across (staying stays from (p - from)) (p ∷ []) q r (staying_from from (p - from) q s l (omega (arith, l, m, u))) (inl (omega (arith, k, u))))
  ]

  led_once : (from p : ℕ) → Once (led_to stays from p)
  led_once from p = elim (cases (stays_at stays p)) [
    | inl t ↦ rw t (once_join (staying stays from (p - from)) (p ∷ []) (staying_once from (p - from)) ((λ h. h), tt) (λ a h k. elim k [
      | inl e ↦ let r = staying_to from (p - from) a h in let u = r.1 in let v = r.2 in omega (arith, u, v, e)
      | inr n ↦ n
    ]))
    | inr f ↦ rw f ((λ h. h), tt)
  ]

  -- ---- the whole walk

  pub walk_chain : (from : ℕ) (ps : List ℕ) (p : ℕ) → Has ps p → Has (walk stays from ps) p
  walk_chain from [] p h = absurd h
  walk_chain from (q ∷ ps) p (inl e) = has_left (led_to stays from q) (walk stays (from_after stays from q) ps) p (subst (λ (z : ℕ). Has (led_to stays from q) z) e (led_has from q))
  walk_chain from (q ∷ ps) p (inr h) = has_right (led_to stays from q) (walk stays (from_after stays from q) ps) p (walk_chain (from_after stays from q) ps p h)

  pub walk_in_chain : (from : ℕ) (ps : List ℕ) (p q : ℕ) → Before ps p q → Before (walk stays from ps) p q
  walk_in_chain from [] p q h = absurd h
  walk_in_chain from (r ∷ ps) p q (inl h) =
      before_across (led_to stays from r) (walk stays (from_after stays from r) ps) p q (subst (λ (z : ℕ). Has (led_to stays from r) z) h.0 (led_has from r)) (walk_chain (from_after stays from r) ps q (has_from ps q h.1))
  walk_in_chain from (r ∷ ps) p q (inr h) = before_right (led_to stays from r) (walk stays (from_after stays from r) ps) p q (walk_in_chain (from_after stays from r) ps p q h)

  pub walk_to : (from : ℕ) (ps : List ℕ) (p : ℕ) → Has (walk stays from ps) p → (stays_at stays p ≡ true) ⊎ Has ps p
  walk_to from [] p h = inl (staying_to from (length stays - from) p h).0
  walk_to from (q ∷ ps) p h = elim (has_either (led_to stays from q) (walk stays (from_after stays from q) ps) p h) [
    | inl m ↦ elim (led_from from q p m) [ inl e ↦ inr (inl e) | inr r ↦ inl r.0 ]
    | inr m ↦ elim (walk_to (from_after stays from q) ps p m) [ inl t ↦ inl t | inr k ↦ inr (inr k) ]
  ]

  stays_in : (xs : List Bool) (p : ℕ) → get_or xs p false ≡ true → p < length xs
  stays_in [] p t = absurd (let f : false ≡ true = t in cc)
  stays_in (x ∷ xs) zero t = omega arith
  stays_in (x ∷ xs) (suc p) t = let l = stays_in xs p t in omega (arith, l)

  pub stays_below : (p : ℕ) → stays_at stays p ≡ true → p < length stays
  stays_below p t = stays_in stays p t

  -- what stays and is not behind comes
  pub walk_stays : (from : ℕ) (ps : List ℕ) (p : ℕ) → RisesWhere stays from ps → stays_at stays p ≡ true → from ≤ p → Has (walk stays from ps) p
  walk_stays from [] p r t l = let u = stays_below p t in staying_from from (length stays - from) p t l (omega (arith, l, u))
  walk_stays from (q ∷ ps) p r t l = elim (cases (stays_at stays q)) [
    | inr f ↦
        let e = after_false from q f in
        has_right (led_to stays from q) (walk stays (from_after stays from q) ps) p (walk_stays (from_after stays from q) ps p r.1 t (omega (arith, e, l)))
    | inl s ↦ elim (cases_lt p q) [
      | inl u ↦ has_left (led_to stays from q) (walk stays (from_after stays from q) ps) p (led_stays from q p s t l u)
      | inr u ↦ elim (cases_lt q p) [
        | inr v ↦ let e : q ≡ p = omega (arith, u, v) in walk_chain from (q ∷ ps) p (inl e)
        | inl v ↦
            let e = after_true from q s in
            has_right (led_to stays from q) (walk stays (from_after stays from q) ps) p (walk_stays (from_after stays from q) ps p r.1 t (omega (arith, e, v)))
      ]
    ]
  ]

  -- what stays keeps its order
  pub walk_before : (from : ℕ) (ps : List ℕ) (p q : ℕ) → RisesWhere stays from ps → stays_at stays p ≡ true → stays_at stays q ≡ true → from ≤ p → p < q → Before (walk stays from ps) p q
  walk_before from [] p q r t s l m = let u = stays_below q s in staying_before from (length stays - from) p q t s l m (omega (arith, l, m, u))
  walk_before from (c ∷ ps) p q r t s l m = elim (cases (stays_at stays c)) [
    | inr f ↦
        let e = after_false from c f in
        before_right (led_to stays from c) (walk stays (from_after stays from c) ps) p q (walk_before (from_after stays from c) ps p q r.1 t s (omega (arith, e, l)) m)
    | inl w ↦
        let e = after_true from c w in
        elim (cases_lt c p) [
          | inl u ↦ before_right (led_to stays from c) (walk stays (from_after stays from c) ps) p q (walk_before (from_after stays from c) ps p q r.1 t s (omega (arith, e, u)) m)
          | inr u ↦ elim (cases_lt c q) [
            | inr v ↦ before_left (led_to stays from c) (walk stays (from_after stays from c) ps) p q (led_before from c p q w t s l m v)
            | inl v ↦ before_across (led_to stays from c) (walk stays (from_after stays from c) ps) p q (up_to from c p w t l u) (walk_stays (from_after stays from c) ps q r.1 s (omega (arith, e, v)))
          ]
        ]
  ]
    where
      up_to : (from c p : ℕ) → stays_at stays c ≡ true → stays_at stays p ≡ true → from ≤ p → p ≤ c → Has (led_to stays from c) p
      up_to from c p w t l u = elim (cases_lt p c) [
        | inl v ↦ led_stays from c p w t l v
        | inr v ↦ let e : c ≡ p = omega (arith, u, v) in subst (λ (z : ℕ). Has (led_to stays from c) z) e (led_has from c)
      ]

  -- of what stays nothing behind comes
  rises_has : (from : ℕ) (ps : List ℕ) (p : ℕ) → RisesWhere stays from ps → Has ps p → stays_at stays p ≡ true → from ≤ p
  rises_has from [] p r h t = absurd h
  rises_has from (q ∷ ps) p r (inl e) t = let l = r.0 (ap (stays_at stays) e ∙ t) in omega (arith, l, e)
  rises_has from (q ∷ ps) p r (inr h) t = elim (cases (stays_at stays q)) [
    | inl s ↦ let l = r.0 s in let e = after_true from q s in let u = rises_has (from_after stays from q) ps p r.1 h t in omega (arith, l, e, u)
    | inr f ↦ let e = after_false from q f in let u = rises_has (from_after stays from q) ps p r.1 h t in omega (arith, e, u)
  ]

  walk_ahead : (from : ℕ) (ps : List ℕ) (p : ℕ) → RisesWhere stays from ps → stays_at stays p ≡ true → Has (walk stays from ps) p → from ≤ p
  walk_ahead from [] p r t h = (staying_to from (length stays - from) p h).1
  walk_ahead from (q ∷ ps) p r t h = elim (has_either (led_to stays from q) (walk stays (from_after stays from q) ps) p h) [
    | inl m ↦ elim (led_from from q p m) [ inl e ↦ (let l = r.0 (ap (stays_at stays) e ∙ t) in omega (arith, l, e)) | inr k ↦ k.1 ]
    | inr m ↦
        let u = walk_ahead (from_after stays from q) ps p r.1 t m in
        elim (cases (stays_at stays q)) [
          | inl s ↦ let l = r.0 s in let e = after_true from q s in omega (arith, l, e, u)
          | inr f ↦ let e = after_false from q f in omega (arith, e, u)
        ]
  ]

  pub walk_once : (from : ℕ) (ps : List ℕ) → RisesWhere stays from ps → Once ps → Once (walk stays from ps)
  walk_once from [] r o = staying_once from (length stays - from)
  walk_once from (q ∷ ps) r o = once_join (led_to stays from q) (walk stays (from_after stays from q) ps) (led_once from q) (walk_once (from_after stays from q) ps r.1 o.1) (λ a h k. apart a (led_from from q a h) k)
    where
      apart : (a : ℕ) → (q ≡ a) ⊎ ((stays_at stays a ≡ true) × (from ≤ a) × (a < q) × (stays_at stays q ≡ true)) → Has (walk stays (from_after stays from q) ps) a → ⊥
      apart a (inr d) k =
          let e = after_true from q d.3 in
          let u = walk_ahead (from_after stays from q) ps a r.1 d.0 k in
          let v = d.2 in
          omega (arith, e, u, v)
      apart a (inl e) k = elim (walk_to (from_after stays from q) ps a k) [
        | inl t ↦
            let s = after_true from q (ap (stays_at stays) e ∙ t) in
            let u = walk_ahead (from_after stays from q) ps a r.1 t k in
            omega (arith, e, s, u)
        | inr m ↦ o.0 (subst (λ (z : ℕ). Has ps z) (sym e) m)
      ]

-- ---- a stretch in two parts

pub staying_parts : (stays : List Bool) (from m n : ℕ) → staying stays from (m + n) ≡ staying stays from m ++ staying stays (from + m) n
staying_parts stays from zero n = ap (λ k. staying stays from k) (let e : 0 + n ≡ n = omega arith in e) ∙ ap (λ k. staying stays k n) (let e : from ≡ from + 0 = omega arith in e)
staying_parts stays from (suc m) n =
    let one : List ℕ = cond (stays_at stays from) (from ∷ []) [] in
    let next : from + 1 + m ≡ from + suc m = omega arith in
    let count : suc m + n ≡ suc (m + n) = omega arith in
    ap (λ k. staying stays from k) count ∙ ap (λ ps. one ++ ps) (staying_parts stays (from + 1) m n) ∙ sym (append_assoc one (staying stays (from + 1) m) (staying stays (from + 1 + m) n))
    ∙ ap (λ k. (one ++ staying stays (from + 1) m) ++ staying stays k n) next
