-- One pass of stitching.
use Rattle.std.proofs.Common.{◌≡◌, refl, ap, ◌∙◌, sym, subst, Bool, true, false, cond, List, [], ◌∷◌, ◌++◌, inl, inr, ◌⊎◌}
use Rattle.std.specs.Prelude.{Contains, ◌↔◌}
use Rattle.rd_graph.specs.Graphs.{Graph, Precedes, Hop, here, over}
use Rattle.rd_graph.specs.Internal.Passes.{noted, resolved, distinct, pushed, all_pushed, stitch_pass, IsSorted}
use Rattle.rd_graph.specs.Names.{is_in}
use Rattle.rd_graph.specs.Internal.Lines.{Passing}
use Rattle.rd_graph.proofs.Lists.Listing.{Has, cases, never, has_from, contains_from, has_left, has_right, has_either}

-- lists without doubles have the same elements
module _ {E : Type 0} (same : E → E → Bool) (sound : (a b : E) → same a b ≡ true → a ≡ b) where
  pub in_has : (xs : List E) (k : E) → is_in same xs k ≡ true → Has xs k
  in_has [] k h = cc
  in_has (x ∷ xs) k h = elim (cases (same x k)) [
    | inl t ↦ inl (sound x k t)
    | inr f ↦ inr (in_has xs k (let u : is_in same xs k ≡ true = rw f at h in u))
  ]

  pushed_to : (xs : List E) (k a : E) → Has (pushed same xs k) a → Has xs a ⊎ (k ≡ a)
  pushed_to xs k a h = elim (cases (is_in same xs k)) [
    | inl t ↦ let u : Has xs a = rw t at h in inl u
    | inr f ↦ let u : Has (xs ++ k ∷ []) a = rw f at h in elim (has_either xs (k ∷ []) a u) [ inl m ↦ inl m | inr m ↦ elim m [ inl e ↦ inr e | inr n ↦ absurd n ] ]
  ]

  pushed_old : (xs : List E) (k a : E) → Has xs a → Has (pushed same xs k) a
  pushed_old xs k a h = elim (cases (is_in same xs k)) [ inl t ↦ rw t h | inr f ↦ rw f (has_left xs (k ∷ []) a h) ]

  pushed_new : (xs : List E) (k : E) → Has (pushed same xs k) k
  pushed_new xs k = elim (cases (is_in same xs k)) [ inl t ↦ rw t (in_has xs k t) | inr f ↦ rw f (has_right xs (k ∷ []) k (inl refl)) ]

  all_to : (xs ks : List E) (a : E) → Has (all_pushed same xs ks) a → Has xs a ⊎ Has ks a
  all_to xs [] a h = inl h
  all_to xs (k ∷ ks) a h = elim (all_to (pushed same xs k) ks a h) [
    | inl m ↦ elim (pushed_to xs k a m) [ inl n ↦ inl n | inr n ↦ inr (inl n) ]
    | inr m ↦ inr (inr m)
  ]

  all_old : (xs ks : List E) (a : E) → Has xs a → Has (all_pushed same xs ks) a
  all_old xs [] a h = h
  all_old xs (k ∷ ks) a h = all_old (pushed same xs k) ks a (pushed_old xs k a h)

  all_new : (xs ks : List E) (a : E) → Has ks a → Has (all_pushed same xs ks) a
  all_new xs [] a h = absurd h
  all_new xs (k ∷ ks) a (inl e) = all_old (pushed same xs k) ks a (subst (λ (z : E). Has (pushed same xs k) z) e (pushed_new xs k))
  all_new xs (k ∷ ks) a (inr h) = all_new (pushed same xs k) ks a h

  pub distinct_to : (xs ks : List E) (a : E) → Has (all_pushed same [] ks) a → Has ks a
  distinct_to xs ks a h = elim (all_to [] ks a h) [ inl m ↦ absurd m | inr m ↦ m ]

  pub distinct_from : (ks : List E) (a : E) → Has ks a → Has (all_pushed same [] ks) a
  distinct_from ks a h = all_new [] ks a h

module _ {E : Type 0} (same : E → E → Bool) (gone : E → Bool) (sound : (a b : E) → same a b ≡ true → a ≡ b) (reflexive : (a : E) → same a a ≡ true) (step : E → E → Type 0) where
  -- a hop and one more step over a node that goes
  hop_on : (a p x : E) → Hop step gone a p → gone p ≡ true → step p x → Hop step gone a x
  hop_on a p x (here s) g t = over s g (here t)
  hop_on a p x (over {c = c} s k r) g t = over s k (hop_on c p x r g t)

  -- the last step of a hop
  pub last_step : (a x : E) → Hop step gone a x → step a x ⊎ ((p : E) × Hop step gone a p × (gone p ≡ true) × step p x)
  last_step a x (here s) = inl s
  last_step a x (over {c = c} s k r) = elim (last_step c x r) [
    | inl t ↦ inr (c, here s, k, t)
    | inr t ↦ inr (t.0, over s k t.1, t.2, t.3)
  ]

  -- the notes of the nodes so far are right
  abbrev pub Right : Graph E → List E → Type 0
  Right through done = (p : E) → Has done p → gone p ≡ true → (a : E) → Has (noted same gone through p) a ↔ ((gone a ≡ false) × Hop step gone a p)

  module _ (through : Graph E) (done : List E) (right : Right through done) where
    resolved_to : (ps : List E) (a x : E) → ((p : E) → Has ps p → Has done p) → ((p : E) → Has ps p → step p x) → Has (resolved same gone (noted same gone through) ps) a → (gone a ≡ false) × Hop step gone a x
    resolved_to [] a x in_done steps h = absurd h
    resolved_to (p ∷ ps) a x in_done steps h = elim (cases (gone p)) [
      | inl t ↦
          let k : Has (noted same gone through p ++ resolved same gone (noted same gone through) ps) a = rw t at h in
          elim (has_either (noted same gone through p) (resolved same gone (noted same gone through) ps) a k) [
            | inl m ↦ let r = (right p (in_done p (inl refl)) t a).0 m in (r.0, hop_on a p x r.1 t (steps p (inl refl)))
            | inr m ↦ resolved_to ps a x (λ q u. in_done q (inr u)) (λ q u. steps q (inr u)) m
          ]
      | inr f ↦
          let k : Has (p ∷ resolved same gone (noted same gone through) ps) a = rw f at h in
          elim k [
            | inl e ↦ (ap gone (sym e) ∙ f, here (subst (λ (z : E). step z x) e (steps p (inl refl))))
            | inr m ↦ resolved_to ps a x (λ q u. in_done q (inr u)) (λ q u. steps q (inr u)) m
          ]
    ]

    at_pred : (ps : List E) (p a : E) → Has ps p → ((gone p ≡ false) × (p ≡ a)) ⊎ ((gone p ≡ true) × Has (noted same gone through p) a) → Has (resolved same gone (noted same gone through) ps) a
    at_pred [] p a h c = absurd h
    at_pred (q ∷ ps) p a (inr h) c = has_right (cond (gone q) (noted same gone through q) (q ∷ [])) (resolved same gone (noted same gone through) ps) a (at_pred ps p a h c)
    at_pred (q ∷ ps) p a (inl e) c = has_left (cond (gone q) (noted same gone through q) (q ∷ [])) (resolved same gone (noted same gone through) ps) a (elim c [
      | inl u ↦ let f : gone q ≡ false = ap gone e ∙ u.0 in rw f (inl (e ∙ u.1))
      | inr u ↦ let t : gone q ≡ true = ap gone e ∙ u.0 in rw t (subst (λ (z : E). Has (noted same gone through z) a) (sym e) u.1)
    ])

    resolved_from : (ps : List E) (a x : E) → ((p : E) → Has ps p → Has done p) → ((p : E) → step p x → Has ps p) → gone a ≡ false → Hop step gone a x → Has (resolved same gone (noted same gone through) ps) a
    resolved_from ps a x in_done all f h = elim (last_step a x h) [
      | inl s ↦ at_pred ps a a (all a s) (inl (f, refl))
      | inr s ↦ at_pred ps s.0 a (all s.0 s.3) (inr (s.2, (right s.0 (in_done s.0 (all s.0 s.3)) s.2 a).1 (f, s.1)))
    ]

    pub noted_more : (x : E) (qs : List E) → (Has done x → ⊥) → ((a : E) → Has qs a ↔ ((gone a ≡ false) × Hop step gone a x)) → Right ((x, qs) ∷ through) (x ∷ done)
    noted_more x qs new q p h t a = elim (cases (same x p)) [
      | inl u ↦
          let e : x ≡ p = sound x p u in
          rw u (subst (λ (z : E). Has qs a ↔ ((gone a ≡ false) × Hop step gone a z)) e (q a))
      | inr u ↦ rw u (elim h [
        | inl e ↦ absurd (never (same x p) (subst (λ (z : E). same x z ≡ true) e (reflexive x)) u)
        | inr k ↦ right p k t a
      ])
    ]

  pub right_more : (through : Graph E) (done : List E) (x : E) → gone x ≡ false → Right through done → Right through (x ∷ done)
  right_more through done x f right p (inl e) t a = absurd (never (gone p) t (ap gone (sym e) ∙ f))
  right_more through done x f right p (inr h) t a = right p h t a

  -- the pass over what is left
  module _ (whole : Graph E) (precedes : (ps : List E) (x p : E) → Contains whole (x, ps) → step p x ↔ Has ps p) where
    -- what the pass makes of the next node
    pub made : (through : Graph E) (done : List E) → Right through done → (x : E × List E) → Has whole x → ((p : E) → Contains x.1 p → Contains done p)
        → (a : E) → Has (distinct same gone through x.1) a ↔ ((gone a ≡ false) × Hop step gone a x.0)
    made through done right x h before a =
        let c : Contains whole (x.0, x.1) = contains_from whole x h in
        let in_done : (p : E) → Has x.1 p → Has done p = λ p m. has_from done p (before p (contains_from x.1 p m)) in (
          (λ m. resolved_to through done right x.1 a x.0 in_done (λ p u. (precedes x.1 x.0 p c).1 u) (distinct_to same sound [] (resolved same gone (noted same gone through) x.1) a m)),
          (λ r. distinct_from same sound (resolved same gone (noted same gone through) x.1) a (resolved_from through done right x.1 a x.0 in_done (λ p u. (precedes x.1 x.0 p c).0 u) r.0 r.1)),
        )

    pass_to : (through xs : Graph E) (done : List E) → Right through done → IsSorted same gone done xs → ((y : E × List E) → Has xs y → Has whole y)
        → (a b : E) (ps : List E) → Has (stitch_pass same gone through xs) (b, ps) → Has ps a → (gone a ≡ false) × Hop step gone a b × (gone b ≡ false)
    pass_to through [] done right sorted part a b ps h m = absurd h
    pass_to through (x ∷ xs) done right sorted part a b ps h m =
        let qs : List E = distinct same gone through x.1 in
        let is : (c : E) → Has qs c ↔ ((gone c ≡ false) × Hop step gone c x.0) = made through done right x (part x (inl refl)) sorted.1 in
        elim (cases (gone x.0)) [
          | inl t ↦
              let k : Has (stitch_pass same gone ((x.0, qs) ∷ through) xs) (b, ps) = rw t at h in
              pass_to ((x.0, qs) ∷ through) xs (x.0 ∷ done) (noted_more through done right x.0 qs (λ u. sorted.0 (contains_from done x.0 u)) is) sorted.2 (λ y u. part y (inr u)) a b ps k m
          | inr f ↦
              let k : Has ((x.0, qs) ∷ stitch_pass same gone through xs) (b, ps) = rw f at h in
              elim k [
                | inl e ↦
                    let r = (is a).0 (subst (λ (z : List E). Has z a) (sym (ap (λ q. q.1) e)) m) in
                    (r.0, subst (λ (z : E). Hop step gone a z) (ap (λ q. q.0) e) r.1, ap (λ q. gone q.0) (sym e) ∙ f)
                | inr u ↦ pass_to through xs (x.0 ∷ done) (right_more through done x.0 f right) sorted.2 (λ y v. part y (inr v)) a b ps u m
              ]
        ]

    pass_from : (through xs : Graph E) (done : List E) → Right through done → IsSorted same gone done xs → ((y : E × List E) → Has xs y → Has whole y)
        → (a b : E) (ps : List E) → Has xs (b, ps) → gone a ≡ false → gone b ≡ false → Hop step gone a b → (qs : List E) × Has (stitch_pass same gone through xs) (b, qs) × Has qs a
    pass_from through [] done right sorted part a b ps h f g k = absurd h
    pass_from through (x ∷ xs) done right sorted part a b ps (inl e) f g k =
        let qs : List E = distinct same gone through x.1 in
        let is : (c : E) → Has qs c ↔ ((gone c ≡ false) × Hop step gone c x.0) = made through done right x (part x (inl refl)) sorted.1 in
        let u : gone x.0 ≡ false = ap (λ q. gone q.0) e ∙ g in
        (qs, rw u (inl (ap (λ q. (q.0, qs)) e)), (is a).1 (f, subst (λ (z : E). Hop step gone a z) (sym (ap (λ q. q.0) e)) k))
    pass_from through (x ∷ xs) done right sorted part a b ps (inr h) f g k =
        let qs : List E = distinct same gone through x.1 in
        let is : (c : E) → Has qs c ↔ ((gone c ≡ false) × Hop step gone c x.0) = made through done right x (part x (inl refl)) sorted.1 in
        elim (cases (gone x.0)) [
          | inl t ↦
              let r = pass_from ((x.0, qs) ∷ through) xs (x.0 ∷ done) (noted_more through done right x.0 qs (λ u. sorted.0 (contains_from done x.0 u)) is) sorted.2 (λ y u. part y (inr u)) a b ps h f g k in
              (r.0, rw t r.1, r.2)
          | inr u ↦
              let r = pass_from through xs (x.0 ∷ done) (right_more through done x.0 u right) sorted.2 (λ y v. part y (inr v)) a b ps h f g k in
              (r.0, rw u (inr r.1), r.2)
        ]

-- each node is once
module _ {E : Type 0} (same : E → E → Bool) (gone : E → Bool) where
  not_before : (before : List E) (xs : Graph E) (y : E × List E) → IsSorted same gone before xs → Has xs y → Contains before y.0 → ⊥
  not_before before [] y s h c = h
  not_before before (x ∷ xs) y s (inl e) c = s.0 (subst (λ (q : E × List E). Contains before q.0) (sym e) c)
  not_before before (x ∷ xs) y s (inr h) c = not_before (x.0 ∷ before) xs y s.2 h (contains_from (x.0 ∷ before) y.0 (inr (has_from before y.0 c)))

  pub one_list : (before : List E) (xs : Graph E) (y z : E × List E) → IsSorted same gone before xs → Has xs y → Has xs z → y.0 ≡ z.0 → y.1 ≡ z.1
  one_list before [] y z s h k e = absurd h
  one_list before (x ∷ xs) y z s (inl h) (inl k) e = ap (λ q. q.1) (sym h ∙ k)
  one_list before (x ∷ xs) y z s (inl h) (inr k) e = absurd (not_before (x.0 ∷ before) xs z s.2 k (contains_from (x.0 ∷ before) z.0 (inl (ap (λ q. q.0) h ∙ e))))
  one_list before (x ∷ xs) y z s (inr h) (inl k) e = absurd (not_before (x.0 ∷ before) xs y s.2 h (contains_from (x.0 ∷ before) y.0 (inl (ap (λ q. q.0) k ∙ sym e))))
  one_list before (x ∷ xs) y z s (inr h) (inr k) e = one_list (x.0 ∷ before) xs y z s.2 h k e

pub passing : (E : Type 0) → Passing E
passing E = λ same gone g sound reflexive sorted a b.
    let precedes : (ps : List E) (x p : E) → Contains g (x, ps) → Precedes g p x ↔ Has ps p = λ ps x p c. (
      (λ s. subst (λ (z : List E). Has z p) (one_list same gone [] g (x, s.0) (x, ps) sorted (has_from g (x, s.0) s.1) (has_from g (x, ps) c) refl) (has_from s.0 p s.2)),
      (λ m. (ps, c, contains_from ps p m)),
    ) in
    let none : (p : E) → Has [] p → gone p ≡ true → (c : E) → Has (noted same gone [] p) c ↔ ((gone c ≡ false) × Hop (Precedes g) gone c p) = λ p h t c. absurd h in (
      (λ h.
          let r = pass_to same gone sound reflexive (Precedes g) g precedes [] g [] none sorted (λ y u. u) a b h.0 (has_from (stitch_pass same gone [] g) (b, h.0) h.1) (has_from h.0 a h.2) in
          record { hop = r.1; first = r.0; second = r.2 }),
      (λ s.
          let into : (ps : List E) × Has g (b, ps) = elim (last_step same gone sound reflexive (Precedes g) a b s.hop) [
            | inl p ↦ (p.0, has_from g (b, p.0) p.1)
            | inr p ↦ (p.3.0, has_from g (b, p.3.0) p.3.1)
          ] in
          let r = pass_from same gone sound reflexive (Precedes g) g precedes [] g [] none sorted (λ y u. u) a b into.0 into.1 s.first s.second s.hop in
          (r.0, contains_from (stitch_pass same gone [] g) (b, r.0) r.1, contains_from r.0 a r.2)),
    )
