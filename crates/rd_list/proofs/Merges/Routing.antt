-- What a level holds, told by the routes of the leaves.
use Rattle.std.proofs.Common.{◌≡◌, refl, ap, ◌∙◌, sym, subst, Bool, true, false, ◌&&◌, not, cond, List, [], ◌∷◌, ◌++◌, inl, inr, ◌⊎◌, append_assoc}
use Rattle.std.specs.Prelude.{IsTrue, IsPermutation}
use Rattle.std.proofs.lemmas.List.{append-nil}
use Rattle.std.proofs.lemmas.List.Sorted.{Contains-permutation}
use Rattle.rd_list.specs.Entries.{Entries, nil, leaf, group, ◌▷◌, flat, routes, heads, only, grouped_if_any, is_empty, no_group_is_empty}
use Rattle.rd_list.specs.Levels.{Names, inside, level_at}
use Rattle.rd_list.proofs.Merges.Named.{AreNames}
use Rattle.rd_graph.proofs.Lists.Listing.{Has, cases, has_from, contains_from, has_left, has_right, has_either, has_filter}
use Rattle.rd_list.proofs.Merges.Levelling.{flat-only}

-- the first element, and the rest
abbrev first_or : {A : Type 0} → A → List A → A
first_or d [] = d
first_or d (x ∷ xs) = x

abbrev rest_of : {A : Type 0} → List A → List A
rest_of [] = []
rest_of (x ∷ xs) = xs

same_first : {A : Type 0} (x y : A) (xs ys : List A) → x ∷ xs ≡ y ∷ ys → x ≡ y
same_first x y xs ys h = ap (first_or x) h

same_rest : {A : Type 0} (x y : A) (xs ys : List A) → x ∷ xs ≡ y ∷ ys → xs ≡ ys
same_rest x y xs ys h = ap rest_of h

not_empty : {A : Type 0} (x : A) (xs : List A) → x ∷ xs ≡ [] → ⊥
not_empty x xs h = cc

pub both_true : (a b : Bool) → IsTrue (a && b) → IsTrue a × IsTrue b
both_true true true h = (refl, refl)
both_true true false h = absurd (let no : false ≡ true = h in cc)
both_true false b h = absurd (let no : false ≡ true = h in cc)

-- an entry, no empty group inside, none after
pub three_true : (a b c : Bool) → IsTrue (a && b && c) → IsTrue a × IsTrue b × IsTrue c
three_true a b c h = let u = both_true (a && b) c h in let v = both_true a b u.0 in (v.0, v.1, u.1)

module _ {G L : Type 0} where
  -- a leaf within these wrappers, from the outside in
  abbrev pub Routed : List G → L → Entries G L → Type 0
  Routed gs l nil = ⊥
  Routed gs l (leaf m rest) = ((gs ≡ []) × (m ≡ l)) ⊎ Routed gs l rest
  Routed gs l (group g inner rest) = ((hs : List G) × (gs ≡ g ∷ hs) × Routed hs l inner) ⊎ Routed gs l rest

  pub routes_routed : (base : List G) (xs : Entries G L) (full : List G) (l : L) → Has (routes base xs) (full, l) → (gs : List G) × (full ≡ base ++ gs) × Routed gs l xs
  routes_routed base nil full l h = absurd h
  routes_routed base (leaf m rest) full l (inl e) = ([], ap (λ p. p.0) (sym e) ∙ sym (append-nil base), inl (refl, ap (λ p. p.1) e))
  routes_routed base (leaf m rest) full l (inr h) = let r = routes_routed base rest full l h in (r.0, r.1, inr r.2)
  routes_routed base (group g inner rest) full l h = elim (has_either (routes (base ++ g ∷ []) inner) (routes base rest) (full, l) h) [
    | inl k ↦ let r = routes_routed (base ++ g ∷ []) inner full l k in (g ∷ r.0, r.1 ∙ append_assoc base (g ∷ []) r.0, inl (r.0, refl, r.2))
    | inr k ↦ let r = routes_routed base rest full l k in (r.0, r.1, inr r.2)
  ]

  pub routed_routes : (base : List G) (xs : Entries G L) (gs : List G) (l : L) → Routed gs l xs → Has (routes base xs) (base ++ gs, l)
  routed_routes base nil gs l h = h
  routed_routes base (leaf m rest) gs l (inl h) = inl (ap (λ p. (p, m)) (sym (append-nil base) ∙ ap (λ q. base ++ q) (sym h.0)) ∙ ap (λ q. (base ++ gs, q)) h.1)
  routed_routes base (leaf m rest) gs l (inr h) = inr (routed_routes base rest gs l h)
  routed_routes base (group g inner rest) gs l (inl h) =
      has_left (routes (base ++ g ∷ []) inner) (routes base rest) (base ++ gs, l)
      (subst (λ (p : List G). Has (routes (base ++ g ∷ []) inner) (p, l)) (append_assoc base (g ∷ []) h.0 ∙ ap (λ q. base ++ q) (sym h.1)) (routed_routes (base ++ g ∷ []) inner h.0 l h.2))
  routed_routes base (group g inner rest) gs l (inr h) = has_right (routes (base ++ g ∷ []) inner) (routes base rest) (base ++ gs, l) (routed_routes base rest gs l h)

  -- lists with the same routes have the same leaves within the same wrappers
  pub routed_same : (xs ys : Entries G L) → IsPermutation (routes [] xs) (routes [] ys) → (gs : List G) (l : L) → Routed gs l xs → Routed gs l ys
  routed_same xs ys p gs l h =
      let r = routes_routed [] ys gs l (has_from (routes [] ys) (gs, l) (Contains-permutation (routes [] xs) (routes [] ys) (gs, l) p (contains_from (routes [] xs) (gs, l) (routed_routes [] xs gs l h)))) in
      subst (λ (q : List G). Routed q l ys) (sym r.1) r.2

  pub routed_left : (gs : List G) (l : L) (xs ys : Entries G L) → Routed gs l xs → Routed gs l (xs ▷ ys)
  routed_left gs l nil ys h = absurd h
  routed_left gs l (leaf m xs) ys (inl h) = inl h
  routed_left gs l (leaf m xs) ys (inr h) = inr (routed_left gs l xs ys h)
  routed_left gs l (group g inner xs) ys (inl h) = inl h
  routed_left gs l (group g inner xs) ys (inr h) = inr (routed_left gs l xs ys h)

  pub routed_right : (gs : List G) (l : L) (xs ys : Entries G L) → Routed gs l ys → Routed gs l (xs ▷ ys)
  routed_right gs l nil ys h = h
  routed_right gs l (leaf m xs) ys h = inr (routed_right gs l xs ys h)
  routed_right gs l (group g inner xs) ys h = inr (routed_right gs l xs ys h)

  pub routed_either : (gs : List G) (l : L) (xs ys : Entries G L) → Routed gs l (xs ▷ ys) → Routed gs l xs ⊎ Routed gs l ys
  routed_either gs l nil ys h = inr h
  routed_either gs l (leaf m xs) ys (inl h) = inl (inl h)
  routed_either gs l (leaf m xs) ys (inr h) = elim (routed_either gs l xs ys h) [ inl k ↦ inl (inr k) | inr k ↦ inr k ]
  routed_either gs l (group g inner xs) ys (inl h) = inl (inl h)
  routed_either gs l (group g inner xs) ys (inr h) = elim (routed_either gs l xs ys h) [ inl k ↦ inl (inr k) | inr k ↦ inr k ]

  pub routed_flat : (gs : List G) (l : L) (xs : Entries G L) → Routed gs l xs → Has (flat xs) l
  routed_flat gs l nil h = h
  routed_flat gs l (leaf m xs) (inl h) = inl h.1
  routed_flat gs l (leaf m xs) (inr h) = inr (routed_flat gs l xs h)
  routed_flat gs l (group g inner xs) (inl h) = has_left (flat inner) (flat xs) l (routed_flat h.0 l inner h.2)
  routed_flat gs l (group g inner xs) (inr h) = has_right (flat inner) (flat xs) l (routed_flat gs l xs h)

  pub flat_routed : (l : L) (xs : Entries G L) → Has (flat xs) l → (gs : List G) × Routed gs l xs
  flat_routed l nil h = absurd h
  flat_routed l (leaf m xs) (inl e) = ([], inl (refl, e))
  flat_routed l (leaf m xs) (inr h) = let r = flat_routed l xs h in (r.0, inr r.1)
  flat_routed l (group g inner xs) h = elim (has_either (flat inner) (flat xs) l h) [
    | inl k ↦ let r = flat_routed l inner k in (g ∷ r.0, inl (r.0, refl, r.1))
    | inr k ↦ let r = flat_routed l xs k in (r.0, inr r.1)
  ]

  -- the entry h of a level holds the leaf l
  abbrev pub Carries : Entries G L → L ⊎ G → L → Type 0
  Carries nil h l = ⊥
  Carries (leaf m rest) h l = ((inl m ≡ h) × (m ≡ l)) ⊎ Carries rest h l
  Carries (group g inner rest) h l = ((inr g ≡ h) × Has (flat inner) l) ⊎ Carries rest h l

  pub carries_head : (xs : Entries G L) (h : L ⊎ G) (l : L) → Carries xs h l → Has (heads xs) h
  carries_head nil h l c = c
  carries_head (leaf m xs) h l (inl c) = inl c.0
  carries_head (leaf m xs) h l (inr c) = inr (carries_head xs h l c)
  carries_head (group g inner xs) h l (inl c) = inl c.0
  carries_head (group g inner xs) h l (inr c) = inr (carries_head xs h l c)

  pub carries_flat : (xs : Entries G L) (h : L ⊎ G) (l : L) → Carries xs h l → Has (flat xs) l
  carries_flat nil h l c = c
  carries_flat (leaf m xs) h l (inl c) = inl c.1
  carries_flat (leaf m xs) h l (inr c) = inr (carries_flat xs h l c)
  carries_flat (group g inner xs) h l (inl c) = has_left (flat inner) (flat xs) l c.1
  carries_flat (group g inner xs) h l (inr c) = has_right (flat inner) (flat xs) l (carries_flat xs h l c)

  -- a list with an entry and no empty group has a leaf
  some_leaf : (xs : Entries G L) → IsTrue (no_group_is_empty xs) → IsTrue (not (is_empty xs)) → (l : L) × Has (flat xs) l
  some_leaf nil f e = absurd (let no : false ≡ true = e in cc)
  some_leaf (leaf l xs) f e = (l, inl refl)
  some_leaf (group g inner xs) f e =
      let a = three_true (not (is_empty inner)) (no_group_is_empty inner) (no_group_is_empty xs) f in
      let r = some_leaf inner a.1 a.0 in
      (r.0, has_left (flat inner) (flat xs) r.0 r.1)

  pub filled_carries : (xs : Entries G L) (h : L ⊎ G) → IsTrue (no_group_is_empty xs) → Has (heads xs) h → (l : L) × Carries xs h l
  filled_carries nil h f m = absurd m
  filled_carries (leaf l xs) h f (inl e) = (l, inl (e, refl))
  filled_carries (leaf l xs) h f (inr m) = let r = filled_carries xs h f m in (r.0, inr r.1)
  filled_carries (group g inner xs) h f m =
      let a = three_true (not (is_empty inner)) (no_group_is_empty inner) (no_group_is_empty xs) f in
      elim m [
        | inl e ↦ let r = some_leaf inner a.1 a.0 in (r.0, inl (e, r.1))
        | inr k ↦ let r = filled_carries xs h a.2 k in (r.0, inr r.1)
      ]

  -- what a test leaves
  module _ (p : L → Bool) where
    carries_grouped : (g : G) (inner xs : Entries G L) (h : L ⊎ G) (l : L) → Carries (grouped_if_any g inner xs) h l → Carries (group g inner xs) h l
    carries_grouped g nil xs h l c = inr c
    carries_grouped g (leaf m i) xs h l c = c
    carries_grouped g (group k j i) xs h l c = c

    grouped_carries : (g : G) (inner xs : Entries G L) (h : L ⊎ G) (l : L) → Carries (group g inner xs) h l → Carries (grouped_if_any g inner xs) h l
    grouped_carries g nil xs h l (inl c) = absurd c.1
    grouped_carries g nil xs h l (inr c) = c
    grouped_carries g (leaf m i) xs h l c = c
    grouped_carries g (group k j i) xs h l c = c

    pub carries_only : (xs : Entries G L) (h : L ⊎ G) (l : L) → Carries xs h l → p l ≡ true → Carries (only p xs) h l
    carries_only nil h l c t = c
    carries_only (leaf m xs) h l (inl c) t = let s : p m ≡ true = ap p c.1 ∙ t in rw s (inl c)
    carries_only (leaf m xs) h l (inr c) t = elim (cases (p m)) [ inl s ↦ rw s (inr (carries_only xs h l c t)) | inr s ↦ rw s (carries_only xs h l c t) ]
    carries_only (group g inner xs) h l (inl c) t = grouped_carries g (only p inner) (only p xs) h l (inl (c.0, rw (flat-only p inner) (has_filter p (flat inner) l c.1 t)))
    carries_only (group g inner xs) h l (inr c) t = grouped_carries g (only p inner) (only p xs) h l (inr (carries_only xs h l c t))

    pub only_head : (xs : Entries G L) (h : L ⊎ G) → Has (heads (only p xs)) h → Has (heads xs) h
    only_head nil h m = m
    only_head (leaf l xs) h m = elim (cases (p l)) [
      | inl t ↦ let k : Has (inl l ∷ heads (only p xs)) h = rw t at m in elim k [ inl e ↦ inl e | inr r ↦ inr (only_head xs h r) ]
      | inr f ↦ let k : Has (heads (only p xs)) h = rw f at m in inr (only_head xs h k)
    ]
    only_head (group g inner xs) h m = elim (grouped_head g (only p inner) (only p xs) m) [ inl e ↦ inl e | inr r ↦ inr (only_head xs h r) ]
      where
        grouped_head : (g : G) (inner xs : Entries G L) → Has (heads (grouped_if_any g inner xs)) h → (inr g ≡ h) ⊎ Has (heads xs) h
        grouped_head g nil xs m = inr m
        grouped_head g (leaf l i) xs m = m
        grouped_head g (group k j i) xs m = m

    pub only_filled : (xs : Entries G L) → IsTrue (no_group_is_empty (only p xs))
    only_filled nil = refl
    only_filled (leaf l xs) = elim (p l) as (λ b. IsTrue (no_group_is_empty (cond b (leaf l (only p xs)) (only p xs)))) [ true ↦ only_filled xs | false ↦ only_filled xs ]
    only_filled (group g inner xs) = grouped_filled (only p inner) (only p xs) (only_filled inner) (only_filled xs)
      where
        grouped_filled : (inner xs : Entries G L) → IsTrue (no_group_is_empty inner) → IsTrue (no_group_is_empty xs) → IsTrue (no_group_is_empty (grouped_if_any g inner xs))
        grouped_filled nil xs h k = k
        grouped_filled (leaf l i) xs h k = rw (h, k) refl
        grouped_filled (group m j i) xs h k = rw (h, k) refl

module _ {E G L : Type 0} (n : Names E G L) (names : AreNames n) where
  routed_inside : (e : E) (gs : List G) (l : L) (xs : Entries G L) → Routed gs l (inside n e xs) → (g : G) × (n.group g ≡ e) × Routed (g ∷ gs) l xs
  routed_inside e gs l nil h = absurd h
  routed_inside e gs l (leaf m xs) h = let r = routed_inside e gs l xs h in (r.0, r.1, inr r.2)
  routed_inside e gs l (group g inner xs) h = elim (cases (n.same e (n.group g))) [
    | inl t ↦ let k : Routed gs l (inner ▷ inside n e xs) = rw t at h in
        elim (routed_either gs l inner (inside n e xs) k) [
          | inl r ↦ (g, sym (names.sound e (n.group g) t), inl (gs, refl, r))
          | inr r ↦ let s = routed_inside e gs l xs r in (s.0, s.1, inr s.2)
        ]
    | inr f ↦ let k : Routed gs l (inside n e xs) = rw f at h in let s = routed_inside e gs l xs k in (s.0, s.1, inr s.2)
  ]

  inside_routed : (g : G) (gs : List G) (l : L) (xs : Entries G L) → Routed (g ∷ gs) l xs → Routed gs l (inside n (n.group g) xs)
  inside_routed g gs l nil h = h
  inside_routed g gs l (leaf m xs) (inl h) = absurd (not_empty g gs h.0)
  inside_routed g gs l (leaf m xs) (inr h) = inside_routed g gs l xs h
  inside_routed g gs l (group k inner xs) (inl h) =
      let t : n.same (n.group g) (n.group k) ≡ true = subst (λ (x : G). n.same (n.group g) (n.group x) ≡ true) (same_first g k gs h.0 h.1) (names.reflexive (n.group g)) in
      rw t (routed_left gs l inner (inside n (n.group g) xs) (subst (λ (x : List G). Routed x l inner) (sym (same_rest g k gs h.0 h.1)) h.2))
  inside_routed g gs l (group k inner xs) (inr h) = routed_right gs l (cond (n.same (n.group g) (n.group k)) inner nil) (inside n (n.group g) xs) (inside_routed g gs l xs h)

  -- the groups go through the level of the path, and then into the entry h
  abbrev pub Trail : List E → L ⊎ G → List G → L → Type 0
  Trail [] (inl m) gs l = (gs ≡ []) × (m ≡ l)
  Trail [] (inr g) gs l = (hs : List G) × (gs ≡ g ∷ hs)
  Trail (e ∷ path) h gs l = (g : G) × (hs : List G) × (gs ≡ g ∷ hs) × (n.group g ≡ e) × Trail path h hs l

  carried_here : (h : L ⊎ G) (l : L) (xs : Entries G L) → Carries xs h l → (gs : List G) × Routed gs l xs × Trail [] h gs l
  carried_here h l nil c = absurd c
  carried_here h l (leaf m xs) (inl c) = ([], inl (refl, c.1), subst (λ (k : L ⊎ G). Trail [] k [] l) c.0 (refl, c.1))
  carried_here h l (leaf m xs) (inr c) = let r = carried_here h l xs c in (r.0, inr r.1, r.2)
  carried_here h l (group g inner xs) (inl c) = let r = flat_routed l inner c.1 in (g ∷ r.0, inl (r.0, refl, r.1), subst (λ (k : L ⊎ G). Trail [] k (g ∷ r.0) l) c.0 (r.0, refl))
  carried_here h l (group g inner xs) (inr c) = let r = carried_here h l xs c in (r.0, inr r.1, r.2)

  carried : (path : List E) (h : L ⊎ G) (l : L) (xs : Entries G L) → Carries (level_at n path xs) h l → (gs : List G) × Routed gs l xs × Trail path h gs l
  carried [] h l xs c = carried_here h l xs c
  carried (e ∷ path) h l xs c =
      let r = carried path h l (inside n e xs) c in
      let s = routed_inside e r.0 l xs r.1 in
      (s.0 ∷ r.0, s.2, (s.0, r.0, refl, s.1, r.2))

  carries_here : (h : L ⊎ G) (gs : List G) (l : L) (xs : Entries G L) → Routed gs l xs → Trail [] h gs l → Carries xs h l
  carries_here h gs l nil r t = r
  carries_here (inl k) gs l (leaf m xs) (inl r) t = inl (ap inl (r.1 ∙ sym t.1), r.1)
  carries_here (inr k) gs l (leaf m xs) (inl r) t = absurd (not_empty k t.0 (sym t.1 ∙ r.0))
  carries_here (inl k) gs l (leaf m xs) (inr r) t = inr (carries_here (inl k) gs l xs r t)
  carries_here (inr k) gs l (leaf m xs) (inr r) t = inr (carries_here (inr k) gs l xs r t)
  carries_here (inl k) gs l (group g inner xs) (inl r) t = absurd (not_empty g r.0 (sym r.1 ∙ t.0))
  carries_here (inr k) gs l (group g inner xs) (inl r) t = inl (ap inr (same_first g k r.0 t.0 (sym r.1 ∙ t.1)), routed_flat r.0 l inner r.2)
  carries_here (inl k) gs l (group g inner xs) (inr r) t = inr (carries_here (inl k) gs l xs r t)
  carries_here (inr k) gs l (group g inner xs) (inr r) t = inr (carries_here (inr k) gs l xs r t)

  carries : (path : List E) (h : L ⊎ G) (gs : List G) (l : L) (xs : Entries G L) → Routed gs l xs → Trail path h gs l → Carries (level_at n path xs) h l
  carries [] h gs l xs r t = carries_here h gs l xs r t
  carries (e ∷ path) h gs l xs r t =
      let s : Routed (t.0 ∷ t.1) l xs = subst (λ (x : List G). Routed x l xs) t.2 r in
      let i : Routed t.1 l (inside n e xs) = subst (λ (x : E). Routed t.1 l (inside n x xs)) t.3 (inside_routed t.0 t.1 l xs s) in
      carries path h t.1 l (inside n e xs) i t.4

  -- lists with the same routes have the same leaves in the same entries of each level
  pub carries_same : (xs ys : Entries G L) → IsPermutation (routes [] xs) (routes [] ys) → (path : List E) (h : L ⊎ G) (l : L) → Carries (level_at n path xs) h l → Carries (level_at n path ys) h l
  carries_same xs ys p path h l c = let r = carried path h l xs c in carries path h r.0 l ys (routed_same xs ys p r.0 l r.1) r.2
