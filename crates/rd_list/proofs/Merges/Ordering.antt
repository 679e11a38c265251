-- The order of the leaves of a list follows from the order of the entries of each level.
use Rattle.std.proofs.Common.{◌≡◌, refl, ap, ◌∙◌, sym, subst, Bool, true, false, ◌||◌, cond, List, [], ◌∷◌, ◌++◌, ℕ, zero, suc, ◌+◌, ◌<◌, ◌≤◌, inl, inr, ◌⊎◌, arith}
use Rattle.std.specs.Prelude.{IsTrue, map, filter}
use Rattle.rd_list.specs.Entries.{Entries, nil, leaf, group, ◌▷◌, flat, list_size}
use Rattle.rd_graph.specs.Orders.{Before}
use Rattle.rd_list.specs.Levels.{Names, keys, name, inside, level_at, held, EntriesMeet, pair_in_order}
use Rattle.rd_list.proofs.Merges.Named.{AreNames}
use Rattle.rd_graph.proofs.Lists.Listing.{Has, Once, cases, has_from, contains_from, has_left, has_right, has_either, has_map, before_from, before_to, before_left, before_right, before_across, before_join}
use Rattle.rd_list.proofs.Merges.Levelling.{flat-join, held_key, inside_flat}
use Rattle.rd_list.proofs.Merges.Routing.{Carries}

module _ {A E : Type 0} (f : A → E) where
  -- of one name there is one element
  pub once_same : (xs : List A) (a b : A) → Once (map f xs) → Has xs a → Has xs b → f a ≡ f b → a ≡ b
  once_same [] a b o h k e = absurd h
  once_same (x ∷ xs) a b o (inl h) (inl k) e = sym h ∙ k
  once_same (x ∷ xs) a b o (inl h) (inr k) e = absurd (o.0 (subst (λ (y : E). Has (map f xs) y) (sym (ap f h ∙ e)) (has_map f xs b k)))
  once_same (x ∷ xs) a b o (inr h) (inl k) e = absurd (o.0 (subst (λ (y : E). Has (map f xs) y) (sym (ap f k ∙ sym e)) (has_map f xs a h)))
  once_same (x ∷ xs) a b o (inr h) (inr k) e = once_same xs a b o.1 h k e

  module _ (p : A → Bool) where
    filter_none : (xs : List A) → ((x : A) → Has xs x → p x ≡ true → ⊥) → filter p xs ≡ []
    filter_none [] h = refl
    filter_none (x ∷ xs) h = elim (cases (p x)) [
      | inl t ↦ absurd (h x (inl refl) t)
      | inr u ↦ rw u (filter_none xs (λ y m t. h y (inr m) t))
    ]

    pub filter_one : (xs : List A) (a : A) → Once (map f xs) → Has xs a → p a ≡ true → ((x : A) → Has xs x → p x ≡ true → f x ≡ f a) → filter p xs ≡ a ∷ []
    filter_one [] a o h t only = absurd h
    filter_one (x ∷ xs) a o (inl e) t only =
        let s : p x ≡ true = ap p e ∙ t in
        rw (s, filter_none xs (λ y m u. o.0 (subst (λ (z : E). Has (map f xs) z) (only y (inr m) u ∙ sym (ap f e)) (has_map f xs y m)))) (ap (λ z. z ∷ []) e)
    filter_one (x ∷ xs) a o (inr h) t only = elim (cases (p x)) [
      | inl s ↦ absurd (o.0 (subst (λ (z : E). Has (map f xs) z) (sym (only x (inl refl) s)) (has_map f xs a h)))
      | inr s ↦ rw s (filter_one xs a o.1 h t (λ y m u. only y (inr m) u))
    ]

    pub filter_two : (xs : List A) (a b : A) → Once (map f xs) → Before xs a b → p a ≡ true → p b ≡ true → ((x : A) → Has xs x → p x ≡ true → (f x ≡ f a) ⊎ (f x ≡ f b)) → filter p xs ≡ a ∷ b ∷ []
    filter_two [] a b o h t u only = absurd h
    filter_two (x ∷ xs) a b o (inl h) t u only =
        let s : p x ≡ true = ap p h.0 ∙ t in
        let rest : filter p xs ≡ b ∷ [] = filter_one xs b o.1 (has_from xs b h.1) u (λ y m v. elim (only y (inr m) v) [
          | inl e ↦ absurd (o.0 (subst (λ (z : E). Has (map f xs) z) (e ∙ sym (ap f h.0)) (has_map f xs y m)))
          | inr e ↦ e
        ]) in
        rw (s, rest) (ap (λ z. z ∷ b ∷ []) h.0)
    filter_two (x ∷ xs) a b o (inr h) t u only = elim (cases (p x)) [
      | inl s ↦ absurd (elim (only x (inl refl) s) [
        | inl e ↦ o.0 (subst (λ (z : E). Has (map f xs) z) (sym e) (has_map f xs a (before_from xs a b h)))
        | inr e ↦ o.0 (subst (λ (z : E). Has (map f xs) z) (sym e) (has_map f xs b (before_to xs a b h)))
      ])
      | inr s ↦ rw s (filter_two xs a b o.1 h t u (λ y m v. only y (inr m) v))
    ]

module _ {G L : Type 0} where
  size-join : (xs ys : Entries G L) → list_size (xs ▷ ys) ≡ list_size xs + list_size ys
  size-join nil ys = omega arith
  size-join (leaf l xs) ys = omega (arith, size-join xs ys)
  size-join (group g inner xs) ys = omega (arith, size-join xs ys)

module _ {E G L : Type 0} (n : Names E G L) (names : AreNames n) where
  size_picked : (b : Bool) (inner rest : Entries G L) → list_size (cond b inner nil ▷ rest) ≤ list_size inner + list_size rest
  size_picked true inner rest = omega (arith, size-join inner rest)
  size_picked false inner rest = omega arith

  size_inside : (e : E) (xs : Entries G L) → list_size (inside n e xs) ≤ list_size xs
  size_inside e nil = omega arith
  size_inside e (leaf l xs) = omega (arith, size_inside e xs)
  size_inside e (group g inner xs) = omega (arith, size_picked (n.same e (n.group g)) inner (inside n e xs), size_inside e xs)

  size_less : (e : E) (xs : Entries G L) (l : L) → Has (flat xs) l → list_size (inside n e xs) < list_size xs
  size_less e nil l h = absurd h
  size_less e (leaf m xs) l h = omega (arith, size_inside e xs)
  size_less e (group g inner xs) l h = omega (arith, size_picked (n.same e (n.group g)) inner (inside n e xs), size_inside e xs)

  -- what an entry holds stands in this entry, or further on
  held_apart : (x y : E) (part : List L) (xs : Entries G L) (a : L) → Has (cond (n.same x y) part [] ++ held n x xs) a → ((x ≡ y) × Has part a) ⊎ Has (held n x xs) a
  held_apart x y part xs a h = elim (cases (n.same x y)) [
    | inl t ↦ let k : Has (part ++ held n x xs) a = rw t at h in elim (has_either part (held n x xs) a k) [ inl m ↦ inl (names.sound x y t, m) | inr m ↦ inr m ]
    | inr f ↦ let k : Has (held n x xs) a = rw f at h in inr k
  ]

  held_rest : (x y : E) (part : List L) (xs : Entries G L) (a : L) → (Has (keys n xs) y → ⊥) → Has (keys n xs) x → Has (cond (n.same x y) part [] ++ held n x xs) a → Has (held n x xs) a
  held_rest x y part xs a o k h = elim (held_apart x y part xs a h) [
    | inl m ↦ absurd (o (subst (λ (z : E). Has (keys n xs) z) m.0 k))
    | inr m ↦ m
  ]

  held_first : (x y : E) (part : List L) (xs : Entries G L) (a : L) → (Has (keys n xs) y → ⊥) → y ≡ x → Has (cond (n.same x y) part [] ++ held n x xs) a → Has part a
  held_first x y part xs a o e h = elim (held_apart x y part xs a h) [
    | inl m ↦ m.1
    | inr m ↦ absurd (o (subst (λ (z : E). Has (keys n xs) z) (sym e) (held_key n names.sound x xs a m)))
  ]

  held_flat : (e : E) (xs : Entries G L) (l : L) → Has (held n e xs) l → Has (flat xs) l
  held_flat e nil l h = h
  held_flat e (leaf m xs) l h = elim (held_apart e (n.leaf m) (m ∷ []) xs l h) [ inl k ↦ elim k.1 [ inl r ↦ inl r | inr r ↦ absurd r ] | inr k ↦ inr (held_flat e xs l k) ]
  held_flat e (group g inner xs) l h = elim (held_apart e (n.group g) (flat inner) xs l h) [ inl k ↦ has_left (flat inner) (flat xs) l k.1 | inr k ↦ has_right (flat inner) (flat xs) l (held_flat e xs l k) ]

  -- where an entry stands before another, so do their leaves
  pub before_entries : (xs : Entries G L) (x y : E) (a b : L) → Once (keys n xs) → Before (keys n xs) x y → Has (held n x xs) a → Has (held n y xs) b → Before (flat xs) a b
  before_entries nil x y a b o h p q = absurd h
  before_entries (leaf l xs) x y a b o (inl h) p q =
      let first : Has (l ∷ []) a = held_first x (n.leaf l) (l ∷ []) xs a o.0 h.0 p in
      let other : Has (held n y xs) b = held_rest y (n.leaf l) (l ∷ []) xs b o.0 (has_from (keys n xs) y h.1) q in
      elim first [ inl e ↦ inl (e, contains_from (flat xs) b (held_flat y xs b other)) | inr r ↦ absurd r ]
  before_entries (leaf l xs) x y a b o (inr h) p q =
      inr (before_entries xs x y a b o.1 h (held_rest x (n.leaf l) (l ∷ []) xs a o.0 (before_from (keys n xs) x y h) p) (held_rest y (n.leaf l) (l ∷ []) xs b o.0 (before_to (keys n xs) x y h) q))
  before_entries (group g inner xs) x y a b o (inl h) p q =
      before_across (flat inner) (flat xs) a b
      (held_first x (n.group g) (flat inner) xs a o.0 h.0 p)
      (held_flat y xs b (held_rest y (n.group g) (flat inner) xs b o.0 (has_from (keys n xs) y h.1) q))
  before_entries (group g inner xs) x y a b o (inr h) p q =
      before_right (flat inner) (flat xs) a b
      (before_entries xs x y a b o.1 h (held_rest x (n.group g) (flat inner) xs a o.0 (before_from (keys n xs) x y h) p) (held_rest y (n.group g) (flat inner) xs b o.0 (before_to (keys n xs) x y h) q))

  -- the order inside a group is that of the list
  pub before_inside : (e : E) (xs : Entries G L) (a b : L) → Before (flat (inside n e xs)) a b → Before (flat xs) a b
  before_inside e nil a b h = h
  before_inside e (leaf l xs) a b h = inr (before_inside e xs a b h)
  before_inside e (group g inner xs) a b h = elim (cases (n.same e (n.group g))) [
    | inl t ↦
        let k : Before (flat (inner ▷ inside n e xs)) a b = rw t at h in
        elim (before_join (flat inner) (flat (inside n e xs)) a b (rw (flat-join inner (inside n e xs)) at k)) [
          | inl m ↦ before_left (flat inner) (flat xs) a b m
          | inr m ↦ elim m [
            | inl r ↦ before_across (flat inner) (flat xs) a b r.0 (inside_flat n e xs b r.1)
            | inr r ↦ before_right (flat inner) (flat xs) a b (before_inside e xs a b r)
          ]
        ]
    | inr f ↦ let k : Before (flat (inside n e xs)) a b = rw f at h in before_right (flat inner) (flat xs) a b (before_inside e xs a b k)
  ]

  pub flat_held : (xs : Entries G L) (l : L) → Has (flat xs) l → (e : E) × Has (held n e xs) l
  flat_held nil l h = absurd h
  flat_held (leaf m xs) l (inl e) = (n.leaf m, rw (names.reflexive (n.leaf m)) (inl e))
  flat_held (leaf m xs) l (inr h) = let r = flat_held xs l h in (r.0, has_right (cond (n.same r.0 (n.leaf m)) (m ∷ []) []) (held n r.0 xs) l r.1)
  flat_held (group g inner xs) l h = elim (has_either (flat inner) (flat xs) l h) [
    | inl k ↦ (n.group g, rw (names.reflexive (n.group g)) (has_left (flat inner) (held n (n.group g) xs) l k))
    | inr k ↦ let r = flat_held xs l k in (r.0, has_right (cond (n.same r.0 (n.group g)) (flat inner) []) (held n r.0 xs) l r.1)
  ]

  -- one leaf stands before another in two entries, or in one group
  pub record Split (xs : Entries G L) (a b : L) : Type 0 where
    pub one : E
    pub other : E
    pub order : Before (keys n xs) one other
    pub in_one : Has (held n one xs) a
    pub in_other : Has (held n other xs) b

  pub split : (xs : Entries G L) (a b : L) → Before (flat xs) a b → Split xs a b ⊎ ((e : E) × Before (flat (inside n e xs)) a b)
  split nil a b h = absurd h
  split (leaf l xs) a b (inl h) =
      let r = flat_held xs b (has_from (flat xs) b h.1) in
      inl (record {
        one = n.leaf l;
        other = r.0;
        order = inl (refl, contains_from (keys n xs) r.0 (held_key n names.sound r.0 xs b r.1));
        in_one = rw (names.reflexive (n.leaf l)) (inl h.0);
        in_other = has_right (cond (n.same r.0 (n.leaf l)) (l ∷ []) []) (held n r.0 xs) b r.1;
      })
  split (leaf l xs) a b (inr h) = elim (split xs a b h) [
    | inl s ↦ inl (record {
      one = s.one;
      other = s.other;
      order = inr s.order;
      in_one = has_right (cond (n.same s.one (n.leaf l)) (l ∷ []) []) (held n s.one xs) a s.in_one;
      in_other = has_right (cond (n.same s.other (n.leaf l)) (l ∷ []) []) (held n s.other xs) b s.in_other;
    })
    | inr s ↦ inr s
  ]
  split (group g inner xs) a b h = elim (before_join (flat inner) (flat xs) a b h) [
    | inl k ↦ inr (n.group g, rw (names.reflexive (n.group g), flat-join inner (inside n (n.group g) xs)) (before_left (flat inner) (flat (inside n (n.group g) xs)) a b k))
    | inr k ↦ elim k [
      | inl m ↦
          let r = flat_held xs b m.1 in
          inl (record {
            one = n.group g;
            other = r.0;
            order = inl (refl, contains_from (keys n xs) r.0 (held_key n names.sound r.0 xs b r.1));
            in_one = rw (names.reflexive (n.group g)) (has_left (flat inner) (held n (n.group g) xs) a m.0);
            in_other = has_right (cond (n.same r.0 (n.group g)) (flat inner) []) (held n r.0 xs) b r.1;
          })
      | inr m ↦ elim (split xs a b m) [
        | inl s ↦ inl (record {
          one = s.one;
          other = s.other;
          order = inr s.order;
          in_one = has_right (cond (n.same s.one (n.group g)) (flat inner) []) (held n s.one xs) a s.in_one;
          in_other = has_right (cond (n.same s.other (n.group g)) (flat inner) []) (held n s.other xs) b s.in_other;
        })
        | inr s ↦ inr (s.0, rw (flat-join (cond (n.same s.0 (n.group g)) inner nil) (inside n s.0 xs)) (before_right (flat (cond (n.same s.0 (n.group g)) inner nil)) (flat (inside n s.0 xs)) a b s.1))
      ]
    ]
  ]

  -- ---- carrying and holding

  pub carries_held : (xs : Entries G L) (h : L ⊎ G) (l : L) → Carries xs h l → Has (held n (name n h) xs) l
  carries_held nil h l c = c
  carries_held (leaf m xs) h l (inl c) =
      let t : n.same (name n h) (n.leaf m) ≡ true = subst (λ (k : L ⊎ G). n.same (name n k) (n.leaf m) ≡ true) c.0 (names.reflexive (n.leaf m)) in
      rw t (inl c.1)
  carries_held (leaf m xs) h l (inr c) = has_right (cond (n.same (name n h) (n.leaf m)) (m ∷ []) []) (held n (name n h) xs) l (carries_held xs h l c)
  carries_held (group g inner xs) h l (inl c) =
      let t : n.same (name n h) (n.group g) ≡ true = subst (λ (k : L ⊎ G). n.same (name n k) (n.group g) ≡ true) c.0 (names.reflexive (n.group g)) in
      rw t (has_left (flat inner) (held n (name n h) xs) l c.1)
  carries_held (group g inner xs) h l (inr c) = has_right (cond (n.same (name n h) (n.group g)) (flat inner) []) (held n (name n h) xs) l (carries_held xs h l c)

  pub held_carries : (e : E) (xs : Entries G L) (l : L) → Has (held n e xs) l → (h : L ⊎ G) × (name n h ≡ e) × Carries xs h l
  held_carries e nil l h = absurd h
  held_carries e (leaf m xs) l h = elim (held_apart e (n.leaf m) (m ∷ []) xs l h) [
    | inl k ↦ (inl m, sym k.0, inl (refl, elim k.1 [ inl r ↦ r | inr r ↦ absurd r ]))
    | inr k ↦ let r = held_carries e xs l k in (r.0, r.1, inr r.2)
  ]
  held_carries e (group g inner xs) l h = elim (held_apart e (n.group g) (flat inner) xs l h) [
    | inl k ↦ (inr g, sym k.0, inl (refl, k.1))
    | inr k ↦ let r = held_carries e xs l k in (r.0, r.1, inr r.2)
  ]

  -- ---- the order of leaves that meet

  module _ (leaves_meet : L → L → Bool) where
    -- two levels, of which the first holds what the second holds, and in which entries that meet stand in the same order
    pub record IsInOrder (x y : Entries G L) : Type 0 where
      pub once : Once (keys n x)
      pub holds : (e : E) (l : L) → Has (held n e y) l → Has (held n e x) l
      pub order : (a b : E) → Before (keys n y) a b → EntriesMeet n leaves_meet y a b → Before (keys n x) a b

    pub in_order : (fuel : ℕ) (xs ys : Entries G L) (a b : L) → list_size ys < fuel → ((path : List E) → IsInOrder (level_at n path xs) (level_at n path ys))
        → IsTrue (leaves_meet a b) → Before (flat ys) a b → Before (flat xs) a b
    in_order zero xs ys a b l s m h = absurd (omega arith)
    in_order (suc fuel) xs ys a b l s m h = elim (split ys a b h) [
      | inl p ↦
          let here : IsInOrder xs ys = s [] in
          let met : EntriesMeet n leaves_meet ys p.one p.other = record {
            one = a;
            other = b;
            in_one = contains_from (held n p.one ys) a p.in_one;
            in_other = contains_from (held n p.other ys) b p.in_other;
            met = m;
          } in
          before_entries xs p.one p.other a b here.once (here.order p.one p.other p.order met) (here.holds p.one a p.in_one) (here.holds p.other b p.in_other)
      | inr p ↦
          let less : list_size (inside n p.0 ys) < list_size ys = size_less p.0 ys a (before_from (flat ys) a b h) in
          before_inside p.0 xs a b (in_order fuel (inside n p.0 xs) (inside n p.0 ys) a b (omega arith) (λ path. s (p.0 ∷ path)) m p.1)
    ]

  -- ---- two leaves as they stand

  these_is : (a b l : L) → (n.same (n.leaf a) (n.leaf l) || n.same (n.leaf b) (n.leaf l)) ≡ true → (n.leaf l ≡ n.leaf a) ⊎ (n.leaf l ≡ n.leaf b)
  these_is a b l h = elim (cases (n.same (n.leaf a) (n.leaf l))) [
    | inl t ↦ inl (sym (names.sound (n.leaf a) (n.leaf l) t))
    | inr f ↦ let k : n.same (n.leaf b) (n.leaf l) ≡ true = rw f at h in inr (sym (names.sound (n.leaf b) (n.leaf l) k))
  ]

  or_right : (a b : Bool) → b ≡ true → (a || b) ≡ true
  or_right true b h = refl
  or_right false b h = h

  of_first : (a b : L) → (n.same (n.leaf a) (n.leaf a) || n.same (n.leaf b) (n.leaf a)) ≡ true
  of_first a b = rw (names.reflexive (n.leaf a)) refl

  of_second : (a b : L) → (n.same (n.leaf a) (n.leaf b) || n.same (n.leaf b) (n.leaf b)) ≡ true
  of_second a b = or_right (n.same (n.leaf a) (n.leaf b)) (n.same (n.leaf b) (n.leaf b)) (names.reflexive (n.leaf b))

  module _ (leaves_meet : L → L → Bool) where
    pub these_before : (ls : List L) (a b : L) → Once (map n.leaf ls) → Before ls a b → pair_in_order n leaves_meet a b ls ≡ a ∷ b ∷ []
    these_before ls a b o h = filter_two n.leaf (λ l. n.same (n.leaf a) (n.leaf l) || n.same (n.leaf b) (n.leaf l)) ls a b o h (of_first a b) (of_second a b) (λ x m t. these_is a b x t)

    pub these_after : (ls : List L) (a b : L) → Once (map n.leaf ls) → Before ls b a → pair_in_order n leaves_meet a b ls ≡ b ∷ a ∷ []
    these_after ls a b o h = filter_two n.leaf (λ l. n.same (n.leaf a) (n.leaf l) || n.same (n.leaf b) (n.leaf l)) ls b a o h (of_second a b) (of_first a b) (λ x m t. elim (these_is a b x t) [ inl e ↦ inr e | inr e ↦ inl e ])

    pub these_one : (ls : List L) (a b : L) → Once (map n.leaf ls) → Has ls a → n.leaf a ≡ n.leaf b → pair_in_order n leaves_meet a b ls ≡ a ∷ []
    these_one ls a b o h e = filter_one n.leaf (λ l. n.same (n.leaf a) (n.leaf l) || n.same (n.leaf b) (n.leaf l)) ls a o h (of_first a b) (λ x m t. elim (these_is a b x t) [ inl k ↦ k | inr k ↦ k ∙ sym e ])
