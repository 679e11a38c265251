-- Elements put into a list, each at the place of its name, or on top where it has none.
use Rattle.std.proofs.Common.{◌≡◌, refl, ap, ◌∙◌, sym, subst, ℕ, zero, suc, ◌+◌, ◌<◌, ◌≤◌, true, List, [], ◌∷◌, ◌++◌, length, arith, inl, inr, ◌⊎◌}
use Rattle.std.specs.Prelude.{Option, Some, None, map}
use Rattle.rd_graph.specs.Names.{same_entry, place_of, next_place}
use Rattle.rd_graph.specs.Patches.{not_found}
use Rattle.rd_graph.proofs.Lists.Entries.{same_entry-sound, same_entry-refl}
use Rattle.rd_graph.proofs.Lists.Listing.{Has, Once, cases, never, has_either, has_map, once_join}
use Rattle.rd_keys.specs.declared.entry.EntryKey.{EntryKey}

-- ---- lists by their places

module _ {T : Type 0} where
  abbrev pub at : ℕ → List T → Option T
  at i [] = None
  at zero (x ∷ xs) = Some x
  at (suc i) (x ∷ xs) = at i xs

  abbrev pub set_at : ℕ → T → List T → List T
  set_at i e [] = []
  set_at zero e (x ∷ xs) = e ∷ xs
  set_at (suc i) e (x ∷ xs) = x ∷ set_at i e xs

  abbrev pub put_one : Option ℕ → T → List T → List T
  put_one None e xs = xs ++ e ∷ []
  put_one (Some i) e xs = set_at i e xs

  abbrev pub put_all : List (Option ℕ) → List T → List T → List T
  put_all [] es xs = xs
  put_all (o ∷ os) [] xs = xs
  put_all (o ∷ os) (e ∷ es) xs = put_all os es (put_one o e xs)

  pub append_none : (xs : List T) → xs ++ [] ≡ xs
  append_none [] = refl
  append_none (x ∷ xs) = ap (λ ys. x ∷ ys) (append_none xs)

  pub append_again : (xs ys zs : List T) → (xs ++ ys) ++ zs ≡ xs ++ (ys ++ zs)
  append_again [] ys zs = refl
  append_again (x ∷ xs) ys zs = ap (λ ws. x ∷ ws) (append_again xs ys zs)

  pub set_length : (i : ℕ) (e : T) (xs : List T) → length (set_at i e xs) ≡ length xs
  set_length i e [] = refl
  set_length zero e (x ∷ xs) = refl
  set_length (suc i) e (x ∷ xs) = ap suc (set_length i e xs)

  pub one_longer : (xs : List T) (e : T) → length (xs ++ e ∷ []) ≡ suc (length xs)
  one_longer [] e = refl
  one_longer (x ∷ xs) e = ap suc (one_longer xs e)

  pub put_length : (o : Option ℕ) (e : T) (xs : List T) → length xs ≤ length (put_one o e xs)
  put_length None e xs = let l = one_longer xs e in omega (arith, l)
  put_length (Some i) e xs = let l = set_length i e xs in omega (arith, l)

  pub at_other : (i j : ℕ) (e : T) (xs : List T) → (i ≡ j → ⊥) → at j (set_at i e xs) ≡ at j xs
  at_other i j e [] d = refl
  at_other zero zero e (x ∷ xs) d = absurd (d refl)
  at_other zero (suc j) e (x ∷ xs) d = refl
  at_other (suc i) zero e (x ∷ xs) d = refl
  at_other (suc i) (suc j) e (x ∷ xs) d = at_other i j e xs (λ h. d (ap suc h))

  pub at_front : (j : ℕ) (xs ys : List T) → j < length xs → at j (xs ++ ys) ≡ at j xs
  at_front j [] ys h = absurd (omega (arith, h))
  at_front zero (x ∷ xs) ys h = refl
  at_front (suc j) (x ∷ xs) ys h = at_front j xs ys (omega (arith, h))

  -- what stands at another place stays
  pub at_put : (o : Option ℕ) (j : ℕ) (e : T) (xs : List T) → (o ≡ Some j → ⊥) → j < length xs → at j (put_one o e xs) ≡ at j xs
  at_put None j e xs d h = at_front j xs (e ∷ []) h
  at_put (Some i) j e xs d h = at_other i j e xs (λ q. d (ap Some q))

-- ---- places of names

next_some : (o : Option ℕ) (i : ℕ) → next_place o ≡ Some i → (m : ℕ) × (o ≡ Some m) × (suc m ≡ i)
next_some None i u = absurd (cc)
next_some (Some m) i u = let e : m + 1 ≡ i = cc in (m, refl, omega (arith, e))

first_is : (i : ℕ) → Some 0 ≡ Some i → 0 ≡ i
first_is i e = cc

-- the place of a name at the front of a list, or further on
pub place_cases : (x : EntryKey) (xs : List EntryKey) (k : EntryKey) (i : ℕ) → place_of same_entry (x ∷ xs) k ≡ Some i
    → ((0 ≡ i) × (x ≡ k)) ⊎ ((m : ℕ) × (place_of same_entry xs k ≡ Some m) × (suc m ≡ i) × (x ≡ k → ⊥))
place_cases x xs k i p = elim (cases (same_entry x k)) [
  | inl t ↦ let q : Some 0 ≡ Some i = rw t at p in inl (first_is i q, same_entry-sound x k t)
  | inr f ↦
      let q : next_place (place_of same_entry xs k) ≡ Some i = rw f at p in
      let r = next_some (place_of same_entry xs k) i q in
      inr (r.0, r.1, r.2, λ e. never (same_entry x k) (subst (λ (z : EntryKey). same_entry x z ≡ true) e (same_entry-refl x)) f)
]

pub place_front : (names more : List EntryKey) (k : EntryKey) (i : ℕ) → place_of same_entry names k ≡ Some i → place_of same_entry (names ++ more) k ≡ Some i
place_front [] more k i p = absurd (let e : None ≡ Some i = p in cc)
place_front (x ∷ xs) more k i p = elim (cases (same_entry x k)) [
  | inl t ↦ let q : Some 0 ≡ Some i = rw t at p in rw t q
  | inr f ↦
      let q : next_place (place_of same_entry xs k) ≡ Some i = rw f at p in
      let r = next_some (place_of same_entry xs k) i q in
      let s = r.2 in
      rw f (ap next_place (place_front xs more k r.0 r.1) ∙ ap Some (omega (arith, s)))
]

-- ---- elements by their names

module _ {T : Type 0} (name : T → EntryKey) where
  abbrev pub names_of : List T → List EntryKey
  names_of xs = map name xs

  -- each element's place is that of its name
  abbrev pub ArePut : List EntryKey → List (Option ℕ) → List T → Type 0
  ArePut names [] [] = Unit {0}
  ArePut names [] (e ∷ es) = ⊥
  ArePut names (o ∷ os) [] = ⊥
  ArePut names (o ∷ os) (e ∷ es) = (o ≡ place_of same_entry names (name e)) × ArePut names os es

  pub names_append : (xs ys : List T) → names_of (xs ++ ys) ≡ names_of xs ++ names_of ys
  names_append [] ys = refl
  names_append (x ∷ xs) ys = ap (λ ks. name x ∷ ks) (names_append xs ys)

  pub names_set : (xs : List T) (e : T) (i : ℕ) → place_of same_entry (names_of xs) (name e) ≡ Some i → names_of (set_at i e xs) ≡ names_of xs
  names_set [] e i p = refl
  names_set (x ∷ xs) e i p = elim (place_cases (name x) (names_of xs) (name e) i p) [
    | inl r ↦ subst (λ (j : ℕ). names_of (set_at j e (x ∷ xs)) ≡ names_of (x ∷ xs)) r.0 (ap (λ k. k ∷ names_of xs) (sym r.1))
    | inr r ↦ subst (λ (j : ℕ). names_of (set_at j e (x ∷ xs)) ≡ names_of (x ∷ xs)) r.2 (ap (λ ks. name x ∷ ks) (names_set xs e r.0 r.1))
  ]

  pub set_held : (xs : List T) (e : T) (i : ℕ) (f : T) → place_of same_entry (names_of xs) (name e) ≡ Some i → Once (names_of xs) → Has (set_at i e xs) f
      → (e ≡ f) ⊎ (Has xs f × (name e ≡ name f → ⊥))
  set_held [] e i f p o h = absurd h
  set_held (x ∷ xs) e i f p o h = elim (place_cases (name x) (names_of xs) (name e) i p) [
    | inl r ↦
        let k : Has (e ∷ xs) f = subst (λ (j : ℕ). Has (set_at j e (x ∷ xs)) f) (sym r.0) h in
        elim k [ inl q ↦ inl q | inr m ↦ inr (inr m, λ q. o.0 (subst (λ (z : EntryKey). Has (names_of xs) z) (sym (r.1 ∙ q)) (has_map name xs f m))) ]
    | inr r ↦
        let k : Has (x ∷ set_at r.0 e xs) f = subst (λ (j : ℕ). Has (set_at j e (x ∷ xs)) f) (sym r.2) h in
        elim k [
          | inl q ↦ inr (inl q, λ s. r.3 (ap name q ∙ sym s))
          | inr m ↦ elim (set_held xs e r.0 f r.1 o.1 m) [ inl q ↦ inl q | inr s ↦ inr (inr s.0, s.1) ]
        ]
  ]

  module _ (names : List EntryKey) where
    place_here : (more : List EntryKey) (ys : List T) (x : T) (i : ℕ) → names_of ys ≡ names ++ more → Some i ≡ place_of same_entry names (name x) → place_of same_entry (names_of ys) (name x) ≡ Some i
    place_here more ys x i e p = subst (λ (ks : List EntryKey). place_of same_entry ks (name x) ≡ Some i) (sym e) (place_front names more (name x) i (sym p))

    grown : (more : List EntryKey) (ys : List T) (x : T) → names_of ys ≡ names ++ more → names_of (ys ++ x ∷ []) ≡ names ++ (more ++ name x ∷ [])
    grown more ys x e = names_append ys (x ∷ []) ∙ ap (λ ks. ks ++ name x ∷ []) e ∙ append_again names more (name x ∷ [])

    -- the names after all: those that were there, and then those that had no place
    pub names_all : (os : List (Option ℕ)) (es : List T) (more : List EntryKey) (ys : List T) → ArePut names os es → names_of ys ≡ names ++ more → names_of (put_all os es ys) ≡ names ++ (more ++ not_found (names_of es) os)
    names_all [] [] more ys h e = e ∙ ap (λ ks. names ++ ks) (sym (append_none more))
    names_all [] (x ∷ es) more ys h e = absurd h
    names_all (o ∷ os) [] more ys h e = absurd h
    names_all (None ∷ os) (x ∷ es) more ys h e =
        names_all os es (more ++ name x ∷ []) (ys ++ x ∷ []) h.1 (grown more ys x e) ∙ ap (λ ks. names ++ ks) (append_again more (name x ∷ []) (not_found (names_of es) os))
    names_all (Some i ∷ os) (x ∷ es) more ys h e = names_all os es more (set_at i x ys) h.1 (names_set ys x i (place_here more ys x i e h.0) ∙ e)

    -- an element of the whole is one that is put, or has another name and was there
    pub held_all : (os : List (Option ℕ)) (es : List T) (more : List EntryKey) (ys : List T) → ArePut names os es → names_of ys ≡ names ++ more → Once (names_of ys) → Once (names_of es)
        → ((k : EntryKey) → Has (names_of es) k → place_of same_entry names k ≡ None → Has (names_of ys) k → ⊥) → (f : T) → Has (put_all os es ys) f
        → Has es f ⊎ (Has ys f × (Has (names_of es) (name f) → ⊥))
    held_all [] [] more ys h e o p out f k = inr (k, λ b. b)
    held_all [] (x ∷ es) more ys h e o p out f k = absurd h
    held_all (u ∷ os) [] more ys h e o p out f k = absurd h
    held_all (None ∷ os) (x ∷ es) more ys h e o p out f k =
        let alone : Has (names_of ys) (name x) → ⊥ = out (name x) (inl refl) (sym h.0) in
        let once : Once (names_of (ys ++ x ∷ [])) = subst Once (sym (names_append ys (x ∷ []))) (once_join (names_of ys) (name x ∷ []) o ((λ b. b), tt) (λ a c d. elim d [ inl q ↦ alone (subst (λ (z : EntryKey). Has (names_of ys) z) (sym q) c) | inr b ↦ b ])) in
        let still : (j : EntryKey) → Has (names_of es) j → place_of same_entry names j ≡ None → Has (names_of (ys ++ x ∷ [])) j → ⊥ =
        (λ j c n d. elim (has_either (names_of ys) (name x ∷ []) j (subst (λ (ks : List EntryKey). Has ks j) (names_append ys (x ∷ [])) d)) [
          | inl m ↦ out j (inr c) n m
          | inr m ↦ elim m [ inl q ↦ p.0 (subst (λ (z : EntryKey). Has (names_of es) z) (sym q) c) | inr b ↦ b ]
        ]) in
        elim (held_all os es (more ++ name x ∷ []) (ys ++ x ∷ []) h.1 (grown more ys x e) once p.1 still f k) [
          | inl m ↦ inl (inr m)
          | inr m ↦ elim (has_either ys (x ∷ []) f m.0) [
            | inl c ↦ inr (c, λ d. elim d [ inl q ↦ alone (subst (λ (z : EntryKey). Has (names_of ys) z) (sym q) (has_map name ys f c)) | inr b ↦ m.1 b ])
            | inr c ↦ elim c [ inl q ↦ inl (inl q) | inr b ↦ absurd b ]
          ]
        ]
    held_all (Some i ∷ os) (x ∷ es) more ys h e o p out f k =
        let place = place_here more ys x i e h.0 in
        let same = names_set ys x i place in
        elim (held_all os es more (set_at i x ys) h.1 (same ∙ e) (subst Once (sym same) o) p.1 (λ j c n d. out j (inr c) n (subst (λ (ks : List EntryKey). Has ks j) same d)) f k) [
          | inl m ↦ inl (inr m)
          | inr m ↦ elim (set_held ys x i f place o m.0) [
            | inl q ↦ inl (inl q)
            | inr c ↦ inr (c.0, λ d. elim d [ inl q ↦ c.1 q | inr b ↦ m.1 b ])
          ]
        ]
