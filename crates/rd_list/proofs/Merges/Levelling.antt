-- Levels of lists: keys, what an entry holds, what a group has inside, and what a test leaves of these.
use Rattle.std.proofs.Common.{◌≡◌, refl, ap, ◌∙◌, sym, Bool, true, false, cond, List, [], ◌∷◌, ◌++◌, inl, inr, append_assoc}
use Rattle.std.specs.Prelude.{filter}
use Rattle.std.proofs.lemmas.List.Elements.{filter-append}
use Rattle.rd_list.specs.Entries.{Entries, nil, leaf, group, ◌▷◌, flat, only, grouped_if_any}
use Rattle.rd_graph.specs.Orders.{Before}
use Rattle.rd_list.specs.Levels.{Names, keys, inside, level_at, held}
use Rattle.rd_graph.proofs.Lists.Listing.{Has, cases, has_from, contains_from, has_either, has_left, has_right}

module _ {G L : Type 0} where
  pub join-nil : (xs : Entries G L) → xs ▷ nil ≡ xs
  join-nil nil = refl
  join-nil (leaf l xs) = ap (leaf l) (join-nil xs)
  join-nil (group g inner xs) = ap (group g inner) (join-nil xs)

  pub flat-join : (xs ys : Entries G L) → flat (xs ▷ ys) ≡ flat xs ++ flat ys
  flat-join nil ys = refl
  flat-join (leaf l xs) ys = ap (λ zs. l ∷ zs) (flat-join xs ys)
  flat-join (group g inner xs) ys = rw (flat-join xs ys) (sym (append_assoc (flat inner) (flat xs) (flat ys)))

  module _ (p : L → Bool) where
    grouped-join : (g : G) (inner xs ys : Entries G L) → grouped_if_any g inner (xs ▷ ys) ≡ grouped_if_any g inner xs ▷ ys
    grouped-join g nil xs ys = refl
    grouped-join g (leaf l rest) xs ys = refl
    grouped-join g (group h i rest) xs ys = refl

    pub only-join : (xs ys : Entries G L) → only p (xs ▷ ys) ≡ only p xs ▷ only p ys
    only-join nil ys = refl
    only-join (leaf l xs) ys =
        elim (p l) as (λ b. cond b (leaf l (only p (xs ▷ ys))) (only p (xs ▷ ys)) ≡ cond b (leaf l (only p xs)) (only p xs) ▷ only p ys) [
          | true ↦ ap (leaf l) (only-join xs ys)
          | false ↦ only-join xs ys
        ]
    only-join (group g inner xs) ys = rw (only-join xs ys) (grouped-join g (only p inner) (only p xs) (only p ys))

    flat-grouped : (g : G) (inner xs : Entries G L) → flat (grouped_if_any g inner xs) ≡ flat inner ++ flat xs
    flat-grouped g nil xs = refl
    flat-grouped g (leaf l rest) xs = refl
    flat-grouped g (group h i rest) xs = refl

    pub flat-only : (xs : Entries G L) → flat (only p xs) ≡ filter p (flat xs)
    flat-only nil = refl
    flat-only (leaf l xs) =
        elim (p l) as (λ b. flat (cond b (leaf l (only p xs)) (only p xs)) ≡ cond b (l ∷ filter p (flat xs)) (filter p (flat xs))) [
          | true ↦ ap (λ zs. l ∷ zs) (flat-only xs)
          | false ↦ flat-only xs
        ]
    flat-only (group g inner xs) = flat-grouped g (only p inner) (only p xs) ∙ rw (flat-only inner, flat-only xs) (sym (filter-append p (flat inner) (flat xs)))

module _ {E G L : Type 0} (n : Names E G L) where
  module _ (p : L → Bool) where
    inside-grouped : (e : E) (g : G) (inner xs : Entries G L) → inside n e (grouped_if_any g inner xs) ≡ cond (n.same e (n.group g)) inner nil ▷ inside n e xs
    inside-grouped e g nil xs = elim (n.same e (n.group g)) as (λ b. inside n e xs ≡ cond b nil nil ▷ inside n e xs) [ true ↦ refl | false ↦ refl ]
    inside-grouped e g (leaf l rest) xs = refl
    inside-grouped e g (group h i rest) xs = refl

    pub inside-only : (e : E) (xs : Entries G L) → inside n e (only p xs) ≡ only p (inside n e xs)
    inside-only e nil = refl
    inside-only e (leaf l xs) = elim (p l) as (λ b. inside n e (cond b (leaf l (only p xs)) (only p xs)) ≡ only p (inside n e xs)) [ true ↦ inside-only e xs | false ↦ inside-only e xs ]
    inside-only e (group g inner xs) =
        inside-grouped e g (only p inner) (only p xs)
        ∙ rw (inside-only e xs) (
        elim (n.same e (n.group g)) as (λ b. cond b (only p inner) nil ▷ only p (inside n e xs) ≡ only p (cond b inner nil ▷ inside n e xs)) [
          | true ↦ sym (only-join p inner (inside n e xs))
          | false ↦ refl
        ])

    pub level-only : (path : List E) (xs : Entries G L) → level_at n path (only p xs) ≡ only p (level_at n path xs)
    level-only [] xs = refl
    level-only (e ∷ path) xs = ap (level_at n path) (inside-only e xs) ∙ level-only path (inside n e xs)

    held-grouped : (e : E) (g : G) (inner xs : Entries G L) → held n e (grouped_if_any g inner xs) ≡ cond (n.same e (n.group g)) (flat inner) [] ++ held n e xs
    held-grouped e g nil xs = elim (n.same e (n.group g)) as (λ b. held n e xs ≡ cond b [] [] ++ held n e xs) [ true ↦ refl | false ↦ refl ]
    held-grouped e g (leaf l rest) xs = refl
    held-grouped e g (group h i rest) xs = refl

    pub held-only : (e : E) (xs : Entries G L) → held n e (only p xs) ≡ filter p (held n e xs)
    held-only e nil = refl
    held-only e (leaf l xs) = elim (cases (n.same e (n.leaf l))) [
      | inl t ↦ elim (cases (p l)) [ inl u ↦ rw (t, u, t, held-only e xs) refl | inr v ↦ rw (t, v, held-only e xs) refl ]
      | inr f ↦ elim (cases (p l)) [ inl u ↦ rw (f, u, f, held-only e xs) refl | inr v ↦ rw (f, v, held-only e xs) refl ]
    ]
    held-only e (group g inner xs) =
        held-grouped e g (only p inner) (only p xs)
        ∙ rw (held-only e xs, flat-only p inner) (
        elim (n.same e (n.group g)) as (λ b. cond b (filter p (flat inner)) [] ++ filter p (held n e xs) ≡ filter p (cond b (flat inner) [] ++ held n e xs)) [
          | true ↦ sym (filter-append p (flat inner) (held n e xs))
          | false ↦ refl
        ])

    keys_grouped : (g : G) (inner xs : Entries G L) (a b : E) → Before (keys n (grouped_if_any g inner xs)) a b → Before (n.group g ∷ keys n xs) a b
    keys_grouped g nil xs a b h = inr h
    keys_grouped g (leaf l rest) xs a b h = h
    keys_grouped g (group i j rest) xs a b h = h

    has_grouped : (g : G) (inner xs : Entries G L) (a : E) → Has (keys n (grouped_if_any g inner xs)) a → Has (n.group g ∷ keys n xs) a
    has_grouped g nil xs a h = inr h
    has_grouped g (leaf l rest) xs a h = h
    has_grouped g (group i j rest) xs a h = h

    pub has_only : (xs : Entries G L) (a : E) → Has (keys n (only p xs)) a → Has (keys n xs) a
    has_only nil a h = h
    has_only (leaf l xs) a h = elim (cases (p l)) [
      | inl t ↦ let k : Has (n.leaf l ∷ keys n (only p xs)) a = rw t at h in elim k [ inl e ↦ inl e | inr m ↦ inr (has_only xs a m) ]
      | inr f ↦ let k : Has (keys n (only p xs)) a = rw f at h in inr (has_only xs a k)
    ]
    has_only (group g inner xs) a h = elim (has_grouped g (only p inner) (only p xs) a h) [ inl e ↦ inl e | inr m ↦ inr (has_only xs a m) ]

    later : (x : E) (xs : Entries G L) (a b : E) → ((a b : E) → Before (keys n (only p xs)) a b → Before (keys n xs) a b) → Before (x ∷ keys n (only p xs)) a b → Before (x ∷ keys n xs) a b
    later x xs a b f (inl h) = inl (h.0, contains_from (keys n xs) b (has_only xs b (has_from (keys n (only p xs)) b h.1)))
    later x xs a b f (inr h) = inr (f a b h)

    pub before_only : (xs : Entries G L) (a b : E) → Before (keys n (only p xs)) a b → Before (keys n xs) a b
    before_only nil a b h = h
    before_only (leaf l xs) a b h = elim (cases (p l)) [
      | inl t ↦ let k : Before (n.leaf l ∷ keys n (only p xs)) a b = rw t at h in later (n.leaf l) xs a b (before_only xs) k
      | inr f ↦ let k : Before (keys n (only p xs)) a b = rw f at h in inr (before_only xs a b k)
    ]
    before_only (group g inner xs) a b h = later (n.group g) xs a b (before_only xs) (keys_grouped g (only p inner) (only p xs) a b h)

  -- what holds a leaf stands at the level
  pub held_key : (sound : (a b : E) → n.same a b ≡ true → a ≡ b) (e : E) (xs : Entries G L) (l : L) → Has (held n e xs) l → Has (keys n xs) e
  held_key sound e nil l h = absurd h
  held_key sound e (leaf m xs) l h = elim (cases (n.same e (n.leaf m))) [
    | inl t ↦ inl (sym (sound e (n.leaf m) t))
    | inr f ↦ let k : Has (held n e xs) l = rw f at h in inr (held_key sound e xs l k)
  ]
  held_key sound e (group g inner xs) l h = elim (cases (n.same e (n.group g))) [
    | inl t ↦ inl (sym (sound e (n.group g) t))
    | inr f ↦ let k : Has (held n e xs) l = rw f at h in inr (held_key sound e xs l k)
  ]

  pub held_flat : (e : E) (xs : Entries G L) (l : L) → Has (held n e xs) l → Has (flat xs) l
  held_flat e nil l h = h
  held_flat e (leaf m xs) l h = elim (cases (n.same e (n.leaf m))) [
    | inl t ↦ let k : Has (m ∷ held n e xs) l = rw t at h in elim k [ inl r ↦ inl r | inr r ↦ inr (held_flat e xs l r) ]
    | inr f ↦ let k : Has (held n e xs) l = rw f at h in inr (held_flat e xs l k)
  ]
  held_flat e (group g inner xs) l h = elim (cases (n.same e (n.group g))) [
    | inl t ↦
        let k : Has (flat inner ++ held n e xs) l = rw t at h in
        elim (has_either (flat inner) (held n e xs) l k) [ inl r ↦ has_left (flat inner) (flat xs) l r | inr r ↦ has_right (flat inner) (flat xs) l (held_flat e xs l r) ]
    | inr f ↦ let k : Has (held n e xs) l = rw f at h in has_right (flat inner) (flat xs) l (held_flat e xs l k)
  ]

  -- what stands inside a group is of the list
  pub inside_flat : (e : E) (xs : Entries G L) (l : L) → Has (flat (inside n e xs)) l → Has (flat xs) l
  inside_flat e nil l h = h
  inside_flat e (leaf m xs) l h = inr (inside_flat e xs l h)
  inside_flat e (group g inner xs) l h = elim (cases (n.same e (n.group g))) [
    | inl t ↦
        let k : Has (flat (inner ▷ inside n e xs)) l = rw t at h in
        elim (has_either (flat inner) (flat (inside n e xs)) l (rw (flat-join inner (inside n e xs)) at k)) [
          | inl r ↦ has_left (flat inner) (flat xs) l r
          | inr r ↦ has_right (flat inner) (flat xs) l (inside_flat e xs l r)
        ]
    | inr f ↦ let k : Has (flat (inside n e xs)) l = rw f at h in has_right (flat inner) (flat xs) l (inside_flat e xs l k)
  ]

  pub level_flat : (path : List E) (xs : Entries G L) (l : L) → Has (flat (level_at n path xs)) l → Has (flat xs) l
  level_flat [] xs l h = h
  level_flat (e ∷ path) xs l h = inside_flat e xs l (level_flat path (inside n e xs) l h)
