-- Two lists that have the same entries at each level are one list in two orders.
use Rattle.std.proofs.Common.{◌≡◌, refl, ap, ◌∙◌, sym, subst, Bool, true, false, not, List, [], ◌∷◌, ◌++◌, inl, inr, ◌⊎◌, append_assoc}
use Rattle.std.specs.Prelude.{IsTrue, IsPermutation, map}
use Rattle.std.proofs.lemmas.List.Sorted.{IsPermutation-refl, IsPermutation-cons, IsPermutation-trans, IsPermutation-append, IsPermutation-append_comm, IsPermutation-append_left, IsPermutation-middle}
use Rattle.rd_list.specs.Entries.{Entries, nil, leaf, group, ◌▷◌, routes, heads, is_empty, no_group_is_empty}
use Rattle.rd_list.specs.Levels.{Names, keys, name, inside, level_at}
use Rattle.rd_list.proofs.Merges.Named.{AreNames}
use Rattle.rd_graph.proofs.Lists.Listing.{Has, Once, cases, never, has_left, has_right, has_either, has_map, once_left, once_right, once_apart, once_join}
use Rattle.rd_list.proofs.Merges.Onces.{names_in, names-join, inside-join, inside_none}
use Rattle.rd_list.proofs.Merges.Routing.{three_true}

-- ---- lists with an element in their midst

module _ {A : Type 0} where
  has_middle : (us vs : List A) (x a : A) → Has (us ++ x ∷ vs) a → (x ≡ a) ⊎ Has (us ++ vs) a
  has_middle us vs x a h = elim (has_either us (x ∷ vs) a h) [
    | inl k ↦ inr (has_left us vs a k)
    | inr k ↦ elim k [ inl e ↦ inl e | inr m ↦ inr (has_right us vs a m) ]
  ]

  middle_has : (us vs : List A) (x a : A) → Has (us ++ vs) a → Has (us ++ x ∷ vs) a
  middle_has us vs x a h = elim (has_either us vs a h) [ inl k ↦ has_left us (x ∷ vs) a k | inr k ↦ has_right us (x ∷ vs) a (inr k) ]

  once_without : (us vs : List A) (x : A) → Once (us ++ x ∷ vs) → Once (us ++ vs)
  once_without [] vs x o = o.1
  once_without (u ∷ us) vs x o = ((λ h. o.0 (middle_has us vs x u h)), once_without us vs x o.1)

  once_middle : (us vs : List A) (x : A) → Once (us ++ x ∷ vs) → Has (us ++ vs) x → ⊥
  once_middle [] vs x o h = o.0 h
  once_middle (u ∷ us) vs x o (inl e) = o.0 (has_right us (x ∷ vs) u (inl (sym e)))
  once_middle (u ∷ us) vs x o (inr h) = once_middle us vs x o.1 h

module _ {G L : Type 0} where
  heads-join : (xs ys : Entries G L) → heads (xs ▷ ys) ≡ heads xs ++ heads ys
  heads-join nil ys = refl
  heads-join (leaf l xs) ys = ap (λ zs. inl l ∷ zs) (heads-join xs ys)
  heads-join (group g inner xs) ys = ap (λ zs. inr g ∷ zs) (heads-join xs ys)

  abbrev leaf_or : L → L ⊎ G → L
  leaf_or d (inl l) = l
  leaf_or d (inr g) = d

  abbrev group_or : G → L ⊎ G → G
  group_or d (inl l) = d
  group_or d (inr g) = g

  abbrev is_leaf : L ⊎ G → Bool
  is_leaf (inl l) = true
  is_leaf (inr g) = false

  no_mix : (l : L) (g : G) → inl l ≡ inr g → ⊥
  no_mix l g e = never true refl (ap is_leaf e)

  -- the list where a head stands
  split_leaf : (xs : Entries G L) (l : L) → Has (heads xs) (inl l) → (us : Entries G L) × (vs : Entries G L) × (xs ≡ us ▷ leaf l vs)
  split_leaf nil l h = absurd h
  split_leaf (leaf m xs) l (inl e) = (nil, xs, ap (λ k. leaf k xs) (ap (leaf_or m) e))
  split_leaf (leaf m xs) l (inr h) = let r = split_leaf xs l h in (leaf m r.0, r.1, ap (leaf m) r.2)
  split_leaf (group g inner xs) l (inl e) = absurd (no_mix l g (sym e))
  split_leaf (group g inner xs) l (inr h) = let r = split_leaf xs l h in (group g inner r.0, r.1, ap (group g inner) r.2)

  split_group : (xs : Entries G L) (g : G) → Has (heads xs) (inr g) → (us : Entries G L) × (inner : Entries G L) × (vs : Entries G L) × (xs ≡ us ▷ group g inner vs)
  split_group nil g h = absurd h
  split_group (leaf m xs) g (inl e) = absurd (no_mix m g e)
  split_group (leaf m xs) g (inr h) = let r = split_group xs g h in (leaf m r.0, r.1, r.2, ap (leaf m) r.3)
  split_group (group k inner xs) g (inl e) = (nil, inner, xs, ap (λ k. group k inner xs) (ap (group_or k) e))
  split_group (group k inner xs) g (inr h) = let r = split_group xs g h in (group k inner r.0, r.1, r.2, ap (group k inner) r.3)

  -- ---- one list in another order at each level

  abbrev pub Alike : Entries G L → Entries G L → Type 0
  Alike xs nil = xs ≡ nil
  Alike xs (leaf l rest) = (us : Entries G L) × (vs : Entries G L) × (xs ≡ us ▷ leaf l vs) × Alike (us ▷ vs) rest
  Alike xs (group g inner rest) = (us : Entries G L) × (other : Entries G L) × (vs : Entries G L) × (xs ≡ us ▷ group g other vs) × Alike other inner × Alike (us ▷ vs) rest

  routes-join : (base : List G) (xs ys : Entries G L) → routes base (xs ▷ ys) ≡ routes base xs ++ routes base ys
  routes-join base nil ys = refl
  routes-join base (leaf l xs) ys = ap (λ zs. (base, l) ∷ zs) (routes-join base xs ys)
  routes-join base (group g inner xs) ys = rw (routes-join base xs ys) (sym (append_assoc (routes (base ++ g ∷ []) inner) (routes base xs) (routes base ys)))

  pub alike_routes : (base : List G) (xs ys : Entries G L) → Alike xs ys → IsPermutation (routes base xs) (routes base ys)
  alike_routes base xs nil a = rw a (IsPermutation-refl [])
  alike_routes base xs (leaf l rest) a =
      let us : Entries G L = a.0 in
      let vs : Entries G L = a.1 in
      let p : IsPermutation (routes base us ++ routes base vs) (routes base rest) = rw (routes-join base us vs) at (alike_routes base (us ▷ vs) rest a.3) in
      rw (a.2, routes-join base us (leaf l vs))
      (IsPermutation-trans (routes base us ++ (base, l) ∷ routes base vs) ((base, l) ∷ (routes base us ++ routes base vs)) ((base, l) ∷ routes base rest)
      (IsPermutation-middle (routes base us) (base, l) (routes base vs))
      (IsPermutation-cons (base, l) (routes base us ++ routes base vs) (routes base rest) p))
  alike_routes base xs (group g inner rest) a =
      let us : Entries G L = a.0 in
      let other : Entries G L = a.1 in
      let vs : Entries G L = a.2 in
      let u : List (List G × L) = routes base us in
      let o : List (List G × L) = routes (base ++ g ∷ []) other in
      let v : List (List G × L) = routes base vs in
      let p : IsPermutation (u ++ v) (routes base rest) = rw (routes-join base us vs) at (alike_routes base (us ▷ vs) rest a.5) in
      let q : IsPermutation o (routes (base ++ g ∷ []) inner) = alike_routes (base ++ g ∷ []) other inner a.4 in
      rw (a.3, routes-join base us (group g other vs))
      (IsPermutation-trans (u ++ (o ++ v)) (o ++ (u ++ v)) (routes (base ++ g ∷ []) inner ++ routes base rest)
      (rw (← append_assoc u o v, ← append_assoc o u v) (IsPermutation-append_left v (u ++ o) (o ++ u) (IsPermutation-append_comm u o)))
      (IsPermutation-append o (routes (base ++ g ∷ []) inner) (u ++ v) (routes base rest) q p))

  filled_left : (xs ys : Entries G L) → IsTrue (no_group_is_empty (xs ▷ ys)) → IsTrue (no_group_is_empty xs)
  filled_left nil ys h = refl
  filled_left (leaf l xs) ys h = filled_left xs ys h
  filled_left (group g inner xs) ys h = let a = three_true (not (is_empty inner)) (no_group_is_empty inner) (no_group_is_empty (xs ▷ ys)) h in rw (a.0, a.1, filled_left xs ys a.2) refl

  filled_right : (xs ys : Entries G L) → IsTrue (no_group_is_empty (xs ▷ ys)) → IsTrue (no_group_is_empty ys)
  filled_right nil ys h = h
  filled_right (leaf l xs) ys h = filled_right xs ys h
  filled_right (group g inner xs) ys h = let a = three_true (not (is_empty inner)) (no_group_is_empty inner) (no_group_is_empty (xs ▷ ys)) h in filled_right xs ys a.2

  pub filled_join : (xs ys : Entries G L) → IsTrue (no_group_is_empty xs) → IsTrue (no_group_is_empty ys) → IsTrue (no_group_is_empty (xs ▷ ys))
  filled_join nil ys h k = k
  filled_join (leaf l xs) ys h k = filled_join xs ys h k
  filled_join (group g inner xs) ys h k = let a = three_true (not (is_empty inner)) (no_group_is_empty inner) (no_group_is_empty xs) h in rw (a.0, a.1, filled_join xs ys a.2 k) refl

  some_leaf : (us vs : Entries G L) (l : L) → IsTrue (not (is_empty (us ▷ leaf l vs)))
  some_leaf nil vs l = refl
  some_leaf (leaf m us) vs l = refl
  some_leaf (group g inner us) vs l = refl

  some_group : (us other vs : Entries G L) (g : G) → IsTrue (not (is_empty (us ▷ group g other vs)))
  some_group nil other vs g = refl
  some_group (leaf m us) other vs g = refl
  some_group (group k inner us) other vs g = refl

  alike_some : (xs ys : Entries G L) → Alike xs ys → IsTrue (not (is_empty ys)) → IsTrue (not (is_empty xs))
  alike_some xs nil a h = absurd (let no : false ≡ true = h in cc)
  alike_some xs (leaf l rest) a h = rw a.2 (some_leaf a.0 a.1 l)
  alike_some xs (group g inner rest) a h = rw a.3 (some_group a.0 a.1 a.2 g)

  pub alike_filled : (xs ys : Entries G L) → Alike xs ys → IsTrue (no_group_is_empty ys) → IsTrue (no_group_is_empty xs)
  alike_filled xs nil a h = rw a refl
  alike_filled xs (leaf l rest) a h =
      let r = alike_filled (a.0 ▷ a.1) rest a.3 h in
      rw a.2 (filled_join a.0 (leaf l a.1) (filled_left a.0 a.1 r) (filled_right a.0 a.1 r))
  alike_filled xs (group g inner rest) a h =
      let t = three_true (not (is_empty inner)) (no_group_is_empty inner) (no_group_is_empty rest) h in
      let r = alike_filled (a.0 ▷ a.2) rest a.5 t.2 in
      let b : IsTrue (no_group_is_empty a.1) = alike_filled a.1 inner a.4 t.1 in
      let s : IsTrue (not (is_empty a.1)) = alike_some a.1 inner a.4 t.0 in
      let f : IsTrue (no_group_is_empty a.2) = filled_right a.0 a.2 r in
      rw a.3 (filled_join a.0 (group g a.1 a.2) (filled_left a.0 a.2 r) (rw (s, b, f) refl))

module _ {E G L : Type 0} (n : Names E G L) where
  pub keys-heads : (xs : Entries G L) → keys n xs ≡ map (name n) (heads xs)
  keys-heads nil = refl
  keys-heads (leaf l xs) = ap (λ zs. n.leaf l ∷ zs) (keys-heads xs)
  keys-heads (group g inner xs) = ap (λ zs. n.group g ∷ zs) (keys-heads xs)

  pub alike_names : (xs ys : Entries G L) (a : E) → Alike xs ys → Has (names_in n xs) a → Has (names_in n ys) a
  alike_names xs nil a k h = rw k at h
  alike_names xs (leaf l rest) a k h =
      let us : Entries G L = k.0 in
      let vs : Entries G L = k.1 in
      elim (has_middle (names_in n us) (names_in n vs) (n.leaf l) a (rw (k.2, names-join n us (leaf l vs)) at h)) [
        | inl e ↦ inl e
        | inr m ↦ inr (alike_names (us ▷ vs) rest a k.3 (rw (names-join n us vs) m))
      ]
  alike_names xs (group g inner rest) a k h =
      let us : Entries G L = k.0 in
      let other : Entries G L = k.1 in
      let vs : Entries G L = k.2 in
      let back : Has (names_in n us ++ names_in n vs) a → Has (names_in n rest) a = λ m. alike_names (us ▷ vs) rest a k.5 (rw (names-join n us vs) m) in
      elim (has_either (names_in n us) (n.group g ∷ names_in n other ++ names_in n vs) a (rw (k.3, names-join n us (group g other vs)) at h)) [
        | inl m ↦ inr (has_right (names_in n inner) (names_in n rest) a (back (has_left (names_in n us) (names_in n vs) a m)))
        | inr m ↦ elim m [
          | inl e ↦ inl e
          | inr q ↦ elim (has_either (names_in n other) (names_in n vs) a q) [
            | inl r ↦ inr (has_left (names_in n inner) (names_in n rest) a (alike_names other inner a k.4 r))
            | inr r ↦ inr (has_right (names_in n inner) (names_in n rest) a (back (has_right (names_in n us) (names_in n vs) a r)))
          ]
        ]
      ]

  pub alike_once : (xs ys : Entries G L) → Alike xs ys → Once (names_in n ys) → Once (names_in n xs)
  alike_once xs nil k o = rw k tt
  alike_once xs (leaf l rest) k o =
      let us : Entries G L = k.0 in
      let vs : Entries G L = k.1 in
      let r : Once (names_in n us ++ names_in n vs) = rw (names-join n us vs) at (alike_once (us ▷ vs) rest k.3 o.1) in
      let away : Has (names_in n us ++ names_in n vs) (n.leaf l) → ⊥ = λ h. o.0 (alike_names (us ▷ vs) rest (n.leaf l) k.3 (rw (names-join n us vs) h)) in
      rw (k.2, names-join n us (leaf l vs)) (
      once_join (names_in n us) (n.leaf l ∷ names_in n vs) (once_left (names_in n us) (names_in n vs) r)
      ((λ h. away (has_right (names_in n us) (names_in n vs) (n.leaf l) h)), once_right (names_in n us) (names_in n vs) r)
      (λ a h m. elim m [
        | inl e ↦ away (has_left (names_in n us) (names_in n vs) (n.leaf l) (subst (λ (x : E). Has (names_in n us) x) (sym e) h))
        | inr q ↦ once_apart (names_in n us) (names_in n vs) r a h q
      ]))
  alike_once xs (group g inner rest) k o =
      let us : Entries G L = k.0 in
      let other : Entries G L = k.1 in
      let vs : Entries G L = k.2 in
      let u : List E = names_in n us in
      let w : List E = names_in n other in
      let v : List E = names_in n vs in
      let r : Once (u ++ v) = rw (names-join n us vs) at (alike_once (us ▷ vs) rest k.5 (once_right (names_in n inner) (names_in n rest) o.1)) in
      let s : Once w = alike_once other inner k.4 (once_left (names_in n inner) (names_in n rest) o.1) in
      let of_rest : (a : E) → Has (u ++ v) a → Has (names_in n rest) a = λ a h. alike_names (us ▷ vs) rest a k.5 (rw (names-join n us vs) h) in
      let of_inner : (a : E) → Has w a → Has (names_in n inner) a = λ a h. alike_names other inner a k.4 h in
      let away : Has (u ++ v) (n.group g) → ⊥ = λ h. o.0 (has_right (names_in n inner) (names_in n rest) (n.group g) (of_rest (n.group g) h)) in
      let not_both : (a : E) → Has w a → Has (u ++ v) a → ⊥ = λ a h m. once_apart (names_in n inner) (names_in n rest) o.1 a (of_inner a h) (of_rest a m) in
      let below : Once (w ++ v) = once_join w v s (once_right u v r) (λ a h m. not_both a h (has_right u v a m)) in
      let itself : Has (w ++ v) (n.group g) → ⊥ = λ h. elim (has_either w v (n.group g) h) [
        | inl m ↦ o.0 (has_left (names_in n inner) (names_in n rest) (n.group g) (of_inner (n.group g) m))
        | inr m ↦ away (has_right u v (n.group g) m)
      ] in
      rw (k.3, names-join n us (group g other vs)) (
      once_join u (n.group g ∷ w ++ v) (once_left u v r) (itself, below)
      (λ a h m. elim m [
        | inl e ↦ away (has_left u v (n.group g) (subst (λ (x : E). Has u x) (sym e) h))
        | inr q ↦ elim (has_either w v a q) [
          | inl t ↦ not_both a t (has_left u v a h)
          | inr t ↦ once_apart u v r a h t
        ]
      ]))

  -- ---- the same entries at each level

  -- two levels have the same heads, each name once
  pub record Same (x y : Entries G L) : Type 0 where
    pub to : (h : L ⊎ G) → Has (heads x) h → Has (heads y) h
    pub back : (h : L ⊎ G) → Has (heads y) h → Has (heads x) h
    pub once : Once (keys n x)
    pub once_too : Once (keys n y)

  abbrev pub SameLevels : Entries G L → Entries G L → Type 0
  SameLevels xs ys = (path : List E) → Same (level_at n path xs) (level_at n path ys)

  level-nil : (path : List E) → level_at n path nil ≡ nil
  level-nil [] = refl
  level-nil (e ∷ path) = level-nil path

  same_nil : Same nil nil
  same_nil = record { to = λ h k. k; back = λ h k. k; once = tt; once_too = tt }

  name_has : (xs : Entries G L) (h : L ⊎ G) → Has (heads xs) h → Has (keys n xs) (name n h)
  name_has xs h k = rw (keys-heads xs) (has_map (name n) (heads xs) h k)

  keys-join : (xs ys : Entries G L) → keys n (xs ▷ ys) ≡ keys n xs ++ keys n ys
  keys-join nil ys = refl
  keys-join (leaf l xs) ys = ap (λ zs. n.leaf l ∷ zs) (keys-join xs ys)
  keys-join (group g inner xs) ys = ap (λ zs. n.group g ∷ zs) (keys-join xs ys)

  -- the same entry goes from both levels
  same_rest : (us vs rest xs ys : Entries G L) (x : L ⊎ G) → heads xs ≡ heads us ++ x ∷ heads vs → heads ys ≡ x ∷ heads rest
      → keys n xs ≡ keys n us ++ name n x ∷ keys n vs → keys n ys ≡ name n x ∷ keys n rest → Same xs ys → Same (us ▷ vs) rest
  same_rest us vs rest xs ys x hx hy kx ky s =
      let ox : Once (keys n us ++ name n x ∷ keys n vs) = rw kx at s.once in
      let oy : Once (name n x ∷ keys n rest) = rw ky at s.once_too in
      let gone : Has (heads us ++ heads vs) x → ⊥ = λ k. once_middle (keys n us) (keys n vs) (name n x) ox (rw (← keys-join us vs) (name_has (us ▷ vs) x (rw (heads-join us vs) k))) in
      record {
        to = λ h k.
            let m : Has (heads us ++ heads vs) h = rw (heads-join us vs) at k in
            let q : Has (x ∷ heads rest) h = rw hy at (s.to h (rw hx (middle_has (heads us) (heads vs) x h m))) in
            elim q [
              | inl e ↦ absurd (gone (subst (λ (y : L ⊎ G). Has (heads us ++ heads vs) y) (sym e) m))
              | inr r ↦ r
            ];
        back = λ h k.
            let q : Has (heads us ++ x ∷ heads vs) h = rw hx at (s.back h (rw hy (inr k))) in
            elim (has_middle (heads us) (heads vs) x h q) [
              | inl e ↦ absurd (oy.0 (name_has rest x (subst (λ (y : L ⊎ G). Has (heads rest) y) (sym e) k)))
              | inr r ↦ rw (heads-join us vs) r
            ];
        once = rw (keys-join us vs) (once_without (keys n us) (keys n vs) (name n x) ox);
        once_too = oy.1;
      }

  module _ (names : AreNames n) where
    inside_middle : (us other vs : Entries G L) (g : G) → Once (keys n us ++ n.group g ∷ keys n vs) → inside n (n.group g) (us ▷ group g other vs) ≡ other
    inside_middle us other vs g o =
        let away : Has (keys n us ++ keys n vs) (n.group g) → ⊥ = once_middle (keys n us) (keys n vs) (n.group g) o in
        let u : inside n (n.group g) us ≡ nil = inside_none n names.sound (n.group g) us (λ h. away (has_left (keys n us) (keys n vs) (n.group g) h)) in
        let v : inside n (n.group g) vs ≡ nil = inside_none n names.sound (n.group g) vs (λ h. away (has_right (keys n us) (keys n vs) (n.group g) h)) in
        rw (inside-join n (n.group g) us (group g other vs), u, names.reflexive (n.group g), v) (join-nil other)
      where
        join-nil : (xs : Entries G L) → xs ▷ nil ≡ xs
        join-nil nil = refl
        join-nil (leaf l xs) = ap (leaf l) (join-nil xs)
        join-nil (group g inner xs) = ap (group g inner) (join-nil xs)

    levels_after_leaf : (us vs rest : Entries G L) (l : L) → SameLevels (us ▷ leaf l vs) (leaf l rest) → SameLevels (us ▷ vs) rest
    levels_after_leaf us vs rest l s [] = same_rest us vs rest (us ▷ leaf l vs) (leaf l rest) (inl l) (heads-join us (leaf l vs)) refl (keys-join us (leaf l vs)) refl (s [])
    levels_after_leaf us vs rest l s (e ∷ path) =
        subst (λ (x : Entries G L). Same (level_at n path x) (level_at n path (inside n e rest))) (inside-join n e us (leaf l vs) ∙ sym (inside-join n e us vs)) (s (e ∷ path))

    levels_inside : (us other vs inner rest : Entries G L) (g : G) → SameLevels (us ▷ group g other vs) (group g inner rest) → SameLevels other inner
    levels_inside us other vs inner rest g s path =
        let o : Once (keys n us ++ n.group g ∷ keys n vs) = rw (keys-join us (group g other vs)) at ((s []).once) in
        let p : Once (keys n nil ++ n.group g ∷ keys n rest) = (s []).once_too in
        let a : Same (level_at n path (inside n (n.group g) (us ▷ group g other vs))) (level_at n path (inside n (n.group g) (group g inner rest))) = s (n.group g ∷ path) in
        subst (λ (y : Entries G L). Same (level_at n path other) (level_at n path y)) (inside_middle nil inner rest g p)
        (subst (λ (x : Entries G L). Same (level_at n path x) (level_at n path (inside n (n.group g) (group g inner rest)))) (inside_middle us other vs g o) a)

    levels_after_group : (us other vs inner rest : Entries G L) (g : G) → SameLevels (us ▷ group g other vs) (group g inner rest) → SameLevels (us ▷ vs) rest
    levels_after_group us other vs inner rest g s [] =
        same_rest us vs rest (us ▷ group g other vs) (group g inner rest) (inr g) (heads-join us (group g other vs)) refl (keys-join us (group g other vs)) refl (s [])
    levels_after_group us other vs inner rest g s (e ∷ path) = elim (cases (n.same e (n.group g))) [
      | inl t ↦
          let o : Once (keys n us ++ n.group g ∷ keys n vs) = rw (keys-join us (group g other vs)) at ((s []).once) in
          let p : Once (n.group g ∷ keys n rest) = (s []).once_too in
          let at_e : e ≡ n.group g = names.sound e (n.group g) t in
          let u : inside n e (us ▷ vs) ≡ nil = inside_none n names.sound e (us ▷ vs) (λ h. once_middle (keys n us) (keys n vs) (n.group g) o (subst (λ (x : E). Has (keys n us ++ keys n vs) x) at_e (rw (keys-join us vs) at h))) in
          let v : inside n e rest ≡ nil = inside_none n names.sound e rest (λ h. p.0 (subst (λ (x : E). Has (keys n rest) x) at_e h)) in
          rw (u, v, level-nil path) same_nil
      | inr f ↦
          let one : inside n e (us ▷ group g other vs) ≡ inside n e (us ▷ vs) = inside-join n e us (group g other vs) ∙ rw f (sym (inside-join n e us vs)) in
          let two : inside n e (group g inner rest) ≡ inside n e rest = rw f refl in
          subst (λ (y : Entries G L). Same (level_at n path (inside n e (us ▷ vs))) (level_at n path y)) two
          (subst (λ (x : Entries G L). Same (level_at n path x) (level_at n path (inside n e (group g inner rest)))) one (s (e ∷ path)))
    ]

    no_heads : (xs : Entries G L) → ((h : L ⊎ G) → Has (heads xs) h → ⊥) → xs ≡ nil
    no_heads nil f = refl
    no_heads (leaf l xs) f = absurd (f (inl l) (inl refl))
    no_heads (group g inner xs) f = absurd (f (inr g) (inl refl))

    pub alike_from : (xs ys : Entries G L) → SameLevels xs ys → Alike xs ys
    alike_from xs nil s = no_heads xs (λ h k. (s []).to h k)
    alike_from xs (leaf l rest) s =
        let r = split_leaf xs l ((s []).back (inl l) (inl refl)) in
        (r.0, r.1, r.2, alike_from (r.0 ▷ r.1) rest (levels_after_leaf r.0 r.1 rest l (subst (λ (x : Entries G L). SameLevels x (leaf l rest)) r.2 s)))
    alike_from xs (group g inner rest) s =
        let r = split_group xs g ((s []).back (inr g) (inl refl)) in
        let t : SameLevels (r.0 ▷ group g r.1 r.2) (group g inner rest) = subst (λ (x : Entries G L). SameLevels x (group g inner rest)) r.3 s in
        (r.0, r.1, r.2, r.3, alike_from r.1 inner (levels_inside r.0 r.1 r.2 inner rest g t), alike_from (r.0 ▷ r.2) rest (levels_after_group r.0 r.1 r.2 inner rest g t))
