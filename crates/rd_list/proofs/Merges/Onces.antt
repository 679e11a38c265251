-- Each name once: in a list, at each level of it, and inside each group.
use Rattle.std.proofs.Common.{◌≡◌, refl, ap, ◌∙◌, sym, subst, true, false, cond, List, [], ◌∷◌, ◌++◌, inl, inr, ◌⊎◌, append_assoc}
use Rattle.std.specs.Prelude.{map}
use Rattle.std.proofs.lemmas.List.{map-append}
use Rattle.rd_list.specs.Entries.{Entries, nil, leaf, group, ◌▷◌, flat, wrappers}
use Rattle.rd_list.specs.Levels.{Names, keys, inside, level_at}
use Rattle.rd_list.proofs.Merges.Named.{AreNames}
use Rattle.rd_graph.proofs.Lists.Listing.{Has, Once, cases, never, has_left, has_right, has_either, map_has, once_left, once_right, once_apart, once_join}

module _ {E G L : Type 0} (n : Names E G L) where
  -- all names, in wrappers and outside
  abbrev pub names_in : Entries G L → List E
  names_in nil = []
  names_in (leaf l rest) = n.leaf l ∷ names_in rest
  names_in (group g inner rest) = n.group g ∷ names_in inner ++ names_in rest

  pub names-join : (xs ys : Entries G L) → names_in (xs ▷ ys) ≡ names_in xs ++ names_in ys
  names-join nil ys = refl
  names-join (leaf l xs) ys = ap (λ zs. n.leaf l ∷ zs) (names-join xs ys)
  names-join (group g inner xs) ys = ap (λ zs. n.group g ∷ zs) (rw (names-join xs ys) (sym (append_assoc (names_in inner) (names_in xs) (names_in ys))))

  pub keys_in : (xs : Entries G L) (a : E) → Has (keys n xs) a → Has (names_in xs) a
  keys_in nil a h = h
  keys_in (leaf l xs) a (inl e) = inl e
  keys_in (leaf l xs) a (inr h) = inr (keys_in xs a h)
  keys_in (group g inner xs) a (inl e) = inl e
  keys_in (group g inner xs) a (inr h) = inr (has_right (names_in inner) (names_in xs) a (keys_in xs a h))

  pub once_keys : (xs : Entries G L) → Once (names_in xs) → Once (keys n xs)
  once_keys nil o = tt
  once_keys (leaf l xs) o = ((λ h. o.0 (keys_in xs (n.leaf l) h)), once_keys xs o.1)
  once_keys (group g inner xs) o = ((λ h. o.0 (has_right (names_in inner) (names_in xs) (n.group g) (keys_in xs (n.group g) h))), once_keys xs (once_right (names_in inner) (names_in xs) o.1))

  pub inside_in : (e : E) (xs : Entries G L) (a : E) → Has (names_in (inside n e xs)) a → Has (names_in xs) a
  inside_in e nil a h = h
  inside_in e (leaf l xs) a h = inr (inside_in e xs a h)
  inside_in e (group g inner xs) a h = elim (cases (n.same e (n.group g))) [
    | inl t ↦
        let k : Has (names_in (inner ▷ inside n e xs)) a = rw t at h in
        elim (has_either (names_in inner) (names_in (inside n e xs)) a (rw (names-join inner (inside n e xs)) at k)) [
          | inl r ↦ inr (has_left (names_in inner) (names_in xs) a r)
          | inr r ↦ inr (has_right (names_in inner) (names_in xs) a (inside_in e xs a r))
        ]
    | inr f ↦ let k : Has (names_in (inside n e xs)) a = rw f at h in inr (has_right (names_in inner) (names_in xs) a (inside_in e xs a k))
  ]

  pub once_inside : (e : E) (xs : Entries G L) → Once (names_in xs) → Once (names_in (inside n e xs))
  once_inside e nil o = tt
  once_inside e (leaf l xs) o = once_inside e xs o.1
  once_inside e (group g inner xs) o =
      let below : Once (names_in inner) = once_left (names_in inner) (names_in xs) o.1 in
      let rest : Once (names_in (inside n e xs)) = once_inside e xs (once_right (names_in inner) (names_in xs) o.1) in
      elim (cases (n.same e (n.group g))) [
        | inl t ↦ rw (t, names-join inner (inside n e xs)) (once_join (names_in inner) (names_in (inside n e xs)) below rest (λ a h k. once_apart (names_in inner) (names_in xs) o.1 a h (inside_in e xs a k)))
        | inr f ↦ rw f rest
      ]

  pub once_level : (path : List E) (xs : Entries G L) → Once (names_in xs) → Once (names_in (level_at n path xs))
  once_level [] xs o = o
  once_level (e ∷ path) xs o = once_level path (inside n e xs) (once_inside e xs o)

  -- what no entry is called has nothing inside
  pub inside_none : (sound : (a b : E) → n.same a b ≡ true → a ≡ b) (e : E) (xs : Entries G L) → (Has (keys n xs) e → ⊥) → inside n e xs ≡ nil
  inside_none sound e nil h = refl
  inside_none sound e (leaf l xs) h = inside_none sound e xs (λ k. h (inr k))
  inside_none sound e (group g inner xs) h = elim (cases (n.same e (n.group g))) [
    | inl t ↦ absurd (h (inl (sym (sound e (n.group g) t))))
    | inr f ↦ rw f (inside_none sound e xs (λ k. h (inr k)))
  ]

  pub inside-join : (e : E) (xs ys : Entries G L) → inside n e (xs ▷ ys) ≡ inside n e xs ▷ inside n e ys
  inside-join e nil ys = refl
  inside-join e (leaf l xs) ys = inside-join e xs ys
  inside-join e (group g inner xs) ys =
      rw (inside-join e xs ys) (elim (n.same e (n.group g)) as (λ b. cond b inner nil ▷ (inside n e xs ▷ inside n e ys) ≡ (cond b inner nil ▷ inside n e xs) ▷ inside n e ys) [
        | true ↦ sym (join_assoc inner (inside n e xs) (inside n e ys))
        | false ↦ refl
      ])
    where
      join_assoc : (xs ys zs : Entries G L) → (xs ▷ ys) ▷ zs ≡ xs ▷ (ys ▷ zs)
      join_assoc nil ys zs = refl
      join_assoc (leaf l xs) ys zs = ap (leaf l) (join_assoc xs ys zs)
      join_assoc (group g inner xs) ys zs = ap (group g inner) (join_assoc xs ys zs)

  module _ (names : AreNames n) where
    pub leaf_in : (xs : Entries G L) (l : L) → Has (flat xs) l → Has (names_in xs) (n.leaf l)
    leaf_in nil l h = h
    leaf_in (leaf m xs) l (inl e) = inl (ap n.leaf e)
    leaf_in (leaf m xs) l (inr h) = inr (leaf_in xs l h)
    leaf_in (group g inner xs) l h = elim (has_either (flat inner) (flat xs) l h) [
      | inl k ↦ inr (has_left (names_in inner) (names_in xs) (n.leaf l) (leaf_in inner l k))
      | inr k ↦ inr (has_right (names_in inner) (names_in xs) (n.leaf l) (leaf_in xs l k))
    ]

    group_in : (xs : Entries G L) (g : G) → Has (wrappers xs) g → Has (names_in xs) (n.group g)
    group_in nil g h = h
    group_in (leaf m xs) g h = inr (group_in xs g h)
    group_in (group k inner xs) g (inl e) = inl (ap n.group e)
    group_in (group k inner xs) g (inr h) = elim (has_either (wrappers inner) (wrappers xs) g h) [
      | inl r ↦ inr (has_left (names_in inner) (names_in xs) (n.group g) (group_in inner g r))
      | inr r ↦ inr (has_right (names_in inner) (names_in xs) (n.group g) (group_in xs g r))
    ]

    -- a name is a leaf's or a group's
    named : (xs : Entries G L) (a : E) → Has (names_in xs) a → Has (map n.leaf (flat xs)) a ⊎ Has (map n.group (wrappers xs)) a
    named nil a h = absurd h
    named (leaf l xs) a (inl e) = inl (inl e)
    named (leaf l xs) a (inr h) = elim (named xs a h) [ inl k ↦ inl (inr k) | inr k ↦ inr k ]
    named (group g inner xs) a (inl e) = inr (inl e)
    named (group g inner xs) a (inr h) = rw (map-append n.leaf (flat inner) (flat xs), map-append n.group (wrappers inner) (wrappers xs)) (elim (has_either (names_in inner) (names_in xs) a h) [
      | inl k ↦ elim (named inner a k) [ inl r ↦ inl (has_left (map n.leaf (flat inner)) (map n.leaf (flat xs)) a r) | inr r ↦ inr (inr (has_left (map n.group (wrappers inner)) (map n.group (wrappers xs)) a r)) ]
      | inr k ↦ elim (named xs a k) [ inl r ↦ inl (has_right (map n.leaf (flat inner)) (map n.leaf (flat xs)) a r) | inr r ↦ inr (inr (has_right (map n.group (wrappers inner)) (map n.group (wrappers xs)) a r)) ]
    ])

    differ : (xs ys : Entries G L) (a : E) → Has (map n.leaf (flat xs)) a → Has (map n.group (wrappers ys)) a → ⊥
    differ xs ys a h k =
        let l = map_has n.leaf (flat xs) a h in
        let g = map_has n.group (wrappers ys) a k in
        never (n.same (n.leaf l.0) (n.group g.0)) (subst (λ (x : E). n.same (n.leaf l.0) x ≡ true) (l.2 ∙ sym g.2) (names.reflexive (n.leaf l.0))) (names.apart l.0 g.0)

    pub once_in : (xs : Entries G L) → Once (map n.leaf (flat xs)) → Once (map n.group (wrappers xs)) → Once (names_in xs)
    once_in nil o p = tt
    once_in (leaf l xs) o p = (
      (λ h. elim (named xs (n.leaf l) h) [ inl k ↦ o.0 k | inr k ↦ differ (leaf l nil) xs (n.leaf l) (inl refl) k ]),
      once_in xs o.1 p,
    )
    once_in (group g inner xs) o p =
        let ol : Once (map n.leaf (flat inner) ++ map n.leaf (flat xs)) = rw (map-append n.leaf (flat inner) (flat xs)) at o in
        let og : Once (map n.group (wrappers inner) ++ map n.group (wrappers xs)) = rw (map-append n.group (wrappers inner) (wrappers xs)) at p.1 in (
          (λ h. elim (named (group g inner xs) (n.group g) (inr h)) [ inl k ↦ differ (group g inner xs) (group g nil nil) (n.group g) k (inl refl) | inr k ↦ self h ]),
          once_join (names_in inner) (names_in xs)
              (once_in inner (once_left (map n.leaf (flat inner)) (map n.leaf (flat xs)) ol) (once_left (map n.group (wrappers inner)) (map n.group (wrappers xs)) og))
              (once_in xs (once_right (map n.leaf (flat inner)) (map n.leaf (flat xs)) ol) (once_right (map n.group (wrappers inner)) (map n.group (wrappers xs)) og))
              (λ a h k. elim (named inner a h) [
                | inl r ↦ elim (named xs a k) [ inl s ↦ once_apart (map n.leaf (flat inner)) (map n.leaf (flat xs)) ol a r s | inr s ↦ differ inner xs a r s ]
                | inr r ↦ elim (named xs a k) [ inl s ↦ differ xs inner a s r | inr s ↦ once_apart (map n.group (wrappers inner)) (map n.group (wrappers xs)) og a r s ]
              ]),
        )
      where
        self : Has (names_in inner ++ names_in xs) (n.group g) → ⊥
        self h = elim (has_either (names_in inner) (names_in xs) (n.group g) h) [
          | inl k ↦ elim (named inner (n.group g) k) [
            | inl r ↦ differ inner (group g nil nil) (n.group g) r (inl refl)
            | inr r ↦ p.0 (rw (map-append n.group (wrappers inner) (wrappers xs)) (has_left (map n.group (wrappers inner)) (map n.group (wrappers xs)) (n.group g) r))
          ]
          | inr k ↦ elim (named xs (n.group g) k) [
            | inl r ↦ differ xs (group g nil nil) (n.group g) r (inl refl)
            | inr r ↦ p.0 (rw (map-append n.group (wrappers inner) (wrappers xs)) (has_right (map n.group (wrappers inner)) (map n.group (wrappers xs)) (n.group g) r))
          ]
        ]

    -- and back: leaves once and wrappers once
    pub once_leaves : (xs : Entries G L) → Once (names_in xs) → Once (map n.leaf (flat xs))
    once_leaves nil o = tt
    once_leaves (leaf l xs) o = ((λ h. let r = map_has n.leaf (flat xs) (n.leaf l) h in o.0 (subst (λ (x : E). Has (names_in xs) x) r.2 (leaf_in xs r.0 r.1))), once_leaves xs o.1)
    once_leaves (group g inner xs) o = rw (map-append n.leaf (flat inner) (flat xs)) (
        once_join (map n.leaf (flat inner)) (map n.leaf (flat xs)) (once_leaves inner (once_left (names_in inner) (names_in xs) o.1)) (once_leaves xs (once_right (names_in inner) (names_in xs) o.1))
        (λ a h k.
        let r = map_has n.leaf (flat inner) a h in
        let s = map_has n.leaf (flat xs) a k in
        once_apart (names_in inner) (names_in xs) o.1 a (subst (λ (x : E). Has (names_in inner) x) r.2 (leaf_in inner r.0 r.1)) (subst (λ (x : E). Has (names_in xs) x) s.2 (leaf_in xs s.0 s.1))))

    pub once_groups : (xs : Entries G L) → Once (names_in xs) → Once (map n.group (wrappers xs))
    once_groups nil o = tt
    once_groups (leaf l xs) o = once_groups xs o.1
    once_groups (group g inner xs) o = (
      (λ h. let r = map_has n.group (wrappers inner ++ wrappers xs) (n.group g) h in o.0 (subst (λ (x : E). Has (names_in inner ++ names_in xs) x) r.2 (both r.0 r.1))),
      rw (map-append n.group (wrappers inner) (wrappers xs)) (
          once_join (map n.group (wrappers inner)) (map n.group (wrappers xs)) (once_groups inner (once_left (names_in inner) (names_in xs) o.1)) (once_groups xs (once_right (names_in inner) (names_in xs) o.1))
          (λ a h k.
          let r = map_has n.group (wrappers inner) a h in
          let s = map_has n.group (wrappers xs) a k in
          once_apart (names_in inner) (names_in xs) o.1 a (subst (λ (x : E). Has (names_in inner) x) r.2 (group_in inner r.0 r.1)) (subst (λ (x : E). Has (names_in xs) x) s.2 (group_in xs s.0 s.1)))),
    )
      where
        both : (k : G) → Has (wrappers inner ++ wrappers xs) k → Has (names_in inner ++ names_in xs) (n.group k)
        both k h = elim (has_either (wrappers inner) (wrappers xs) k h) [
          | inl r ↦ has_left (names_in inner) (names_in xs) (n.group k) (group_in inner k r)
          | inr r ↦ has_right (names_in inner) (names_in xs) (n.group k) (group_in xs k r)
        ]
