-- A list stays ready where more leaves go, and is ready after a paint.
use Rattle.std.proofs.Common.{◌≡◌, refl, ap, ◌∙◌, sym, subst, Bool, true, false, ◌&&◌, not, List, [], ◌∷◌, ◌++◌, inl, inr, ◌⊎◌}
use Rattle.std.specs.Prelude.{IsTrue, IsPermutation, filter, Contains}
use Rattle.std.proofs.lemmas.List.Sorted.{IsPermutation-sym}
use Rattle.rd_list.specs.Entries.{Entries, nil, leaf, group, flat, routes, wrappers, heads, only, grouped_if_any, is_empty, no_group_is_empty}
use Rattle.rd_graph.specs.Orders.{Before}
use Rattle.rd_list.specs.Levels.{Names, keys, name, level_at, held, EntriesMeet, StandsFor, pair_in_order}
use Rattle.rd_list.specs.Joining.{Among, IsSoundAt, IsSound}
use Rattle.rd_list.specs.Laws.{IsReady}
use Rattle.rd_list.proofs.Merges.Named.{AreNames}
use Rattle.rd_graph.proofs.Lists.Listing.{Has, Once, cases, has_from, contains_from, has_left, has_right, has_either, has_map, map_has, filter_has, once_map, pairs_map, once_left, once_right, once_apart, once_join, before_either, before_once}
use Rattle.rd_list.proofs.Merges.Levelling.{level-only, flat-only, held-only, held_key, has_only, before_only}
use Rattle.rd_list.proofs.Merges.Onces.{names_in, once_in, once_keys, once_level, once_leaves, once_groups}
use Rattle.rd_list.proofs.Merges.Routing.{three_true, Carries, carries_head, filled_carries, carries_only, only_filled, carries_same}
use Rattle.rd_list.proofs.Merges.Alikes.{alike_routes, keys-heads, SameLevels, alike_from}
use Rattle.rd_list.proofs.Merges.Whole.{filled_level}

pub filter_swap : {A : Type 0} (p q : A → Bool) (xs : List A) → filter p (filter q xs) ≡ filter q (filter p xs)
filter_swap p q [] = refl
filter_swap p q (x ∷ xs) = elim (cases (p x)) [
  | inl t ↦ elim (cases (q x)) [ inl u ↦ rw (u, t, u, filter_swap p q xs) refl | inr u ↦ rw (u, t, u, filter_swap p q xs) refl ]
  | inr f ↦ elim (cases (q x)) [ inl u ↦ rw (u, f, filter_swap p q xs) refl | inr u ↦ rw (u, f, filter_swap p q xs) refl ]
]

module _ {G L : Type 0} where
  only_grouped : (p : L → Bool) (g : G) (inner xs : Entries G L) → only p (grouped_if_any g inner xs) ≡ grouped_if_any g (only p inner) (only p xs)
  only_grouped p g nil xs = refl
  only_grouped p g (leaf l i) xs = refl
  only_grouped p g (group h j i) xs = refl

  -- two tests, one after the other
  pub only_only : (p q : L → Bool) (xs : Entries G L) → only q (only p xs) ≡ only (λ l. p l && q l) xs
  only_only p q nil = refl
  only_only p q (leaf l xs) = elim (cases (p l)) [
    | inl t ↦ elim (cases (q l)) [ inl u ↦ rw (t, u, only_only p q xs) refl | inr u ↦ rw (t, u, only_only p q xs) refl ]
    | inr f ↦ rw (f, only_only p q xs) refl
  ]
  only_only p q (group g inner xs) = only_grouped q g (only p inner) (only p xs) ∙ rw (only_only p q inner, only_only p q xs) refl

  -- where all pass and no group is empty, nothing goes
  pub only_all : (xs : Entries G L) → IsTrue (no_group_is_empty xs) → only (λ l. true) xs ≡ xs
  only_all nil f = refl
  only_all (leaf l xs) f = ap (leaf l) (only_all xs f)
  only_all (group g inner xs) f =
      let a = three_true (not (is_empty inner)) (no_group_is_empty inner) (no_group_is_empty xs) f in
      rw (only_all inner a.1, only_all xs a.2) (some inner a.0)
    where
      some : (i : Entries G L) → IsTrue (not (is_empty i)) → grouped_if_any g i xs ≡ group g i xs
      some nil h = absurd (let no : false ≡ true = h in cc)
      some (leaf l i) h = refl
      some (group k j i) h = refl

  carries_grouped : (g : G) (inner xs : Entries G L) (h : L ⊎ G) (l : L) → Carries (grouped_if_any g inner xs) h l → Carries (group g inner xs) h l
  carries_grouped g nil xs h l c = inr c
  carries_grouped g (leaf m i) xs h l c = c
  carries_grouped g (group k j i) xs h l c = c

  pub of_only : (p : L → Bool) (xs : Entries G L) (h : L ⊎ G) (l : L) → Carries (only p xs) h l → Carries xs h l × (p l ≡ true)
  of_only p nil h l c = absurd c
  of_only p (leaf m xs) h l c = elim (cases (p m)) [
    | inl t ↦ let k : Carries (leaf m (only p xs)) h l = rw t at c in elim k [ inl r ↦ (inl r, ap p (sym r.1) ∙ t) | inr r ↦ let q = of_only p xs h l r in (inr q.0, q.1) ]
    | inr f ↦ let k : Carries (only p xs) h l = rw f at c in let q = of_only p xs h l k in (inr q.0, q.1)
  ]
  of_only p (group g inner xs) h l c = elim (carries_grouped g (only p inner) (only p xs) h l c) [
    | inl r ↦ let q = filter_has p (flat inner) l (rw (flat-only p inner) at r.1) in (inl (r.0, q.0), q.1)
    | inr r ↦ let q = of_only p xs h l r in (inr q.0, q.1)
  ]

module _ {E G L : Type 0} (n : Names E G L) (names : AreNames n) where
  names_grouped : (g : G) (inner xs : Entries G L) (a : E) → Has (names_in n (grouped_if_any g inner xs)) a → Has (n.group g ∷ names_in n inner ++ names_in n xs) a
  names_grouped g nil xs a h = inr h
  names_grouped g (leaf l i) xs a h = h
  names_grouped g (group k j i) xs a h = h

  names_only : (p : L → Bool) (xs : Entries G L) (a : E) → Has (names_in n (only p xs)) a → Has (names_in n xs) a
  names_only p nil a h = h
  names_only p (leaf l xs) a h = elim (cases (p l)) [
    | inl t ↦ let k : Has (n.leaf l ∷ names_in n (only p xs)) a = rw t at h in elim k [ inl e ↦ inl e | inr m ↦ inr (names_only p xs a m) ]
    | inr f ↦ let k : Has (names_in n (only p xs)) a = rw f at h in inr (names_only p xs a k)
  ]
  names_only p (group g inner xs) a h = elim (names_grouped g (only p inner) (only p xs) a h) [
    | inl e ↦ inl e
    | inr m ↦ elim (has_either (names_in n (only p inner)) (names_in n (only p xs)) a m) [
      | inl r ↦ inr (has_left (names_in n inner) (names_in n xs) a (names_only p inner a r))
      | inr r ↦ inr (has_right (names_in n inner) (names_in n xs) a (names_only p xs a r))
    ]
  ]

  once_grouped : (g : G) (inner xs : Entries G L) → Once (n.group g ∷ names_in n inner ++ names_in n xs) → Once (names_in n (grouped_if_any g inner xs))
  once_grouped g nil xs o = o.1
  once_grouped g (leaf l i) xs o = o
  once_grouped g (group k j i) xs o = o

  pub once_only : (p : L → Bool) (xs : Entries G L) → Once (names_in n xs) → Once (names_in n (only p xs))
  once_only p nil o = tt
  once_only p (leaf l xs) o = elim (cases (p l)) [
    | inl t ↦ rw t ((λ h. o.0 (names_only p xs (n.leaf l) h)), once_only p xs o.1)
    | inr f ↦ rw f (once_only p xs o.1)
  ]
  once_only p (group g inner xs) o =
      let fewer : (a : E) → Has (names_in n (only p inner) ++ names_in n (only p xs)) a → Has (names_in n inner ++ names_in n xs) a = λ a h. elim (has_either (names_in n (only p inner)) (names_in n (only p xs)) a h) [
        | inl r ↦ has_left (names_in n inner) (names_in n xs) a (names_only p inner a r)
        | inr r ↦ has_right (names_in n inner) (names_in n xs) a (names_only p xs a r)
      ] in
      once_grouped g (only p inner) (only p xs) (
        (λ h. o.0 (fewer (n.group g) h)),
        once_join (names_in n (only p inner)) (names_in n (only p xs)) (once_only p inner (once_left (names_in n inner) (names_in n xs) o.1)) (once_only p xs (once_right (names_in n inner) (names_in n xs) o.1))
            (λ a h k. once_apart (names_in n inner) (names_in n xs) o.1 a (names_only p inner a h) (names_only p xs a k)),
      )

  pub key_head : (xs : Entries G L) (a : E) → Has (keys n xs) a → (h : L ⊎ G) × Has (heads xs) h × (name n h ≡ a)
  key_head xs a k = map_has (name n) (heads xs) a (rw (keys-heads n xs) at k)

  pub head_key : (xs : Entries G L) (h : L ⊎ G) → Has (heads xs) h → Has (keys n xs) (name n h)
  head_key xs h k = rw (keys-heads n xs) (has_map (name n) (heads xs) h k)

  -- what stands still stands in order where both are left
  before_back : (p : L → Bool) (xs : Entries G L) (a b : E) → Once (keys n xs) → Before (keys n xs) a b → Has (keys n (only p xs)) a → Has (keys n (only p xs)) b → Before (keys n (only p xs)) a b
  before_back p xs a b o h k m =
      elim (before_either (keys n (only p xs)) a b k m (λ e. before_once (keys n xs) a b o h (subst (λ (x : E). Before (keys n xs) x a) e (subst (λ (x : E). Before (keys n xs) a x) (sym e) h)))) [
        | inl r ↦ r
        | inr r ↦ absurd (before_once (keys n xs) a b o h (before_only n p xs b a r))
      ]

  module _ (leaves_meet : L → L → Bool) where
    module _ (p : L → Bool) (stay fresh : Entries G L) (once : Once (names_in n fresh)) (once_too : Once (names_in n stay))
        (filled : IsTrue (no_group_is_empty fresh)) (stand : StandsFor n leaves_meet stay fresh) where
      back : IsPermutation (routes [] fresh) (routes [] stay)
      back = IsPermutation-sym (routes [] stay) (routes [] fresh) stand.leaves

      -- a head of one list without some leaves is one of the other without them
      moves : (xs ys : Entries G L) → IsPermutation (routes [] xs) (routes [] ys) → (path : List E) (h : L ⊎ G) → Has (heads (level_at n path (only p xs))) h → Has (heads (level_at n path (only p ys))) h
      moves xs ys q path h k =
          let r = filled_carries (level_at n path (only p xs)) h (filled_level n names path (only p xs) (only_filled p xs)) k in
          let s = of_only p (level_at n path xs) h r.0 (subst (λ (x : Entries G L). Carries x h r.0) (level-only n p path xs) r.1) in
          subst (λ (x : Entries G L). Has (heads x) h) (sym (level-only n p path ys))
          (carries_head (only p (level_at n path ys)) h r.0 (carries_only p (level_at n path ys) h r.0 (carries_same n names xs ys q path h r.0 s.0) s.1))

      less_once : Once (names_in n (only p fresh))
      less_once = once_only p fresh once

      less_too : Once (names_in n (only p stay))
      less_too = once_only p stay once_too

      levels : SameLevels n (only p stay) (only p fresh)
      levels = λ path. record {
        to = moves stay fresh stand.leaves path;
        back = moves fresh stay back path;
        once = once_keys n (level_at n path (only p stay)) (once_level n path (only p stay) less_too);
        once_too = once_keys n (level_at n path (only p fresh)) (once_level n path (only p fresh) less_once);
      }

      fewer : (l : L) → Contains (flat (only p fresh)) l → Contains (flat fresh) l
      fewer l c = contains_from (flat fresh) l ((filter_has p (flat fresh) l (rw (flat-only p fresh) at (has_from (flat (only p fresh)) l c))).0)

      these_only : (a b : L) (xs : Entries G L) → pair_in_order n leaves_meet a b (flat (only p xs)) ≡ filter p (pair_in_order n leaves_meet a b (flat xs))
      these_only a b xs = rw (flat-only p xs) (filter_swap _ p (flat xs))

      pub narrow_stands : StandsFor n leaves_meet (only p stay) (only p fresh)
      narrow_stands = record {
        leaves = alike_routes [] (only p stay) (only p fresh) (alike_from n names (only p stay) (only p fresh) levels);
        once = pairs_map n.leaf n.same names.sound names.reflexive (flat (only p stay)) (once_leaves n names (only p stay) less_too);
        grouped = pairs_map n.group n.same names.sound names.reflexive (wrappers (only p stay)) (once_groups n names (only p stay) less_too);
        filled = only_filled p stay;
        ordered = λ a b c d m. these_only a b stay ∙ ap (filter p) (stand.ordered a b (fewer a c) (fewer b d) m) ∙ sym (these_only a b fresh);
      }

      -- a key of the fresh list without them is one of the kept list without them
      key_moves : (path : List E) (a : E) → Has (keys n (level_at n path (only p fresh))) a → Has (keys n (level_at n path (only p stay))) a
      key_moves path a k =
          let r = key_head (level_at n path (only p fresh)) a k in
          subst (λ (x : E). Has (keys n (level_at n path (only p stay))) x) r.2 (head_key (level_at n path (only p stay)) r.0 ((levels path).back r.0 r.1))

      key_back : (path : List E) (a : E) → Has (keys n (level_at n path (only p stay))) a → Has (keys n (only p (level_at n path fresh))) a
      key_back path a k =
          let r = key_head (level_at n path (only p stay)) a k in
          subst (λ (x : Entries G L). Has (keys n x) a) (level-only n p path fresh)
          (subst (λ (x : E). Has (keys n (level_at n path (only p fresh))) x) r.2 (head_key (level_at n path (only p fresh)) r.0 ((levels path).to r.0 r.1)))

      fresh_keys : (path : List E) → Once (keys n (level_at n path fresh))
      fresh_keys path = once_keys n (level_at n path fresh) (once_level n path fresh once)

      module _ (reach : List E → E → E → Type 0) (sounds : IsSound n leaves_meet reach fresh) where
        narrow_forward : (path : List E) (a b : E) → Among n reach (only p stay) path a b → Before (keys n (only p (level_at n path fresh))) a b
        narrow_forward path a b r =
            before_back p (level_at n path fresh) a b (fresh_keys path) ((sounds path).forward a b r.reaches)
            (key_back path a (has_from (keys n (level_at n path (only p stay))) a r.first)) (key_back path b (has_from (keys n (level_at n path (only p stay))) b r.second))

        narrow_linked : (path : List E) (a b : E) → n.same a b ≡ false → EntriesMeet n leaves_meet (only p (level_at n path fresh)) a b → Among n reach (only p stay) path a b ⊎ Among n reach (only p stay) path b a
        narrow_linked path a b d m =
            let x : Entries G L = level_at n path fresh in
            let ha : Has (held n a (only p x)) m.one = has_from (held n a (only p x)) m.one m.in_one in
            let hb : Has (held n b (only p x)) m.other = has_from (held n b (only p x)) m.other m.in_other in
            let fa = filter_has p (held n a x) m.one (rw (held-only n p a x) at ha) in
            let fb = filter_has p (held n b x) m.other (rw (held-only n p b x) at hb) in
            let here : (e : E) → Has (keys n (only p x)) e → Contains (keys n (level_at n path (only p stay))) e =
            λ e k. contains_from (keys n (level_at n path (only p stay))) e (key_moves path e (subst (λ (y : Entries G L). Has (keys n y) e) (sym (level-only n p path fresh)) k)) in
            let ka = here a (held_key n names.sound a (only p x) m.one ha) in
            let kb = here b (held_key n names.sound b (only p x) m.other hb) in
            elim ((sounds path).linked a b d (record { one = m.one; other = m.other; in_one = contains_from (held n a x) m.one fa.0; in_other = contains_from (held n b x) m.other fb.0; met = m.met })) [
              | inl r ↦ inl (record { reaches = r; first = ka; second = kb })
              | inr r ↦ inr (record { reaches = r; first = kb; second = ka })
            ]

        pub narrow_sound : IsSound n leaves_meet (Among n reach (only p stay)) (only p fresh)
        narrow_sound = λ path. subst (λ (x : Entries G L). IsSoundAt n leaves_meet (Among n reach (only p stay) path) x) (sym (level-only n p path fresh))
            (record { forward = narrow_forward path; linked = narrow_linked path })

    pub stands_once : (kept fresh : Entries G L) → StandsFor n leaves_meet kept fresh → Once (names_in n kept)
    stands_once kept fresh s = once_in n names kept
        (once_map n.leaf n.same names.sound names.reflexive (flat kept) s.once)
        (once_map n.group n.same names.sound names.reflexive (wrappers kept) s.grouped)

    pub painted : (reach : List E → E → E → Type 0) (fresh kept : Entries G L) → StandsFor n leaves_meet fresh fresh → StandsFor n leaves_meet kept fresh → IsSound n leaves_meet reach fresh → IsReady n leaves_meet (λ l. true) reach kept fresh
    painted reach fresh kept once stand sounds =
        let a : Once (names_in n fresh) = stands_once fresh fresh once in
        let b : Once (names_in n kept) = stands_once kept fresh stand in
        record {
          stands = narrow_stands (λ l. true) kept fresh a b once.filled stand;
          sound = narrow_sound (λ l. true) kept fresh a b once.filled stand reach sounds;
        }

    pub edited : (reach : List E → E → E → Type 0) (fresh next kept : Entries G L) (stays stay_too : L → Bool) → StandsFor n leaves_meet fresh fresh
        → only (λ l. stays l && stay_too l) fresh ≡ only (λ l. stays l && stay_too l) next
        → IsReady n leaves_meet stays reach kept fresh → IsReady n leaves_meet (λ l. stays l && stay_too l) reach kept next
    edited reach fresh next kept stays stay_too once same ready =
        let k : Entries G L = only stays kept in
        let f : Entries G L = only stays fresh in
        let a : Once (names_in n f) = once_only stays fresh (stands_once fresh fresh once) in
        let b : Once (names_in n k) = stands_once k f ready.stands in
        let s : StandsFor n leaves_meet (only stay_too k) (only stay_too f) = narrow_stands stay_too k f a b (only_filled stays fresh) ready.stands in
        let t : IsSound n leaves_meet (Among n (Among n reach k) (only stay_too k)) (only stay_too f) = narrow_sound stay_too k f a b (only_filled stays fresh) ready.stands (Among n reach k) ready.sound in
        let both : L → Bool = λ l. stays l && stay_too l in
        let ek : only stay_too k ≡ only both kept = only_only stays stay_too kept in
        let ef : only stay_too f ≡ only both next = only_only stays stay_too fresh ∙ same in
        record {
          stands = subst (λ (x : Entries G L). StandsFor n leaves_meet (only both kept) x) ef (subst (λ (x : Entries G L). StandsFor n leaves_meet x (only stay_too f)) ek s);
          sound = λ path.
              let u : IsSoundAt n leaves_meet (Among n (Among n reach k) (only both kept) path) (level_at n path (only both next)) =
              subst (λ (x : Entries G L). IsSoundAt n leaves_meet (Among n (Among n reach k) (only both kept) path) (level_at n path x)) ef
              (subst (λ (x : Entries G L). IsSoundAt n leaves_meet (Among n (Among n reach k) x path) (level_at n path (only stay_too f))) ek (t path)) in
              record {
                forward = λ c d r. u.forward c d (twice path c d r);
                linked = λ c d e m. elim (u.linked c d e m) [
                  | inl r ↦ inl (record { reaches = r.reaches.reaches; first = r.first; second = r.second })
                  | inr r ↦ inr (record { reaches = r.reaches.reaches; first = r.first; second = r.second })
                ];
              };
        }
      where
        -- what stays of what stays
        stays_before : (path : List E) (e : E) → Contains (keys n (level_at n path (only (λ l. stays l && stay_too l) kept))) e → Contains (keys n (level_at n path (only stays kept))) e
        stays_before path e c =
            let ek : only stay_too (only stays kept) ≡ only (λ l. stays l && stay_too l) kept = only_only stays stay_too kept in
            let h : Has (keys n (level_at n path (only stay_too (only stays kept)))) e =
            subst (λ (x : Entries G L). Has (keys n (level_at n path x)) e) (sym ek) (has_from (keys n (level_at n path (only (λ l. stays l && stay_too l) kept))) e c) in
            contains_from (keys n (level_at n path (only stays kept))) e (has_only n stay_too (level_at n path (only stays kept)) e
            (subst (λ (x : Entries G L). Has (keys n x) e) (level-only n stay_too path (only stays kept)) h))

        twice : (path : List E) (c d : E) → Among n reach (only (λ l. stays l && stay_too l) kept) path c d → Among n (Among n reach (only stays kept)) (only (λ l. stays l && stay_too l) kept) path c d
        twice path c d r = record {
          reaches = record { reaches = r.reaches; first = stays_before path c r.first; second = stays_before path d r.second };
          first = r.first;
          second = r.second;
        }
