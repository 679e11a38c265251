-- The law of the merge: from each level to the whole.
use Rattle.std.proofs.Common.{◌≡◌, refl, ◌∙◌, sym, subst, Bool, true, false, not, cond, List, [], ◌∷◌, suc, inl, inr, ◌⊎◌, arith}
use Rattle.std.specs.Prelude.{IsTrue, IsPermutation, map, Contains}
use Rattle.std.proofs.lemmas.List.Sorted.{IsPermutation-sym}
use Rattle.rd_list.specs.Entries.{Entries, nil, leaf, group, flat, routes, wrappers, heads, only, list_size, is_empty, no_group_is_empty}
use Rattle.rd_graph.specs.Orders.{Before}
use Rattle.rd_list.specs.Levels.{Names, keys, inside, level_at, held, EntriesMeet, StandsFor, pair_in_order}
use Rattle.rd_list.specs.Joining.{Among, IsSoundAt, IsSound, IsJoinedAt, IsJoined}
use Rattle.rd_list.specs.Laws.{IsCovered}
use Rattle.rd_list.proofs.Merges.Named.{AreNames}
use Rattle.rd_graph.proofs.Lists.Listing.{Has, Once, cases, never, has_from, contains_from, once_from, once_map, pairs_map, before_either, before_once}
use Rattle.rd_list.proofs.Merges.Levelling.{level-only, level_flat}
use Rattle.rd_list.proofs.Merges.OneLevel as level
use Rattle.rd_list.proofs.Merges.Onces.{names_in, once_in, once_keys, once_level, once_leaves, once_groups}
use Rattle.rd_list.proofs.Merges.Routing.{three_true, routed_same, routed_flat, flat_routed, carries_head, carries_flat, filled_carries, carries_only, only_head, only_filled, carries_same}
use Rattle.rd_list.proofs.Merges.Alikes.{Alike, alike_routes, alike_filled, alike_once, SameLevels, alike_from, filled_join}
use Rattle.rd_list.proofs.Merges.Ordering.{IsInOrder, in_order, carries_held, held_carries, these_before, these_after, these_one}

module _ {E G L : Type 0} (n : Names E G L) (names : AreNames n) where
  pub filled_inside : (e : E) (xs : Entries G L) → IsTrue (no_group_is_empty xs) → IsTrue (no_group_is_empty (inside n e xs))
  filled_inside e nil h = refl
  filled_inside e (leaf l xs) h = filled_inside e xs h
  filled_inside e (group g inner xs) h =
      let a = three_true (not (is_empty inner)) (no_group_is_empty inner) (no_group_is_empty xs) h in
      filled_join (cond (n.same e (n.group g)) inner nil) (inside n e xs) (picked (n.same e (n.group g)) a.1) (filled_inside e xs a.2)
    where
      picked : (b : Bool) → IsTrue (no_group_is_empty inner) → IsTrue (no_group_is_empty (cond b inner nil))
      picked true h = h
      picked false h = refl

  pub filled_level : (path : List E) (xs : Entries G L) → IsTrue (no_group_is_empty xs) → IsTrue (no_group_is_empty (level_at n path xs))
  filled_level [] xs h = h
  filled_level (e ∷ path) xs h = filled_level path (inside n e xs) (filled_inside e xs h)

  -- lists with the same routes and no empty group have the same heads at each level
  pub heads_same : (xs ys : Entries G L) → IsPermutation (routes [] xs) (routes [] ys) → IsTrue (no_group_is_empty xs) → (path : List E) (h : L ⊎ G)
      → Has (heads (level_at n path xs)) h → Has (heads (level_at n path ys)) h
  heads_same xs ys p f path h k =
      let r = filled_carries (level_at n path xs) h (filled_level path xs f) k in
      carries_head (level_at n path ys) h r.0 (carries_same n names xs ys p path h r.0 r.1)

  module _ (leaves_meet : L → L → Bool) (flips : (a b : L) → leaves_meet a b ≡ leaves_meet b a)
      (stays in_area : L → Bool) (before after : List E → E → E → Type 0) (fresh stay joined : Entries G L)
      (fresh_once : StandsFor n leaves_meet fresh fresh)
      (covered : IsCovered n leaves_meet stays in_area fresh)
      (stand : StandsFor n leaves_meet stay (only stays fresh))
      (sounds : IsSound n leaves_meet (Among n before stay) (only stays fresh))
      (j : IsJoined n (Among n before stay) after stay (only in_area fresh) joined) where
    fresh_names : Once (names_in n fresh)
    fresh_names = once_in n names fresh
        (once_map n.leaf n.same names.sound names.reflexive (flat fresh) fresh_once.once)
        (once_map n.group n.same names.sound names.reflexive (wrappers fresh) fresh_once.grouped)

    fresh_keys : (path : List E) → Once (keys n (level_at n path fresh))
    fresh_keys path = once_keys n (level_at n path fresh) (once_level n path fresh fresh_names)

    of_fresh : (path : List E) (l : L) → Contains (flat (level_at n path fresh)) l → Contains (flat fresh) l
    of_fresh path l c = contains_from (flat fresh) l (level_flat n path fresh l (has_from (flat (level_at n path fresh)) l c))

    covered_at : (path : List E) → IsCovered n leaves_meet stays in_area (level_at n path fresh)
    covered_at path = record {
      itself = λ a c. covered.itself a (of_fresh path a c);
      others = λ a b c d. covered.others a b (of_fresh path a c) (of_fresh path b d);
    }

    -- ---- the entries of each level

    stay_heads : (path : List E) (h : L ⊎ G) → Has (heads (level_at n path stay)) h → Has (heads (only stays (level_at n path fresh))) h
    stay_heads path h k =
        subst (λ (x : Entries G L). Has (heads x) h) (level-only n stays path fresh) (heads_same stay (only stays fresh) stand.leaves stand.filled path h k)

    heads_stay : (path : List E) (h : L ⊎ G) → Has (heads (only stays (level_at n path fresh))) h → Has (heads (level_at n path stay)) h
    heads_stay path h k =
        heads_same (only stays fresh) stay (IsPermutation-sym (routes [] stay) (routes [] (only stays fresh)) stand.leaves) (only_filled stays fresh) path h
        (subst (λ (x : Entries G L). Has (heads x) h) (sym (level-only n stays path fresh)) k)

    heads_to : (path : List E) (h : L ⊎ G) → Has (heads (level_at n path joined)) h → Has (heads (level_at n path fresh)) h
    heads_to path h k = elim (((j path).entries h).0 (contains_from (heads (level_at n path joined)) h k)) [
      | inl c ↦ only_head stays (level_at n path fresh) h (stay_heads path h (has_from (heads (level_at n path stay)) h c))
      | inr c ↦ only_head in_area (level_at n path fresh) h
          (subst (λ (x : Entries G L). Has (heads x) h) (level-only n in_area path fresh) (has_from (heads (level_at n path (only in_area fresh))) h c))
    ]

    heads_back : (path : List E) (h : L ⊎ G) → Has (heads (level_at n path fresh)) h → Has (heads (level_at n path joined)) h
    heads_back path h k =
        let r = filled_carries (level_at n path fresh) h (filled_level path fresh fresh_once.filled) k in
        let in_fresh : Contains (flat fresh) r.0 = of_fresh path r.0 (contains_from (flat (level_at n path fresh)) r.0 (carries_flat (level_at n path fresh) h r.0 r.1)) in
        has_from (heads (level_at n path joined)) h (((j path).entries h).1 (elim (cases (stays r.0)) [
          | inl t ↦ inl (contains_from (heads (level_at n path stay)) h (heads_stay path h (carries_head (only stays (level_at n path fresh)) h r.0 (carries_only stays (level_at n path fresh) h r.0 r.1 t))))
          | inr f ↦ inr (contains_from (heads (level_at n path (only in_area fresh))) h
              (subst (λ (x : Entries G L). Has (heads x) h) (sym (level-only n in_area path fresh))
              (carries_head (only in_area (level_at n path fresh)) h r.0 (carries_only in_area (level_at n path fresh) h r.0 r.1 (covered.itself r.0 in_fresh f)))))
        ]))

    joined_keys : (path : List E) → Once (keys n (level_at n path joined))
    joined_keys path = once_from n.same names.sound names.reflexive (keys n (level_at n path joined)) (j path).once

    levels : SameLevels n joined fresh
    levels = λ path. record { to = heads_to path; back = heads_back path; once = joined_keys path; once_too = fresh_keys path }

    alike : Alike joined fresh
    alike = alike_from n names joined fresh levels

    -- ---- each level is sound

    sound_at : (path : List E) → IsSoundAt n leaves_meet (Among n before stay path) (only stays (level_at n path fresh))
    sound_at path = subst (λ (x : Entries G L). IsSoundAt n leaves_meet (Among n before stay path) x) (level-only n stays path fresh) (sounds path)

    joined_at : (path : List E) → IsJoinedAt n (Among n before stay path) (after path) (level_at n path stay) (only in_area (level_at n path fresh)) (level_at n path joined)
    joined_at path = subst (λ (x : Entries G L). IsJoinedAt n (Among n before stay path) (after path) (level_at n path stay) x (level_at n path joined)) (level-only n in_area path fresh) (j path)

    pub sound : IsSound n leaves_meet after fresh
    sound = λ path. level.sound_after n names leaves_meet flips stays in_area (level_at n path fresh) (level_at n path stay) (level_at n path joined) (Among n before stay path) (after path)
        (fresh_keys path) (covered_at path) (sound_at path) (joined_at path)

    -- ---- the order of the leaves

    routes_are : IsPermutation (routes [] joined) (routes [] fresh)
    routes_are = alike_routes [] joined fresh alike

    routes_back : IsPermutation (routes [] fresh) (routes [] joined)
    routes_back = IsPermutation-sym (routes [] joined) (routes [] fresh) routes_are

    holds : (path : List E) (e : E) (l : L) → Has (held n e (level_at n path fresh)) l → Has (held n e (level_at n path joined)) l
    holds path e l h =
        let r = held_carries n names e (level_at n path fresh) l h in
        subst (λ (x : E). Has (held n x (level_at n path joined)) l) r.1
        (carries_held n names (level_at n path joined) r.0 l (carries_same n names fresh joined routes_back path r.0 l r.2))

    not_same : (path : List E) (a b : E) → Before (keys n (level_at n path fresh)) a b → n.same a b ≡ false
    not_same path a b h = elim (cases (n.same a b)) [
      | inl t ↦ absurd (before_once (keys n (level_at n path fresh)) a b (fresh_keys path) h
          (subst (λ (x : E). Before (keys n (level_at n path fresh)) x a) (names.sound a b t) (subst (λ (x : E). Before (keys n (level_at n path fresh)) a x) (sym (names.sound a b t)) h)))
      | inr f ↦ f
    ]

    ordered_at : (path : List E) (a b : E) → Before (keys n (level_at n path fresh)) a b → EntriesMeet n leaves_meet (level_at n path fresh) a b → Before (keys n (level_at n path joined)) a b
    ordered_at path a b h m = elim ((sound path).linked a b (not_same path a b h) m) [
      | inl r ↦ (j path).order a b r
      | inr r ↦ absurd (before_once (keys n (level_at n path fresh)) a b (fresh_keys path) h ((sound path).forward b a r))
    ]

    in_order_at : (path : List E) → IsInOrder n names leaves_meet (level_at n path joined) (level_at n path fresh)
    in_order_at path = record { once = joined_keys path; holds = holds path; order = ordered_at path }

    leaves_before : (a b : L) → IsTrue (leaves_meet a b) → Before (flat fresh) a b → Before (flat joined) a b
    leaves_before a b m h = in_order n names leaves_meet (suc (list_size fresh)) joined fresh a b (omega arith) in_order_at m h

    joined_names : Once (names_in n joined)
    joined_names = alike_once n joined fresh alike fresh_names

    fresh_leaves : Once (map n.leaf (flat fresh))
    fresh_leaves = once_leaves n names fresh fresh_names

    joined_leaves : Once (map n.leaf (flat joined))
    joined_leaves = once_leaves n names joined joined_names

    in_joined : (l : L) → Has (flat fresh) l → Has (flat joined) l
    in_joined l h = let r = flat_routed l fresh h in routed_flat r.0 l joined (routed_same fresh joined routes_back r.0 l r.1)

    ordered : (a b : L) → Contains (flat fresh) a → Contains (flat fresh) b → IsTrue (leaves_meet a b) → pair_in_order n leaves_meet a b (flat joined) ≡ pair_in_order n leaves_meet a b (flat fresh)
    ordered a b c d m =
        let ha : Has (flat fresh) a = has_from (flat fresh) a c in
        let hb : Has (flat fresh) b = has_from (flat fresh) b d in
        elim (cases (n.same (n.leaf a) (n.leaf b))) [
          | inl t ↦
              let e : n.leaf a ≡ n.leaf b = names.sound (n.leaf a) (n.leaf b) t in
              these_one n names leaves_meet (flat joined) a b joined_leaves (in_joined a ha) e ∙ sym (these_one n names leaves_meet (flat fresh) a b fresh_leaves ha e)
          | inr f ↦ elim (before_either (flat fresh) a b ha hb (λ e. never (n.same (n.leaf a) (n.leaf b)) (subst (λ (x : L). n.same (n.leaf a) (n.leaf x) ≡ true) e (names.reflexive (n.leaf a))) f)) [
            | inl h ↦ these_before n names leaves_meet (flat joined) a b joined_leaves (leaves_before a b m h) ∙ sym (these_before n names leaves_meet (flat fresh) a b fresh_leaves h)
            | inr h ↦ these_after n names leaves_meet (flat joined) a b joined_leaves (leaves_before b a (rw (flips b a) m) h) ∙ sym (these_after n names leaves_meet (flat fresh) a b fresh_leaves h)
          ]
        ]

    pub stands : StandsFor n leaves_meet joined fresh
    stands = record {
      leaves = routes_are;
      once = pairs_map n.leaf n.same names.sound names.reflexive (flat joined) joined_leaves;
      grouped = pairs_map n.group n.same names.sound names.reflexive (wrappers joined) (once_groups n names joined joined_names);
      filled = alike_filled joined fresh alike fresh_once.filled;
      ordered = ordered;
    }
