-- One level of a merge by the calls of a graph.
use Rattle.std.proofs.Common.{◌≡◌, refl, ap, ◌∙◌, sym, subst, Bool, cond, List, [], ◌∷◌, inl, inr, ◌⊎◌}
use Rattle.std.specs.Prelude.{Contains}
use Rattle.rd_graph.specs.Orders as order
use Rattle.rd_graph.specs.Orders.{Before}
use Rattle.rd_graph.specs.Graphs.{Graph, Reaches, Drops, GoTogether}
use Rattle.rd_graph.proofs.Lists.Listing.{Has, Once, cases, has_from, contains_from, has_either, filter_has, before_from, before_to, pairs_from, once_from, once_apart, once_right}
use Rattle.rd_graph.proofs.Reaching.Calls.{once_of, once_to}
use Rattle.rd_graph.proofs.Reaching.Chains.{chain_map}
use Rattle.rd_list.specs.Entries.{Entries, nil, leaf, group, flat, heads, only}
use Rattle.rd_list.specs.Levels.{Names, keys, inside, level_at, held, StandsFor}
use Rattle.rd_list.specs.Joining.{Among, Step}
use Rattle.rd_list.proofs.Merges.Named.{AreNames}
use Rattle.rd_list.specs.Kept.{bare_new, KeptList, bare, within, reach_of}
use Rattle.rd_list.specs.Internal.Fits.{Fits, TellsGone, GoingTogether, LevelJoined, FitsInside, ReadyFits, MergedOnce, within_new}
use Rattle.rd_list.proofs.Merges.Levelling.{inside-only, level-only, held-only, held_flat, before_only, join-nil}
use Rattle.rd_list.proofs.Merges.Nesting.{bare-within}
use Rattle.rd_list.proofs.Merges.Narrowing.{stands_once, once_only}
use Rattle.rd_list.proofs.Merges.Onces.{names_in, leaf_in, once_level, once_keys, inside_none}
use Rattle.rd_list.proofs.Merges.Ordering.{carries_held, held_carries}
use Rattle.rd_list.proofs.Merges.Routing.{only_head, carries_same}
use Rattle.rd_list.proofs.Merges.Whole.{heads_same}

module _ {E G M L : Type 0} (n : Names E G L) (leaf_of : M → L) (stays : L → Bool) where
  module _ (kept : KeptList E G M) (new fresh : Entries G L) (gone : E → Bool) (dropped : Graph E)
      (fits : Fits n leaf_of stays kept new fresh) (told : TellsGone n leaf_of stays (bare n leaf_of kept.entries) gone) (drops : Drops gone kept.graph dropped) where
    abbrev K : Entries G L
    K = bare n leaf_of kept.entries

    -- after the drop, one reaches another where it did among those that stay
    pub dropped_among : (a b : E) → Reaches dropped a b → Among n (reach_of n leaf_of kept) (only stays K) [] a b
    dropped_among a b h =
        let r = (drops.reach a b).0 h in
        let f : Before (keys n K) a b = fits.in_order [] a b r.0 in
        record {
          reaches = r.0;
          first = (told a (contains_from (keys n K) a (before_from (keys n K) a b f))).0 r.1;
          second = (told b (contains_from (keys n K) b (before_to (keys n K) a b f))).0 r.2;
        }

    pub among_dropped : (a b : E) → Among n (reach_of n leaf_of kept) (only stays K) [] a b → Reaches dropped a b
    among_dropped a b r =
        let f : Before (keys n K) a b = fits.in_order [] a b r.reaches in
        (drops.reach a b).1 (r.reaches, (told a (contains_from (keys n K) a (before_from (keys n K) a b f))).1 r.first, (told b (contains_from (keys n K) b (before_to (keys n K) a b f))).1 r.second)

    pub together : GoTogether (keys n new) dropped
    together = record {
      line = keys n fresh;
      once = fits.once_fresh [];
      old = λ a b h. fits.old_forward [] a b (dropped_among a b h);
      added = λ a b h. fits.new_forward [] a b h;
    }

  pub going_together : GoingTogether n leaf_of stays
  going_together = λ kept new fresh gone dropped fits told drops. together kept new fresh gone dropped fits told drops

  pub level_joined : AreNames n → LevelJoined n leaf_of stays
  level_joined names = λ kept new fresh result gone dropped joined line fits made same entries.
      let S : Entries G L = only stays (bare n leaf_of kept.entries) in
      let low : E → E → Type 0 = Among n (reach_of n leaf_of kept) S [] in
      record {
        entries = entries;
        once = pairs_from n.same names.sound names.reflexive (keys n result) (subst Once (sym same) (once_of line made.ordered.once));
        reach = λ a b. (
          (λ h. chain_map (λ x y. Reaches dropped x y ⊎ Before (keys n new) x y) (Step n low new) (λ x y s. elim s [ inl r ↦ inl (dropped_among kept new fresh gone dropped fits made.told made.drops x y r) | inr r ↦ inr r ]) a b ((made.adds.reach a b).0 h)),
          (λ h. (made.adds.reach a b).1 (chain_map (Step n low new) (λ x y. Reaches dropped x y ⊎ Before (keys n new) x y) (λ x y s. elim s [ inl r ↦ inl (among_dropped kept new fresh gone dropped fits made.told made.drops x y r) | inr r ↦ inr r ]) a b h)),
        );
        order = λ a b h. subst (λ ks. Before ks a b) (sym same) (made.ordered.forward a b h);
      }

  pub fits_inside : AreNames n → FitsInside n leaf_of stays
  fits_inside names = λ kept new fresh e fits.
      let k : KeptList E G M = within n leaf_of e kept.entries in
      let here : inside n e (bare n leaf_of kept.entries) ≡ bare n leaf_of k.entries = bare-within n leaf_of names e kept.entries (once_of (keys n (bare n leaf_of kept.entries)) (fits.once_kept [])) in
      let stay : inside n e (only stays (bare n leaf_of kept.entries)) ≡ only stays (bare n leaf_of k.entries) = inside-only n stays e (bare n leaf_of kept.entries) ∙ ap (only stays) here in
      record {
        nodes_are = λ path. fits.nodes_are (e ∷ path);
        once_kept = λ path. subst (λ x. order.Once (keys n (level_at n path x))) here (fits.once_kept (e ∷ path));
        once_new = λ path. fits.once_new (e ∷ path);
        once_fresh = λ path. fits.once_fresh (e ∷ path);
        in_order = λ path a b h. subst (λ x. Before (keys n (level_at n path x)) a b) here (fits.in_order (e ∷ path) a b h);
        old_forward = λ path a b r. fits.old_forward (e ∷ path) a b (record {
          reaches = r.reaches;
          first = subst (λ x. Contains (keys n (level_at n path x)) a) (sym stay) r.first;
          second = subst (λ x. Contains (keys n (level_at n path x)) b) (sym stay) r.second;
        });
        new_forward = λ path a b h. fits.new_forward (e ∷ path) a b h;
        old_heads = λ path h c. fits.old_heads (e ∷ path) h (subst (λ x. Contains (heads (level_at n path x)) h) (sym stay) c);
        new_heads = λ path h c. fits.new_heads (e ∷ path) h c;
        one_place = λ path a b l m c d same. fits.one_place (e ∷ path) a b l m (subst (λ x. Contains (held n a (level_at n path x)) l) (sym stay) c) d same;
      }

  -- ---- what stays and what is new stands in the fresh list

  own_leaf : AreNames n → (a : E) (x l : L) → Has (cond (n.same a (n.leaf x)) (x ∷ []) []) l → (a ≡ n.leaf x) × (x ≡ l)
  own_leaf names a x l h = elim (cases (n.same a (n.leaf x))) [
    | inl t ↦ let k : Has (x ∷ []) l = rw t at h in (names.sound a (n.leaf x) t, elim k [ inl e ↦ e | inr e ↦ absurd e ])
    | inr f ↦ let k : Has [] l = rw f at h in absurd k
  ]

  own_group : AreNames n → (a : E) (g : G) (inner : Entries G L) (l : L) → Has (cond (n.same a (n.group g)) (flat inner) []) l → (a ≡ n.group g) × Has (flat inner) l
  own_group names a g inner l h = elim (cases (n.same a (n.group g))) [
    | inl t ↦ let k : Has (flat inner) l = rw t at h in (names.sound a (n.group g) t, k)
    | inr f ↦ let k : Has [] l = rw f at h in absurd k
  ]

  only_heads : (p : L → Bool) (xs : Entries G L) (path : List E) (h : L ⊎ G) → Has (heads (level_at n path (only p xs))) h → Has (heads (level_at n path xs)) h
  only_heads p xs path h k = only_head p (level_at n path xs) h (subst (λ (x : Entries G L). Has (heads x) h) (level-only n p path xs) k)

  only_held : (p : L → Bool) (xs : Entries G L) (path : List E) (e : E) (l : L) → Has (held n e (level_at n path (only p xs))) l → Has (held n e (level_at n path xs)) l
  only_held p xs path e l k =
      let q : Has (held n e (only p (level_at n path xs))) l = subst (λ (x : Entries G L). Has (held n e x) l) (level-only n p path xs) k in
      (filter_has p (held n e (level_at n path xs)) l (rw (held-only n p e (level_at n path xs)) at q)).0

  module _ (names : AreNames n) (leaves_meet : L → L → Bool) (kept fresh : Entries G L) (stand : StandsFor n leaves_meet (only stays kept) (only stays fresh)) where
    old_heads : (path : List E) (h : L ⊎ G) → Has (heads (level_at n path (only stays kept))) h → Has (heads (level_at n path fresh)) h
    old_heads path h k = only_heads stays fresh path h (heads_same n names (only stays kept) (only stays fresh) stand.leaves stand.filled path h k)

    old_held : (path : List E) (e : E) (l : L) → Has (held n e (level_at n path (only stays kept))) l → Has (held n e (level_at n path fresh)) l
    old_held path e l k =
        let r = held_carries n names e (level_at n path (only stays kept)) l k in
        only_held stays fresh path e l (subst (λ (x : E). Has (held n x (level_at n path (only stays fresh))) l) r.1
        (carries_held n names (level_at n path (only stays fresh)) r.0 l (carries_same n names (only stays kept) (only stays fresh) stand.leaves path r.0 l r.2)))

  -- where names differ, leaves of one name stand in one entry
  pub held_one : AreNames n → (xs : Entries G L) → Once (names_in n xs) → (a b : E) (l m : L) → Has (held n a xs) l → Has (held n b xs) m → n.leaf l ≡ n.leaf m → a ≡ b
  held_one names nil o a b l m h k e = absurd h
  held_one names (leaf x xs) o a b l m h k e =
      let p = has_either (cond (n.same a (n.leaf x)) (x ∷ []) []) (held n a xs) l h in
      let q = has_either (cond (n.same b (n.leaf x)) (x ∷ []) []) (held n b xs) m k in
      elim p [
        | inl s ↦ let r = own_leaf names a x l s in elim q [
          | inl t ↦ let u = own_leaf names b x m t in r.0 ∙ sym u.0
          | inr t ↦ absurd (o.0 (subst (λ (z : E). Has (names_in n xs) z) (sym e ∙ ap n.leaf (sym r.1)) (leaf_in n names xs m (held_flat n b xs m t))))
        ]
        | inr s ↦ elim q [
          | inl t ↦ let u = own_leaf names b x m t in absurd (o.0 (subst (λ (z : E). Has (names_in n xs) z) (e ∙ ap n.leaf (sym u.1)) (leaf_in n names xs l (held_flat n a xs l s))))
          | inr t ↦ held_one names xs o.1 a b l m s t e
        ]
      ]
  held_one names (group g inner xs) o a b l m h k e =
      let p = has_either (cond (n.same a (n.group g)) (flat inner) []) (held n a xs) l h in
      let q = has_either (cond (n.same b (n.group g)) (flat inner) []) (held n b xs) m k in
      elim p [
        | inl s ↦ let r = own_group names a g inner l s in elim q [
          | inl t ↦ let u = own_group names b g inner m t in r.0 ∙ sym u.0
          | inr t ↦ absurd (once_apart (names_in n inner) (names_in n xs) o.1 (n.leaf l) (leaf_in n names inner l r.1) (subst (λ (z : E). Has (names_in n xs) z) (sym e) (leaf_in n names xs m (held_flat n b xs m t))))
        ]
        | inr s ↦ elim q [
          | inl t ↦ let u = own_group names b g inner m t in absurd (once_apart (names_in n inner) (names_in n xs) o.1 (n.leaf m) (leaf_in n names inner m u.1) (subst (λ (z : E). Has (names_in n xs) z) e (leaf_in n names xs l (held_flat n a xs l s))))
          | inr t ↦ held_one names xs (once_right (names_in n inner) (names_in n xs) o.1) a b l m s t e
        ]
      ]

  pub ready_fits : AreNames n → (leaves_meet : L → L → Bool) → ReadyFits n leaf_of stays leaves_meet
  ready_fits names leaves_meet = λ kept new fresh in_area once ready same.
      let all : Once (names_in n fresh) = stands_once n names leaves_meet fresh fresh once in
      let below : (path : List E) → Once (keys n (level_at n path fresh)) = λ path. once_keys n (level_at n path fresh) (once_level n path fresh all) in
      let narrow : (p : L → Bool) (path : List E) (a b : E) → Before (keys n (level_at n path (only p fresh))) a b → Before (keys n (level_at n path fresh)) a b =
      λ p path a b h. before_only n p (level_at n path fresh) a b (subst (λ x. Before (keys n x) a b) (level-only n p path fresh) h) in
      record {
        nodes_are = ready.nodes_are;
        once_kept = ready.names_once;
        once_new = λ path. subst (λ x. order.Once (keys n (level_at n path x))) (sym same) (once_to (keys n (level_at n path (only in_area fresh))) (once_keys n (level_at n path (only in_area fresh)) (once_level n path (only in_area fresh) (once_only n names in_area fresh all))));
        once_fresh = λ path. once_to (keys n (level_at n path fresh)) (below path);
        in_order = ready.in_order;
        old_forward = λ path a b r. narrow stays path a b ((ready.ready.sound path).forward a b r);
        new_forward = λ path a b h. narrow in_area path a b (subst (λ x. Before (keys n (level_at n path x)) a b) same h);
        old_heads = λ path h c. contains_from (heads (level_at n path fresh)) h (old_heads names leaves_meet (bare n leaf_of kept.entries) fresh ready.ready.stands path h (has_from (heads (level_at n path (only stays (bare n leaf_of kept.entries)))) h c));
        new_heads = λ path h c. contains_from (heads (level_at n path fresh)) h (only_heads in_area fresh path h (has_from (heads (level_at n path (only in_area fresh))) h (subst (λ x. Contains (heads (level_at n path x)) h) same c)));
        one_place = λ path a b l m c d e. held_one names (level_at n path fresh) (once_level n path fresh all) a b l m
            (old_held names leaves_meet (bare n leaf_of kept.entries) fresh ready.ready.stands path a l (has_from (held n a (level_at n path (only stays (bare n leaf_of kept.entries)))) l c))
            (only_held in_area fresh path b m (has_from (held n b (level_at n path (only in_area fresh))) m (subst (λ x. Contains (held n b (level_at n path x)) m) same d))) e;
      }

  pub merged_once : AreNames n → MergedOnce n leaf_of stays
  merged_once names = λ kept joined new merged path. once_to (keys n (level_at n path (bare n leaf_of joined.entries))) (once_from n.same names.sound names.reflexive (keys n (level_at n path (bare n leaf_of joined.entries))) (merged.merges path).once)

  pub new_inside : AreNames n → (new : Entries G M) (e : E) → Once (keys n (bare_new n leaf_of new)) → bare_new n leaf_of (within_new n leaf_of stays e new) ≡ inside n e (bare_new n leaf_of new)
  new_inside names nil e o = refl
  new_inside names (leaf m xs) e o = new_inside names xs e o.1
  new_inside names (group g inner xs) e o = elim (cases (n.same e (n.group g))) [
    | inl t ↦
        let none : inside n e (bare_new n leaf_of xs) ≡ nil = inside_none n names.sound e (bare_new n leaf_of xs) (λ h. o.0 (subst (λ (x : E). Has (keys n (bare_new n leaf_of xs)) x) (names.sound e (n.group g) t) h)) in
        rw (t, none) (sym (join-nil (bare_new n leaf_of inner)))
    | inr f ↦ rw f (new_inside names xs e o.1)
  ]
