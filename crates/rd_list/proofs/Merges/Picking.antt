-- A merge with its items is put together from its level and its groups.
use Rattle.std.proofs.Common.{◌≡◌, refl, ap, ◌∙◌, sym, subst, Bool, true, false, cond, List, [], ◌∷◌, inl, inr, ◌⊎◌}
use Rattle.std.specs.Prelude.{Contains, ◌↔◌}
use Rattle.rd_graph.specs.Graphs.{Graph, nodes}
use Rattle.rd_graph.proofs.Lists.Listing.{Has, Once, cases, never, has_from, contains_from, has_left, has_right, has_either, has_filter}
use Rattle.rd_graph.proofs.Reaching.Calls.{once_of}
use Rattle.rd_list.specs.Entries.{Entries, nil, leaf, group, ◌▷◌, flat, heads, only, grouped_if_any}
use Rattle.rd_list.specs.Levels.{Names, keys, name, inside, held}
use Rattle.rd_list.proofs.Merges.Named.{AreNames}
use Rattle.rd_list.specs.Kept.{Ordered, KeptList, bare, bare_new, within, IsMerged}
use Rattle.rd_list.specs.Internal.Fits.{Fits, MakesLevel, IsPicked, Picking, MergesTo, is_group, within_new}
use Rattle.rd_list.proofs.Merges.Levelling.{join-nil, flat-join, held-only, held_key, has_only, inside_flat}
use Rattle.rd_list.proofs.Merges.Onces.{inside_none}
use Rattle.rd_list.proofs.Merges.Ordering.{once_same}
use Rattle.rd_list.proofs.Merges.Alikes.{keys-heads}
use Rattle.rd_list.proofs.Merges.Narrowing.{key_head, head_key}
use Rattle.rd_list.proofs.Merges.Fitting.{new_inside}
use Rattle.rd_list.proofs.Merges.Assembling.{assembling, head_group}

-- ---- any list

module _ {G M : Type 0} where
  leaf_flat : (xs : Entries G M) (i : M) → Has (heads xs) (inl i) → Has (flat xs) i
  leaf_flat nil i h = h
  leaf_flat (leaf m xs) i (inl e) = inl (let same : m ≡ i = cc in same)
  leaf_flat (leaf m xs) i (inr h) = inr (leaf_flat xs i h)
  leaf_flat (group g inner xs) i (inl e) = absurd (let no : inr g ≡ inl i = e in cc)
  leaf_flat (group g inner xs) i (inr h) = has_right (flat inner) (flat xs) i (leaf_flat xs i h)

module _ {E G M : Type 0} (n : Names E G M) (names : AreNames n) where
  -- a leaf stands at the level, or in a group of it
  flat_split : (xs : Entries G M) (i : M) → Has (flat xs) i → Has (heads xs) (inl i) ⊎ ((g : G) × Has (heads xs) (inr g) × Has (flat (inside n (n.group g) xs)) i)
  flat_split nil i h = absurd h
  flat_split (leaf m xs) i (inl e) = inl (inl (ap inl e))
  flat_split (leaf m xs) i (inr h) = elim (flat_split xs i h) [ inl k ↦ inl (inr k) | inr r ↦ inr (r.0, inr r.1, r.2) ]
  flat_split (group g inner xs) i h = elim (has_either (flat inner) (flat xs) i h) [
    | inl k ↦ inr (g, inl refl, rw (names.reflexive (n.group g), flat-join inner (inside n (n.group g) xs)) (has_left (flat inner) (flat (inside n (n.group g) xs)) i k))
    | inr k ↦ elim (flat_split xs i k) [
      | inl t ↦ inl (inr t)
      | inr r ↦
          let first : Entries G M = cond (n.same (n.group r.0) (n.group g)) inner nil in
          inr (r.0, inr r.1, rw (flat-join first (inside n (n.group r.0) xs)) (has_right (flat first) (flat (inside n (n.group r.0) xs)) i r.2))
    ]
  ]

  pub same_head : (xs : Entries G M) (a b : M ⊎ G) → Once (keys n xs) → Has (heads xs) a → Has (heads xs) b → name n a ≡ name n b → a ≡ b
  same_head xs a b o h k e = once_same (name n) (heads xs) a b (subst Once (keys-heads n xs) o) h k e

module _ {E G M L : Type 0} (n : Names E G L) (leaf_of : M → L) (stays : L → Bool) where
  -- items are named as their leaves
  abbrev kept_names : Names E (Ordered E G) M
  kept_names = record { same = n.same; leaf = λ m. n.leaf (leaf_of m); group = λ o. n.group o.of }

  abbrev new_names : Names E G M
  new_names = record { same = n.same; leaf = λ m. n.leaf (leaf_of m); group = n.group }

  pub keys-kept : (xs : Entries (Ordered E G) M) → keys kept_names xs ≡ keys n (bare n leaf_of xs)
  keys-kept nil = refl
  keys-kept (leaf m xs) = ap (λ ks. n.leaf (leaf_of m) ∷ ks) (keys-kept xs)
  keys-kept (group g inner xs) = ap (λ ks. n.group g.of ∷ ks) (keys-kept xs)

  pub keys-new : (xs : Entries G M) → keys new_names xs ≡ keys n (bare_new n leaf_of xs)
  keys-new nil = refl
  keys-new (leaf m xs) = ap (λ ks. n.leaf (leaf_of m) ∷ ks) (keys-new xs)
  keys-new (group g inner xs) = ap (λ ks. n.group g ∷ ks) (keys-new xs)

  -- heads with and without graphs and numbers
  pub kept_leaf : (xs : Entries (Ordered E G) M) (m : M) → Has (heads xs) (inl m) → Has (heads (bare n leaf_of xs)) (inl (leaf_of m))
  kept_leaf nil m h = h
  kept_leaf (leaf k xs) m (inl e) = inl (let same : k ≡ m = cc in ap (λ z. inl (leaf_of z)) same)
  kept_leaf (leaf k xs) m (inr h) = inr (kept_leaf xs m h)
  kept_leaf (group g inner xs) m (inl e) = absurd (let no : inr g ≡ inl m = e in cc)
  kept_leaf (group g inner xs) m (inr h) = inr (kept_leaf xs m h)

  pub kept_group : (xs : Entries (Ordered E G) M) (g : Ordered E G) → Has (heads xs) (inr g) → Has (heads (bare n leaf_of xs)) (inr g.of)
  kept_group nil g h = h
  kept_group (leaf k xs) g (inl e) = absurd (let no : inl k ≡ inr g = e in cc)
  kept_group (leaf k xs) g (inr h) = inr (kept_group xs g h)
  kept_group (group k inner xs) g (inl e) = inl (let same : k ≡ g = cc in ap (λ (z : Ordered E G). inr z.of) same)
  kept_group (group k inner xs) g (inr h) = inr (kept_group xs g h)

  leaf_kept : (xs : Entries (Ordered E G) M) (l : L) → Has (heads (bare n leaf_of xs)) (inl l) → (m : M) × Has (heads xs) (inl m) × (leaf_of m ≡ l)
  leaf_kept nil l h = absurd h
  leaf_kept (leaf k xs) l (inl e) = (k, inl refl, let same : leaf_of k ≡ l = cc in same)
  leaf_kept (leaf k xs) l (inr h) = let r = leaf_kept xs l h in (r.0, inr r.1, r.2)
  leaf_kept (group g inner xs) l (inl e) = absurd (let no : inr g.of ≡ inl l = e in cc)
  leaf_kept (group g inner xs) l (inr h) = let r = leaf_kept xs l h in (r.0, inr r.1, r.2)

  pub new_leaf : (xs : Entries G M) (m : M) → Has (heads xs) (inl m) → Has (heads (bare_new n leaf_of xs)) (inl (leaf_of m))
  new_leaf nil m h = h
  new_leaf (leaf k xs) m (inl e) = inl (let same : k ≡ m = cc in ap (λ z. inl (leaf_of z)) same)
  new_leaf (leaf k xs) m (inr h) = inr (new_leaf xs m h)
  new_leaf (group g inner xs) m (inl e) = absurd (let no : inr g ≡ inl m = e in cc)
  new_leaf (group g inner xs) m (inr h) = inr (new_leaf xs m h)

  pub new_group : (xs : Entries G M) (g : G) → Has (heads xs) (inr g) → Has (heads (bare_new n leaf_of xs)) (inr g)
  new_group nil g h = h
  new_group (leaf k xs) g (inl e) = absurd (let no : inl k ≡ inr g = e in cc)
  new_group (leaf k xs) g (inr h) = inr (new_group xs g h)
  new_group (group k inner xs) g (inl e) = inl (let same : k ≡ g = cc in ap inr same)
  new_group (group k inner xs) g (inr h) = inr (new_group xs g h)

  -- a leaf that stays is still at its level
  leaf_only : (xs : Entries G L) (l : L) → Has (heads xs) (inl l) → stays l ≡ true → Has (heads (only stays xs)) (inl l)
  leaf_only nil l h t = h
  leaf_only (leaf k xs) l (inl e) t = let same : k ≡ l = cc in let s : stays k ≡ true = ap stays same ∙ t in rw s (inl e)
  leaf_only (leaf k xs) l (inr h) t = elim (cases (stays k)) [ inl s ↦ rw s (inr (leaf_only xs l h t)) | inr s ↦ rw s (leaf_only xs l h t) ]
  leaf_only (group g inner xs) l (inl e) t = absurd (let no : inr g ≡ inl l = e in cc)
  leaf_only (group g inner xs) l (inr h) t = grouped_too (only stays inner) (leaf_only xs l h t)
    where
      grouped_too : (ys : Entries G L) → Has (heads (only stays xs)) (inl l) → Has (heads (grouped_if_any g ys (only stays xs))) (inl l)
      grouped_too nil k = k
      grouped_too (leaf m ys) k = inr k
      grouped_too (group m i ys) k = inr k

  module _ (names : AreNames n) where
    kept_names_are : AreNames kept_names
    kept_names_are = record { sound = names.sound; reflexive = names.reflexive; apart = λ m o. names.apart (leaf_of m) o.of }

    new_names_are : AreNames new_names
    new_names_are = record { sound = names.sound; reflexive = names.reflexive; apart = λ m g. names.apart (leaf_of m) g }

    not_both : (l : L) (g : G) → n.leaf l ≡ n.group g → ⊥
    not_both l g e = never (n.same (n.leaf l) (n.group g)) (subst (λ (z : E). n.same (n.leaf l) z ≡ true) e (names.reflexive (n.leaf l))) (names.apart l g)

    -- what stands in a group, by its name
    within-inside : (e : E) (xs : Entries (Ordered E G) M) → Once (keys n (bare n leaf_of xs)) → inside kept_names e xs ≡ (within n leaf_of e xs).entries
    within-inside e nil o = refl
    within-inside e (leaf m xs) o = within-inside e xs o.1
    within-inside e (group g inner xs) o = elim (cases (n.same e (n.group g.of))) [
      | inl t ↦
          let none : inside kept_names e xs ≡ nil = inside_none kept_names names.sound e xs (λ h. o.0 (subst (λ (x : E). Has (keys n (bare n leaf_of xs)) x) (names.sound e (n.group g.of) t) (subst (λ (ks : List E). Has ks e) (keys-kept xs) h))) in
          rw (t, none) (join-nil inner)
      | inr f ↦ rw f (within-inside e xs o.1)
    ]

    new-inside : (e : E) (xs : Entries G M) → Once (keys n (bare_new n leaf_of xs)) → inside new_names e xs ≡ within_new n leaf_of stays e xs
    new-inside e nil o = refl
    new-inside e (leaf m xs) o = new-inside e xs o.1
    new-inside e (group g inner xs) o = elim (cases (n.same e (n.group g))) [
      | inl t ↦
          let none : inside new_names e xs ≡ nil = inside_none new_names names.sound e xs (λ h. o.0 (subst (λ (x : E). Has (keys n (bare_new n leaf_of xs)) x) (names.sound e (n.group g) t) (subst (λ (ks : List E). Has ks e) (keys-new xs) h))) in
          rw (t, none) (join-nil inner)
      | inr f ↦ rw f (new-inside e xs o.1)
    ]

    -- ---- which entry holds an item's leaf

    flat_kept : (xs : Entries (Ordered E G) M) (i : M) → Has (flat xs) i → Has (flat (bare n leaf_of xs)) (leaf_of i)
    flat_kept nil i h = h
    flat_kept (leaf m xs) i (inl e) = inl (ap leaf_of e)
    flat_kept (leaf m xs) i (inr h) = inr (flat_kept xs i h)
    flat_kept (group g inner xs) i h = elim (has_either (flat inner) (flat xs) i h) [
      | inl k ↦ has_left (flat (bare n leaf_of inner)) (flat (bare n leaf_of xs)) (leaf_of i) (flat_kept inner i k)
      | inr k ↦ has_right (flat (bare n leaf_of inner)) (flat (bare n leaf_of xs)) (leaf_of i) (flat_kept xs i k)
    ]

    flat_new : (xs : Entries G M) (i : M) → Has (flat xs) i → Has (flat (bare_new n leaf_of xs)) (leaf_of i)
    flat_new nil i h = h
    flat_new (leaf m xs) i (inl e) = inl (ap leaf_of e)
    flat_new (leaf m xs) i (inr h) = inr (flat_new xs i h)
    flat_new (group g inner xs) i h = elim (has_either (flat inner) (flat xs) i h) [
      | inl k ↦ has_left (flat (bare_new n leaf_of inner)) (flat (bare_new n leaf_of xs)) (leaf_of i) (flat_new inner i k)
      | inr k ↦ has_right (flat (bare_new n leaf_of inner)) (flat (bare_new n leaf_of xs)) (leaf_of i) (flat_new xs i k)
    ]

    -- a leaf of a level is held by its own name
    held_leaf : (xs : Entries G L) (l : L) → Has (heads xs) (inl l) → Has (held n (n.leaf l) xs) l
    held_leaf nil l h = h
    held_leaf (leaf k xs) l (inl e) = let same : k ≡ l = cc in rw (same, names.reflexive (n.leaf l)) (inl refl)
    held_leaf (leaf k xs) l (inr h) = has_right (cond (n.same (n.leaf l) (n.leaf k)) (k ∷ []) []) (held n (n.leaf l) xs) l (held_leaf xs l h)
    held_leaf (group g inner xs) l (inl e) = absurd (let no : inr g ≡ inl l = e in cc)
    held_leaf (group g inner xs) l (inr h) = has_right (cond (n.same (n.leaf l) (n.group g)) (flat inner) []) (held n (n.leaf l) xs) l (held_leaf xs l h)

    held_kept : (e : E) (xs : Entries (Ordered E G) M) (i : M) → Has (flat (inside kept_names e xs)) i → Has (held n e (bare n leaf_of xs)) (leaf_of i)
    held_kept e nil i h = h
    held_kept e (leaf m xs) i h = has_right (cond (n.same e (n.leaf (leaf_of m))) (leaf_of m ∷ []) []) (held n e (bare n leaf_of xs)) (leaf_of i) (held_kept e xs i h)
    held_kept e (group g inner xs) i h = elim (cases (n.same e (n.group g.of))) [
      | inl t ↦
          let k : Has (flat (inner ▷ inside kept_names e xs)) i = rw t at h in
          rw t (elim (has_either (flat inner) (flat (inside kept_names e xs)) i (rw (flat-join inner (inside kept_names e xs)) at k)) [
            | inl r ↦ has_left (flat (bare n leaf_of inner)) (held n e (bare n leaf_of xs)) (leaf_of i) (flat_kept inner i r)
            | inr r ↦ has_right (flat (bare n leaf_of inner)) (held n e (bare n leaf_of xs)) (leaf_of i) (held_kept e xs i r)
          ])
      | inr f ↦ let k : Has (flat (inside kept_names e xs)) i = rw f at h in rw f (held_kept e xs i k)
    ]

    held_new : (e : E) (xs : Entries G M) (i : M) → Has (flat (inside new_names e xs)) i → Has (held n e (bare_new n leaf_of xs)) (leaf_of i)
    held_new e nil i h = h
    held_new e (leaf m xs) i h = has_right (cond (n.same e (n.leaf (leaf_of m))) (leaf_of m ∷ []) []) (held n e (bare_new n leaf_of xs)) (leaf_of i) (held_new e xs i h)
    held_new e (group g inner xs) i h = elim (cases (n.same e (n.group g))) [
      | inl t ↦
          let k : Has (flat (inner ▷ inside new_names e xs)) i = rw t at h in
          rw t (elim (has_either (flat inner) (flat (inside new_names e xs)) i (rw (flat-join inner (inside new_names e xs)) at k)) [
            | inl r ↦ has_left (flat (bare_new n leaf_of inner)) (held n e (bare_new n leaf_of xs)) (leaf_of i) (flat_new inner i r)
            | inr r ↦ has_right (flat (bare_new n leaf_of inner)) (held n e (bare_new n leaf_of xs)) (leaf_of i) (held_new e xs i r)
          ])
      | inr f ↦ let k : Has (flat (inside new_names e xs)) i = rw f at h in rw f (held_new e xs i k)
    ]

    module _ (kept joined : KeptList E G M) (new : Entries G M) (fresh : Entries G L) (gone : E → Bool) (dropped : Graph E) (line : List E)
        (fits : Fits n leaf_of stays kept (bare_new n leaf_of new) fresh) (made : MakesLevel n leaf_of stays kept (bare_new n leaf_of new) gone dropped joined.graph line)
        (same : keys n (bare n leaf_of joined.entries) ≡ line) (picked : IsPicked n leaf_of stays kept new joined) where
      abbrev K : Entries G L
      K = bare n leaf_of kept.entries

      abbrev S : Entries G L
      S = only stays K

      abbrev N : Entries G L
      N = bare_new n leaf_of new

      abbrev J : Entries G L
      J = bare n leaf_of joined.entries

      kept_once : Once (keys n K)
      kept_once = once_of (keys n K) (fits.once_kept [])

      new_once : Once (keys n N)
      new_once = once_of (keys n N) (fits.once_new [])

      joined_once : Once (keys n J)
      joined_once = subst Once (sym same) (once_of line made.ordered.once)

      -- each name that stays or is new stands in the level
      in_line : (a : E) → Contains (nodes joined.graph) a → Has (keys n J) a
      in_line a c = subst (λ (ks : List E). Has ks a) (made.standing ∙ sym same) (has_from (nodes joined.graph) a c)

      new_in : (a : E) → Has (keys n N) a → Has (keys n J) a
      new_in a h = in_line a ((made.adds.nodes_are a).1 (inr (contains_from (keys n N) a h)))

      stay_in : (a : E) → Has (keys n S) a → Has (keys n J) a
      stay_in a h =
          let k : Contains (keys n K) a = contains_from (keys n K) a (has_only n stays K a h) in
          let g : Contains (nodes kept.graph) a = subst (λ (ks : List E). Contains ks a) (sym (fits.nodes_are [])) k in
          in_line a ((made.adds.nodes_are a).1 (inl ((made.drops.nodes_are a).1 (g, (made.told a k).1 (contains_from (keys n S) a h)))))

      -- ---- heads

      to_heads : (h : L ⊎ G) → Has (heads J) h → Has (heads S) h ⊎ Has (heads N) h
      to_heads (inl l) h =
          let r = leaf_kept joined.entries l h in
          elim (picked.leaves r.0 (contains_from (heads joined.entries) (inl r.0) r.1)) [
            | inl c ↦ inr (subst (λ (z : L). Has (heads N) (inl z)) r.2 (new_leaf new r.0 (has_from (heads new) (inl r.0) c)))
            | inr c ↦ inl (subst (λ (z : L). Has (heads S) (inl z)) r.2 (leaf_only K (leaf_of r.0) (kept_leaf kept.entries r.0 (has_from (heads kept.entries) (inl r.0) c.0)) c.1))
          ]
      to_heads (inr g) h = elim (picked.groups g (contains_from (heads J) (inr g) h)) [
        | inl c ↦ inl (has_from (heads S) (inr g) c)
        | inr c ↦ inr (new_group new g (has_from (heads new) (inr g) c))
      ]

      in_fresh : (h : L ⊎ G) → Has (heads S) h ⊎ Has (heads N) h → Has (heads fresh) h
      in_fresh h (inl k) = has_from (heads fresh) h (fits.old_heads [] h (contains_from (heads S) h k))
      in_fresh h (inr k) = has_from (heads fresh) h (fits.new_heads [] h (contains_from (heads N) h k))

      key_of : (h : L ⊎ G) → Has (heads S) h ⊎ Has (heads N) h → Has (keys n J) (name n h)
      key_of h (inl k) = stay_in (name n h) (head_key n names S h k)
      key_of h (inr k) = new_in (name n h) (head_key n names N h k)

      back_heads : (h : L ⊎ G) → Has (heads S) h ⊎ Has (heads N) h → Has (heads J) h
      back_heads h k =
          let r = key_head n names J (name n h) (key_of h k) in
          let e : r.0 ≡ h = same_head n names fresh r.0 h (once_of (keys n fresh) (fits.once_fresh [])) (in_fresh r.0 (to_heads r.0 r.1)) (in_fresh h k) r.2 in
          subst (λ (z : L ⊎ G). Has (heads J) z) e r.1

      entries : (h : L ⊎ G) → Contains (heads J) h ↔ (Contains (heads S) h ⊎ Contains (heads N) h)
      entries h = (
        (λ c. elim (to_heads h (has_from (heads J) h c)) [ inl k ↦ inl (contains_from (heads S) h k) | inr k ↦ inr (contains_from (heads N) h k) ]),
        (λ c. contains_from (heads J) h (back_heads h (elim c [ inl k ↦ inl (has_from (heads S) h k) | inr k ↦ inr (has_from (heads N) h k) ]))),
      )

      is_there : (g : G) → Has (heads J) (inr g) → is_group n leaf_of stays (n.group g) J ≡ true
      is_there g h = head_group n leaf_of stays (n.group g) J g h (names.reflexive (n.group g))

      group_there : (g : G) → Has (keys n J) (n.group g) → is_group n leaf_of stays (n.group g) J ≡ true
      group_there g k =
          let r = key_head n names J (n.group g) k in
          by r.0 r.1 r.2
        where
          by : (h : L ⊎ G) → Has (heads J) h → name n h ≡ n.group g → is_group n leaf_of stays (n.group g) J ≡ true
          by (inl l) m e = absurd (not_both l g e)
          by (inr k) m e = subst (λ (z : E). is_group n leaf_of stays z J ≡ true) e (is_there k m)

      -- ---- items

      -- a new item of the name of one that stays stands in the same entry
      same_entry : (e : E) (i j : M) → Has (held n e S) (leaf_of i) → Has (flat new) j → n.leaf (leaf_of i) ≡ n.leaf (leaf_of j)
          → (Has (keys n N) (n.leaf (leaf_of j)) × (e ≡ n.leaf (leaf_of j))) ⊎ ((g : G) × (e ≡ n.group g) × Has (flat (within_new n leaf_of stays e new)) j)
      same_entry e i j h k s = elim (flat_split new_names new_names_are new j k) [
        | inl t ↦
            let there : Has (heads N) (inl (leaf_of j)) = new_leaf new j t in
            inl (head_key n names N (inl (leaf_of j)) there, fits.one_place [] e (n.leaf (leaf_of j)) (leaf_of i) (leaf_of j) (contains_from (held n e S) (leaf_of i) h) (contains_from (held n (n.leaf (leaf_of j)) N) (leaf_of j) (held_leaf N (leaf_of j) there)) s)
        | inr t ↦
            let place : e ≡ n.group t.0 = fits.one_place [] e (n.group t.0) (leaf_of i) (leaf_of j) (contains_from (held n e S) (leaf_of i) h) (contains_from (held n (n.group t.0) N) (leaf_of j) (held_new (n.group t.0) new j t.2)) s in
            inr (t.0, place, subst (λ (x : Entries G M). Has (flat x) j) (new-inside e new new_once) (subst (λ (z : E). Has (flat (inside new_names z new)) j) (sym place) t.2))
      ]

      held_stays : (e : E) (i : M) → Has (held n e K) (leaf_of i) → stays (leaf_of i) ≡ true → Has (held n e S) (leaf_of i)
      held_stays e i h t = rw (held-only n stays e K) (has_filter stays (held n e K) (leaf_of i) h t)

      differs : (i j : M) → (n.leaf (leaf_of i) ≡ n.leaf (leaf_of j) → ⊥) → n.same (n.leaf (leaf_of i)) (n.leaf (leaf_of j)) ≡ false
      differs i j apart = elim (cases (n.same (n.leaf (leaf_of i)) (n.leaf (leaf_of j)))) [ inl t ↦ absurd (apart (names.sound (n.leaf (leaf_of i)) (n.leaf (leaf_of j)) t)) | inr f ↦ f ]

      alike : (i j : M) → n.leaf (leaf_of i) ≡ n.leaf (leaf_of j) → n.same (n.leaf (leaf_of i)) (n.leaf (leaf_of j)) ≡ true
      alike i j e = subst (λ (z : E). n.same (n.leaf (leaf_of i)) z ≡ true) e (names.reflexive (n.leaf (leaf_of i)))

      abbrev IsOld : M → Type 0
      IsOld i = Contains (flat kept.entries) i × (stays (leaf_of i) ≡ true) × ((j : M) → Contains (flat new) j → n.same (n.leaf (leaf_of i)) (n.leaf (leaf_of j)) ≡ false)

      from_leaf : (i : M) → Has (heads joined.entries) (inl i) → Contains (flat new) i ⊎ IsOld i
      from_leaf i h = elim (picked.leaves i (contains_from (heads joined.entries) (inl i) h)) [
        | inl c ↦ inl (contains_from (flat new) i (leaf_flat new i (has_from (heads new) (inl i) c)))
        | inr c ↦
            let there : Has (heads kept.entries) (inl i) = has_from (heads kept.entries) (inl i) c.0 in
            let h : Has (held n (n.leaf (leaf_of i)) S) (leaf_of i) = held_stays (n.leaf (leaf_of i)) i (held_leaf K (leaf_of i) (kept_leaf kept.entries i there)) c.1 in
            inr (
              contains_from (flat kept.entries) i (leaf_flat kept.entries i there),
              c.1,
              λ j d. differs i j (λ s. elim (same_entry (n.leaf (leaf_of i)) i j h (has_from (flat new) j d) s) [
                | inl r ↦ c.2 (contains_from (keys n N) (n.leaf (leaf_of i)) (subst (λ (z : E). Has (keys n N) z) (sym s) r.0))
                | inr r ↦ not_both (leaf_of i) r.0 r.1
              ]),
            )
      ]

      from_group : (g : G) (i : M) → is_group n leaf_of stays (n.group g) J ≡ true → Has (flat (inside kept_names (n.group g) joined.entries)) i → Contains (flat new) i ⊎ IsOld i
      from_group g i t h =
          let e : E = n.group g in
          let here : Has (flat ((within n leaf_of e joined.entries).entries)) i = subst (λ (x : Entries (Ordered E G) M). Has (flat x) i) (within-inside e joined.entries joined_once) h in
          elim (((picked.inner e t).items i).0 (contains_from (flat ((within n leaf_of e joined.entries).entries)) i here)) [
            | inl c ↦ inl (contains_from (flat new) i (inside_flat new_names e new i (subst (λ (x : Entries G M). Has (flat x) i) (sym (new-inside e new new_once)) (has_from (flat (within_new n leaf_of stays e new)) i c))))
            | inr c ↦
                let old : Has (flat (inside kept_names e kept.entries)) i = subst (λ (x : Entries (Ordered E G) M). Has (flat x) i) (sym (within-inside e kept.entries kept_once)) (has_from (flat ((within n leaf_of e kept.entries).entries)) i c.0) in
                let held_in : Has (held n e S) (leaf_of i) = held_stays e i (held_kept e kept.entries i old) c.1 in
                inr (
                  contains_from (flat kept.entries) i (inside_flat kept_names e kept.entries i old),
                  c.1,
                  λ j d. differs i j (λ s. elim (same_entry e i j held_in (has_from (flat new) j d) s) [
                    | inl r ↦ not_both (leaf_of j) g (sym r.1)
                    | inr r ↦ never (n.same (n.leaf (leaf_of i)) (n.leaf (leaf_of j))) (alike i j s) (c.2 j (contains_from (flat (within_new n leaf_of stays e new)) j r.2))
                  ]),
                )
          ]

      to_items : (i : M) → Has (flat joined.entries) i → Contains (flat new) i ⊎ IsOld i
      to_items i h = elim (flat_split kept_names kept_names_are joined.entries i h) [
        | inl k ↦ from_leaf i k
        | inr r ↦ from_group r.0.of i (is_there r.0.of (kept_group joined.entries r.0 r.1)) r.2
      ]

      -- back
      item_head : (a : E) → Has (keys n J) a → (h : M ⊎ Ordered E G) × Has (heads joined.entries) h × (name kept_names h ≡ a)
      item_head a k = key_head kept_names kept_names_are joined.entries a (subst (λ (ks : List E). Has ks a) (sym (keys-kept joined.entries)) k)

      new_item : (i : M) → Has (heads new) (inl i) → Has (flat joined.entries) i
      new_item i h =
          let k : Has (keys n N) (n.leaf (leaf_of i)) = head_key n names N (inl (leaf_of i)) (new_leaf new i h) in
          let r = item_head (n.leaf (leaf_of i)) (new_in (n.leaf (leaf_of i)) k) in
          by r.0 r.1 r.2 k
        where
          by : (a : M ⊎ Ordered E G) → Has (heads joined.entries) a → name kept_names a ≡ n.leaf (leaf_of i) → Has (keys n N) (n.leaf (leaf_of i)) → Has (flat joined.entries) i
          by (inl m) c e k = elim (picked.leaves m (contains_from (heads joined.entries) (inl m) c)) [
            | inl d ↦
                let one : inl m ≡ inl i = same_head new_names new_names_are new (inl m) (inl i) (subst Once (sym (keys-new new)) new_once) (has_from (heads new) (inl m) d) h e in
                leaf_flat joined.entries i (subst (λ (z : M ⊎ Ordered E G). Has (heads joined.entries) z) (let is : m ≡ i = cc in ap inl is) c)
            | inr d ↦ absurd (d.2 (contains_from (keys n N) (n.leaf (leaf_of m)) (subst (λ (z : E). Has (keys n N) z) (sym e) k)))
          ]
          by (inr g) c e k = absurd (not_both (leaf_of i) g.of (sym e))

      old_item : (i : M) → Has (heads kept.entries) (inl i) → stays (leaf_of i) ≡ true → ((j : M) → Contains (flat new) j → n.same (n.leaf (leaf_of i)) (n.leaf (leaf_of j)) ≡ false) → Has (flat joined.entries) i
      old_item i h t without =
          let k : Has (keys n S) (n.leaf (leaf_of i)) = head_key n names S (inl (leaf_of i)) (leaf_only K (leaf_of i) (kept_leaf kept.entries i h) t) in
          let r = item_head (n.leaf (leaf_of i)) (stay_in (n.leaf (leaf_of i)) k) in
          by r.0 r.1 r.2
        where
          by : (a : M ⊎ Ordered E G) → Has (heads joined.entries) a → name kept_names a ≡ n.leaf (leaf_of i) → Has (flat joined.entries) i
          by (inl m) c e = elim (picked.leaves m (contains_from (heads joined.entries) (inl m) c)) [
            | inl d ↦ absurd (never (n.same (n.leaf (leaf_of i)) (n.leaf (leaf_of m))) (alike i m (sym e)) (without m (contains_from (flat new) m (leaf_flat new m (has_from (heads new) (inl m) d)))))
            | inr d ↦
                let one : inl m ≡ inl i = same_head kept_names kept_names_are kept.entries (inl m) (inl i) (subst Once (sym (keys-kept kept.entries)) kept_once) (has_from (heads kept.entries) (inl m) d.0) h e in
                leaf_flat joined.entries i (subst (λ (z : M ⊎ Ordered E G). Has (heads joined.entries) z) (let is : m ≡ i = cc in ap inl is) c)
          ]
          by (inr g) c e = absurd (not_both (leaf_of i) g.of (sym e))

      -- an item of a group of the merge is an item of the merge
      group_item : (g : G) (i : M) → is_group n leaf_of stays (n.group g) J ≡ true
          → Contains (flat (within_new n leaf_of stays (n.group g) new)) i
          ⊎ (Contains (flat ((within n leaf_of (n.group g) kept.entries).entries)) i × (stays (leaf_of i) ≡ true) × ((j : M) → Contains (flat (within_new n leaf_of stays (n.group g) new)) j → n.same (n.leaf (leaf_of i)) (n.leaf (leaf_of j)) ≡ false))
          → Has (flat joined.entries) i
      group_item g i t c =
          let e : E = n.group g in
          inside_flat kept_names e joined.entries i (subst (λ (x : Entries (Ordered E G) M). Has (flat x) i) (sym (within-inside e joined.entries joined_once))
          (has_from (flat ((within n leaf_of e joined.entries).entries)) i (((picked.inner e t).items i).1 c)))

      back_new : (i : M) → Has (flat new) i → Has (flat joined.entries) i
      back_new i h = elim (flat_split new_names new_names_are new i h) [
        | inl k ↦ new_item i k
        | inr r ↦
            let e : E = n.group r.0 in
            group_item r.0 i (group_there r.0 (new_in e (head_key n names N (inr r.0) (new_group new r.0 r.1))))
            (inl (contains_from (flat (within_new n leaf_of stays e new)) i (subst (λ (x : Entries G M). Has (flat x) i) (new-inside e new new_once) r.2)))
      ]

      back_old : (i : M) → Has (flat kept.entries) i → stays (leaf_of i) ≡ true → ((j : M) → Contains (flat new) j → n.same (n.leaf (leaf_of i)) (n.leaf (leaf_of j)) ≡ false) → Has (flat joined.entries) i
      back_old i h t without = elim (flat_split kept_names kept_names_are kept.entries i h) [
        | inl k ↦ old_item i k t without
        | inr r ↦
            let e : E = n.group r.0.of in
            let k : Has (keys n S) e = held_key n names.sound e S (leaf_of i) (held_stays e i (held_kept e kept.entries i r.2) t) in
            group_item r.0.of i (group_there r.0.of (stay_in e k)) (inr (
              contains_from (flat ((within n leaf_of e kept.entries).entries)) i (subst (λ (x : Entries (Ordered E G) M). Has (flat x) i) (within-inside e kept.entries kept_once) r.2),
              t,
              (λ j c. without j (contains_from (flat new) j (inside_flat new_names e new j (subst (λ (x : Entries G M). Has (flat x) j) (sym (new-inside e new new_once)) (has_from (flat (within_new n leaf_of stays e new)) j c))))),
            ))
      ]

      picked_merged : IsMerged n leaf_of stays kept new joined
      picked_merged =
          let whole = assembling n leaf_of stays names kept joined N fresh gone dropped line fits made same entries (λ e t.
          let m = picked.inner e t in
          (subst (λ (x : Entries G L). MergesTo n leaf_of stays (within n leaf_of e kept.entries) x (within n leaf_of e joined.entries)) (new_inside n leaf_of stays names new e new_once) m.merges, m.nodes_are)) in
          record {
            nodes_are = whole.1;
            merges = whole.0;
            items = λ i. (
              (λ c. to_items i (has_from (flat joined.entries) i c)),
              (λ c. contains_from (flat joined.entries) i (elim c [ inl d ↦ back_new i (has_from (flat new) i d) | inr d ↦ back_old i (has_from (flat kept.entries) i d.0) d.1 d.2 ])),
            );
          }

    pub picking : Picking n leaf_of stays
    picking = λ kept joined new fresh gone dropped line fits made same picked. picked_merged kept joined new fresh gone dropped line fits made same picked
