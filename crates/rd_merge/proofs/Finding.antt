-- Entries of a level, by what is said of them and by their names.
use Rattle.std.proofs.Common.{◌≡◌, refl, ap, ◌∙◌, sym, subst, ℕ, zero, suc, ◌+◌, Bool, true, false, List, [], ◌∷◌, ◌++◌, take, drop, arith, inl, inr, ◌⊎◌}
use Rattle.std.specs.Prelude.{Option, Some, None, map}
use Rattle.rd_graph.specs.Gathered.{gathered, arranged}
use Rattle.rd_graph.specs.Names.{same_entry, place_of, next_place}
use Rattle.rd_graph.specs.Patches.{not_found}
use Rattle.rd_graph.proofs.Lists.Entries.{same_entry-sound, same_entry-refl, place_some}
use Rattle.rd_graph.proofs.Lists.Listing.{Has, Once, cases, never, has_map, has_either}
use Rattle.rd_graph.proofs.Patches.PutInPlace.{gathered_map}
use Rattle.rd_keys.specs.declared.entry.EntryKey.{EntryKey}
use Rattle.rd_item.specs.declared.leaf.Leaf.{Leaf}
use Rattle.rd_item.specs.Items.{Made}
use Rattle.rd_list.specs.Wrappers.{Wrapper}
use Rattle.rd_list.specs.Entries.{Entries, nil, leaf, group, heads, only, grouped_if_any}
use Rattle.rd_list.specs.EntryNames.{entry_names, made_leaf, kept_leaves, new_names, new_leaves}
use Rattle.rd_list.specs.Internal.Fits.{Fits, is_group, within_new}
use Rattle.rd_list.specs.Kept.{Ordered, KeptList, within}
use Rattle.rd_list.specs.Levels.{keys, name, inside}
use Rattle.rd_list.proofs.Merges.Fitting.{fits_inside, new_inside}
use Rattle.rd_list.proofs.Merges.Naming.{entry_names_are}
use Rattle.rd_list.proofs.Merges.Narrowing.{key_head}
use Rattle.rd_list.proofs.Merges.Picking.{same_head}
use Rattle.rd_list.proofs.Merges.Routing.{only_head}
use Rattle.rd_graph.proofs.Reaching.Calls.{once_of}
use Rattle.rd_merge.specs.Internal.Fitting.{FitsFor}
use Rattle.rd_merge.specs.Looking.{kept_names}
use Rattle.rd_merge.specs.Plans.{entry_at, gathered_entries, arranged_entries, old_list, IsGroupPlace}
use Rattle.rd_merge.proofs.Places.{HasGroup}
use Rattle.rd_merge.proofs.Puts.{at, ArePut}
use Rattle.rd_merge.proofs.SteppedLevel.{Olds, News, One, ones, one_name, ones_join, somes}

-- ---- a line of entries

one_at : (p : ℕ) (xs : Olds) → ones (entry_at p xs) ≡ take 1 (drop p (ones xs))
one_at zero nil = refl
one_at (suc p) nil = refl
one_at zero (leaf m xs) = refl
one_at zero (group g inner xs) = refl
one_at (suc p) (leaf m xs) = one_at p xs
one_at (suc p) (group g inner xs) = one_at p xs

ones_gathered : (line : List ℕ) (xs : Olds) → ones (gathered_entries line xs) ≡ gathered line (ones xs)
ones_gathered [] xs = refl
ones_gathered (p ∷ line) xs = ones_join (entry_at p xs) (gathered_entries line xs) ∙ ap (λ zs. zs ++ ones (gathered_entries line xs)) (one_at p xs) ∙ ap (λ zs. take 1 (drop p (ones xs)) ++ zs) (ones_gathered line xs)

pub ones_arranged : (line : Option (List ℕ)) (xs : Olds) → ones (arranged_entries line xs) ≡ arranged line (ones xs)
ones_arranged None xs = refl
ones_arranged (Some line) xs = ones_gathered line xs

module _ {T : Type 0} where
  one_of : (p : ℕ) (xs : List T) (x : T) → Has (take 1 (drop p xs)) x → Has xs x
  one_of zero [] x h = absurd h
  one_of (suc p) [] x h = absurd h
  one_of zero (y ∷ xs) x h = elim h [ inl e ↦ inl e | inr b ↦ absurd b ]
  one_of (suc p) (y ∷ xs) x h = inr (one_of p xs x h)

  gathered_has : (line : List ℕ) (xs : List T) (x : T) → Has (gathered line xs) x → Has xs x
  gathered_has [] xs x h = absurd h
  gathered_has (p ∷ line) xs x h = elim (has_either (take 1 (drop p xs)) (gathered line xs) x h) [ inl k ↦ one_of p xs x k | inr k ↦ gathered_has line xs x k ]

  pub arranged_has : (line : Option (List ℕ)) (xs : List T) (x : T) → Has (arranged line xs) x → Has xs x
  arranged_has None xs x h = h
  arranged_has (Some line) xs x h = gathered_has line xs x h

pub arranged_map : {S T : Type 0} (f : S → T) (line : Option (List ℕ)) (xs : List S) → arranged line (map f xs) ≡ map f (arranged line xs)
arranged_map f None xs = refl
arranged_map f (Some line) xs = gathered_map f line xs

-- ---- places of names

at_in : {T : Type 0} (i : ℕ) (xs : List T) (x : T) → at i xs ≡ Some x → Has xs x
at_in i [] x e = absurd (let bad : None ≡ Some x = e in cc)
at_in zero (y ∷ xs) x e = inl (let same : y ≡ x = cc in same)
at_in (suc i) (y ∷ xs) x e = inr (at_in i xs x e)

module _ {T : Type 0} (f : T → EntryKey) where
  pub place_at : (i : ℕ) (xs : List T) (x : T) → Once (map f xs) → at i xs ≡ Some x → place_of same_entry (map f xs) (f x) ≡ Some i
  place_at i [] x o e = absurd (let bad : None ≡ Some x = e in cc)
  place_at zero (y ∷ xs) x o e =
      let same : y ≡ x = cc in
      let t = same_entry-refl (f y) in
      let here : place_of same_entry (f y ∷ map f xs) (f y) ≡ Some 0 = rw t refl in
      subst (λ (z : T). place_of same_entry (f y ∷ map f xs) (f z) ≡ Some 0) same here
  place_at (suc i) (y ∷ xs) x o e = elim (cases (same_entry (f y) (f x))) [
    | inl t ↦ absurd (o.0 (subst (λ (z : EntryKey). Has (map f xs) z) (sym (same_entry-sound (f y) (f x) t)) (has_map f xs x (at_in i xs x e))))
    | inr g ↦ rw g (ap next_place (place_at i xs x o.1 e) ∙ ap Some (omega arith))
  ]

  pub are_put_map : (names : List EntryKey) (es : List T) → ArePut f names (map (λ k. place_of same_entry names k) (map f es)) es
  are_put_map names [] = tt
  are_put_map names (e ∷ es) = (refl, are_put_map names es)

  pub are_put_join : (names : List EntryKey) (os us : List (Option ℕ)) (es fs : List T) → ArePut f names os es → ArePut f names us fs → ArePut f names (os ++ us) (es ++ fs)
  are_put_join names [] us [] fs h k = k
  are_put_join names [] us (e ∷ es) fs h k = absurd h
  are_put_join names (o ∷ os) us [] fs h k = absurd h
  are_put_join names (o ∷ os) us (e ∷ es) fs h k = (h.0, are_put_join names os us es fs h.1 k)

  -- where names differ, no place comes twice
  somes_of : (names : List EntryKey) (os : List (Option ℕ)) (es : List T) (i : ℕ) → ArePut f names os es → Has (somes os) i → (k : EntryKey) × Has (map f es) k × (place_of same_entry names k ≡ Some i)
  somes_of names [] es i h c = absurd c
  somes_of names (o ∷ os) [] i h c = absurd h
  somes_of names (None ∷ os) (e ∷ es) i h c = let r = somes_of names os es i h.1 c in (r.0, inr r.1, r.2)
  somes_of names (Some j ∷ os) (e ∷ es) i h (inl q) = (f e, inl refl, sym h.0 ∙ ap Some q)
  somes_of names (Some j ∷ os) (e ∷ es) i h (inr c) = let r = somes_of names os es i h.1 c in (r.0, inr r.1, r.2)

  same_name : (names : List EntryKey) (k j : EntryKey) (i : ℕ) → place_of same_entry names k ≡ Some i → place_of same_entry names j ≡ Some i → k ≡ j
  same_name names k j i p q = sym ((place_some same_entry same_entry-sound same_entry-refl names k i p).1 k) ∙ (place_some same_entry same_entry-sound same_entry-refl names j i q).1 k

  pub somes_once : (names : List EntryKey) (os : List (Option ℕ)) (es : List T) → ArePut f names os es → Once (map f es) → Once (somes os)
  somes_once names [] es h o = tt
  somes_once names (u ∷ os) [] h o = absurd h
  somes_once names (None ∷ os) (e ∷ es) h o = somes_once names os es h.1 o.1
  somes_once names (Some j ∷ os) (e ∷ es) h o = (
    (λ c. let r = somes_of names os es j h.1 c in o.0 (subst (λ (z : EntryKey). Has (map f es) z) (same_name names r.0 (f e) j r.2 (sym h.0)) r.1)),
    somes_once names os es h.1 o.1,
  )

pub not_found_join : (p : EntryKey → Option ℕ) (ks js : List EntryKey) (os : List (Option ℕ)) → not_found js os ≡ [] → not_found (ks ++ js) (map p ks ++ os) ≡ not_found ks (map p ks)
not_found_join p [] js os h = h
not_found_join p (k ∷ ks) js os h =
    elim (p k) as (λ (o : Option ℕ). not_found (k ∷ (ks ++ js)) (o ∷ (map p ks ++ os)) ≡ not_found (k ∷ ks) (o ∷ map p ks)) [
      | None ↦ ap (λ zs. k ∷ zs) (not_found_join p ks js os h)
      | Some i ↦ not_found_join p ks js os h
    ]

-- ---- heads and groups

pub head_leaf : (xs : Olds) (m : Made) → Has (heads xs) (inl m) → Has (ones xs) (inl m)
head_leaf nil m h = absurd h
head_leaf (leaf x xs) m (inl e) = inl (let same : x ≡ m = cc in ap inl same)
head_leaf (leaf x xs) m (inr h) = inr (head_leaf xs m h)
head_leaf (group g inner xs) m (inl e) = absurd (let bad : inr g ≡ inl m = e in cc)
head_leaf (group g inner xs) m (inr h) = inr (head_leaf xs m h)

pub leaf_head : (xs : Olds) (m : Made) → Has (ones xs) (inl m) → Has (heads xs) (inl m)
leaf_head nil m h = absurd h
leaf_head (leaf x xs) m (inl e) = inl (let same : x ≡ m = cc in ap inl same)
leaf_head (leaf x xs) m (inr h) = inr (leaf_head xs m h)
leaf_head (group g inner xs) m (inl e) = absurd (let bad : inr (g, inner) ≡ inl m = e in cc)
leaf_head (group g inner xs) m (inr h) = inr (leaf_head xs m h)

pub head_group_one : (xs : Olds) (w : Wrapper) → Has (heads (kept_leaves xs)) (inr w) → (g : Ordered EntryKey Wrapper) × (i : Olds) × Has (ones xs) (inr (g, i)) × (g.of ≡ w)
head_group_one nil w h = absurd h
head_group_one (leaf x xs) w (inl e) = absurd (let bad : inl x.leaf ≡ inr w = e in cc)
head_group_one (leaf x xs) w (inr h) = let r = head_group_one xs w h in (r.0, r.1, inr r.2, r.3)
head_group_one (group g inner xs) w (inl e) = (g, inner, inl refl, let same : g.of ≡ w = cc in same)
head_group_one (group g inner xs) w (inr h) = let r = head_group_one xs w h in (r.0, r.1, inr r.2, r.3)

pub one_in_group : (xs : Olds) (g : Ordered EntryKey Wrapper) (i : Olds) → Has (ones xs) (inr (g, i)) → HasGroup (kept_leaves xs) g.of (kept_leaves i)
one_in_group nil g i h = absurd h
one_in_group (leaf x xs) g i (inl e) = absurd (let bad : inl x ≡ inr (g, i) = e in cc)
one_in_group (leaf x xs) g i (inr h) = one_in_group xs g i h
one_in_group (group k j xs) g i (inl e) =
    let pair : (k, j) ≡ (g, i) = cc in
    inl (ap (λ (z : Ordered EntryKey Wrapper × Olds). z.0.of) pair, ap (λ (z : Ordered EntryKey Wrapper × Olds). kept_leaves z.1) pair)
one_in_group (group k j xs) g i (inr h) = inr (one_in_group xs g i h)

pub group_head : {G L : Type 0} (xs : Entries G L) (g : G) (i : Entries G L) → HasGroup xs g i → Has (heads xs) (inr g)
group_head nil g i h = absurd h
group_head (leaf x xs) g i h = inr (group_head xs g i h)
group_head (group k j xs) g i (inl e) = inl (ap inr e.0)
group_head (group k j xs) g i (inr h) = inr (group_head xs g i h)

-- the group of a name
pub group_of_name : (stays : Leaf → Bool) (xs : Olds) (e : EntryKey) → is_group entry_names made_leaf stays e (kept_leaves xs) ≡ true
    → (g : Ordered EntryKey Wrapper) × (i : Olds) × Has (ones xs) (inr (g, i)) × (entry_names.group g.of ≡ e) × (within entry_names made_leaf e xs ≡ record { graph = g.graph; entries = i })
group_of_name stays nil e t = absurd (let bad : false ≡ true = t in cc)
group_of_name stays (leaf x xs) e t = let r = group_of_name stays xs e t in (r.0, r.1, inr r.2, r.3, r.4)
group_of_name stays (group k j xs) e t = elim (cases (same_entry e (entry_names.group k.of))) [
  | inl u ↦ (k, j, inl refl, sym (same_entry-sound e (entry_names.group k.of) u), rw u refl)
  | inr u ↦
      let s : is_group entry_names made_leaf stays e (kept_leaves xs) ≡ true = rw u at t in
      let r = group_of_name stays xs e s in
      (r.0, r.1, inr r.2, r.3, rw u r.4)
]

-- a name that an entry has is one of the level's
pub one_named : (xs : Olds) (f : One) → Has (ones xs) f → Has (kept_names xs) (one_name f)
one_named nil f h = absurd h
one_named (leaf x xs) f (inl e) = inl (ap one_name e)
one_named (leaf x xs) f (inr h) = inr (one_named xs f h)
one_named (group k j xs) f (inl e) = inl (ap one_name e)
one_named (group k j xs) f (inr h) = inr (one_named xs f h)

pub within_is : (xs : Olds) (g : Ordered EntryKey Wrapper) (i : Olds) → Once (kept_names xs) → Has (ones xs) (inr (g, i)) → within entry_names made_leaf (entry_names.group g.of) xs ≡ record { graph = g.graph; entries = i }
within_is nil g i o h = absurd h
within_is (leaf x xs) g i o (inl e) = absurd (let bad : inl x ≡ inr (g, i) = e in cc)
within_is (leaf x xs) g i o (inr h) = within_is xs g i o.1 h
within_is (group k j xs) g i o (inl e) =
    let pair : (k, j) ≡ (g, i) = cc in
    let same : k ≡ g = ap (λ (z : Ordered EntryKey Wrapper × Olds). z.0) pair in
    let list : j ≡ i = ap (λ (z : Ordered EntryKey Wrapper × Olds). z.1) pair in
    let t = same_entry-refl (entry_names.group k.of) in
    let here : within entry_names made_leaf (entry_names.group k.of) (group k j xs) ≡ record { graph = k.graph; entries = j } = rw t refl in
    subst (λ (z : Ordered EntryKey Wrapper). within entry_names made_leaf (entry_names.group z.of) (group k j xs) ≡ record { graph = z.graph; entries = i }) same
    (subst (λ (z : Olds). within entry_names made_leaf (entry_names.group k.of) (group k j xs) ≡ record { graph = k.graph; entries = z }) list here)
within_is (group k j xs) g i o (inr h) = elim (cases (same_entry (entry_names.group g.of) (entry_names.group k.of))) [
  | inl t ↦ absurd (o.0 (subst (λ (z : EntryKey). Has (kept_names xs) z) (same_entry-sound (entry_names.group g.of) (entry_names.group k.of) t) (one_named xs (inr (g, i)) h)))
  | inr f ↦ rw f (within_is xs g i o.1 h)
]

group_key : (xs : News) (w : Wrapper) (i : News) → HasGroup xs w i → Has (new_names xs) (entry_names.group w)
group_key nil w i h = absurd h
group_key (leaf x xs) w i h = inr (group_key xs w i h)
group_key (group k j xs) w i (inl e) = inl (ap (λ z. entry_names.group z) e.0)
group_key (group k j xs) w i (inr h) = inr (group_key xs w i h)

pub within_new_is : (stays : Leaf → Bool) (xs : News) (w : Wrapper) (i : News) → Once (new_names xs) → HasGroup xs w i → within_new entry_names made_leaf stays (entry_names.group w) xs ≡ i
within_new_is stays nil w i o h = absurd h
within_new_is stays (leaf x xs) w i o h = within_new_is stays xs w i o.1 h
within_new_is stays (group k j xs) w i o (inl e) =
    let t = same_entry-refl (entry_names.group k) in
    let here : within_new entry_names made_leaf stays (entry_names.group k) (group k j xs) ≡ j = rw t refl in
    subst (λ (z : Wrapper). within_new entry_names made_leaf stays (entry_names.group z) (group k j xs) ≡ i) e.0 (here ∙ e.1)
within_new_is stays (group k j xs) w i o (inr h) = elim (cases (same_entry (entry_names.group w) (entry_names.group k))) [
  | inl t ↦ absurd (o.0 (subst (λ (z : EntryKey). Has (new_names xs) z) (same_entry-sound (entry_names.group w) (entry_names.group k) t) (group_key xs w i h)))
  | inr f ↦ rw f (within_new_is stays xs w i o.1 h)
]

pub within_new_none : (stays : Leaf → Bool) (xs : News) (e : EntryKey) → (Has (new_names xs) e → ⊥) → within_new entry_names made_leaf stays e xs ≡ nil
within_new_none stays nil e h = refl
within_new_none stays (leaf x xs) e h = within_new_none stays xs e (λ k. h (inr k))
within_new_none stays (group w j xs) e h = elim (cases (same_entry e (entry_names.group w))) [
  | inl t ↦ absurd (h (inl (sym (same_entry-sound e (entry_names.group w) t))))
  | inr f ↦ rw f (within_new_none stays xs e (λ k. h (inr k)))
]

-- ---- the list at the place of a group's name

old_skip_leaf : (o : Option ℕ) (m : Made) (xs : Olds) → (IsGroupPlace o xs → IsGroupPlace (next_place o) (leaf m xs)) × (old_list (next_place o) (leaf m xs) ≡ old_list o xs)
old_skip_leaf None m xs = ((λ h. h), refl)
old_skip_leaf (Some i) m xs =
    let e : suc i ≡ i + 1 = omega arith in
    subst (λ (j : ℕ). (IsGroupPlace (Some i) xs → IsGroupPlace (Some j) (leaf m xs)) × (old_list (Some j) (leaf m xs) ≡ old_list (Some i) xs)) e ((λ h. h), refl)

old_skip_group : (o : Option ℕ) (g : Ordered EntryKey Wrapper) (inner xs : Olds) → (IsGroupPlace o xs → IsGroupPlace (next_place o) (group g inner xs)) × (old_list (next_place o) (group g inner xs) ≡ old_list o xs)
old_skip_group None g inner xs = ((λ h. h), refl)
old_skip_group (Some i) g inner xs =
    let e : suc i ≡ i + 1 = omega arith in
    subst (λ (j : ℕ). (IsGroupPlace (Some i) xs → IsGroupPlace (Some j) (group g inner xs)) × (old_list (Some j) (group g inner xs) ≡ old_list (Some i) xs)) e ((λ h. h), refl)

turned : (a b : EntryKey) → same_entry a b ≡ true → same_entry b a ≡ true
turned a b t = subst (λ (z : EntryKey). same_entry b z ≡ true) (sym (same_entry-sound a b t)) (same_entry-refl b)

flipped : (a b : EntryKey) → same_entry a b ≡ false → same_entry b a ≡ false
flipped a b f = elim (cases (same_entry b a)) [ inl t ↦ absurd (never (same_entry a b) (turned b a t) f) | inr g ↦ g ]

pub old_is : (w : Wrapper) (xs : Olds) → IsGroupPlace (place_of same_entry (kept_names xs) (entry_names.group w)) xs × (old_list (place_of same_entry (kept_names xs) (entry_names.group w)) xs ≡ within entry_names made_leaf (entry_names.group w) xs)
old_is w nil = (tt, refl)
old_is w (leaf m xs) =
    let r = old_is w xs in
    let s = old_skip_leaf (place_of same_entry (kept_names xs) (entry_names.group w)) m xs in
    (s.0 r.0, s.1 ∙ r.1)
old_is w (group g inner xs) = elim (cases (same_entry (entry_names.group g.of) (entry_names.group w))) [
  | inl t ↦ let u = turned (entry_names.group g.of) (entry_names.group w) t in rw (t, u) (refl, refl)
  | inr f ↦
      let u = flipped (entry_names.group g.of) (entry_names.group w) f in
      let r = old_is w xs in
      let s = old_skip_group (place_of same_entry (kept_names xs) (entry_names.group w)) g inner xs in
      rw (f, u) (s.0 r.0, s.1 ∙ r.1)
]

-- ---- what stays

-- a head of a level whose name stays is among what stays
pub stays_head : (stays : Leaf → Bool) (xs : Entries Wrapper Leaf) (k : EntryKey) (h : Leaf ⊎ Wrapper) → Once (keys entry_names xs) → Has (keys entry_names (only stays xs)) k → Has (heads xs) h → name entry_names h ≡ k → Has (heads (only stays xs)) h
stays_head stays xs k h once c m e =
    let r = key_head entry_names entry_names_are (only stays xs) k c in
    subst (λ (z : Leaf ⊎ Wrapper). Has (heads (only stays xs)) z) (same_head entry_names entry_names_are xs r.0 h once (only_head stays xs r.0 r.1) m (r.2 ∙ sym e)) r.1

-- a leaf among what stays does stay
pub leaf_stays : (stays : Leaf → Bool) (xs : Entries Wrapper Leaf) (l : Leaf) → Has (heads (only stays xs)) (inl l) → stays l ≡ true
leaf_stays stays nil l h = absurd h
leaf_stays stays (leaf m xs) l h = elim (cases (stays m)) [
  | inl t ↦ let q : Has (inl m ∷ heads (only stays xs)) (inl l) = rw t at h in elim q [ inl e ↦ let is : m ≡ l = cc in subst (λ (z : Leaf). stays z ≡ true) is t | inr r ↦ leaf_stays stays xs l r ]
  | inr f ↦ let q : Has (heads (only stays xs)) (inl l) = rw f at h in leaf_stays stays xs l q
]
leaf_stays stays (group g inner xs) l h = by (only stays inner) (λ k. leaf_stays stays xs l k) h
  where
    by : (ys : Entries Wrapper Leaf) → (Has (heads (only stays xs)) (inl l) → stays l ≡ true) → Has (heads (grouped_if_any g ys (only stays xs))) (inl l) → stays l ≡ true
    by nil later k = later k
    by (leaf m ys) later k = elim k [ inl e ↦ absurd (let bad : inr g ≡ inl l = e in cc) | inr r ↦ later r ]
    by (group m i ys) later k = elim k [ inl e ↦ absurd (let bad : inr g ≡ inl l = e in cc) | inr r ↦ later r ]

-- what fits fits inside each group
pub fits_in_group : (stays : Leaf → Bool) (kept : KeptList EntryKey Wrapper Made) (new : News) (k : EntryKey) → FitsFor stays kept new → FitsFor stays (within entry_names made_leaf k kept.entries) (within_new entry_names made_leaf stays k new)
fits_in_group stays kept new k ready = record {
  fresh = inside entry_names k ready.fresh;
  fits = subst (λ (x : Entries Wrapper Leaf). Fits entry_names made_leaf stays (within entry_names made_leaf k kept.entries) x (inside entry_names k ready.fresh))
      (sym (new_inside entry_names made_leaf stays entry_names_are new k (once_of (keys entry_names (new_leaves new)) (ready.fits.once_new []))))
      (fits_inside entry_names made_leaf stays entry_names_are kept (new_leaves new) ready.fresh k ready.fits);
}
