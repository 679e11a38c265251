-- A level after the steps of a plan, as a list of its entries.
use Rattle.std.proofs.Common.{◌≡◌, refl, ap, ◌∙◌, sym, subst, ℕ, zero, suc, ◌<◌, ◌≤◌, Bool, true, false, List, [], ◌∷◌, ◌++◌, length, arith, inl, inr, ◌⊎◌}
use Rattle.std.specs.Prelude.{Option, Some, None, map, is_some, unwrap_or}
use Rattle.rd_graph.proofs.Lists.Listing.{Has, Once}
use Rattle.rd_keys.specs.declared.entry.EntryKey.{EntryKey}
use Rattle.rd_item.specs.Items.{Made}
use Rattle.rd_list.specs.Wrappers.{Wrapper}
use Rattle.rd_list.specs.Entries.{Entries, nil, leaf, group, ◌▷◌}
use Rattle.rd_list.specs.EntryNames.{entry_names}
use Rattle.rd_list.specs.Kept.{Ordered, KeptList}
use Rattle.rd_list.specs.Views.{group_at}
use Rattle.rd_merge.specs.Looking.{kept_names}
use Rattle.rd_merge.specs.Plans.{GroupStep, Steps, size_of, with_entry, put_entry, later, old_list, wrapper_at, first_wrapper, first_leaf, wrapper_for, list_for, left_for, grouped_as, stepped, filled, IsPlace, IsGroupPlace, IsNamed, StepsFit, PlacesFit}
use Rattle.rd_merge.proofs.Puts.{at, set_at, put_one, put_all, put_length, at_put}

abbrev pub Olds : Type 0
Olds = Entries (Ordered EntryKey Wrapper) Made

abbrev pub News : Type 0
News = Entries Wrapper Made

-- ---- the entries of a level as a list

-- a leaf, or what is said of a group with its list
abbrev pub One : Type 0
One = Made ⊎ (Ordered EntryKey Wrapper × Olds)

abbrev pub ones : Olds → List One
ones nil = []
ones (leaf m rest) = inl m ∷ ones rest
ones (group g inner rest) = inr (g, inner) ∷ ones rest

abbrev pub one_name : One → EntryKey
one_name (inl m) = entry_names.leaf m.leaf
one_name (inr p) = entry_names.group p.0.of

abbrev pub one_group : Option One → Option (KeptList EntryKey Wrapper Made)
one_group None = None
one_group (Some (inl m)) = None
one_group (Some (inr p)) = Some (record { graph = p.0.graph; entries = p.1 })

abbrev pub one_wrapper : Option One → Option Wrapper
one_wrapper None = None
one_wrapper (Some (inl m)) = None
one_wrapper (Some (inr p)) = Some p.0.of

pub names_ones : (xs : Olds) → kept_names xs ≡ map one_name (ones xs)
names_ones nil = refl
names_ones (leaf m xs) = ap (λ ks. entry_names.leaf m.leaf ∷ ks) (names_ones xs)
names_ones (group g inner xs) = ap (λ ks. entry_names.group g.of ∷ ks) (names_ones xs)

pub ones_join : (xs ys : Olds) → ones (xs ▷ ys) ≡ ones xs ++ ones ys
ones_join nil ys = refl
ones_join (leaf m xs) ys = ap (λ zs. inl m ∷ zs) (ones_join xs ys)
ones_join (group g inner xs) ys = ap (λ zs. inr (g, inner) ∷ zs) (ones_join xs ys)

pub ones_size : (xs : Olds) → size_of xs ≡ length (ones xs)
ones_size nil = refl
ones_size (leaf m xs) = ap suc (ones_size xs)
ones_size (group g inner xs) = ap suc (ones_size xs)

ones_with : (i : ℕ) (e : One) (es xs : Olds) → ones es ≡ e ∷ [] → ones (with_entry i es xs) ≡ set_at i e (ones xs)
ones_with i e es nil s = refl
ones_with zero e es (leaf m xs) s = ones_join es xs ∙ ap (λ zs. zs ++ ones xs) s
ones_with zero e es (group g inner xs) s = ones_join es xs ∙ ap (λ zs. zs ++ ones xs) s
ones_with (suc i) e es (leaf m xs) s = ap (λ zs. inl m ∷ zs) (ones_with i e es xs s)
ones_with (suc i) e es (group g inner xs) s = ap (λ zs. inr (g, inner) ∷ zs) (ones_with i e es xs s)

pub ones_put : (o : Option ℕ) (e : One) (es xs : Olds) → ones es ≡ e ∷ [] → ones (put_entry o es xs) ≡ put_one o e (ones xs)
ones_put None e es xs s = ones_join xs es ∙ ap (λ zs. ones xs ++ zs) s
ones_put (Some i) e es xs s = ones_with i e es xs s

pub group_ones : (i : ℕ) (xs : Olds) → group_at i xs ≡ one_group (at i (ones xs))
group_ones i nil = refl
group_ones zero (leaf m xs) = refl
group_ones zero (group g inner xs) = refl
group_ones (suc i) (leaf m xs) = group_ones i xs
group_ones (suc i) (group g inner xs) = group_ones i xs

pub wrapper_ones : (i : ℕ) (xs : Olds) → wrapper_at i xs ≡ one_wrapper (at i (ones xs))
wrapper_ones i nil = refl
wrapper_ones zero (leaf m xs) = refl
wrapper_ones zero (group g inner xs) = refl
wrapper_ones (suc i) (leaf m xs) = wrapper_ones i xs
wrapper_ones (suc i) (group g inner xs) = wrapper_ones i xs

-- ---- what a step reads is the same where the entry at its place is

module _ (xs ys : Olds) where
  abbrev SameAt : Option ℕ → Type 0
  SameAt o = (i : ℕ) → o ≡ Some i → at i (ones ys) ≡ at i (ones xs)

  same_group : (i : ℕ) → at i (ones ys) ≡ at i (ones xs) → group_at i ys ≡ group_at i xs
  same_group i h = group_ones i ys ∙ ap one_group h ∙ sym (group_ones i xs)

  same_list : (o : Option ℕ) → SameAt o → old_list o ys ≡ old_list o xs
  same_list None h = refl
  same_list (Some i) h = ap (λ z. unwrap_or z (record { graph = []; entries = nil })) (same_group i (h i refl))

  same_place : (o : Option ℕ) → SameAt o → IsGroupPlace o xs → IsGroupPlace o ys
  same_place None h p = tt
  same_place (Some i) h p = ap is_some (same_group i (h i refl)) ∙ p

  same_wrapper : (b : Bool) (o : Option ℕ) (fresh : News) → SameAt o → wrapper_for b o ys fresh ≡ wrapper_for b o xs fresh
  same_wrapper true o fresh h = refl
  same_wrapper false None fresh h = refl
  same_wrapper false (Some i) fresh h = wrapper_ones i ys ∙ ap one_wrapper (h i refl) ∙ sym (wrapper_ones i xs)

-- ---- what each step puts

abbrev pub places_of : Steps → List (Option ℕ)
places_of nil = []
places_of (leaf p rest) = p ∷ places_of rest
places_of (group s inner rest) = s.old ∷ places_of rest

abbrev pub somes : List (Option ℕ) → List ℕ
somes [] = []
somes (None ∷ os) = somes os
somes (Some i ∷ os) = i ∷ somes os

some_later : (o : Option ℕ) (os : List (Option ℕ)) (i : ℕ) → Has (somes os) i → Has (somes (o ∷ os)) i
some_later None os i h = h
some_later (Some j) os i h = inr h

some_first : (o : Option ℕ) (os : List (Option ℕ)) (i : ℕ) → o ≡ Some i → Has (somes (o ∷ os)) i
some_first None os i e = absurd (cc)
some_first (Some j) os i e = inl (let same : j ≡ i = cc in same)

once_later : (o : Option ℕ) (os : List (Option ℕ)) → Once (somes (o ∷ os)) → Once (somes os)
once_later None os h = h
once_later (Some j) os h = h.1

some_apart : (o : Option ℕ) (os : List (Option ℕ)) (i : ℕ) → Once (somes (o ∷ os)) → Has (somes os) i → o ≡ Some i → ⊥
some_apart None os i h k e = cc
some_apart (Some j) os i h k e = let same : j ≡ i = cc in h.0 (subst (λ (z : ℕ). Has (somes os) z) (sym same) k)

first_is_leaf : (fresh : News) → size_of (first_leaf fresh) ≡ 1 → (m : Made) × (ones (first_leaf fresh) ≡ inl m ∷ [])
first_is_leaf nil e = absurd (let bad : 0 ≡ 1 = e in omega (arith, bad))
first_is_leaf (leaf m rest) e = (m, refl)
first_is_leaf (group g inner rest) e = absurd (let bad : 0 ≡ 1 = e in omega (arith, bad))

some_wrapper : (o : Option Wrapper) → is_some o ≡ true → (w : Wrapper) × (o ≡ Some w)
some_wrapper None e = absurd (cc)
some_wrapper (Some w) e = (w, refl)

group_wrapper : (i : ℕ) (xs : Olds) → is_some (group_at i xs) ≡ true → (w : Wrapper) × (wrapper_at i xs ≡ Some w)
group_wrapper i nil e = absurd (let bad : false ≡ true = e in cc)
group_wrapper zero (leaf m xs) e = absurd (let bad : false ≡ true = e in cc)
group_wrapper zero (group g inner xs) e = (g.of, refl)
group_wrapper (suc i) (leaf m xs) e = group_wrapper i xs e
group_wrapper (suc i) (group g inner xs) e = group_wrapper i xs e

named_wrapper : (b : Bool) (o : Option ℕ) (xs : Olds) (fresh : News) → IsNamed b o fresh → IsGroupPlace o xs → (w : Wrapper) × (wrapper_for b o xs fresh ≡ Some w)
named_wrapper true o xs fresh n p = some_wrapper (first_wrapper fresh) n
named_wrapper false None xs fresh n p = absurd (let bad : false ≡ true = n in cc)
named_wrapper false (Some i) xs fresh n p = group_wrapper i xs p

module _ (xs : Olds) where
  -- the group that a step makes
  abbrev pub entry_for : GroupStep → Steps → News → Option Wrapper → KeptList EntryKey Wrapper Made → Olds
  entry_for s inner fresh w list = grouped_as w (filled (record { patch = s.patch; steps = inner }) list (list_for s.is_new fresh))

  -- what the steps put, read from the level as it was
  abbrev pub ones_of : Steps → News → List One
  ones_of nil fresh = []
  ones_of (leaf p rest) fresh = ones (first_leaf fresh) ++ ones_of rest (later fresh)
  ones_of (group s inner rest) fresh = ones (entry_for s inner fresh (wrapper_for s.is_new s.old xs fresh) (old_list s.old xs)) ++ ones_of rest (left_for s.is_new fresh)

  -- each step fits the level as it was
  abbrev pub EachFits : Steps → News → Type 0
  EachFits nil fresh = Unit {0}
  EachFits (leaf p rest) fresh = IsPlace p (size_of xs) × (size_of (first_leaf fresh) ≡ 1) × EachFits rest (later fresh)
  EachFits (group s inner rest) fresh =
      (IsPlace s.old (size_of xs) × IsGroupPlace s.old xs × IsNamed s.is_new s.old fresh × PlacesFit (record { patch = s.patch; steps = inner }) (old_list s.old xs) (list_for s.is_new fresh))
      × EachFits rest (left_for s.is_new fresh)

  place_within : (o : Option ℕ) (os : List (Option ℕ)) (i : ℕ) → IsPlace o (size_of xs) → Has (somes (o ∷ os)) i → (Has (somes os) i → i < size_of xs) → i < size_of xs
  place_within None os i p h k = k h
  place_within (Some j) os i p (inl e) k = subst (λ (z : ℕ). z < size_of xs) e p
  place_within (Some j) os i p (inr h) k = k h

  each_within : (steps : Steps) (fresh : News) (i : ℕ) → EachFits steps fresh → Has (somes (places_of steps)) i → i < size_of xs
  each_within nil fresh i h k = absurd k
  each_within (leaf p rest) fresh i h k = place_within p (places_of rest) i h.0 k (λ m. each_within rest (later fresh) i h.2 m)
  each_within (group s inner rest) fresh i h k = place_within s.old (places_of rest) i h.0.0 k (λ m. each_within rest (left_for s.is_new fresh) i h.1 m)

  pub record Stepped (steps : Steps) (fresh : News) (ys : Olds) : Type 0 where
    pub fits : StepsFit (size_of xs) steps ys fresh
    pub ones_are : ones (stepped steps ys fresh) ≡ put_all (places_of steps) (ones_of steps fresh) (ones ys)

  abbrev SameLater : Steps → Olds → Type 0
  SameLater steps ys = (i : ℕ) → Has (somes (places_of steps)) i → at i (ones ys) ≡ at i (ones xs)

  -- after one entry is put, the other places are as they were
  module _ (o : Option ℕ) (rest : Steps) (e : One) (es ys : Olds) (one : ones es ≡ e ∷ []) (once : Once (somes (o ∷ places_of rest)))
      (same : (i : ℕ) → Has (somes (o ∷ places_of rest)) i → at i (ones ys) ≡ at i (ones xs)) (large : size_of xs ≤ length (ones ys)) where
    put_is : ones (put_entry o es ys) ≡ put_one o e (ones ys)
    put_is = ones_put o e es ys one

    still_same : (within : (i : ℕ) → Has (somes (places_of rest)) i → i < size_of xs) → SameLater rest (put_entry o es ys)
    still_same within i h = let w = within i h in ap (at i) put_is ∙ at_put o i e (ones ys) (some_apart o (places_of rest) i once h) (omega (arith, w, large)) ∙ same i (some_later o (places_of rest) i h)

    still_large : size_of xs ≤ length (ones (put_entry o es ys))
    still_large = let l = put_length o e (ones ys) in let s = ap length put_is in omega (arith, l, s, large)

    joined : (zs : List One) (all : List One) → all ≡ put_all (places_of rest) zs (ones (put_entry o es ys)) → all ≡ put_all (o ∷ places_of rest) (ones es ++ zs) (ones ys)
    joined zs all h = h ∙ ap (λ us. put_all (places_of rest) zs us) put_is ∙ sym (ap (λ us. put_all (o ∷ places_of rest) (us ++ zs) (ones ys)) one)

  pub step_all : (steps : Steps) (fresh : News) (ys : Olds) → EachFits steps fresh → Once (somes (places_of steps)) → SameLater steps ys → size_of xs ≤ length (ones ys) → Stepped steps fresh ys
  step_all nil fresh ys h once same large = record { fits = tt; ones_are = refl }
  step_all (leaf p rest) fresh ys h once same large =
      let one = first_is_leaf fresh h.1 in
      let later_same = still_same p rest (inl one.0) (first_leaf fresh) ys one.1 once same large (λ i k. each_within rest (later fresh) i h.2 k) in
      let r = step_all rest (later fresh) (put_entry p (first_leaf fresh) ys) h.2 (once_later p (places_of rest) once) later_same (still_large p rest (inl one.0) (first_leaf fresh) ys one.1 once same large) in
      record {
        fits = (h.0, h.1, r.fits);
        ones_are = joined p rest (inl one.0) (first_leaf fresh) ys one.1 once same large (ones_of rest (later fresh)) _ r.ones_are;
      }
  step_all (group s inner rest) fresh ys h once same large =
      let f = h.0 in
      let here = (λ (i : ℕ) (e : s.old ≡ Some i). same i (some_first s.old (places_of rest) i e)) in
      let list_is = same_list xs ys s.old here in
      let wrapper_is = same_wrapper xs ys s.is_new s.old fresh here in
      let w = named_wrapper s.is_new s.old xs fresh f.2 f.1 in
      let now : Olds = entry_for s inner fresh (wrapper_for s.is_new s.old ys fresh) (old_list s.old ys) in
      let was : Olds = entry_for s inner fresh (wrapper_for s.is_new s.old xs fresh) (old_list s.old xs) in
      let made = filled (record { patch = s.patch; steps = inner }) (old_list s.old xs) (list_for s.is_new fresh) in
      let e : One = inr (record { of = w.0; graph = made.graph }, made.entries) in
      let now_is : now ≡ was = ap (λ v. entry_for s inner fresh v (old_list s.old ys)) wrapper_is ∙ ap (λ k. entry_for s inner fresh (wrapper_for s.is_new s.old xs fresh) k) list_is in
      let was_one : ones was ≡ e ∷ [] = ap (λ v. ones (entry_for s inner fresh v (old_list s.old xs))) w.1 in
      let one : ones now ≡ e ∷ [] = ap ones now_is ∙ was_one in
      let later_same = still_same s.old rest e now ys one once same large (λ i k. each_within rest (left_for s.is_new fresh) i h.1 k) in
      let r = step_all rest (left_for s.is_new fresh) (put_entry s.old now ys) h.1 (once_later s.old (places_of rest) once) later_same (still_large s.old rest e now ys one once same large) in
      let q = subst (λ (k : KeptList EntryKey Wrapper Made). PlacesFit (record { patch = s.patch; steps = inner }) k (list_for s.is_new fresh)) (sym list_is) f.3 in
      record {
        fits = ((f.0, same_place xs ys s.old here f.1, f.2, q.patch, q.line, q.still, q.steps), r.fits);
        ones_are = joined s.old rest e now ys one once same large (ones_of rest (left_for s.is_new fresh)) _ r.ones_are
            ∙ ap (λ z. put_all (s.old ∷ places_of rest) (ones z ++ ones_of rest (left_for s.is_new fresh)) (ones ys)) now_is;
      }
