-- Merges of drawn levels can be made, and what comes of them is held.
use Rattle.std.proofs.Common.{◌≡◌, refl, ap, ◌∙◌, sym, subst, ℕ, ◌+◌, ◌<◌, ◌≤◌, Bool, true, false, not, cond, List, [], ◌∷◌, ◌++◌, map, take, length, get_or, arith, inl, inr}
use Rattle.std.specs.Prelude.{Contains, IsTrue}
use Rattle.std.specs.List.{filter}
use Rattle.std.proofs.lemmas.List.{take_more}
use Rattle.std.proofs.lemmas.List.Elements.{filter-append}
use Rattle.std.proofs.lemmas.List.Sorted.{IsPermutation-refl}
use Rattle.rd_geom.specs.declared.color.Color.{Color}
use Rattle.rd_graph.specs.Names.{is_in}
use Rattle.rd_graph.proofs.Lists.Listing.{Has, cases, has_either, has_from, contains_from}
use Rattle.rd_graph.proofs.Patches.Marks.{take_whole}
use Rattle.rd_keys.specs.Keys.{BoxKey, same_key}
use Rattle.rd_keys.specs.declared.entry.EntryKey.{EntryKey}
use Rattle.rd_item.specs.declared.leaf.Leaf.{Leaf}
use Rattle.rd_item.specs.Items.{Made}
use Rattle.rd_list.specs.Wrappers.{Wrapper}
use Rattle.rd_list.specs.Entries.{Entries, nil, leaf, group, ◌▷◌, one_leaf, flat, routes, only, wrappers, no_group_is_empty}
use Rattle.rd_list.specs.EntryNames.{entry_names, made_leaf, new_leaves}
use Rattle.rd_list.specs.Kept.{KeptList, KeptReady}
use Rattle.rd_list.specs.Lists as lists
use Rattle.rd_list.specs.Lists.{leaves_meet, same_leaf}
use Rattle.rd_list.specs.Laws.{IsCovered}
use Rattle.rd_list.proofs.Merges.Naming.{display_merging, display_editing, images_of_pairs}
use Rattle.rd_list.specs.NewView.{new_entries}
use Rattle.rd_list.specs.declared.fresh.NewEntry.{NewEntry}
use Rattle.rd_list.proofs.Piling.{new_entries-append}
use Rattle.rd_keys.specs.declared.entry.Part.TheVariants.{Back}
use Rattle.rd_low_tests.specs.SampleLists.{one_item}
use Rattle.rd_list.proofs.Merges.Starting.{display_starting}
use Rattle.rd_merge.specs.Going.{is_untouched}
use Rattle.rd_merge.specs.Merging.{CanBeMerged, MergedInto}
use Rattle.rd_low_tests.specs.DrawnLevels.{AreApart, IsCovering, IsHeld, IsSpotCovered, Spot, is_not_of, is_of, line, spot_leaf}

module _ (ink : Color) where
  flat-line : (ss : List Spot) → flat (line ink ss) ≡ map (spot_leaf ink) ss
  flat-line [] = refl
  flat-line (s ∷ ss) = ap (λ ls. spot_leaf ink s ∷ ls) (flat-line ss)

  wrappers-line : (ss : List Spot) → wrappers (line ink ss) ≡ []
  wrappers-line [] = refl
  wrappers-line (s ∷ ss) = wrappers-line ss

  filled-line : (ss : List Spot) → no_group_is_empty (line ink ss) ≡ true
  filled-line [] = refl
  filled-line (s ∷ ss) = filled-line ss

  only-line : (p : Leaf → Bool) (ss : List Spot) → only p (line ink ss) ≡ line ink (filter (λ s. p (spot_leaf ink s)) ss)
  only-line p [] = refl
  only-line p (s ∷ ss) = elim (p (spot_leaf ink s)) as (λ b. cond b (leaf (spot_leaf ink s) (only p (line ink ss))) (only p (line ink ss)) ≡ line ink (cond b (s ∷ filter (λ s. p (spot_leaf ink s)) ss) (filter (λ s. p (spot_leaf ink s)) ss))) [
    | true ↦ ap (λ xs. leaf (spot_leaf ink s) xs) (only-line p ss)
    | false ↦ only-line p ss
  ]

  differ : (a b : Spot) → same_key a.0 b.0 ≡ false → same_leaf (spot_leaf ink a) (spot_leaf ink b) ≡ false
  differ a b e = rw e refl

  pub stands : (ss : List Spot) → AreApart ss → lists.StandsFor (line ink ss) (line ink ss)
  stands ss apart = record {
    leaves = IsPermutation-refl (routes [] (line ink ss));
    once = rw (flat-line ss) (images_of_pairs (spot_leaf ink) (λ a b. same_leaf a b ≡ false) ss (λ i j d l m. differ (get_or ss i d) (get_or ss j d) (apart i j d l m)));
    grouped = rw (wrappers-line ss) (λ i j d l m. absurd (omega (arith, m)));
    filled = filled-line ss;
    ordered = λ a b c d m. refl;
  }

  -- the spot of a leaf
  record Spotted (ss : List Spot) (l : Leaf) : Type 0 where
    spot : Spot
    there : Contains ss spot
    is : l ≡ spot_leaf ink spot

  spotted : (ss : List Spot) (l : Leaf) → Has (flat (line ink ss)) l → Spotted ss l
  spotted [] l h = absurd h
  spotted (s ∷ ss) l (inl e) = record { spot = s; there = contains_from (s ∷ ss) s (inl refl); is = sym e }
  spotted (s ∷ ss) l (inr h) = let r = spotted ss l h in record { spot = r.spot; there = contains_from (s ∷ ss) r.spot (inr (has_from ss r.spot r.there)); is = r.is }

  gone : (b : Bool) → not b ≡ false → b ≡ true
  gone true e = refl
  gone false e = absurd (cc)

  module _ (touched area : List BoxKey) where
    abbrev in_area : Leaf → Bool
    in_area l = is_in same_key area l.owner

    abbrev stays : Leaf → Bool
    stays = is_untouched (is_in same_key touched)

    covered : (ss : List Spot) → IsCovering touched area ss → IsCovered entry_names leaves_meet stays in_area (line ink ss)
    covered ss c = record {
      itself = λ a h f.
          let s = spotted ss a (has_from (flat (line ink ss)) a h) in
          let e : a.owner ≡ s.spot.0 = ap (λ (l : Leaf). l.owner) s.is in
          let t : is_of touched s.spot ≡ true = ap (is_in same_key touched) (sym e) ∙ gone (is_in same_key touched a.owner) f in
          ap (is_in same_key area) e ∙ c.itself s.spot s.there t;
      others = λ a b h k f m.
          let s = spotted ss a (has_from (flat (line ink ss)) a h) in
          let r = spotted ss b (has_from (flat (line ink ss)) b k) in
          let e : a.owner ≡ s.spot.0 = ap (λ (l : Leaf). l.owner) s.is in
          let t : is_of touched s.spot ≡ true = ap (is_in same_key touched) (sym e) ∙ gone (is_in same_key touched a.owner) f in
          ap (λ (l : Leaf). is_in same_key area l.owner) r.is
          ∙ c.others s.spot r.spot s.there r.there t (subst (λ (l : Leaf). IsTrue (leaves_meet l (spot_leaf ink r.spot))) s.is (subst (λ (l : Leaf). IsTrue (leaves_meet a l)) r.is m));
    }

    module _ (kept : KeptList EntryKey Wrapper Made) (ss next : List Spot) (held : IsHeld ink kept ss) (same : filter (is_not_of touched) ss ≡ filter (is_not_of touched) next) where
      ready : KeptReady entry_names made_leaf leaves_meet stays kept (line ink next)
      ready =
          display_editing (line ink ss) (line ink next) kept (λ k. false) (is_in same_key touched) (stands ss held.apart)
          (only-line stays ss ∙ ap (line ink) same ∙ sym (only-line stays next)) held.ready

      module _ (new : Entries Wrapper Made) (apart : AreApart next) (limited : new_leaves new ≡ line ink (filter (is_of area) next)) where
        pub can_merge : CanBeMerged (is_in same_key touched) kept new
        can_merge = record { fresh = line ink next; in_area = in_area; itself = stands next apart; ready = ready; limited = limited ∙ sym (only-line in_area next) }

        pub held_after : (joined : KeptList EntryKey Wrapper Made) → IsCovering touched area next → MergedInto (is_in same_key touched) kept new joined → IsHeld ink joined next
        held_after joined c merged = record {
          apart = apart;
          ready = (display_merging (line ink next) kept joined new stays in_area (stands next apart) (covered next c) ready (limited ∙ sym (only-line in_area next)) merged).2;
        }

  pub held_empty : IsHeld ink (record { graph = []; entries = nil }) []
  held_empty = record { apart = λ i j d l m. absurd (omega (arith, m)); ready = display_starting nil (λ l. true) (λ l c. absurd (has_from [] l c)) }

-- ---- tests of spots, one after another

module _ {A : Type 0} where
  pub all_more : (P : A → Type 0) (xs : List A) (i : ℕ) (x : A) → i < length xs → x ≡ get_or xs i x → ((m : A) → Has (take i xs) m → P m) → P x → (m : A) → Has (take (i + 1) xs) m → P m
  all_more P xs i x l is was here m h = elim (has_either (take i xs) (get_or xs i x ∷ []) m (subst (λ (zs : List A). Has zs m) (take_more xs i x l) h)) [
    | inl k ↦ was m k
    | inr k ↦ elim k [ inl e ↦ subst P (is ∙ e) here | inr f ↦ absurd f ]
  ]

  pub all_whole : (P : A → Type 0) (xs : List A) (i : ℕ) → length xs ≤ i → ((m : A) → Has (take i xs) m → P m) → (m : A) → Contains xs m → P m
  all_whole P xs i l was m c = was m (has_from (take i xs) m (subst (λ (zs : List A). Contains zs m) (sym (take_whole xs i l)) c))

  filter_one : (p : A → Bool) (x : A) → p x ≡ true → filter p (x ∷ []) ≡ x ∷ []
  filter_one p x e = rw e refl

  filter_none : (p : A → Bool) (x : A) → p x ≡ false → filter p (x ∷ []) ≡ []
  filter_none p x e = rw e refl

  plain_end : (xs : List A) → xs ++ [] ≡ xs
  plain_end [] = refl
  plain_end (x ∷ xs) = ap (λ zs. x ∷ zs) (plain_end xs)

  filter_take : (p : A → Bool) (xs : List A) (i : ℕ) (x : A) → i < length xs → x ≡ get_or xs i x → filter p (take (i + 1) xs) ≡ filter p (take i xs) ++ filter p (x ∷ [])
  filter_take p xs i x l is = ap (filter p) (take_more xs i x l) ∙ filter-append p (take i xs) (get_or xs i x ∷ []) ∙ ap (λ (y : A). filter p (take i xs) ++ filter p (y ∷ [])) (sym is)

  pub filter_in : (p : A → Bool) (xs : List A) (i : ℕ) (x : A) (now : List A) → i < length xs → x ≡ get_or xs i x → now ≡ filter p (take i xs) → p x ≡ true → now ++ x ∷ [] ≡ filter p (take (i + 1) xs)
  filter_in p xs i x now l is was e = ap (λ ys. ys ++ x ∷ []) was ∙ ap (λ ys. filter p (take i xs) ++ ys) (sym (filter_one p x e)) ∙ sym (filter_take p xs i x l is)

  pub filter_out : (p : A → Bool) (xs : List A) (i : ℕ) (x : A) → i < length xs → x ≡ get_or xs i x → p x ≡ false → filter p (take i xs) ≡ filter p (take (i + 1) xs)
  filter_out p xs i x l is e = sym (filter_take p xs i x l is ∙ ap (λ ys. filter p (take i xs) ++ ys) (filter_none p x e) ∙ plain_end (filter p (take i xs)))

  pub filter_pushed : (p : A → Bool) (xs : List A) (i : ℕ) (x : A) (now : List A) → i < length xs → x ≡ get_or xs i x → filter p now ≡ filter p (take i xs) → filter p (now ++ x ∷ []) ≡ filter p (take (i + 1) xs)
  filter_pushed p xs i x now l is was = filter-append p now (x ∷ []) ∙ ap (λ ys. ys ++ filter p (x ∷ [])) was ∙ sym (filter_take p xs i x l is)

  pub filter_again : (p : A → Bool) (xs : List A) → filter p (filter p xs) ≡ filter p xs
  filter_again p [] = refl
  filter_again p (x ∷ xs) = elim (cases (p x)) [
    | inl t ↦ rw t (rw t (ap (λ ys. x ∷ ys) (filter_again p xs)))
    | inr f ↦ rw f (filter_again p xs)
  ]

  pub filter_unwanted : (p : A → Bool) (now : List A) (x : A) → p x ≡ false → filter p (now ++ x ∷ []) ≡ filter p now
  filter_unwanted p now x e = filter-append p now (x ∷ []) ∙ ap (λ ys. filter p now ++ ys) (filter_none p x e) ∙ plain_end (filter p now)

pub covering_all : (touched area : List BoxKey) (ss : List Spot) → ((a : Spot) → Contains ss a → IsSpotCovered touched area ss a) → IsCovering touched area ss
covering_all touched area ss h = record { itself = λ a c t. (h a c).itself t; others = λ a b c d t m. (h a c).others t b d m }

-- ---- the leaves of spots, one after another

bare_new-▷ : (xs ys : Entries Wrapper Made) → new_leaves (xs ▷ ys) ≡ new_leaves xs ▷ new_leaves ys
bare_new-▷ nil ys = refl
bare_new-▷ (leaf m xs) ys = ap (λ zs. leaf m.leaf zs) (bare_new-▷ xs ys)
bare_new-▷ (group g inner xs) ys = ap (λ zs. group g (new_leaves inner) zs) (bare_new-▷ xs ys)

module _ (ink : Color) where
  line-append : (xs ys : List Spot) → line ink (xs ++ ys) ≡ line ink xs ▷ line ink ys
  line-append [] ys = refl
  line-append (x ∷ xs) ys = ap (λ zs. leaf (spot_leaf ink x) zs) (line-append xs ys)

  pub leaf_pushed : {A : Type 0} (es then : List (NewEntry A)) (e : NewEntry A) (s : Spot) (at : ℕ) → then ≡ es ++ e ∷ [] → new_entries (e ∷ []) ≡ one_leaf (one_item s.0 Back s.1 ink at) → new_leaves (new_entries then) ≡ new_leaves (new_entries es) ▷ line ink (s ∷ [])
  leaf_pushed es then e s at is new =
      ap (λ xs. new_leaves (new_entries xs)) is ∙ ap new_leaves (new_entries-append es (e ∷ [])) ∙ bare_new-▷ (new_entries es) (new_entries (e ∷ []))
      ∙ ap (λ xs. new_leaves (new_entries es) ▷ new_leaves xs) new

  pub nothing_pushed : (xs : Entries Wrapper Leaf) → xs ≡ xs ▷ line ink []
  nothing_pushed nil = refl
  nothing_pushed (leaf m xs) = ap (λ zs. leaf m zs) (nothing_pushed xs)
  nothing_pushed (group g inner xs) = ap (λ zs. group g inner zs) (nothing_pushed xs)

  pub line_next : (p : Spot → Bool) (ss : List Spot) (i : ℕ) (s : Spot) (now then : Entries Wrapper Leaf) (w : Bool) → i < length ss → s ≡ get_or ss i s → now ≡ line ink (filter p (take i ss))
      → then ≡ now ▷ line ink (cond w (s ∷ []) []) → w ≡ p s → then ≡ line ink (filter p (take (i + 1) ss))
  line_next p ss i s now then w l is was new e =
      new ∙ ap (λ xs. xs ▷ line ink (cond w (s ∷ []) [])) was ∙ ap (λ (b : Bool). line ink (filter p (take i ss)) ▷ line ink (cond b (s ∷ []) [])) e
      ∙ sym (line-append (filter p (take i ss)) (filter p (s ∷ []))) ∙ ap (line ink) (sym (filter_take p ss i s l is))
