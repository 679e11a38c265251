-- What the parts of a verdict find is what the table of verdicts says.
use Rattle.std.proofs.Common.{◌≡◌, ℕ, zero, suc, ◌+◌, ◌<◌, Bool, true, false, not, List, [], ◌∷◌, ◌++◌, map, take, Option, Some, None, refl, sym, ap, subst, ◌∙◌, ◌⊎◌, inl, inr, Contains, IsTrue}
use Rattle.std.specs.Prelude.{nat_lt, slice_get, option_and_then, is_none}
use Rattle.std.proofs.lemmas.Bool.{and_parts, and_from, ltb-true, lt-ltb}
use Rattle.std.proofs.lemmas.Option.{none-some, same_Some}
use Rattle.rd_graph.specs.Names.{is_in, place_of, same_entry}
use Rattle.rd_graph.proofs.Lists.Entries.{same_entry-sound, same_entry-refl}
use Rattle.rd_graph.proofs.Lists.Listing.{Has, Once, cases, never, has_from, contains_from, has_map}
use Rattle.rd_item.specs.declared.leaf.Leaf.{Leaf}
use Rattle.rd_keys.specs.Keys.{BoxKey}
use Rattle.rd_keys.specs.declared.entry.Part.{Part}
use Rattle.rd_keys.specs.declared.entry.EntryKey.{EntryKey}
use Rattle.rd_keys.specs.declared.entry.EntryKey.TheVariants as key
use Rattle.rd_list.specs.Wrappers.{Wrapper}
use Rattle.rd_list.specs.Entries.{Entries, flat, routes, no_group_is_empty}
use Rattle.rd_list.specs.Lists.{StandsFor, same_leaf, leaves_meet}
use Rattle.rd_list.proofs.Merges.Ordering.{once_same}
use Rattle.rd_check.specs.Listed.{Listed, item, head, entries_of}
use Rattle.rd_check.specs.Verdicts.{IsFirst, Never, name_of, names_of, IsTwice, IsLeafAt, IsExtra, IsDifferent, IsWrapped, IsAbsent, IsCrossed, Says}
use Rattle.rd_check.specs.declared.verdict.Verdict.{Verdict}
use Rattle.rd_check.specs.declared.verdict.Verdict.TheVariants.{Unknown, Twice, Extra, Differs, Wrapped, Missing, Order, Yes}
use Rattle.rd_check.specs.Rows as line
use Rattle.rd_check.specs.Rows.{rows}
use Rattle.rd_check.specs.Internal.Lines.{KeyedRow, row_name, Way}
use Rattle.rd_check.specs.Internal.Finding.{leaf_name, way_name, Sight, sight_by, row_leaf, there, is_extra, unlike, is_different, astray, wrapped_from, is_none_of, is_absent, is_later, is_crossed, same_values, same_groups, IsHit, IsTwiceIn, IsCrossedIn, IsFirstPair, names_in, sights_in, TwiceIn, ExtraIn, DifferentIn, WrappedIn, AbsentIn, IsMissingIn, Tells}
use Rattle.rd_check.proofs.Searching.{names_differ}
use Rattle.rd_check.proofs.Slots.{has_slice, slice_has, before_places, places_before, map_slice, slice_map, no_place, at_place, place_at}
use Rattle.rd_check.proofs.Paths.{with_paths, paths_are, names_rows, listed_leaf, leaves_rows}
use Rattle.rd_check.proofs.Titles.{flat_routes, keys_flat, listed_route, route_listed, key_named, listed_before, before_listed}
use Rattle.rd_check.proofs.Same.{leaf_is, leaf_same, groups_are, groups_same}
use Rattle.rd_check.proofs.Standing.{route_flat, flat_route, own_once, KeysOnce, stands, title_once, goes_forth, goes_back, no_other_way}

-- ---- names that are nowhere twice

once_never : (names : List EntryKey) → Once names → Never (IsTwiceIn names)
once_never [] o i u = absurd (none-some u.0 u.1)
once_never (x ∷ xs) o zero u = let no : false ≡ true = u.2 in absurd cc
once_never (x ∷ xs) o (suc i) u = elim (cases (same_entry x u.0)) [
  | inl t ↦ o.0 (slice_has xs i x (u.1 ∙ ap Some (sym (same_entry-sound x u.0 t))))
  | inr f ↦ let k : is_in same_entry (take i xs) u.0 ≡ true = rw f at u.2 in once_never xs o.1 i (u.0, u.1, k)
]

-- ---- leaves of two names

same_name : (a b : Leaf) → leaf_name a ≡ leaf_name b → same_leaf a b ≡ true
same_name a b e = subst (λ (k : EntryKey). same_entry (leaf_name a) k ≡ true) e (same_entry-refl (leaf_name a))

name_same : (a b : Leaf) → same_leaf a b ≡ true → leaf_name a ≡ leaf_name b
name_same a b h = same_entry-sound (leaf_name a) (leaf_name b) h

not_both : (b : Bool) → (b ≡ true → ⊥) → b ≡ false
not_both true h = absurd (h refl)
not_both false h = refl

module _ (list fresh : Entries Wrapper Leaf) where
  abbrev lines : List KeyedRow
  lines = rows 0 list

  abbrev ways : List Way
  ways = routes [] fresh

  abbrev fresh_names : List EntryKey
  fresh_names = map way_name ways

  abbrev sights : List Sight
  sights = sights_in lines ways

  abbrev place : Leaf → Option ℕ
  place l = place_of same_entry fresh_names (leaf_name l)

  -- ---- leaves by their places

  -- the line of a leaf
  record IsLine (i : ℕ) (l : Leaf) : Type 0 where
    depth : ℕ
    at : slice_get lines i ≡ Some (line.item depth l)

  line_of : (i : ℕ) (round : List Wrapper) (l : Leaf) → IsLeafAt list i round l → IsLine i l
  line_of i round l e =
      let a : slice_get (map row_leaf lines) i ≡ Some (Some l) = ap (λ (z : List (Option Leaf)). slice_get z i) (sym (leaves_rows [] 0 list)) ∙ map_slice listed_leaf (entries_of list) i (item round l) e in
      let r = slice_map row_leaf lines i (Some l) a in
      by_row r.0 r.1 r.2
    where
      by_row : (r : KeyedRow) → slice_get lines i ≡ Some r → row_leaf r ≡ Some l → IsLine i l
      by_row (line.item d m) s f = record { depth = d; at = s ∙ ap (λ (z : Leaf). Some (line.item d z)) (same_Some m l f) }
      by_row (line.head d g n) s f = absurd (none-some l f)

  record HasRound (i : ℕ) (l : Leaf) : Type 0 where
    round : List Wrapper
    at : IsLeafAt list i round l

  round_of : (i d : ℕ) (l : Leaf) → slice_get lines i ≡ Some (line.item d l) → HasRound i l
  round_of i d l e =
      let a : slice_get (map listed_leaf (entries_of list)) i ≡ Some (Some l) = ap (λ (z : List (Option Leaf)). slice_get z i) (leaves_rows [] 0 list) ∙ map_slice row_leaf lines i (line.item d l) e in
      let r = slice_map listed_leaf (entries_of list) i (Some l) a in
      by_entry r.0 r.1 r.2
    where
      by_entry : (e : Listed Wrapper Leaf) → slice_get (entries_of list) i ≡ Some e → listed_leaf e ≡ Some l → HasRound i l
      by_entry (item round m) s f = record { round = round; at = s ∙ ap (λ (z : Leaf). Some (item round z)) (same_Some m l f) }
      by_entry (head round g) s f = absurd (none-some l f)

  -- what is seen of a line
  sight_at : (i : ℕ) (r : KeyedRow) → slice_get lines i ≡ Some r → slice_get sights i ≡ Some (sight_by fresh_names r)
  sight_at i r e = map_slice (sight_by fresh_names) lines i r e

  -- a test that a line passes, and the other way round
  hit_at : (test : Sight → Bool) (i : ℕ) (r : KeyedRow) → slice_get lines i ≡ Some r → test (sight_by fresh_names r) ≡ true → IsHit (map test sights) i
  hit_at test i r e t = map_slice test sights i (sight_by fresh_names r) (sight_at i r e) ∙ ap (λ (b : Bool). Some b) t

  record IsPassed (test : Sight → Bool) (i : ℕ) : Type 0 where
    row : KeyedRow
    at : slice_get lines i ≡ Some row
    passes : test (sight_by fresh_names row) ≡ true

  at_hit : (test : Sight → Bool) (i : ℕ) → IsHit (map test sights) i → IsPassed test i
  at_hit test i h =
      let s = slice_map test sights i true h in
      let r = slice_map (sight_by fresh_names) lines i s.0 s.1 in
      record { row = r.0; at = r.1; passes = ap test r.2 ∙ s.2 }

  -- the leaf at a place
  record IsThere (l : Leaf) (w : Way) : Type 0 where
    spot : ℕ
    placed : place l ≡ Some spot
    at : slice_get ways spot ≡ Some w
    named : way_name w ≡ leaf_name l

  there_by : (l : Leaf) (q : ℕ) → place l ≡ Some q → (w : Way) × IsThere l w
  there_by l q e =
      let r = slice_map way_name ways q (leaf_name l) (at_place fresh_names (leaf_name l) q e) in
      (r.0, record { spot = q; placed = e; at = r.1; named = r.2 })

  there_is : (d : ℕ) (l : Leaf) (w : Way) → IsThere l w → there ways (sight_by fresh_names (line.item d l)) ≡ Some w
  there_is d l w t = ap (option_and_then (slice_get ways)) t.placed ∙ t.at

  -- ---- twice

  titles : names_in lines ≡ names_of list
  titles = sym (names_rows [] 0 list)

  twice_is : (i : ℕ) → TwiceIn lines i → IsTwice list i
  twice_is i u = subst (λ (z : List EntryKey). IsTwiceIn z i) titles u

  is_twice : (i : ℕ) → IsTwice list i → TwiceIn lines i
  is_twice i u = subst (λ (z : List EntryKey). IsTwiceIn z i) (sym titles) u

  -- ---- extra

  has_name : (m : Leaf) → Contains (flat fresh) m → Has fresh_names (leaf_name m)
  has_name m c = subst (λ (z : List EntryKey). Has z (leaf_name m)) (sym (keys_flat [] fresh)) (has_map leaf_name (flat fresh) m (has_from (flat fresh) m c))

  nowhere : (l : Leaf) → place l ≡ None → (m : Leaf) → Contains (flat fresh) m → same_leaf m l ≡ false
  nowhere l e m c = not_both (same_leaf m l) (λ t. no_place fresh_names (leaf_name l) e (subst (λ (k : EntryKey). Has fresh_names k) (name_same m l t) (has_name m c)))

  extra_is : (i : ℕ) → ExtraIn lines ways i → IsExtra list fresh i
  extra_is i h = let p = at_hit is_extra i h in by_row p.row p.at p.passes
    where
      no_spot : (l : Leaf) (o : Option ℕ) → place l ≡ o → is_none o ≡ true → place l ≡ None
      no_spot l None e t = e
      no_spot l (Some q) e t = absurd cc

      by_row : (r : KeyedRow) → slice_get lines i ≡ Some r → is_extra (sight_by fresh_names r) ≡ true → IsExtra list fresh i
      by_row (line.item d l) s t =
          let r = round_of i d l s in
          (r.round, l, r.at, nowhere l (no_spot l (place l) refl t))
      by_row (line.head d g n) s t = absurd cc

  is_extra_at : (i : ℕ) → IsExtra list fresh i → ExtraIn lines ways i
  is_extra_at i u =
      let r = line_of i u.0 u.1 u.2 in
      hit_at is_extra i (line.item r.depth u.1) r.at (by_place (place u.1) refl)
    where
      by_place : (o : Option ℕ) → place u.1 ≡ o → is_none o ≡ true
      by_place None e = refl
      by_place (Some q) e =
          let t = there_by u.1 q e in
          let w = t.0 in
          let k : Contains (flat fresh) w.1 = contains_from (flat fresh) w.1 (route_flat fresh w (slice_has ways q w (subst (λ (z : ℕ). slice_get ways z ≡ Some w) (same_Some t.1.spot q (sym t.1.placed ∙ e)) t.1.at))) in
          absurd (never (same_leaf w.1 u.1) (same_name w.1 u.1 t.1.named) (u.3 w.1 k))

  -- ---- different

  true_not : (b : Bool) → (b ≡ true → ⊥) → not b ≡ true
  true_not true h = absurd (h refl)
  true_not false h = refl

  not_so : (b : Bool) → b ≡ true → not b ≡ true → ⊥
  not_so b t n = let no : false ≡ true = ap not (sym t) ∙ n in absurd cc

  one_way : KeysOnce fresh → (w v : Way) → Has ways w → Has ways v → way_name w ≡ way_name v → w ≡ v
  one_way own w v h k e = once_same way_name ways w v own h k e

  is_there : (l : Leaf) (w : Way) → IsThere l w → Has ways w
  is_there l w t = slice_has ways t.spot w t.at

  -- a leaf of this name is this leaf
  same_there : KeysOnce fresh → (l : Leaf) (w : Way) → IsThere l w → Contains (flat fresh) l → l ≡ w.1
  same_there own l w t c =
      let r = flat_route fresh l (has_from (flat fresh) l c) in
      ap (λ (v : Way). v.1) (one_way own (r.0, l) w r.1 (is_there l w t) (sym t.named))

  different_is : KeysOnce fresh → (i : ℕ) → DifferentIn lines ways i → IsDifferent list fresh i
  different_is own i h = let p = at_hit (is_different ways) i h in by_row p.row p.at p.passes
    where
      other : (d : ℕ) (l : Leaf) (o : Option ℕ) → place l ≡ o → is_different ways (sight_by fresh_names (line.item d l)) ≡ true → Contains (flat fresh) l → ⊥
      other d l None e t c =
          let no : true ≡ false = sym t ∙ ap (λ (o : Option ℕ). unlike (Some l) (option_and_then (slice_get ways) o)) e in
          absurd cc
      other d l (Some q) e t c =
          let v = there_by l q e in
          let w = v.0 in
          let u : not (same_values l w.1) ≡ true = sym (ap (unlike (Some l)) (there_is d l w v.1)) ∙ t in
          let same : same_values l w.1 ≡ true = subst (λ (z : Leaf). same_values l z ≡ true) (same_there own l w v.1 c) (leaf_same l) in
          not_so (same_values l w.1) same u

      by_row : (r : KeyedRow) → slice_get lines i ≡ Some r → is_different ways (sight_by fresh_names r) ≡ true → IsDifferent list fresh i
      by_row (line.item d l) s t = let r = round_of i d l s in (r.round, l, r.at, other d l (place l) refl t)
      by_row (line.head d g n) s t = absurd cc

  module _ (none_extra : Never (ExtraIn lines ways)) where
    -- each leaf has its name there
    found : (i d : ℕ) (l : Leaf) → slice_get lines i ≡ Some (line.item d l) → (w : Way) × IsThere l w
    found i d l s = by_place (place l) refl
      where
        by_place : (o : Option ℕ) → place l ≡ o → (w : Way) × IsThere l w
        by_place None e = absurd (none_extra i (hit_at is_extra i (line.item d l) s (ap (λ (o : Option ℕ). is_none o) e)))
        by_place (Some q) e = there_by l q e

    is_different_at : (i : ℕ) → IsDifferent list fresh i → DifferentIn lines ways i
    is_different_at i u =
        let r = line_of i u.0 u.1 u.2 in
        let v = found i r.depth u.1 r.at in
        let w = v.0 in
        let other : same_values u.1 w.1 ≡ true → ⊥ = λ t.
        let is : u.1 ≡ w.1 = leaf_is u.1 w.1 (sym v.1.named) t in
        u.3 (subst (λ (z : Leaf). Contains (flat fresh) z) (sym is) (contains_from (flat fresh) w.1 (route_flat fresh w (is_there u.1 w v.1)))) in
        hit_at (is_different ways) i (line.item r.depth u.1) r.at (ap (unlike (Some u.1)) (there_is r.depth u.1 w v.1) ∙ true_not (same_values u.1 w.1) other)

    module _ (none_other : Never (DifferentIn lines ways)) where
      -- with its values
      found_same : (i d : ℕ) (l : Leaf) → slice_get lines i ≡ Some (line.item d l) → (w : Way) × IsThere l w × (l ≡ w.1)
      found_same i d l s =
          let v = found i d l s in
          (v.0, v.1, by_test v.0 v.1 (cases (same_values l v.0.1)))
        where
          by_test : (w : Way) → IsThere l w → (same_values l w.1 ≡ true) ⊎ (same_values l w.1 ≡ false) → l ≡ w.1
          by_test w t (inl y) = leaf_is l w.1 (sym t.named) y
          by_test w t (inr n) = absurd (none_other i (hit_at (is_different ways) i (line.item d l) s (ap (unlike (Some l)) (there_is d l w t) ∙ ap not n)))

  -- ---- wrapped

  abbrev wrapped_one : Listed Wrapper Leaf → Bool
  wrapped_one (item round l) = astray round (there ways (sight_by fresh_names (line.item 0 l)))
  wrapped_one (head round g) = false

  wrapped_all : (p : List Wrapper) (rs : List KeyedRow) → wrapped_from ways p (map (sight_by fresh_names) rs) ≡ map wrapped_one (with_paths p rs)
  wrapped_all p [] = refl
  wrapped_all p (line.item d l ∷ rs) = ap (λ z. wrapped_one (item (take d p) l) ∷ z) (wrapped_all (take d p) rs)
  wrapped_all p (line.head d g n ∷ rs) = ap (λ z. false ∷ z) (wrapped_all (take d p ++ g ∷ []) rs)

  wrapped_tests : wrapped_from ways [] sights ≡ map wrapped_one (entries_of list)
  wrapped_tests = wrapped_all [] lines ∙ ap (map wrapped_one) (paths_are list)

  wrapped_is : KeysOnce fresh → (i : ℕ) → WrappedIn lines ways i → IsWrapped list fresh i
  wrapped_is own i h =
      let s = slice_map wrapped_one (entries_of list) i true (ap (λ (z : List Bool). slice_get z i) (sym wrapped_tests) ∙ h) in
      by_entry s.0 s.1 s.2
    where
      other : (round : List Wrapper) (l : Leaf) (o : Option ℕ) → place l ≡ o → wrapped_one (item round l) ≡ true → Contains ways (round, l) → ⊥
      other round l None e t c =
          let no : true ≡ false = sym t ∙ ap (λ (o : Option ℕ). astray round (option_and_then (slice_get ways) o)) e in
          absurd cc
      other round l (Some q) e t c =
          let v = there_by l q e in
          let w = v.0 in
          let u : not (same_groups round w.0) ≡ true = sym (ap (astray round) (there_is 0 l w v.1)) ∙ t in
          let is : ◌≡◌ {A = Way} (round, l) w = one_way own (round, l) w (has_from ways (round, l) c) (is_there l w v.1) (sym v.1.named) in
          let same : same_groups round w.0 ≡ true = subst (λ (z : Way). same_groups round z.0 ≡ true) is (groups_same round) in
          not_so (same_groups round w.0) same u

      by_entry : (e : Listed Wrapper Leaf) → slice_get (entries_of list) i ≡ Some e → wrapped_one e ≡ true → IsWrapped list fresh i
      by_entry (item round l) s t = (round, l, s, other round l (place l) refl t)
      by_entry (head round g) s t = absurd cc

  module _ (none_extra : Never (ExtraIn lines ways)) (none_other : Never (DifferentIn lines ways)) where
    is_wrapped_at : (i : ℕ) → IsWrapped list fresh i → WrappedIn lines ways i
    is_wrapped_at i u =
        let r = line_of i u.0 u.1 u.2 in
        let v = found_same none_extra none_other i r.depth u.1 r.at in
        let w = v.0 in
        let other : same_groups u.0 w.0 ≡ true → ⊥ = λ t.
        let is : w ≡ (u.0, u.1) = pair_of w u.0 u.1 (groups_are u.0 w.0 t) v.2 in
        u.3 (subst (λ (z : Way). Contains ways z) is (contains_from ways w (is_there u.1 w v.1))) in
        ap (λ (z : List Bool). slice_get z i) wrapped_tests
        ∙ map_slice wrapped_one (entries_of list) i (item u.0 u.1) u.2
        ∙ ap (λ (b : Bool). Some b) (ap (astray u.0) (there_is 0 u.1 w v.1) ∙ true_not (same_groups u.0 w.0) other)
      where
        pair_of : (w : Way) (round : List Wrapper) (l : Leaf) → round ≡ w.0 → l ≡ w.1 → w ≡ (round, l)
        pair_of w round l e f = λ i. (sym e i, sym f i)

    module _ (none_wrapped : Never (WrappedIn lines ways)) where
      -- each leaf stands there below the same groups
      found_way : (i : ℕ) (round : List Wrapper) (l : Leaf) → IsLeafAt list i round l → Has ways (round, l)
      found_way i round l s =
          let r = line_of i round l s in
          let v = found_same none_extra none_other i r.depth l r.at in
          let w = v.0 in
          by_test w v.1 v.2 (cases (same_groups round w.0))
        where
          by_test : (w : Way) → IsThere l w → l ≡ w.1 → (same_groups round w.0 ≡ true) ⊎ (same_groups round w.0 ≡ false) → Has ways (round, l)
          by_test w t f (inl y) =
              let e = groups_are round w.0 y in
              let is : w ≡ (round, l) = λ i. (sym e i, sym f i) in
              subst (λ (z : Way). Has ways z) is (is_there l w t)
          by_test w t f (inr n) =
              absurd (none_wrapped i
              (ap (λ (z : List Bool). slice_get z i) wrapped_tests
              ∙ map_slice wrapped_one (entries_of list) i (item round l) s
              ∙ ap (λ (b : Bool). Some b) (ap (astray round) (there_is 0 l w t) ∙ ap not n)))

  -- ---- absent

  flat_at : (n : ℕ) (w : Way) → slice_get ways n ≡ Some w → slice_get (flat fresh) n ≡ Some w.1
  flat_at n w e = ap (λ (z : List Leaf). slice_get z n) (sym (flat_routes [] fresh)) ∙ map_slice (λ (v : Way). v.1) ways n w e

  none_is : (o : Option ℕ) → is_none o ≡ true → o ≡ None
  none_is None t = refl
  none_is (Some q) t = absurd cc

  some_is : (o : Option ℕ) → is_none o ≡ false → (q : ℕ) × (o ≡ Some q)
  some_is None t = absurd cc
  some_is (Some q) t = (q, refl)

  -- a leaf of the list with a name
  record IsNamedLeaf (k : EntryKey) : Type 0 where
    place : ℕ
    round : List Wrapper
    leaf : Leaf
    at : IsLeafAt list place round leaf
    name : leaf_name leaf ≡ k

  named_leaf : (m : Leaf) (q : ℕ) → place_of same_entry (names_in lines) (leaf_name m) ≡ Some q → IsNamedLeaf (leaf_name m)
  named_leaf m q e =
      let s = slice_map name_of (entries_of list) q (leaf_name m) (ap (λ (z : List EntryKey). slice_get z q) (names_rows [] 0 list) ∙ at_place (names_in lines) (leaf_name m) q e) in
      by_entry s.0 s.1 s.2
    where
      by_entry : (e : Listed Wrapper Leaf) → slice_get (entries_of list) q ≡ Some e → name_of e ≡ leaf_name m → IsNamedLeaf (leaf_name m)
      by_entry (item round l) s f = record { place = q; round = round; leaf = l; at = s; name = f }
      by_entry (head round g) s f = let no : key.Group g.key ≡ key.Leaf m.owner m.part = f in absurd cc

  leaf_there : (i : ℕ) (round : List Wrapper) (l : Leaf) → IsLeafAt list i round l → Has (routes [] list) (round, l)
  leaf_there i round l s = listed_route [] list round l (slice_has (entries_of list) i (item round l) s)

  absent_hit : (n : ℕ) (w : Way) → slice_get ways n ≡ Some w → is_absent (names_in lines) w ≡ true → AbsentIn lines ways n
  absent_hit n w e t = map_slice (is_none_of (names_in lines)) fresh_names n (way_name w) (map_slice way_name ways n w e) ∙ ap (λ (b : Bool). Some b) t

  hit_absent : (n : ℕ) → AbsentIn lines ways n → (w : Way) × (slice_get ways n ≡ Some w) × (is_absent (names_in lines) w ≡ true)
  hit_absent n h =
      let s = slice_map (is_none_of (names_in lines)) fresh_names n true h in
      let r = slice_map way_name ways n s.0 s.1 in
      (r.0, r.1, ap (is_none_of (names_in lines)) r.2 ∙ s.2)

  absent_is : (n : ℕ) → AbsentIn lines ways n → IsAbsent list fresh n
  absent_is n h =
      let s = hit_absent n h in
      let w = s.0 in (
        w.1,
        flat_at n w s.1,
        λ m c. not_both (same_leaf m w.1) (λ t.
            let k = key_named [] list (leaf_name m) (subst (λ (z : List EntryKey). Has z (leaf_name m)) (sym (keys_flat [] list)) (has_map leaf_name (flat list) m (has_from (flat list) m c))) in
            let k2 : Has (names_in lines) (leaf_name m) = subst (λ (z : List EntryKey). Has z (leaf_name m)) (names_rows [] 0 list) k in
            let k3 : Has (names_in lines) (way_name w) = subst (λ (z : EntryKey). Has (names_in lines) z) (name_same m w.1 t) k2 in
            no_place (names_in lines) (way_name w) (none_is (place_of same_entry (names_in lines) (way_name w)) s.2) k3),
      )

  is_absent_at : (n : ℕ) → IsAbsent list fresh n → AbsentIn lines ways n
  is_absent_at n u =
      let s = slice_map (λ (v : Way). v.1) ways n u.0 (ap (λ (z : List Leaf). slice_get z n) (flat_routes [] fresh) ∙ u.1) in
      absent_hit n s.0 s.1 (by_test s.0 s.2 (cases (is_absent (names_in lines) s.0)))
    where
      by_test : (w : Way) → w.1 ≡ u.0 → (is_absent (names_in lines) w ≡ true) ⊎ (is_absent (names_in lines) w ≡ false) → is_absent (names_in lines) w ≡ true
      by_test w e (inl y) = y
      by_test w e (inr f) =
          let q = some_is (place_of same_entry (names_in lines) (way_name w)) f in
          let m = named_leaf w.1 q.0 q.1 in
          let c : Contains (flat list) m.leaf = contains_from (flat list) m.leaf (route_flat list (m.round, m.leaf) (leaf_there m.place m.round m.leaf m.at)) in
          let t : same_leaf m.leaf u.0 ≡ true = same_name m.leaf u.0 (m.name ∙ ap leaf_name e) in
          absurd (never (same_leaf m.leaf u.0) t (u.2 m.leaf c))

  -- ---- crossed

  crossed_is : Never (ExtraIn lines ways) → Never (DifferentIn lines ways) → (i j : ℕ) → IsCrossedIn sights i j → IsCrossed list fresh i j
  crossed_is none_extra none_other i j c =
      let x = slice_map (sight_by fresh_names) lines i c.lower c.lower_at in
      let y = slice_map (sight_by fresh_names) lines j c.upper c.upper_at in
      let t : is_crossed (sight_by fresh_names x.0) (sight_by fresh_names y.0) ≡ true =
      ap (λ (z : Sight). is_crossed z (sight_by fresh_names y.0)) x.2 ∙ ap (λ (z : Sight). is_crossed c.lower z) y.2 ∙ c.crossed in
      by_rows c.below x.0 y.0 x.1 y.1 t
    where
      by_rows : i < j → (r s : KeyedRow) → slice_get lines i ≡ Some r → slice_get lines j ≡ Some s → is_crossed (sight_by fresh_names r) (sight_by fresh_names s) ≡ true → IsCrossed list fresh i j
      by_rows below (line.item d a) (line.item e b) p q t =
          let tests = and_parts (is_later (place a) (place b)) (leaves_meet a b) t in
          let v = found_same none_extra none_other i d a p in
          let w = found_same none_extra none_other j e b q in
          let vt = v.1 in
          let wt = w.1 in
          let later : nat_lt wt.spot vt.spot ≡ true =
          ap (λ (o : Option ℕ). is_later o (Some wt.spot)) (sym vt.placed) ∙ ap (λ (o : Option ℕ). is_later (place a) o) (sym wt.placed) ∙ tests.0 in
          let x = round_of i d a p in
          let y = round_of j e b q in
          record {
            below = below;
            round = x.round;
            lower = a;
            lower_at = x.at;
            other_round = y.round;
            upper = b;
            upper_at = y.at;
            met = tests.1;
            other_way = places_before (flat fresh) wt.spot vt.spot b a (ltb-true wt.spot vt.spot later)
                (flat_at wt.spot w.0 wt.at ∙ ap (λ (z : Leaf). Some z) (sym w.2)) (flat_at vt.spot v.0 vt.at ∙ ap (λ (z : Leaf). Some z) (sym v.2));
          }
      by_rows below (line.item d a) (line.head e g n) p q t =
          let f : false ≡ true = (and_parts (is_later (place a) (place_of same_entry fresh_names (row_name (line.head e g n)))) false t).1 in
          absurd cc
      by_rows below (line.head d g n) s p q t =
          let f : false ≡ true = (and_parts (is_later (place_of same_entry fresh_names (row_name (line.head d g n))) (place_of same_entry fresh_names (row_name s))) false t).1 in
          absurd cc

  placed_at : KeysOnce fresh → (q : ℕ) (l : Leaf) → slice_get (flat fresh) q ≡ Some l → place l ≡ Some q
  placed_at own q l e =
      place_at fresh_names (leaf_name l) q own
      (ap (λ (z : List EntryKey). slice_get z q) (keys_flat [] fresh) ∙ map_slice leaf_name (flat fresh) q l e)

  is_crossed_at : KeysOnce fresh → (i j : ℕ) → IsCrossed list fresh i j → IsCrossedIn sights i j
  is_crossed_at own i j c =
      let x = line_of i c.round c.lower c.lower_at in
      let y = line_of j c.other_round c.upper c.upper_at in
      let s = before_places (flat fresh) c.upper c.lower c.other_way in
      let later : is_later (place c.lower) (place c.upper) ≡ true =
      ap (λ (o : Option ℕ). is_later o (place c.upper)) (placed_at own s.second c.lower s.second_at)
      ∙ ap (λ (o : Option ℕ). is_later (Some s.second) o) (placed_at own s.first c.upper s.first_at)
      ∙ lt-ltb s.first s.second s.below in
      record {
        below = c.below;
        lower = sight_by fresh_names (line.item x.depth c.lower);
        upper = sight_by fresh_names (line.item y.depth c.upper);
        lower_at = sight_at i (line.item x.depth c.lower) x.at;
        upper_at = sight_at j (line.item y.depth c.upper) y.at;
        crossed = and_from (is_later (place c.lower) (place c.upper)) (leaves_meet c.lower c.upper) later c.met;
      }

  -- ---- the whole table

  first_as : (P Q : ℕ → Type 0) → ((i : ℕ) → P i → Q i) → ((i : ℕ) → Q i → P i) → (i : ℕ) → IsFirst P i → IsFirst Q i
  first_as P Q f g i h = record { holds = f i h.holds; least = λ j l q. h.least j l (g j q) }

  module _ (itself : StandsFor fresh fresh) (filled : IsTrue (no_group_is_empty list)) where
    own : KeysOnce fresh
    own = own_once fresh fresh itself

    abbrev Right : Verdict → Type 0
    Right v = Says list fresh v × (StandsFor list fresh → v ≡ Yes)

    in_fresh : StandsFor list fresh → (i : ℕ) (round : List Wrapper) (l : Leaf) → IsLeafAt list i round l → Has ways (round, l)
    in_fresh s i round l e = goes_forth list fresh s (round, l) (leaf_there i round l e)

    leaf_in : StandsFor list fresh → (i : ℕ) (round : List Wrapper) (l : Leaf) → IsLeafAt list i round l → Contains (flat fresh) l
    leaf_in s i round l e = contains_from (flat fresh) l (route_flat fresh (round, l) (in_fresh s i round l e))

    twice_right : (i : ℕ) → IsFirst (TwiceIn lines) i → Right (Twice i)
    twice_right i f = (
      first_as (TwiceIn lines) (IsTwice list) twice_is is_twice i f,
      λ s. absurd (once_never (names_of list) (title_once list fresh s) i (twice_is i f.holds)),
    )

    never_twice : Never (TwiceIn lines) → Never (IsTwice list)
    never_twice n i u = n i (is_twice i u)

    never_extra : Never (ExtraIn lines ways) → Never (IsExtra list fresh)
    never_extra n i u = n i (is_extra_at i u)

    extra_right : (i : ℕ) → Never (TwiceIn lines) → IsFirst (ExtraIn lines ways) i → Right (Extra i)
    extra_right i t f = (
      (never_twice t, first_as (ExtraIn lines ways) (IsExtra list fresh) extra_is is_extra_at i f),
      λ s.
          let u = extra_is i f.holds in
          absurd (never (same_leaf u.1 u.1) (same_name u.1 u.1 refl) (u.3 u.1 (leaf_in s i u.0 u.1 u.2))),
    )

    different_right : (i : ℕ) → Never (TwiceIn lines) → Never (ExtraIn lines ways) → IsFirst (DifferentIn lines ways) i → Right (Differs i)
    different_right i t e f = (
      (never_twice t, never_extra e, first_as (DifferentIn lines ways) (IsDifferent list fresh) (different_is own) (is_different_at e) i f),
      λ s. let u = different_is own i f.holds in absurd (u.3 (leaf_in s i u.0 u.1 u.2)),
    )

    module _ (t : Never (TwiceIn lines)) (e : Never (ExtraIn lines ways)) (d : Never (DifferentIn lines ways)) where
      never_different : Never (IsDifferent list fresh)
      never_different i u = d i (is_different_at e i u)

      wrapped_right : (i : ℕ) → IsFirst (WrappedIn lines ways) i → Right (Wrapped i)
      wrapped_right i f = (
        (never_twice t, never_extra e, never_different, first_as (WrappedIn lines ways) (IsWrapped list fresh) (wrapped_is own) (is_wrapped_at e d) i f),
        λ s. let u = wrapped_is own i f.holds in absurd (u.3 (contains_from ways (u.0, u.1) (in_fresh s i u.0 u.1 u.2))),
      )

      module _ (w : Never (WrappedIn lines ways)) where
        never_wrapped : Never (IsWrapped list fresh)
        never_wrapped i u = w i (is_wrapped_at e d i u)

        missing_right : (k : BoxKey) (p : Part) → IsMissingIn lines ways k p → Right (Missing k p)
        missing_right k p m = (
          (
            never_twice t,
            never_extra e,
            never_different,
            never_wrapped,
            record {
              place = m.place;
              first = first_as (AbsentIn lines ways) (IsAbsent list fresh) absent_is is_absent_at m.place m.first;
              leaf_there = λ l a.
                  let is : m.way.1 ≡ l = same_Some m.way.1 l (sym (flat_at m.place m.way m.way_at) ∙ a) in
                  (ap (λ (z : Leaf). z.owner) (sym is) ∙ m.owner, ap (λ (z : Leaf). z.part) (sym is) ∙ m.part);
            },
          ),
          λ s.
              let u = absent_is m.place m.first.holds in
              let r = flat_route fresh u.0 (slice_has (flat fresh) m.place u.0 u.1) in
              let c : Contains (flat list) u.0 = contains_from (flat list) u.0 (route_flat list (r.0, u.0) (goes_back list fresh s (r.0, u.0) r.1)) in
              absurd (never (same_leaf u.0 u.0) (same_name u.0 u.0 refl) (u.2 u.0 c)),
        )

        module _ (a : Never (AbsentIn lines ways)) where
          never_absent : Never (IsAbsent list fresh)
          never_absent i u = a i (is_absent_at i u)

          order_right : (i j : ℕ) → IsFirstPair (IsCrossedIn sights) i j → Right (Order i j)
          order_right i j f = (
            (
              never_twice t,
              never_extra e,
              never_different,
              never_wrapped,
              never_absent,
              record {
                crossed = crossed_is e d i j f.crossed;
                second = λ x y l c. f.second x y l (is_crossed_at own x y c);
                first = λ x l c. f.first x l (is_crossed_at own x j c);
              },
            ),
            λ s.
                let c = crossed_is e d i j f.crossed in
                let b = places_before (entries_of list) i j (item c.round c.lower) (item c.other_round c.upper) c.below c.lower_at c.upper_at in
                absurd (no_other_way list fresh s own c.lower c.upper (listed_before [] list c.round c.other_round c.lower c.upper b) c.other_way c.met),
          )

          forth : (v : Way) → Has (routes [] list) v → Has ways v
          forth v h =
              let s = has_slice (entries_of list) (item v.0 v.1) (route_listed [] list v h) in
              found_way e d w s.0 v.0 v.1 s.1

          back : (v : Way) → Has ways v → Has (routes [] list) v
          back v h = let s = has_slice ways v h in by_test s.0 s.1 (cases (is_absent (names_in lines) v))
            where
              by_test : (n : ℕ) → slice_get ways n ≡ Some v → (is_absent (names_in lines) v ≡ true) ⊎ (is_absent (names_in lines) v ≡ false) → Has (routes [] list) v
              by_test n s (inl y) = absurd (a n (absent_hit n v s y))
              by_test n s (inr f) =
                  let q = some_is (place_of same_entry (names_in lines) (way_name v)) f in
                  let m = named_leaf v.1 q.0 q.1 in
                  let there = leaf_there m.place m.round m.leaf m.at in
                  let is : ◌≡◌ {A = Way} (m.round, m.leaf) v = one_way own (m.round, m.leaf) v (forth (m.round, m.leaf) there) h m.name in
                  subst (λ (z : Way). Has (routes [] list) z) is there

          yes_right : ((i j : ℕ) → IsCrossedIn sights i j → ⊥) → Right Yes
          yes_right c = (
            stands list fresh (subst (λ (z : List EntryKey). Once z) titles (names_differ (names_in lines) t)) own filled forth back
                (λ x y p q m.
                let r = before_listed [] list x y p in
                let s = before_places (entries_of list) (item r.first x) (item r.second y) r.order in
                c s.first s.second (is_crossed_at own s.first s.second (record {
                  below = s.below;
                  round = r.first;
                  lower = x;
                  lower_at = s.first_at;
                  other_round = r.second;
                  upper = y;
                  upper_at = s.second_at;
                  met = m;
                  other_way = q;
                }))),
            λ s. refl,
          )

    pub table : (v : Verdict) → Tells lines ways v → Right v
    table (Unknown i) h = absurd h
    table (Twice i) h = twice_right i h
    table (Extra i) h = extra_right i h.0 h.1
    table (Differs i) h = different_right i h.0 h.1 h.2
    table (Wrapped i) h = wrapped_right h.0 h.1 h.2 i h.3
    table (Missing k p) h = missing_right h.0 h.1 h.2 h.3 k p h.4
    table (Order i j) h = order_right h.0 h.1 h.2 h.3 h.4 i j h.5
    table Yes h = yes_right h.0 h.1 h.2 h.3 h.4 h.5
