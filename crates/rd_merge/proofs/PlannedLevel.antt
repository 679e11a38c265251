-- A level that is stepped and patched by its plan is a merge.
use Rattle.std.proofs.Common.{◌≡◌, refl, ap, ◌∙◌, sym, subst, ℕ, suc, ◌+◌, ◌≤◌, Bool, true, false, List, [], ◌∷◌, ◌++◌, length, arith, inl, inr, ◌⊎◌}
use Rattle.std.specs.Prelude.{Option, Some, None, map, Contains}
use Rattle.rd_graph.specs.Gathered.{gathered, arranged, IsLine}
use Rattle.rd_graph.specs.Graphs.{Graph, nodes}
use Rattle.rd_graph.specs.Names.{is_in, same_entry, place_of}
use Rattle.rd_graph.specs.Patches.{PatchOf, lists_of, made_of, line_of, with_lists, not_found, AreRising, is_gone, FitsPatch, CanBePatched, IsPatched, IsStill}
use Rattle.rd_graph.proofs.Reaching.Calls.{once_of}
use Rattle.rd_graph.proofs.Lists.Entries.{same_entry-sound, same_entry-refl, in_has, has_in, place_none}
use Rattle.rd_graph.proofs.Reaching.Lines.{ordered}
use Rattle.rd_graph.proofs.Lists.Listing.{Has, Once, cases, never, has_from, contains_from, has_left, has_right, has_either, has_map, once_join}
use Rattle.rd_graph.proofs.Patches.Merged.{with_lists_names}
use Rattle.rd_keys.specs.Keys.{BoxKey}
use Rattle.rd_keys.specs.declared.entry.EntryKey.{EntryKey}
use Rattle.rd_item.specs.declared.leaf.Leaf.{Leaf}
use Rattle.rd_item.specs.Items.{Made}
use Rattle.rd_list.specs.Wrappers.{Wrapper}
use Rattle.rd_list.specs.Entries.{Entries, nil, leaf, group, ◌▷◌, heads, only}
use Rattle.rd_list.specs.EntryNames.{entry_names, made_leaf, kept_leaves, new_leaves, new_names}
use Rattle.rd_list.specs.Internal.Fits.{TellsGone, MakesLevel, is_group, within_new}
use Rattle.rd_list.specs.Kept.{Ordered, KeptList, within, IsMerged}
use Rattle.rd_list.specs.Levels.{keys}
use Rattle.rd_list.proofs.Merges.Fitting.{going_together}
use Rattle.rd_list.proofs.Merges.Levelling.{has_only}
use Rattle.rd_list.proofs.Merges.Naming.{entry_names_are}
use Rattle.rd_list.proofs.Merges.Picking.{picking, kept_leaf}
use Rattle.rd_merge.specs.Going.{any_stays, gone_keys, is_untouched}
use Rattle.rd_merge.specs.Internal.Fitting.{FitsFor}
use Rattle.rd_merge.specs.Looking.{any_goes, gone_places, kept_names, IsLooked}
use Rattle.rd_merge.specs.Merging.{IsPlan}
use Rattle.rd_merge.specs.Plans.{Steps, size_of, made_count, one_made, stepped, filled, MakesNone, PlacesFit}
use Rattle.rd_merge.specs.Internal.Planning.{NewSteps, InnerSteps}
use Rattle.rd_merge.proofs.Finding.{ones_arranged, arranged_has, arranged_map, place_at, are_put_map, are_put_join, somes_once, not_found_join, head_leaf, leaf_head, head_group_one, one_in_group, group_head, group_of_name, one_named, within_is, within_new_is, within_new_none, old_is, stays_head, leaf_stays, fits_in_group}
use Rattle.rd_merge.proofs.Gone.{tells_gone}
use Rattle.rd_merge.proofs.NewPuts.{place, NewPuts, InnerPuts, new_puts, inner_puts}
use Rattle.rd_merge.proofs.Places.{AreBelow, rising, below_at, gone_gathered, gone_rises, gone_below, is_inner, inner_keys, inner_gathered, inner_below, inner_named, inner_not_new, inner_once, gone_named, last_false}
use Rattle.rd_merge.proofs.Puts.{put_all, append_none, names_append, names_all, held_all, ArePut}
use Rattle.rd_merge.proofs.SteppedLevel.{Olds, News, One, ones, one_name, names_ones, ones_size, places_of, somes, ones_of, EachFits, Stepped, step_all}
use Rattle.rd_merge.proofs.Still.{still_merged}

map_size : {A B : Type 0} (f : A → B) (xs : List A) → length (map f xs) ≡ length xs
map_size f [] = refl
map_size f (x ∷ xs) = ap suc (map_size f xs)

-- as many are made as names are not found
made_not_found : (steps : Steps) (ks : List EntryKey) (os : List (Option ℕ)) → places_of steps ≡ os → length ks ≡ length os → made_count steps ≡ length (not_found ks os)
made_not_found steps ks os e l = subst (λ (us : List (Option ℕ)). made_count steps ≡ length (not_found ks us)) e (by steps ks (l ∙ sym (ap length e)))
  where
    same : (o : Option ℕ) (k : EntryKey) (ks : List EntryKey) (os : List (Option ℕ)) (n : ℕ) → n ≡ length (not_found ks os) → one_made o + n ≡ length (not_found (k ∷ ks) (o ∷ os))
    same None k ks os n h = omega (arith, h)
    same (Some i) k ks os n h = omega (arith, h)

    by : (steps : Steps) (ks : List EntryKey) → length ks ≡ length (places_of steps) → made_count steps ≡ length (not_found ks (places_of steps))
    by nil [] l = refl
    by nil (k ∷ ks) l = absurd (omega (arith, l))
    by (leaf p rest) [] l = absurd (omega (arith, l))
    by (leaf p rest) (k ∷ ks) l = same p k ks (places_of rest) (made_count rest) (by rest ks (omega (arith, l)))
    by (group s inner rest) [] l = absurd (omega (arith, l))
    by (group s inner rest) (k ∷ ks) l = same s.old k ks (places_of rest) (made_count rest) (by rest ks (omega (arith, l)))

same_length : {T : Type 0} (f : T → EntryKey) (ns : List EntryKey) (us : List (Option ℕ)) (vs : List T) → ArePut f ns us vs → length (map f vs) ≡ length us
same_length f ns [] [] h = refl
same_length f ns [] (x ∷ vs) h = absurd h
same_length f ns (o ∷ us) [] h = absurd h
same_length f ns (o ∷ us) (x ∷ vs) h = ap suc (same_length f ns us vs h.1)

not_found_size : (ks : List EntryKey) (os : List (Option ℕ)) → length (not_found ks os) ≤ length ks
not_found_size [] os = omega arith
not_found_size (k ∷ ks) [] = let r = not_found_size ks [] in omega (arith, r)
not_found_size (k ∷ ks) (None ∷ os) = let r = not_found_size ks os in omega (arith, r)
not_found_size (k ∷ ks) (Some i ∷ os) = let r = not_found_size ks os in omega (arith, r)

module _ (touched : BoxKey → Bool) (kept : KeptList EntryKey Wrapper Made) (fresh : News) (ready : FitsFor (is_untouched touched) kept fresh)
    (gone : List ℕ) (found : List (Option ℕ)) (inner : List ℕ) (looked : IsLooked touched kept.entries (new_names fresh) gone found inner) where
  abbrev stays : Leaf → Bool
  stays = is_untouched touched

  abbrev xs : Olds
  xs = kept.entries

  abbrev ks : Entries Wrapper Leaf
  ks = kept_leaves kept.entries

  abbrev names : List EntryKey
  names = new_names fresh

  abbrev g : Graph EntryKey
  g = kept.graph

  abbrev IK : List EntryKey
  IK = inner_keys entry_names stays names ks

  nodes_are : nodes g ≡ kept_names xs
  nodes_are = ready.fits.nodes_are []

  once_kept : Once (kept_names xs)
  once_kept = once_of (kept_names xs) (ready.fits.once_kept [])

  once_new : Once names
  once_new = once_of names (ready.fits.once_new [])

  once_ones : Once (map one_name (ones xs))
  once_ones = subst Once (names_ones xs) once_kept

  gone_are : gathered gone (nodes g) ≡ gone_keys entry_names stays ks
  gone_are = ap (λ ps. gathered ps (nodes g)) looked.gone_are ∙ ap (λ zs. gathered (gone_places entry_names stays 0 ks) zs) nodes_are ∙ gone_gathered entry_names stays ks

  told : TellsGone {M = Made} entry_names made_leaf stays ks (is_gone gone g)
  told = subst (λ (zs : List EntryKey). TellsGone {M = Made} entry_names made_leaf stays ks (λ k. is_in same_entry zs k)) (sym gone_are) (tells_gone entry_names stays same_entry same_entry-sound same_entry-refl ks (ready.fits.once_kept []))

  pub can_patch : CanBePatched gone names found g
  can_patch = record {
    rising = subst AreRising (sym looked.gone_are) (rising 0 (gone_places entry_names stays 0 ks) (gone_rises entry_names stays 0 ks));
    within = λ k l.
        let b = below_at (length (kept_names xs)) gone k (subst (λ (ps : List ℕ). AreBelow (length (kept_names xs)) ps) (sym looked.gone_are) (gone_below entry_names stays ks)) l in
        let s = map_size (λ (q : EntryKey × List EntryKey). q.0) g in
        let n = ap length nodes_are in
        omega (arith, b, s, n);
    once = ready.fits.once_new [];
    found_are = looked.found_are ∙ ap (λ (zs : List EntryKey). map (λ k. place_of same_entry zs k) names) (sym nodes_are);
    forward = λ dropped drops. going_together entry_names made_leaf stays kept (new_leaves fresh) ready.fresh (is_gone gone g) dropped ready.fits told drops;
  }

  module _ (p : PatchOf EntryKey) (patch_fits : FitsPatch p g) (is_patched : IsPatched gone names found g p)
      (first last : Steps) (firsts : NewSteps touched xs fresh first) (lasts : InnerSteps touched xs inner last) where
    abbrev steps : Steps
    steps = first ▷ last

    abbrev NP : NewPuts touched xs fresh first last
    NP = new_puts touched xs fresh first last firsts

    abbrev IP : InnerPuts touched xs inner last
    IP = inner_puts touched xs inner last lasts

    abbrev later_es : List One
    later_es = ones_of xs last nil

    abbrev es : List One
    es = NP.es ++ later_es

    abbrev somes_inner : List (Option ℕ)
    somes_inner = map (λ i. Some i) inner

    abbrev os : List (Option ℕ)
    os = map (place touched xs) names ++ somes_inner

    places_are : places_of steps ≡ os
    places_are = NP.places_are ∙ ap (λ zs. map (place touched xs) names ++ zs) IP.places_are

    put_last : ArePut one_name (kept_names xs) somes_inner later_es
    put_last = IP.put (λ i x e. sym (subst (λ (zs : List EntryKey). place_of same_entry zs (one_name x) ≡ Some i) (sym (names_ones xs)) (place_at one_name i (ones xs) x once_ones e)))

    put : ArePut one_name (kept_names xs) os es
    put = are_put_join one_name (kept_names xs) (map (place touched xs) names) somes_inner NP.es later_es
        (subst (λ (zs : List EntryKey). ArePut one_name (kept_names xs) (map (place touched xs) zs) NP.es) NP.names_are (are_put_map one_name (kept_names xs) NP.es)) put_last

    last_names : map one_name later_es ≡ IK
    last_names = IP.names_are ∙ ap (λ zs. gathered inner zs) (sym (names_ones xs)) ∙ ap (λ ps. gathered ps (kept_names xs)) looked.inner_are ∙ inner_gathered entry_names stays names ks

    es_join : map one_name es ≡ names ++ map one_name later_es
    es_join = names_append one_name NP.es later_es ∙ ap (λ zs. zs ++ map one_name later_es) NP.names_are

    es_names : map one_name es ≡ names ++ IK
    es_names = es_join ∙ ap (λ zs. names ++ zs) last_names

    not_inner : (k : EntryKey) → Has names k → Has IK k → ⊥
    not_inner k h m = never (is_in same_entry names k) (has_in same_entry same_entry-refl names k h) (inner_not_new entry_names stays names ks k m)

    once_es : Once (map one_name es)
    once_es = subst Once (sym es_names) (once_join names IK once_new (inner_once entry_names stays names ks once_kept) not_inner)

    pending : (k : EntryKey) → Has (map one_name es) k → place_of same_entry (kept_names xs) k ≡ None → Has (map one_name (ones xs)) k → ⊥
    pending k c n d = place_none same_entry same_entry-sound same_entry-refl (kept_names xs) k n (subst (λ (zs : List EntryKey). Has zs k) (sym (names_ones xs)) d)

    size_is : size_of xs ≡ length (kept_names xs)
    size_is = ones_size xs ∙ sym (map_size one_name (ones xs)) ∙ ap length (sym (names_ones xs))

    each : EachFits xs steps fresh
    each = NP.each (IP.each (subst (λ (n : ℕ). AreBelow n inner) (sym size_is) (subst (λ (ps : List ℕ). AreBelow (length (kept_names xs)) ps) (sym looked.inner_are) (inner_below entry_names stays names ks))))

    once_places : Once (somes (places_of steps))
    once_places = subst (λ (zs : List (Option ℕ)). Once (somes zs)) (sym places_are) (somes_once one_name (kept_names xs) os es put once_es)

    all_steps : Stepped xs steps fresh xs
    all_steps = step_all xs steps fresh xs each once_places (λ i h. refl) (let s = ones_size xs in omega (arith, s))

    abbrev zs : Olds
    zs = stepped steps xs fresh

    ones_zs : ones zs ≡ put_all os es (ones xs)
    ones_zs = all_steps.ones_are ∙ ap (λ us. put_all us (ones_of xs steps fresh) (ones xs)) places_are ∙ ap (λ us. put_all os us (ones xs)) NP.ones_are

    base : map one_name (ones xs) ≡ kept_names xs ++ []
    base = sym (names_ones xs) ∙ sym (append_none (kept_names xs))

    not_found_is : not_found (map one_name es) os ≡ not_found names found
    not_found_is = ap (λ us. not_found us os) es_join ∙ not_found_join (place touched xs) names (map one_name later_es) somes_inner IP.none_made ∙ ap (λ us. not_found names us) (sym looked.found_are)

    names_zs : kept_names zs ≡ kept_names xs ++ not_found names found
    names_zs = names_ones zs ∙ ap (λ us. map one_name us) ones_zs ∙ names_all one_name (kept_names xs) os es [] (ones xs) put base ∙ ap (λ us. kept_names xs ++ us) not_found_is

    -- ---- the plan fits

    made_is : made_count steps ≡ length (not_found names found)
    made_is = made_not_found steps (map one_name es) os places_are (same_length one_name (kept_names xs) os es put) ∙ ap length not_found_is

    made_size : length (made_of p) ≡ made_count steps
    made_size = sym (map_size (λ (q : EntryKey × List EntryKey). q.0) (made_of p)) ∙ ap length is_patched.made_are ∙ sym made_is

    graph_size : length g ≡ size_of xs
    graph_size = sym (map_size (λ (q : EntryKey × List EntryKey). q.0) g) ∙ ap length nodes_are ∙ sym size_is

    still : (line : Option (List ℕ)) → IsStill line (made_of p) → MakesNone line steps
    still None e = sym made_size ∙ ap length e
    still (Some l) e = tt

    places_fit : PlacesFit (record { patch = p; steps = steps }) kept fresh
    places_fit = record {
      patch = patch_fits;
      line = subst (λ (n : ℕ). IsLine (line_of p) n) (ap (λ n. n + length (made_of p)) graph_size ∙ ap (λ n. size_of xs + n) made_size) patch_fits.line;
      still = still (line_of p) patch_fits.still;
      steps = all_steps.fits;
    }

    -- ---- the level

    abbrev J : KeptList EntryKey Wrapper Made
    J = filled (record { patch = p; steps = steps }) kept fresh

    whole_names : kept_names zs ≡ nodes (with_lists (lists_of p) g ++ made_of p)
    whole_names = names_zs ∙ ap (λ us. us ++ not_found names found) (sym (with_lists_names (lists_of p) g ∙ nodes_are)) ∙ ap (λ us. nodes (with_lists (lists_of p) g) ++ us) (sym is_patched.made_are)
        ∙ sym (names_append (λ (q : EntryKey × List EntryKey). q.0) (with_lists (lists_of p) g) (made_of p))

    names_J : kept_names J.entries ≡ nodes J.graph
    names_J =
        names_ones J.entries ∙ ap (λ us. map one_name us) (ones_arranged (line_of p) zs) ∙ sym (arranged_map one_name (line_of p) (ones zs))
        ∙ ap (λ us. arranged (line_of p) us) (sym (names_ones zs) ∙ whole_names) ∙ arranged_map (λ (q : EntryKey × List EntryKey). q.0) (line_of p) (with_lists (lists_of p) g ++ made_of p)

    made : MakesLevel entry_names made_leaf stays kept (new_leaves fresh) (is_gone gone g) is_patched.dropped J.graph (nodes J.graph)
    made = record {
      told = told;
      drops = is_patched.drops;
      adds = is_patched.adds;
      ordered = ordered J.graph J.graph (nodes J.graph) patch_fits.sound refl refl;
      standing = refl;
    }

    -- an entry of the level is put, or was there with a name that nothing is put for
    held : (f : One) → Has (ones J.entries) f → Has es f ⊎ (Has (ones xs) f × (Has (map one_name es) (one_name f) → ⊥))
    held f h = held_all one_name (kept_names xs) os es [] (ones xs) put base once_ones once_es pending f
        (subst (λ (us : List One). Has us f) ones_zs (arranged_has (line_of p) (ones zs) f (subst (λ (us : List One). Has us f) (ones_arranged (line_of p) zs) h)))

    -- a name of the level that is not new stays
    name_stays : (f : One) → Has (ones J.entries) f → (Has names (one_name f) → ⊥) → Has (keys entry_names (only stays ks)) (one_name f)
    name_stays f h other =
        let k : EntryKey = one_name f in
        let c : Contains (nodes J.graph) k = contains_from (nodes J.graph) k (subst (λ (us : List EntryKey). Has us k) names_J (one_named J.entries f h)) in
        elim ((is_patched.adds.nodes_are k).0 c) [
          | inl d ↦
              let e = (is_patched.drops.nodes_are k).0 d in
              let there : Contains (kept_names xs) k = subst (λ (us : List EntryKey). Contains us k) nodes_are e.0 in
              has_from (keys entry_names (only stays ks)) k ((told k there).0 e.1)
          | inr d ↦ absurd (other (has_from names k d))
        ]

    not_put : (f : One) → (Has (map one_name es) (one_name f) → ⊥) → Has names (one_name f) → ⊥
    not_put f out h = out (subst (λ (us : List EntryKey). Has us (one_name f)) (sym es_names) (has_left names IK (one_name f) h))

    leaves : (m : Made) → Contains (heads J.entries) (inl m)
        → Contains (heads fresh) (inl m) ⊎ (Contains (heads xs) (inl m) × (stays (made_leaf m) ≡ true) × (Contains names (entry_names.leaf (made_leaf m)) → ⊥))
    leaves m c =
        let h = head_leaf J.entries m (has_from (heads J.entries) (inl m) c) in
        elim (held (inl m) h) [
          | inl d ↦ elim (has_either NP.es later_es (inl m) d) [
            | inl e ↦ inl (contains_from (heads fresh) (inl m) (NP.right (inl m) e))
            | inr e ↦ absurd (IP.right (inl m) e)
          ]
          | inr d ↦
              let out = not_put (inl m) d.1 in
              let there : Has (heads (only stays ks)) (inl m.leaf) = stays_head stays ks (entry_names.leaf m.leaf) (inl m.leaf) once_kept (name_stays (inl m) h out) (kept_leaf entry_names made_leaf stays xs m (leaf_head xs m d.0)) refl in
              inr (contains_from (heads xs) (inl m) (leaf_head xs m d.0), leaf_stays stays ks m.leaf there, (λ n. out (has_from names (entry_names.leaf m.leaf) n)))
        ]

    inner_name : (f : One) → Has later_es f → Has names (one_name f) → ⊥
    inner_name f h n = not_inner (one_name f) n (subst (λ (us : List EntryKey). Has us (one_name f)) last_names (has_map one_name later_es f h))

    -- a group of the level that was there, under a name that is not new
    group_stays : (k : Ordered EntryKey Wrapper) (i : Olds) (q : Ordered EntryKey Wrapper) (j : Olds) → Has (ones J.entries) (inr (k, i)) → (Has names (entry_names.group k.of) → ⊥) → Has (ones xs) (inr (q, j)) → q.of ≡ k.of
        → Contains (heads (only stays ks)) (inr k.of)
    group_stays k i q j h out there e =
        contains_from (heads (only stays ks)) (inr k.of) (stays_head stays ks (entry_names.group k.of) (inr k.of) once_kept (name_stays (inr (k, i)) h out)
        (subst (λ (w : Wrapper). Has (heads ks) (inr w)) e (group_head ks q.of (kept_leaves j) (one_in_group xs q j there))) refl)

    groups : (w : Wrapper) → Contains (heads (kept_leaves J.entries)) (inr w) → Contains (heads (only stays ks)) (inr w) ⊎ Contains (heads fresh) (inr w)
    groups w c =
        let r = head_group_one J.entries w (has_from (heads (kept_leaves J.entries)) (inr w) c) in
        subst (λ (v : Wrapper). Contains (heads (only stays ks)) (inr v) ⊎ Contains (heads fresh) (inr v)) r.3 (elim (held (inr (r.0, r.1)) r.2) [
          | inl d ↦ elim (has_either NP.es later_es (inr (r.0, r.1)) d) [
            | inl e ↦ let n = NP.right (inr (r.0, r.1)) e in inr (contains_from (heads fresh) (inr r.0.of) (subst (λ (v : Wrapper). Has (heads fresh) (inr v)) n.3 (group_head fresh n.0 n.1 n.2)))
            | inr e ↦ let n = IP.right (inr (r.0, r.1)) e in inl (group_stays r.0 r.1 n.0 n.1 r.2 (inner_name (inr (r.0, r.1)) e) n.2 n.3)
          ]
          | inr d ↦ inl (group_stays r.0 r.1 r.0 r.1 r.2 (not_put (inr (r.0, r.1)) d.1) d.0 refl)
        ])

    abbrev MergedOne : EntryKey → KeptList EntryKey Wrapper Made → Type 0
    MergedOne e list = IsMerged entry_names made_leaf stays (within entry_names made_leaf e xs) (within_new entry_names made_leaf stays e fresh) list

    -- a group that is as it was
    untouched : (k : Ordered EntryKey Wrapper) (i : Olds) → Has (ones J.entries) (inr (k, i)) → Has (ones xs) (inr (k, i)) → (Has (map one_name es) (entry_names.group k.of) → ⊥) → MergedOne (entry_names.group k.of) (record { graph = k.graph; entries = i })
    untouched k i h there out =
        let e : EntryKey = entry_names.group k.of in
        let list : KeptList EntryKey Wrapper Made = record { graph = k.graph; entries = i } in
        let other = not_put (inr (k, i)) out in
        let here = one_in_group xs k i there in
        let new_is : is_in same_entry names e ≡ false = elim (cases (is_in same_entry names e)) [
          | inl t ↦ absurd (other (in_has same_entry same_entry-sound names e t))
          | inr f ↦ f
        ] in
        let some : any_stays entry_names stays (kept_leaves i) ≡ true = elim (cases (any_stays entry_names stays (kept_leaves i))) [
          | inl t ↦ t
          | inr f ↦ absurd (goes_too e (name_stays (inr (k, i)) h other) (gone_named entry_names stays names ks k.of (kept_leaves i) here f))
        ] in
        let no_inner : is_inner entry_names stays names k.of (kept_leaves i) ≡ false = elim (cases (is_inner entry_names stays names k.of (kept_leaves i))) [
          | inl t ↦ absurd (out (subst (λ (us : List EntryKey). Has us e) (sym es_names) (has_right names IK e (inner_named entry_names stays names ks k.of (kept_leaves i) here t))))
          | inr f ↦ f
        ] in
        let none : any_goes entry_names stays (kept_leaves i) ≡ false = last_false (any_stays entry_names stays (kept_leaves i)) (is_in same_entry names e) (any_goes entry_names stays (kept_leaves i)) some new_is no_inner in
        let was : within entry_names made_leaf e xs ≡ list = within_is xs k i once_kept there in
        let empty : within_new entry_names made_leaf stays e fresh ≡ nil = within_new_none stays fresh e other in
        let fits : FitsFor stays list nil = subst (λ (z : KeptList EntryKey Wrapper Made). FitsFor stays z nil) was (subst (λ (z : News). FitsFor stays (within entry_names made_leaf e xs) z) empty (fits_in_group stays kept fresh e ready)) in
        let merged : IsMerged entry_names made_leaf stays list nil list = still_merged entry_names made_leaf stays entry_names_are list fits.fresh fits.fits none in
        subst (λ (z : KeptList EntryKey Wrapper Made). IsMerged entry_names made_leaf stays z (within_new entry_names made_leaf stays e fresh) list) (sym was)
        (subst (λ (z : News). IsMerged entry_names made_leaf stays list z list) (sym empty) merged)
      where
        goes_too : (e : EntryKey) → Has (keys entry_names (only stays ks)) e → Has (gone_keys entry_names stays ks) e → ⊥
        goes_too e h m =
            let c = contains_from (keys entry_names (only stays ks)) e h in
            let f = ((tells_gone entry_names stays same_entry same_entry-sound same_entry-refl ks (ready.fits.once_kept [])) e (contains_from (kept_names xs) e (has_only entry_names stays ks e h))).1 c in
            never (is_in same_entry (gone_keys entry_names stays ks) e) (has_in same_entry same_entry-refl (gone_keys entry_names stays ks) e m) f

    inners : (e : EntryKey) → is_group entry_names made_leaf stays e (kept_leaves J.entries) ≡ true → MergedOne e (within entry_names made_leaf e J.entries)
    inners e t =
        let r = group_of_name stays J.entries e t in
        let k : Ordered EntryKey Wrapper = r.0 in
        let i : Olds = r.1 in
        let list : KeptList EntryKey Wrapper Made = record { graph = k.graph; entries = i } in
        subst (λ (z : KeptList EntryKey Wrapper Made). MergedOne e z) (sym r.4) (subst (λ (z : EntryKey). MergedOne z list) r.3 (elim (held (inr (k, i)) r.2) [
          | inl d ↦ elim (has_either NP.es later_es (inr (k, i)) d) [
            | inl m ↦
                let n = NP.right (inr (k, i)) m in
                subst (λ (w : Wrapper). MergedOne (entry_names.group w) list) n.3
                (subst (λ (z : News). IsMerged entry_names made_leaf stays (within entry_names made_leaf (entry_names.group n.0) xs) z list) (sym (within_new_is stays fresh n.0 n.1 once_new n.2))
                (subst (λ (z : KeptList EntryKey Wrapper Made). IsMerged entry_names made_leaf stays z n.1 list) (old_is n.0 xs).1 n.4))
            | inr m ↦
                let n = IP.right (inr (k, i)) m in
                let other = inner_name (inr (k, i)) m in
                let was = ap (λ (w : Wrapper). within entry_names made_leaf (entry_names.group w) xs) (sym n.3) ∙ within_is xs n.0 n.1 once_kept n.2 in
                subst (λ (z : KeptList EntryKey Wrapper Made). IsMerged entry_names made_leaf stays z (within_new entry_names made_leaf stays (entry_names.group k.of) fresh) list) (sym was)
                (subst (λ (z : News). IsMerged entry_names made_leaf stays (record { graph = n.0.graph; entries = n.1 }) z list) (sym (within_new_none stays fresh (entry_names.group k.of) other)) n.4)
          ]
          | inr d ↦ untouched k i r.2 d.0 d.1
        ]))

    pub few_made : made_count steps ≤ length names
    few_made = let s = made_is in let r = not_found_size names found in omega (arith, s, r)

    pub planned : IsPlan touched kept fresh (record { patch = p; steps = steps })
    planned = record {
      fits = places_fit;
      merged = picking entry_names made_leaf stays entry_names_are kept J fresh ready.fresh (is_gone gone g) is_patched.dropped (nodes J.graph) ready.fits made names_J
          (record { leaves = leaves; groups = groups; inner = inners });
    }
