-- The numbers of the items after a merge.
use Rattle.std.proofs.Common.{◌≡◌, refl, ap, ◌∙◌, sym, subst, suc, true, List, [], ◌∷◌, ◌++◌, map, length, inl, inr}
use Rattle.std.specs.Prelude.{filter}
use Rattle.std.proofs.lemmas.List.{map-append}
use Rattle.std.proofs.lemmas.List.Sorted.{length_permutation, Contains-permutation}
use Rattle.rd_graph.proofs.Lists.Listing.{Has, never, has_from, contains_from, has_map, map_has, filter_has, has_filter}
use Rattle.rd_item.specs.declared.leaf.Leaf.{Leaf}
use Rattle.rd_item.specs.Items.{Made}
use Rattle.rd_keys.specs.declared.entry.EntryKey.{EntryKey}
use Rattle.rd_list.specs.Wrappers.{Wrapper}
use Rattle.rd_list.specs.Entries.{Entries, nil, leaf, group, flat, routes}
use Rattle.rd_list.specs.EntryNames.{entry_names}
use Rattle.rd_list.specs.Display.{Numbering}
use Rattle.rd_list.specs.Kept.{Ordered, bare, bare_new}
use Rattle.rd_list.proofs.Merges.Levelling.{flat-only}
use Rattle.rd_list.proofs.Merges.Naming.{entry_names_are}

-- leaves and items, level by level
flat-bare : (xs : Entries (Ordered EntryKey Wrapper) Made) → flat (bare entry_names (λ m. m.leaf) xs) ≡ map (λ m. m.leaf) (flat xs)
flat-bare nil = refl
flat-bare (leaf m xs) = ap (λ ls. m.leaf ∷ ls) (flat-bare xs)
flat-bare (group g inner xs) = rw (flat-bare inner, flat-bare xs) (sym (map-append {B = Leaf} (λ (m : Made). m.leaf) (flat inner) (flat xs)))

flat-bare_new : (xs : Entries Wrapper Made) → flat (bare_new entry_names (λ m. m.leaf) xs) ≡ map (λ m. m.leaf) (flat xs)
flat-bare_new nil = refl
flat-bare_new (leaf m xs) = ap (λ ls. m.leaf ∷ ls) (flat-bare_new xs)
flat-bare_new (group g inner xs) = rw (flat-bare_new inner, flat-bare_new xs) (sym (map-append {B = Leaf} (λ (m : Made). m.leaf) (flat inner) (flat xs)))

flat-routes : (path : List Wrapper) (xs : Entries Wrapper Leaf) → map (λ r. r.1) (routes path xs) ≡ flat xs
flat-routes path nil = refl
flat-routes path (leaf l xs) = ap (λ ls. l ∷ ls) (flat-routes path xs)
flat-routes path (group g inner xs) = map-append {B = Leaf} (λ (r : List Wrapper × Leaf). r.1) (routes (path ++ g ∷ []) inner) (routes path xs) ∙ rw (flat-routes (path ++ g ∷ []) inner, flat-routes path xs) refl

length-map : {A B : Type 0} (f : A → B) (xs : List A) → length (map f xs) ≡ length xs
length-map f [] = refl
length-map f (x ∷ xs) = ap suc (length-map f xs)

pub numbering : Numbering
numbering = λ number fresh kept joined new stays in_area stands same merged made.
    let leaves_new : map (λ (m : Made). m.leaf) (flat new) ≡ filter in_area (flat fresh) = sym (flat-bare_new new) ∙ ap flat same ∙ flat-only in_area fresh in
    let of_new : (i : Made) → Has (flat new) i → in_area i.leaf ≡ true = λ i h. (filter_has in_area (flat fresh) i.leaf (subst (λ ls. Has ls i.leaf) leaves_new (has_map (λ (m : Made). m.leaf) (flat new) i h))).1 in
    let of_joined : (i : Made) → Has (flat joined.entries) i → Has (flat fresh) i.leaf = λ i h.
    let there : Has (flat (bare entry_names (λ m. m.leaf) joined.entries)) i.leaf = subst (λ ls. Has ls i.leaf) (sym (flat-bare joined.entries)) (has_map (λ (m : Made). m.leaf) (flat joined.entries) i h) in
    let r = map_has (λ (r : List Wrapper × Leaf). r.1) (routes [] (bare entry_names (λ m. m.leaf) joined.entries)) i.leaf (subst (λ ls. Has ls i.leaf) (sym (flat-routes [] (bare entry_names (λ m. m.leaf) joined.entries))) there) in
    let moved : Has (routes [] fresh) r.0 = has_from (routes [] fresh) r.0 (Contains-permutation (routes [] (bare entry_names (λ m. m.leaf) joined.entries)) (routes [] fresh) r.0 stands.leaves (contains_from (routes [] (bare entry_names (λ m. m.leaf) joined.entries)) r.0 r.1)) in
    subst (λ l. Has (flat fresh) l) r.2 (subst (λ ls. Has ls r.0.1) (flat-routes [] fresh) (has_map (λ (r : List Wrapper × Leaf). r.1) (routes [] fresh) r.0 moved)) in
    record {
      made = λ i c t. elim ((merged.items i).0 c) [
        | inl n ↦ made i n
        | inr k ↦
            let l : Has (map (λ (m : Made). m.leaf) (flat new)) i.leaf = subst (λ ls. Has ls i.leaf) (sym leaves_new) (has_filter in_area (flat fresh) i.leaf (of_joined i (has_from (flat joined.entries) i c)) t) in
            let j = map_has (λ (m : Made). m.leaf) (flat new) i.leaf l in
            absurd (never (entry_names.same (entry_names.leaf i.leaf) (entry_names.leaf j.0.leaf)) (subst (λ (z : Leaf). entry_names.same (entry_names.leaf i.leaf) (entry_names.leaf z) ≡ true) (sym j.2) (entry_names_are.reflexive (entry_names.leaf i.leaf))) (k.2 j.0 (contains_from (flat new) j.0 j.1)))
      ];
      kept_one = λ i c f. elim ((merged.items i).0 c) [
        | inl n ↦ absurd (never (in_area i.leaf) (of_new i (has_from (flat new) i n)) f)
        | inr k ↦ k.0
      ];
      built = sym (length-map (λ (m : Made). m.leaf) (flat new)) ∙ ap length leaves_new;
      whole =
          sym (length-map (λ (m : Made). m.leaf) (flat joined.entries)) ∙ ap length (sym (flat-bare joined.entries)) ∙ ap length (sym (flat-routes [] (bare entry_names (λ m. m.leaf) joined.entries)))
          ∙ length-map (λ (r : List Wrapper × Leaf). r.1) (routes [] (bare entry_names (λ m. m.leaf) joined.entries)) ∙ sym (length_permutation (routes [] (bare entry_names (λ m. m.leaf) joined.entries)) (routes [] fresh) stands.leaves)
          ∙ sym (length-map (λ (r : List Wrapper × Leaf). r.1) (routes [] fresh)) ∙ ap length (flat-routes [] fresh);
    }
