-- The way to each leaf: the groups round it, from the outside in.
use Rattle.std.proofs.Common.{◌≡◌, refl, ap, ◌∙◌, sym, Bool, true, false, cond, List, [], ◌∷◌, ◌++◌, map, append_assoc, append-nil, map-id}
use Rattle.std.specs.Prelude.{filter}
use Rattle.std.proofs.lemmas.List.{map-append}
use Rattle.std.proofs.lemmas.List.Elements.{filter-append}
use Rattle.rd_item.specs.declared.leaf.Leaf.{Leaf}
use Rattle.rd_list.specs.Wrappers.{Wrapper}
use Rattle.rd_list.specs.Entries.{Entries, nil, leaf, group, flat, routes, only, grouped_if_any}

abbrev pub Way : Type 0
Way = List Wrapper × Leaf

abbrev pub into : Wrapper → Way → Way
into g w = (g ∷ w.0, w.1)

abbrev pub ways : Entries Wrapper Leaf → List Way
ways nil = []
ways (leaf l rest) = ([], l) ∷ ways rest
ways (group g inner rest) = map (into g) (ways inner) ++ ways rest

abbrev from_path : List Wrapper → Way → Way
from_path path w = (path ++ w.0, w.1)

map_map : {A B C : Type 0} (f : A → B) (g : B → C) (h : A → C) → ((x : A) → g (f x) ≡ h x) → (xs : List A) → map g (map f xs) ≡ map h xs
map_map f g h e [] = refl
map_map f g h e (x ∷ xs) = λ i. e x i ∷ map_map f g h e xs i

routes_from : (path : List Wrapper) (xs : Entries Wrapper Leaf) → routes path xs ≡ map (from_path path) (ways xs)
routes_from path nil = refl
routes_from path (leaf l rest) = λ i. (sym (append-nil path) i, l) ∷ routes_from path rest i
routes_from path (group g inner rest) =
    rw (map-append (from_path path) (map (into g) (ways inner)) (ways rest), routes_from (path ++ g ∷ []) inner, routes_from path rest)
    (ap (λ zs. zs ++ map (from_path path) (ways rest))
    (sym (map_map (into g) (from_path path) (from_path (path ++ g ∷ [])) (λ w. λ i. (sym (append_assoc path (g ∷ []) w.0) i, w.1)) (ways inner))))

pub routes-ways : (xs : Entries Wrapper Leaf) → routes [] xs ≡ ways xs
routes-ways xs = routes_from [] xs ∙ map-id (ways xs)

abbrev pub leaf_of_way : Way → Leaf
leaf_of_way w = w.1

pub flat-ways : (xs : Entries Wrapper Leaf) → map leaf_of_way (ways xs) ≡ flat xs
flat-ways nil = refl
flat-ways (leaf l rest) = ap (λ zs. l ∷ zs) (flat-ways rest)
flat-ways (group g inner rest) =
    rw (map-append leaf_of_way (map (into g) (ways inner)) (ways rest), map_map (into g) leaf_of_way leaf_of_way (λ w. refl) (ways inner), flat-ways inner, flat-ways rest) refl

module _ (p : Leaf → Bool) where
  ways-kept : (b : Bool) (l : Leaf) (xs : Entries Wrapper Leaf) (ws : List Way) → ways xs ≡ ws → ways (cond b (leaf l xs) xs) ≡ cond b (([], l) ∷ ws) ws
  ways-kept true l xs ws e = ap (λ zs. ([], l) ∷ zs) e
  ways-kept false l xs ws e = e

  ways-grouped : (g : Wrapper) (inner xs : Entries Wrapper Leaf) → ways (grouped_if_any g inner xs) ≡ map (into g) (ways inner) ++ ways xs
  ways-grouped g nil xs = refl
  ways-grouped g (leaf l rest) xs = refl
  ways-grouped g (group g' i rest) xs = refl

  filter-into : (g : Wrapper) (ws : List Way) → filter (λ w. p w.1) (map (into g) ws) ≡ map (into g) (filter (λ w. p w.1) ws)
  filter-into g [] = refl
  filter-into g (w ∷ ws) =
      elim (p w.1) as (λ b. cond b (into g w ∷ filter (λ w. p w.1) (map (into g) ws)) (filter (λ w. p w.1) (map (into g) ws)) ≡ map (into g) (cond b (w ∷ filter (λ w. p w.1) ws) (filter (λ w. p w.1) ws))) [
        | true ↦ ap (λ zs. into g w ∷ zs) (filter-into g ws)
        | false ↦ filter-into g ws
      ]

  pub ways-only : (xs : Entries Wrapper Leaf) → ways (only p xs) ≡ filter (λ w. p w.1) (ways xs)
  ways-only nil = refl
  ways-only (leaf l rest) = ways-kept (p l) l (only p rest) (filter (λ w. p w.1) (ways rest)) (ways-only rest)
  ways-only (group g inner rest) =
      ways-grouped g (only p inner) (only p rest)
      ∙ rw (ways-only inner, ways-only rest, filter-append (λ w. p w.1) (map (into g) (ways inner)) (ways rest), filter-into g (ways inner)) refl
