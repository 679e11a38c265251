-- What a line of places has to show, said of the list that it gives.
use Rattle.std.proofs.Common.{◌≡◌, refl, ap, ◌∙◌, sym, subst, ℕ, ◌+◌, false, List, [], ◌∷◌, ◌++◌, length, map, Option, Some, None, inl, inr, ◌⊎◌, arith, length-append}
use Rattle.std.specs.Prelude.{◌↔◌}
use Rattle.rd_keys.specs.declared.entry.EntryKey.{EntryKey}
use Rattle.rd_graph.specs.Graphs.{Graph, nodes, IsInOrder}
use Rattle.rd_graph.specs.Orders.{Before}
use Rattle.rd_graph.specs.Laws.{Full}
use Rattle.rd_graph.specs.Gathered.{gathered, ArePlaces}
use Rattle.rd_graph.specs.Names.{place_of, same_entry}
use Rattle.rd_graph.specs.Patches.{CanBePatched, IsArranged, is_gone, not_found}
use Rattle.rd_graph.specs.Internal.Seen.{seen}
use Rattle.rd_graph.specs.declared.graph.Node.{Node}
use Rattle.rd_graph.proofs.Lists.Listing.{Has, Once, has_from, contains_from, has_left, has_right, has_either, once_join}
use Rattle.rd_graph.proofs.Reaching.Calls.{once_of, once_to}
use Rattle.rd_graph.proofs.Lists.Entries.{same_entry-sound, same_entry-refl, has_get, place_some, place_none}
use Rattle.rd_graph.proofs.Lists.Gatherings.{AreBelow, places_of_once}

module _ {E : Type 0} (f : E → Option ℕ) where
  pub new_to : (ks : List E) (a : E) → Has (not_found ks (map f ks)) a → Has ks a × (f a ≡ None)
  new_to [] a h = absurd h
  new_to (k ∷ ks) a h = by (λ m. new_to ks a m) (f k) refl h
    where
      by : (Has (not_found ks (map f ks)) a → Has ks a × (f a ≡ None)) → (o : Option ℕ) → f k ≡ o → Has (not_found (k ∷ ks) (o ∷ map f ks)) a → Has (k ∷ ks) a × (f a ≡ None)
      by more None u (inl e) = (inl e, ap f (sym e) ∙ u)
      by more None u (inr m) = let r = more m in (inr r.0, r.1)
      by more (Some i) u m = let r = more m in (inr r.0, r.1)

  pub new_from : (ks : List E) (a : E) → Has ks a → f a ≡ None → Has (not_found ks (map f ks)) a
  new_from [] a h n = absurd h
  new_from (k ∷ ks) a h n = by (λ m. new_from ks a m n) (f k) refl h
    where
      by : (Has ks a → Has (not_found ks (map f ks)) a) → (o : Option ℕ) → f k ≡ o → Has (k ∷ ks) a → Has (not_found (k ∷ ks) (o ∷ map f ks)) a
      by more None u (inl e) = inl e
      by more None u (inr m) = inr (more m)
      by more (Some i) u (inl e) = absurd (let v : Some i ≡ None = sym u ∙ ap f e ∙ n in cc)
      by more (Some i) u (inr m) = more m

  pub new_once : (ks : List E) → Once ks → Once (not_found ks (map f ks))
  new_once [] o = tt
  new_once (k ∷ ks) o = by (new_once ks o.1) (f k)
    where
      by : Once (not_found ks (map f ks)) → (p : Option ℕ) → Once (not_found (k ∷ ks) (p ∷ map f ks))
      by more None = ((λ h. o.0 (new_to ks k h).0), more)
      by more (Some i) = more

pub node_length : (g : Graph EntryKey) → length (nodes g) ≡ length g
node_length [] = refl
node_length (x ∷ g) = let e = node_length g in omega (arith, e)

pub seen_length : (ns : List Node) → length (seen ns) ≡ length ns
seen_length [] = refl
seen_length (x ∷ ns) = let e = seen_length ns in omega (arith, e)

none_or_some : (o : Option ℕ) → (o ≡ None) ⊎ ((i : ℕ) × (o ≡ Some i))
none_or_some None = inl refl
none_or_some (Some i) = inr (i, refl)

module _ (gone : List ℕ) (chain : List EntryKey) (found : List (Option ℕ)) (g : Graph EntryKey) (can : CanBePatched gone chain found g) (sound : IsInOrder g) where
  abbrev place : EntryKey → Option ℕ
  place k = place_of same_entry (nodes g) k

  abbrev pub all : List EntryKey
  all = nodes g ++ not_found chain found

  same_new : not_found chain found ≡ not_found chain (map place chain)
  same_new = ap (λ fs. not_found chain fs) can.found_are

  pub all_to : (a : EntryKey) → Has all a → Has (nodes g) a ⊎ Has chain a
  all_to a h = elim (has_either (nodes g) (not_found chain found) a h) [
    | inl k ↦ inl k
    | inr k ↦ inr (new_to place chain a (subst (λ ks. Has ks a) same_new k)).0
  ]

  place_in : (a : EntryKey) (i : ℕ) → place a ≡ Some i → Has (nodes g) a
  place_in a i e =
      let p = place_some same_entry same_entry-sound same_entry-refl (nodes g) a i e in
      subst (λ (z : EntryKey). Has (nodes g) z) (p.1 a) (has_get (nodes g) i a p.0)

  pub all_from : (a : EntryKey) → Has (nodes g) a ⊎ Has chain a → Has all a
  all_from a (inl h) = has_left (nodes g) (not_found chain found) a h
  all_from a (inr h) = elim (none_or_some (place a)) [
    | inl n ↦ has_right (nodes g) (not_found chain found) a (subst (λ ks. Has ks a) (sym same_new) (new_from place chain a h n))
    | inr s ↦ has_left (nodes g) (not_found chain found) a (place_in a s.0 s.1)
  ]

  pub once_all : Once all
  once_all =
      once_join (nodes g) (not_found chain found) (once_of (nodes g) sound.once)
      (subst (λ ks. Once ks) (sym same_new) (new_once place chain (once_of chain can.once)))
      (λ a h k. place_none same_entry same_entry-sound same_entry-refl (nodes g) a (new_to place chain a (subst (λ ks. Has ks a) same_new k)).1 h)

  pub all_length : length all ≡ length g + length (not_found chain found)
  all_length = let e = node_length g in omega (arith, e, length-append (nodes g) (not_found chain found))

  pub line_given : (line : List ℕ) → AreBelow (length all) line → Once (gathered line all)
      → ((a : EntryKey) → Has (gathered line all) a ↔ ((Has (nodes g) a × (is_gone gone g a ≡ false)) ⊎ Has chain a))
      → ((a b : EntryKey) → Full g (is_gone gone g) chain a b → Before (gathered line all) a b)
      → IsArranged gone chain found g (Some line)
  line_given line below once names forward = record {
    places = subst (λ n. ArePlaces line n) all_length (places_of_once line all below once);
    still = tt;
    once = once_to (gathered line all) once;
    names = λ a. (
      (λ c. elim ((names a).0 (has_from (gathered line all) a c)) [ inl h ↦ inl (contains_from (nodes g) a h.0, h.1) | inr h ↦ inr (contains_from chain a h) ]),
      (λ h. contains_from (gathered line all) a ((names a).1 (elim h [ inl k ↦ inl (has_from (nodes g) a k.0, k.1) | inr k ↦ inr (has_from chain a k) ]))),
    );
    forward = forward;
  }
