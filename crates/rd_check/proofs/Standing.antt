-- When a dumped list stands for a fresh one: by its names, its leaves and their order.
use Rattle.std.proofs.Common.{◌≡◌, true, List, [], ◌∷◌, map, refl, sym, subst, ◌∙◌, ◌⊎◌, inl, inr, Contains, IsPermutation, IsTrue}
use Rattle.std.proofs.lemmas.List.Sorted.{IsPermutation-sym, Contains-permutation}
use Rattle.rd_graph.specs.Names.{same_entry}
use Rattle.rd_graph.specs.Orders.{Before}
use Rattle.rd_graph.proofs.Lists.Entries.{same_entry-sound, same_entry-refl}
use Rattle.rd_graph.proofs.Lists.Listing.{Has, Once, cases, never, has_from, contains_from, once_map, pairs_map, before_from, before_to, before_either, before_once}
use Rattle.rd_item.specs.declared.leaf.Leaf.{Leaf}
use Rattle.rd_keys.specs.declared.entry.EntryKey.{EntryKey}
use Rattle.rd_list.specs.Wrappers.{Wrapper}
use Rattle.rd_list.specs.Entries.{Entries, flat, routes, wrappers, no_group_is_empty}
use Rattle.rd_list.specs.EntryNames.{entry_names}
use Rattle.rd_list.specs.Lists.{StandsFor, leaves_meet, pair_in_order}
use Rattle.rd_list.proofs.Merges.Named.{AreNames}
use Rattle.rd_list.proofs.Merges.Ordering.{these_before, these_after, these_one}
use Rattle.rd_geom.proofs.Pixels.{meets_shares, shares_meets}
use Rattle.rd_check.specs.Verdicts.{names_of}
use Rattle.rd_check.specs.Internal.Lines.{Way}
use Rattle.rd_check.specs.Internal.Finding.{leaf_name, way_name}
use Rattle.rd_check.proofs.Alike.{permuted}
use Rattle.rd_check.proofs.Slots.{once_of_map}
use Rattle.rd_check.proofs.Titles.{wrapper_name, route_leaf, leaf_route, keys_flat, keys_once, heads_once, names_once}

-- ---- leaves and the ways to them

pub route_flat : (xs : Entries Wrapper Leaf) (w : Way) → Has (routes [] xs) w → Has (flat xs) w.1
route_flat xs w h = route_leaf [] xs w h

pub flat_route : (xs : Entries Wrapper Leaf) (l : Leaf) → Has (flat xs) l → (r : List Wrapper) × Has (routes [] xs) (r, l)
flat_route xs l h = leaf_route [] xs l h

abbrev pub KeysOnce : Entries Wrapper Leaf → Type 0
KeysOnce xs = Once (map way_name (routes [] xs))

abbrev LeavesOnce : Entries Wrapper Leaf → Type 0
LeavesOnce xs = Once (map leaf_name (flat xs))

pub leaves_once : (xs : Entries Wrapper Leaf) → KeysOnce xs → LeavesOnce xs
leaves_once xs o = subst (λ (z : List EntryKey). Once z) (keys_flat [] xs) o

pub ways_once : (xs : Entries Wrapper Leaf) → LeavesOnce xs → KeysOnce xs
ways_once xs o = subst (λ (z : List EntryKey). Once z) (sym (keys_flat [] xs)) o

-- a fresh list stands for itself, so its names differ
pub own_once : (list fresh : Entries Wrapper Leaf) → StandsFor list fresh → KeysOnce list
own_once list fresh s = ways_once list (once_map leaf_name same_entry same_entry-sound same_entry-refl (flat list) s.once)

-- ---- leaves that meet, and names

turned : (a b : Leaf) → IsTrue (leaves_meet a b) → IsTrue (leaves_meet b a)
turned a b m =
    let s = meets_shares a.visible b.visible m in
    shares_meets b.visible a.visible (record { x = s.x; y = s.y; first = s.second; second = s.first })

names_are : AreNames entry_names
names_are = record { sound = same_entry-sound; reflexive = same_entry-refl; apart = λ l g. refl }

-- ---- a list that stands for the fresh one

module _ (list fresh : Entries Wrapper Leaf) (titles : Once (names_of list)) (own : KeysOnce fresh) (filled : IsTrue (no_group_is_empty list))
    (forth : (w : Way) → Has (routes [] list) w → Has (routes [] fresh) w) (back : (w : Way) → Has (routes [] fresh) w → Has (routes [] list) w)
    (order : (a b : Leaf) → Before (flat list) a b → Before (flat fresh) b a → IsTrue (leaves_meet a b) → ⊥) where
  keys : KeysOnce list
  keys = keys_once [] list titles

  moved : IsPermutation (routes [] list) (routes [] fresh)
  moved = permuted (routes [] list) (routes [] fresh) (once_of_map way_name (routes [] list) keys) (once_of_map way_name (routes [] fresh) own) forth back

  here : (l : Leaf) → Has (flat fresh) l → Has (flat list) l
  here l h = let r = flat_route fresh l h in route_flat list (r.0, l) (back (r.0, l) r.1)

  in_order : (a b : Leaf) → Contains (flat fresh) a → Contains (flat fresh) b → IsTrue (leaves_meet a b) → pair_in_order a b (flat list) ≡ pair_in_order a b (flat fresh)
  in_order a b c d m =
      let ha = has_from (flat fresh) a c in
      let hb = has_from (flat fresh) b d in
      let l = leaves_once list keys in
      let f = leaves_once fresh own in
      elim (cases (same_entry (leaf_name a) (leaf_name b))) [
        | inl t ↦
            let e = same_entry-sound (leaf_name a) (leaf_name b) t in
            these_one entry_names names_are leaves_meet (flat list) a b l (here a ha) e
            ∙ sym (these_one entry_names names_are leaves_meet (flat fresh) a b f ha e)
        | inr n ↦
            let apart : a ≡ b → ⊥ = λ e. never (same_entry (leaf_name a) (leaf_name b)) (subst (λ (z : Leaf). same_entry (leaf_name a) (leaf_name z) ≡ true) e (same_entry-refl (leaf_name a))) n in
            by_order a b m l f (before_either (flat list) a b (here a ha) (here b hb) apart) (before_either (flat fresh) a b ha hb apart)
      ]
    where
      by_order : (a b : Leaf) → IsTrue (leaves_meet a b) → LeavesOnce list → LeavesOnce fresh → Before (flat list) a b ⊎ Before (flat list) b a → Before (flat fresh) a b ⊎ Before (flat fresh) b a
          → pair_in_order a b (flat list) ≡ pair_in_order a b (flat fresh)
      by_order a b m l f (inl p) (inl q) =
          these_before entry_names names_are leaves_meet (flat list) a b l p ∙ sym (these_before entry_names names_are leaves_meet (flat fresh) a b f q)
      by_order a b m l f (inl p) (inr q) = absurd (order a b p q m)
      by_order a b m l f (inr p) (inl q) = absurd (order b a p q (turned a b m))
      by_order a b m l f (inr p) (inr q) =
          these_after entry_names names_are leaves_meet (flat list) a b l p ∙ sym (these_after entry_names names_are leaves_meet (flat fresh) a b f q)

  pub stands : StandsFor list fresh
  stands = record {
    leaves = moved;
    once = pairs_map leaf_name same_entry same_entry-sound same_entry-refl (flat list) (leaves_once list keys);
    grouped = pairs_map wrapper_name same_entry same_entry-sound same_entry-refl (wrappers list) (heads_once [] list titles);
    filled = filled;
    ordered = in_order;
  }

-- ---- what follows where it does

module _ (list fresh : Entries Wrapper Leaf) (s : StandsFor list fresh) where
  pub title_once : Once (names_of list)
  title_once = names_once [] list (own_once list fresh s) (once_map wrapper_name same_entry same_entry-sound same_entry-refl (wrappers list) s.grouped)

  pub goes_forth : (w : Way) → Has (routes [] list) w → Has (routes [] fresh) w
  goes_forth w h = has_from (routes [] fresh) w (Contains-permutation (routes [] list) (routes [] fresh) w s.leaves (contains_from (routes [] list) w h))

  pub goes_back : (w : Way) → Has (routes [] fresh) w → Has (routes [] list) w
  goes_back w h =
      has_from (routes [] list) w
      (Contains-permutation (routes [] fresh) (routes [] list) w (IsPermutation-sym (routes [] list) (routes [] fresh) s.leaves) (contains_from (routes [] fresh) w h))

  pub no_other_way : KeysOnce fresh → (a b : Leaf) → Before (flat list) a b → Before (flat fresh) b a → IsTrue (leaves_meet a b) → ⊥
  no_other_way own a b p q m =
      let l = leaves_once list (own_once list fresh s) in
      let f = leaves_once fresh own in
      let e : a ∷ b ∷ [] ≡ b ∷ a ∷ [] =
      sym (these_before entry_names names_are leaves_meet (flat list) a b l p)
      ∙ s.ordered a b (contains_from (flat fresh) a (before_to (flat fresh) b a q)) (contains_from (flat fresh) b (before_from (flat fresh) b a q)) m
      ∙ these_after entry_names names_are leaves_meet (flat fresh) a b f q in
      let is : a ≡ b = cc in
      let once = once_of_map leaf_name (flat list) l in
      let turned : Before (flat list) b b = subst (λ (z : Leaf). Before (flat list) z b) is p in
      before_once (flat list) b b once turned turned
