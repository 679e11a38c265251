-- A list that stands for another has its pixels and its hits.
use Rattle.std.proofs.Common.{◌≡◌, refl, ap, ◌∙◌, sym, subst, Bool, true, false, not, ◌&&◌, ◌||◌, List, [], ◌∷◌, map, ℤ, arith, AllPairs, Contains, IsPermutation, option_map, cond}
use Rattle.std.specs.Prelude.{filter}
use Rattle.std.specs.List.{IsDistinct, AllByRecursion}
use Rattle.std.proofs.lemmas.Map.Keys.{IsDistinct-from_apart, IsDistinct-IsPermutation}
use Rattle.std.proofs.lemmas.List.Sorted.{Contains-permutation, IsPermutation-sym}
use Rattle.rd_keys.specs.Keys.{BoxKey, same_key}
use Rattle.rd_keys.specs.declared.entry.Part.{Part}
use Rattle.rd_keys.specs.declared.entry.Part.TheVariants.{Back, Border, Content, Outline}
use Rattle.rd_geom.specs.Colors.{white}
use Rattle.rd_item.specs.declared.leaf.Leaf.{Leaf}
use Rattle.rd_item.specs.Leaves.{covers}
use Rattle.rd_graph.proofs.Lists.Listing.{Has, has_from, contains_from, has_filter, filter_has, has_map}
use Rattle.rd_list.specs.Wrappers.{Wrapper}
use Rattle.rd_list.specs.Entries.{Entries, flat, routes, only}
use Rattle.rd_list.proofs.Merges.Naming.{groups_apart}
use Rattle.rd_list.specs.Lists.{StandsFor, groups, pair_in_order, same_leaf, is_outline, is_hit, last, composed}
use Rattle.rd_graph.specs.Names.{same_part}
use Rattle.rd_list.proofs.Merges.Narrowing.{filter_swap}
use Rattle.rd_stack.specs.Locality.{LocalityLaw}
use Rattle.rd_stack.proofs.Walk.Filters.{filter_both}
use Rattle.rd_stack.proofs.Orders.Members.{filter-map}
use Rattle.rd_stack.proofs.Orders.Orders.{same, in_order}
use Rattle.rd_stack.proofs.Orders.Ways.{Way, ways, routes-ways, flat-ways, ways-only, leaf_of_way}
use Rattle.rd_stack.proofs.Orders.Rebuilt.{apart_from, apart_only, filled_only, rebuilt}
use Rattle.rd_stack.proofs.Orders.Covered.{at, composed-only, both_meet}

same_key-flip : (a b : BoxKey) → same_key a b ≡ same_key b a
same_key-flip a b = grind arith

same_part-flip : (p q : Part) → same_part p q ≡ same_part q p
same_part-flip Back Back = refl
same_part-flip Back Border = refl
same_part-flip Back Content = refl
same_part-flip Back Outline = refl
same_part-flip Border Back = refl
same_part-flip Border Border = refl
same_part-flip Border Content = refl
same_part-flip Border Outline = refl
same_part-flip Content Back = refl
same_part-flip Content Border = refl
same_part-flip Content Content = refl
same_part-flip Content Outline = refl
same_part-flip Outline Back = refl
same_part-flip Outline Border = refl
same_part-flip Outline Content = refl
same_part-flip Outline Outline = refl

pub same_leaf-flip : (a b : Leaf) → same_leaf a b ≡ same_leaf b a
same_leaf-flip a b = rw (same_key-flip a.owner b.owner, same_part-flip a.part b.part) refl

-- distinct leaves, on their ways
every_map : {A B : Type 0} (g : A → B) (P : B → Type 0) (xs : List A) → AllByRecursion P (map g xs) → AllByRecursion (λ x. P (g x)) xs
every_map g P [] h = tt
every_map g P (x ∷ xs) h = (h.0, every_map g P xs h.1)

distinct_map : (ws : List Way) → IsDistinct same_leaf (map leaf_of_way ws) → IsDistinct (same leaf_of_way) ws
unfolding IsDistinct
distinct_map [] h = tt
distinct_map (w ∷ ws) h = (every_map leaf_of_way (λ l. same_leaf w.1 l ≡ false) ws h.0, distinct_map ws h.1)

every_filter : {A : Type 0} (p : A → Bool) (P : A → Type 0) (xs : List A) → AllByRecursion P xs → AllByRecursion P (filter p xs)
every_filter p P [] h = tt
every_filter p P (x ∷ xs) h = by (p x) (every_filter p P xs h.1)
  where
    by : (b : Bool) → AllByRecursion P (filter p xs) → AllByRecursion P (cond b (x ∷ filter p xs) (filter p xs))
    by true k = (h.0, k)
    by false k = k

pub distinct_filter : {A : Type 0} (e : A → A → Bool) (p : A → Bool) (xs : List A) → IsDistinct e xs → IsDistinct e (filter p xs)
unfolding IsDistinct
distinct_filter e p [] h = tt
distinct_filter e p (x ∷ xs) h = by (p x) (every_filter p (λ y. e x y ≡ false) xs h.0) (distinct_filter e p xs h.1)
  where
    by : (b : Bool) → AllByRecursion (λ y. e x y ≡ false) (filter p xs) → IsDistinct e (filter p xs) → IsDistinct e (cond b (x ∷ filter p xs) (filter p xs))
    by true h k = (h, k)
    by false h k = k

module _ (kept fresh : Entries Wrapper Leaf) (s : StandsFor kept fresh) where
  pub moved : IsPermutation (ways kept) (ways fresh)
  moved = subst (λ ws. IsPermutation ws (ways fresh)) (routes-ways kept) (subst (λ vs. IsPermutation (routes [] kept) vs) (routes-ways fresh) s.leaves)

  pub kept_once : IsDistinct (same leaf_of_way) (ways kept)
  kept_once = distinct_map (ways kept) (subst (λ ls. IsDistinct same_leaf ls) (sym (flat-ways kept)) (IsDistinct-from_apart same_leaf (flat kept) s.once))

  pub fresh_once : IsDistinct (same leaf_of_way) (ways fresh)
  fresh_once = IsDistinct-IsPermutation (same leaf_of_way) (λ a b. same_leaf-flip a.1 b.1) (ways kept) (ways fresh) moved kept_once

  module _ (once : AllPairs (λ a b. same_key a b ≡ false) (groups fresh)) (x y : ℤ) where
    abbrev shown : Way → Bool
    shown w = covers w.1 x y

    forth : (w : Way) → Has (filter shown (ways kept)) w → Has (filter shown (ways fresh)) w
    forth w h =
        let r = filter_has shown (ways kept) w h in
        has_filter shown (ways fresh) w (has_from (ways fresh) w (Contains-permutation (ways kept) (ways fresh) w moved (contains_from (ways kept) w r.0))) r.1

    back : (w : Way) → Has (filter shown (ways fresh)) w → Has (filter shown (ways kept)) w
    back w h =
        let r = filter_has shown (ways fresh) w h in
        has_filter shown (ways kept) w (has_from (ways kept) w (Contains-permutation (ways fresh) (ways kept) w (IsPermutation-sym (ways kept) (ways fresh) moved) (contains_from (ways fresh) w r.0))) r.1

    leaves_of : (xs : Entries Wrapper Leaf) → map leaf_of_way (filter shown (ways xs)) ≡ filter (at x y) (flat xs)
    leaves_of xs = filter-map leaf_of_way (at x y) (ways xs) ∙ ap (filter (at x y)) (flat-ways xs)

    in_flat : (w : Way) → Has (ways fresh) w → Contains (flat fresh) w.1
    in_flat w h = contains_from (flat fresh) w.1 (subst (λ ls. Has ls w.1) (flat-ways fresh) (has_map leaf_of_way (ways fresh) w h))

    ordered_there : (a b : Way) → Has (filter shown (ways fresh)) a → Has (filter shown (ways fresh)) b
        → pair_in_order a.1 b.1 (map leaf_of_way (filter shown (ways kept))) ≡ pair_in_order a.1 b.1 (map leaf_of_way (filter shown (ways fresh)))
    ordered_there a b h k =
        let r = filter_has shown (ways fresh) a h in
        let q = filter_has shown (ways fresh) b k in
        let these_two : Leaf → Bool = λ l. same_leaf a.1 l || same_leaf b.1 l in
        let o = s.ordered a.1 b.1 (in_flat a r.0) (in_flat b q.0) (both_meet x y a.1 b.1 r.1 q.1) in
        ap (filter these_two) (leaves_of kept)
        ∙ (filter_swap these_two (at x y) (flat kept)
        ∙ (ap (filter (at x y)) o
        ∙ (sym (filter_swap these_two (at x y) (flat fresh))
        ∙ ap (filter these_two) (sym (leaves_of fresh)))))

    same_ways : filter shown (ways kept) ≡ filter shown (ways fresh)
    same_ways =
        in_order leaf_of_way (filter shown (ways kept)) (filter shown (ways fresh)) (distinct_filter (same leaf_of_way) shown (ways kept) kept_once) (distinct_filter (same leaf_of_way) shown (ways fresh) fresh_once)
        forth back ordered_there

    same_flat : filter (at x y) (flat kept) ≡ filter (at x y) (flat fresh)
    same_flat = sym (leaves_of kept) ∙ (ap (map leaf_of_way) same_ways ∙ leaves_of fresh)

    same_lists : only (at x y) kept ≡ only (at x y) fresh
    same_lists =
        rebuilt (only (at x y) kept) (only (at x y) fresh) (filled_only (at x y) kept) (filled_only (at x y) fresh)
        (apart_only (at x y) kept (apart_from kept (IsDistinct-from_apart same_key (groups kept) (groups_apart kept s.grouped))))
        (apart_only (at x y) fresh (apart_from fresh (IsDistinct-from_apart same_key (groups fresh) once)))
        (ways-only (at x y) kept ∙ (same_ways ∙ sym (ways-only (at x y) fresh)))

    pub same_pixel : composed x y white kept ≡ composed x y white fresh
    same_pixel = composed-only x y white kept ∙ (ap (composed x y white) same_lists ∙ sym (composed-only x y white fresh))

    hits_of : (ls : List Leaf) → filter (is_hit x y) ls ≡ filter (λ l. l.hits) (filter (λ l. not (is_outline l.part)) (filter (at x y) ls))
    hits_of ls = sym (ap (filter (λ l. l.hits)) (filter_both (at x y) (λ l. not (is_outline l.part)) ls) ∙ filter_both (λ l. covers l x y && not (is_outline l.part)) (λ l. l.hits) ls)

    pub same_hit : option_map (λ l. l.owner) (last (filter (is_hit x y) (flat kept))) ≡ option_map (λ l. l.owner) (last (filter (is_hit x y) (flat fresh)))
    same_hit =
        ap (λ ls. option_map (λ l. l.owner) (last ls))
        (hits_of (flat kept) ∙ (ap (λ ls. filter (λ l. l.hits) (filter (λ l. not (is_outline l.part)) ls)) same_flat ∙ sym (hits_of (flat fresh))))

pub locality : LocalityLaw
locality = λ kept fresh s once. record { pixels = same_pixel kept fresh s once; hits = same_hit kept fresh s once }
