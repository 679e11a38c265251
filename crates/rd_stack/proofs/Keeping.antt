-- What is left of lists of which one stands for the other, and pixels that no touched box covers.
use Rattle.std.proofs.Common.{◌≡◌, refl, ap, ◌∙◌, sym, subst, Bool, true, false, not, ◌&&◌, ◌||◌, cond, List, [], ◌∷◌, ◌++◌, ℤ, ◌⊎◌, inl, inr, Contains, IsPermutation, IsTrue, option_map, remove}
use Rattle.std.specs.Prelude.{filter}
use Rattle.std.specs.List.{IsDistinct, AllByRecursion}
use Rattle.std.proofs.lemmas.Map.Keys.{IsDistinct-from_apart, IsDistinct-IsPermutation, IsDistinct-head, IsDistinct-tail, apart_from_distinct}
use Rattle.std.proofs.lemmas.List.Sorted.{IsPermutation-refl, IsPermutation-sym, IsPermutation-cons, IsPermutation-trans, IsPermutation-remove, Contains-permutation}
use Rattle.std.proofs.lemmas.List.Elements.{All-contains}
use Rattle.rd_keys.specs.Keys.{BoxKey, same_key}
use Rattle.rd_geom.specs.Colors.{white}
use Rattle.rd_item.specs.declared.leaf.Leaf.{Leaf}
use Rattle.rd_item.specs.Leaves.{covers}
use Rattle.rd_graph.proofs.Lists.Listing.{Has, has_from, contains_from, has_left, has_right, has_filter, filter_has}
use Rattle.rd_list.specs.Wrappers.{Wrapper}
use Rattle.rd_list.specs.Entries.{Entries, nil, leaf, group, flat, routes, only, grouped_if_any}
use Rattle.rd_list.proofs.Merges.Naming.{groups_apart, wrappers_apart}
use Rattle.rd_list.specs.Lists.{StandsFor, groups, pair_in_order, same_leaf, leaves_meet, without_touched, composed, is_hit, is_outline, last}
use Rattle.rd_list.proofs.Merges.Levelling.{flat-only}
use Rattle.rd_list.proofs.Merges.Routing.{only_filled}
use Rattle.rd_list.proofs.Merges.Narrowing.{only_only, filter_swap}
use Rattle.rd_stack.specs.Keeping.{LeavingLaw, StayingLaw, IsClear, OutsideLaw}
use Rattle.rd_stack.proofs.Walk.Filters.{filter_both}
use Rattle.rd_stack.proofs.Orders.Orders.{same, same_leaf-refl}
use Rattle.rd_stack.proofs.Orders.Ways.{Way, ways, routes-ways, ways-only, leaf_of_way}
use Rattle.rd_stack.proofs.Orders.Covered.{at, composed-only}
use Rattle.rd_stack.proofs.Locality.{same_leaf-flip, moved, kept_once, fresh_once, distinct_filter}
use Rattle.rd_stack.proofs.Leafwise.{EachLeaf, only_where}

-- Lists without doubles that have the same elements.
module _ {A : Type 0} (e : A → A → Bool) (reflexive : (a : A) → e a a ≡ true) (flips : (a b : A) → e a b ≡ e b a) where
  none_again : {P : Type 0} (x : A) (xs : List A) → IsDistinct e (x ∷ xs) → Has xs x → P
  none_again {P = P} x xs d h = by xs (IsDistinct-head e x xs d) h
    where
      by : (ys : List A) → AllByRecursion (λ y. e x y ≡ false) ys → Has ys x → P
      by [] a h = absurd h
      by (y ∷ ys) a (inl q) = let t : e x y ≡ true = subst (λ z. e x z ≡ true) (sym q) (reflexive x) in let f = a.0 in cc
      by (y ∷ ys) a (inr h) = by ys a.1 h

  pub permuted : (xs ys : List A) → IsDistinct e xs → IsDistinct e ys → ((x : A) → Has xs x → Has ys x) → ((x : A) → Has ys x → Has xs x) → IsPermutation xs ys
  permuted [] [] c d f g = IsPermutation-refl []
  permuted [] (y ∷ ys) c d f g = absurd (g y (inl refl))
  permuted (x ∷ xs) ys c d f g =
      let at = contains_from ys x (f x (inl refl)) in
      let i = at.0 in
      let zs = remove ys i in
      let taken : IsPermutation ys (x ∷ zs) = IsPermutation-remove ys i x at.1 (sym at.2) in
      let b : IsDistinct e (x ∷ zs) = IsDistinct-IsPermutation e flips ys (x ∷ zs) taken d in
      let forth : (z : A) → Has xs z → Has zs z = λ z h.
      elim (has_from (x ∷ zs) z (Contains-permutation ys (x ∷ zs) z taken (contains_from ys z (f z (inr h))))) [
        | inl q ↦ none_again x xs c (subst (λ w. Has xs w) (sym q) h)
        | inr k ↦ k
      ] in
      let back : (z : A) → Has zs z → Has xs z = λ z h.
      elim (g z (has_from ys z (Contains-permutation (x ∷ zs) ys z (IsPermutation-sym ys (x ∷ zs) taken) (contains_from (x ∷ zs) z (inr h))))) [
        | inl q ↦ none_again x zs b (subst (λ w. Has zs w) (sym q) h)
        | inr k ↦ k
      ] in
      IsPermutation-trans (x ∷ xs) (x ∷ zs) ys (IsPermutation-cons x xs zs (permuted xs zs (IsDistinct-tail e x xs c) (IsDistinct-tail e x zs b) forth back)) (IsPermutation-sym ys (x ∷ zs) taken)

-- A list that another one has in it, in order.
module _ {A : Type 0} where
  abbrev IsPart : List A → List A → Type 0
  IsPart [] ys = Unit {0}
  IsPart (x ∷ xs) [] = ⊥
  IsPart (x ∷ xs) (y ∷ ys) = ((x ≡ y) × IsPart xs ys) ⊎ IsPart (x ∷ xs) ys

  part_later : (us ys vs : List A) → IsPart us vs → IsPart us (ys ++ vs)
  part_later [] ys vs h = tt
  part_later (u ∷ us) [] vs h = h
  part_later (u ∷ us) (y ∷ ys) vs h = inr (part_later (u ∷ us) ys vs h)

  part_append : (xs ys us vs : List A) → IsPart xs ys → IsPart us vs → IsPart (xs ++ us) (ys ++ vs)
  part_append [] ys us vs h k = part_later us ys vs k
  part_append (x ∷ xs) [] us vs h k = absurd h
  part_append (x ∷ xs) (y ∷ ys) us vs (inl h) k = inl (h.0, part_append xs ys us vs h.1 k)
  part_append (x ∷ xs) (y ∷ ys) us vs (inr h) k = inr (part_append (x ∷ xs) ys us vs h k)

  every_part : (P : A → Type 0) (xs ys : List A) → IsPart xs ys → AllByRecursion P ys → AllByRecursion P xs
  every_part P [] ys h a = tt
  every_part P (x ∷ xs) [] h a = absurd h
  every_part P (x ∷ xs) (y ∷ ys) (inl h) a = (subst P (sym h.0) a.0, every_part P xs ys h.1 a.1)
  every_part P (x ∷ xs) (y ∷ ys) (inr h) a = every_part P (x ∷ xs) ys h a.1

  distinct_part : (e : A → A → Bool) (xs ys : List A) → IsPart xs ys → IsDistinct e ys → IsDistinct e xs
  unfolding IsDistinct
  distinct_part e [] ys h d = tt
  distinct_part e (x ∷ xs) [] h d = absurd h
  distinct_part e (x ∷ xs) (y ∷ ys) (inl h) d = (subst (λ z. AllByRecursion (λ w. e z w ≡ false) xs) (sym h.0) (every_part (λ w. e y w ≡ false) xs ys h.1 d.0), distinct_part e xs ys h.1 d.1)
  distinct_part e (x ∷ xs) (y ∷ ys) (inr h) d = distinct_part e (x ∷ xs) ys h d.1

module _ (p : Leaf → Bool) where
  groups_left : (xs : Entries Wrapper Leaf) → IsPart (groups (only p xs)) (groups xs)
  groups_left nil = tt
  groups_left (leaf l rest) = elim (p l) as (λ b. IsPart (groups (cond b (leaf l (only p rest)) (only p rest))) (groups rest)) [ true ↦ groups_left rest | false ↦ groups_left rest ]
  groups_left (group g inner rest) = by (only p inner) (groups_left inner) (groups_left rest)
    where
      by : (i : Entries Wrapper Leaf) → IsPart (groups i) (groups inner) → IsPart (groups (only p rest)) (groups rest) → IsPart (groups (grouped_if_any g i (only p rest))) (g.key ∷ groups inner ++ groups rest)
      by nil h q = part_later (groups (only p rest)) (g.key ∷ groups inner) (groups rest) q
      by (leaf l i) h q = inl (refl, part_append (groups i) (groups inner) (groups (only p rest)) (groups rest) h q)
      by (group g' i' i) h q = inl (refl, part_append (g'.key ∷ groups i' ++ groups i) (groups inner) (groups (only p rest)) (groups rest) h q)

  module _ (kept fresh : Entries Wrapper Leaf) (s : StandsFor kept fresh) where
    abbrev test : Way → Bool
    test w = p w.1

    reflexive : (a : Way) → same leaf_of_way a a ≡ true
    reflexive a = same_leaf-refl a.1

    forth : (w : Way) → Has (filter test (ways kept)) w → Has (filter test (ways fresh)) w
    forth w h =
        let r = filter_has test (ways kept) w h in
        has_filter test (ways fresh) w (has_from (ways fresh) w (Contains-permutation (ways kept) (ways fresh) w (moved kept fresh s) (contains_from (ways kept) w r.0))) r.1

    back : (w : Way) → Has (filter test (ways fresh)) w → Has (filter test (ways kept)) w
    back w h =
        let r = filter_has test (ways fresh) w h in
        has_filter test (ways kept) w (has_from (ways kept) w (Contains-permutation (ways fresh) (ways kept) w (IsPermutation-sym (ways kept) (ways fresh) (moved kept fresh s)) (contains_from (ways fresh) w r.0))) r.1

    routes_left : (xs : Entries Wrapper Leaf) → routes [] (only p xs) ≡ filter test (ways xs)
    routes_left xs = routes-ways (only p xs) ∙ ways-only p xs

    same_left : IsPermutation (filter test (ways kept)) (filter test (ways fresh))
    same_left =
        permuted (same leaf_of_way) reflexive (λ a b. same_leaf-flip a.1 b.1) (filter test (ways kept)) (filter test (ways fresh))
        (distinct_filter (same leaf_of_way) test (ways kept) (kept_once kept fresh s)) (distinct_filter (same leaf_of_way) test (ways fresh) (fresh_once kept fresh s)) forth back

    flat_once : IsDistinct same_leaf (flat (only p kept))
    flat_once = subst (λ ls. IsDistinct same_leaf ls) (sym (flat-only p kept)) (distinct_filter same_leaf p (flat kept) (IsDistinct-from_apart same_leaf (flat kept) s.once))

    groups_once : IsDistinct same_key (groups (only p kept))
    groups_once = distinct_part same_key (groups (only p kept)) (groups kept) (groups_left kept) (IsDistinct-from_apart same_key (groups kept) (groups_apart kept s.grouped))

    in_whole : (l : Leaf) → Contains (flat (only p fresh)) l → Contains (flat fresh) l
    in_whole l c = contains_from (flat fresh) l (filter_has p (flat fresh) l (has_from (filter p (flat fresh)) l (subst (λ ls. Contains ls l) (flat-only p fresh) c))).0

    order_left : (a b : Leaf) → Contains (flat (only p fresh)) a → Contains (flat (only p fresh)) b → IsTrue (leaves_meet a b) → pair_in_order a b (flat (only p kept)) ≡ pair_in_order a b (flat (only p fresh))
    order_left a b c d m =
        let these_two : Leaf → Bool = λ l. same_leaf a l || same_leaf b l in
        ap (filter these_two) (flat-only p kept)
        ∙ (filter_swap these_two p (flat kept)
        ∙ (ap (filter p) (s.ordered a b (in_whole a c) (in_whole b d) m)
        ∙ (sym (filter_swap these_two p (flat fresh))
        ∙ ap (filter these_two) (sym (flat-only p fresh)))))

pub leaving : LeavingLaw
leaving p kept fresh s = record {
  leaves = subst (λ ws. IsPermutation ws (routes [] (only p fresh))) (sym (routes_left p kept fresh s kept)) (subst (λ vs. IsPermutation (filter (λ w. p w.1) (ways kept)) vs) (sym (routes_left p kept fresh s fresh)) (same_left p kept fresh s));
  once = λ i j d. apart_from_distinct same_leaf (flat (only p kept)) i j d (flat_once p kept fresh s);
  grouped = wrappers_apart (only p kept) (λ i j d. apart_from_distinct same_key (groups (only p kept)) i j d (groups_once p kept fresh s));
  filled = only_filled p kept;
  ordered = order_left p kept fresh s;
}

pub staying : StayingLaw
staying touched before now e path l c n =
    let test : Way → Bool = λ w. not (touched w.1.owner) in
    let same : filter test (ways now) ≡ filter test (ways before) =
    sym (ways-only (λ l. not (touched l.owner)) now) ∙ (ap ways (sym e) ∙ ways-only (λ l. not (touched l.owner)) before) in
    let here : Has (ways now) (path, l) = has_from (ways now) (path, l) (subst (λ ws. Contains ws (path, l)) (routes-ways now) c) in
    let left : Has (filter test (ways now)) (path, l) = has_filter test (ways now) (path, l) here (ap not n) in
    subst (λ ws. Contains ws (path, l)) (sym (routes-ways before)) (contains_from (ways before) (path, l) (filter_has test (ways before) (path, l) (subst (λ ws. Has ws (path, l)) same left)).0)

-- What holds of each leaf of a list, by its places.
each_from_all : (Q : Leaf → Type 0) (xs : Entries Wrapper Leaf) → ((l : Leaf) → Has (flat xs) l → Q l) → EachLeaf Q xs
each_from_all Q nil h = tt
each_from_all Q (leaf l rest) h = (h l (inl refl), each_from_all Q rest (λ m u. h m (inr u)))
each_from_all Q (group g inner rest) h = (each_from_all Q inner (λ m u. h m (has_left (flat inner) (flat rest) m u)), each_from_all Q rest (λ m u. h m (has_right (flat inner) (flat rest) m u)))

module _ (touched : BoxKey → Bool) (x y : ℤ) where
  one_clear : (t c : Bool) → (t ≡ true → c ≡ false) → c ≡ (not t && c)
  one_clear true c h = h refl
  one_clear false c h = refl

  clear_left : (xs : Entries Wrapper Leaf) → IsClear touched xs x y → only (at x y) xs ≡ only (at x y) (without_touched touched xs)
  clear_left xs h =
      only_where (at x y) (λ l. not (touched l.owner) && covers l x y) xs
      (each_from_all (λ l. covers l x y ≡ (not (touched l.owner) && covers l x y)) xs
      (λ l u. one_clear (touched l.owner) (covers l x y) (All-contains (λ l. touched l.owner ≡ true → covers l x y ≡ false) (flat xs) l h (contains_from (flat xs) l u))))
      ∙ sym (only_only (λ l. not (touched l.owner)) (at x y) xs)

  covering_same : (before now : Entries Wrapper Leaf) → without_touched touched before ≡ without_touched touched now → IsClear touched before x y → IsClear touched now x y → only (at x y) before ≡ only (at x y) now
  covering_same before now e h k = clear_left before h ∙ (ap (only (at x y)) e ∙ sym (clear_left now k))

  hits_at : (xs : Entries Wrapper Leaf) → filter (is_hit x y) (flat xs) ≡ filter (λ l. l.hits) (filter (λ l. not (is_outline l.part)) (flat (only (at x y) xs)))
  hits_at xs =
      sym (ap (λ ls. filter (λ l. l.hits) (filter (λ l. not (is_outline l.part)) ls)) (flat-only (at x y) xs)
      ∙ (ap (filter (λ l. l.hits)) (filter_both (at x y) (λ l. not (is_outline l.part)) (flat xs)) ∙ filter_both (λ l. covers l x y && not (is_outline l.part)) (λ l. l.hits) (flat xs)))

pub outside : OutsideLaw
outside touched before now e x y h k =
    let c = covering_same touched x y before now e h k in
    record {
      pixels = composed-only x y white before ∙ (ap (composed x y white) c ∙ sym (composed-only x y white now));
      hits = ap (λ ls. option_map (λ l. l.owner) (last ls)) (hits_at touched x y before ∙ (ap (λ xs. filter (λ l. l.hits) (filter (λ l. not (is_outline l.part)) (flat xs))) c ∙ sym (hits_at touched x y now)));
    }
