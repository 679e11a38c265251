-- Elements of lists by their places.
use Rattle.std.proofs.Common.{◌≡◌, ℕ, zero, suc, ◌<◌, List, [], ◌∷◌, map, get_or, Option, Some, None, refl, sym, ap, ◌∙◌, arith, inl, inr}
use Rattle.std.specs.Prelude.{slice_get, option_map, drop}
use Rattle.std.proofs.lemmas.Option.{none-some, same_Some, slice_get-map, slice_get-get_or, slice_get_within, get_or_from_slice_get}
use Rattle.rd_graph.specs.Names.{place_of, same_entry}
use Rattle.rd_graph.specs.Orders as orders
use Rattle.rd_graph.specs.Orders.{Before}
use Rattle.rd_graph.proofs.Lists.Entries.{same_entry-sound, same_entry-refl, place_some, place_none, place_has}
use Rattle.rd_graph.proofs.Lists.Listing.{Has, Once, has_from, contains_from}
use Rattle.rd_keys.specs.declared.entry.EntryKey.{EntryKey}

module _ {A : Type 0} where
  pub has_slice : (xs : List A) (a : A) → Has xs a → (i : ℕ) × (slice_get xs i ≡ Some a)
  has_slice [] a h = absurd h
  has_slice (x ∷ xs) a (inl e) = (0, ap Some e)
  has_slice (x ∷ xs) a (inr h) = let r = has_slice xs a h in (suc r.0, r.1)

  pub slice_has : (xs : List A) (i : ℕ) (a : A) → slice_get xs i ≡ Some a → Has xs a
  slice_has [] i a e = absurd (none-some a e)
  slice_has (x ∷ xs) zero a e = inl (same_Some x a e)
  slice_has (x ∷ xs) (suc i) a e = inr (slice_has xs i a e)

  -- of two elements, one of which stands before the other
  pub record HavePlaces (xs : List A) (a b : A) : Type 0 where
    pub first : ℕ
    pub second : ℕ
    pub below : first < second
    pub first_at : slice_get xs first ≡ Some a
    pub second_at : slice_get xs second ≡ Some b

  pub before_places : (xs : List A) (a b : A) → Before xs a b → HavePlaces xs a b
  before_places [] a b h = absurd h
  before_places (x ∷ xs) a b (inl h) =
      let r = has_slice xs b (has_from xs b h.1) in
      record { first = 0; second = suc r.0; below = omega arith; first_at = ap Some h.0; second_at = r.1 }
  before_places (x ∷ xs) a b (inr h) =
      let r = before_places xs a b h in
      let l = r.below in
      record { first = suc r.first; second = suc r.second; below = omega (arith, l); first_at = r.first_at; second_at = r.second_at }

  pub places_before : (xs : List A) (i j : ℕ) (a b : A) → i < j → slice_get xs i ≡ Some a → slice_get xs j ≡ Some b → Before xs a b
  places_before [] i j a b h p q = absurd (none-some a p)
  places_before (x ∷ xs) i zero a b h p q = absurd (omega (arith, h))
  places_before (x ∷ xs) zero (suc j) a b h p q = inl (same_Some x a p, contains_from xs b (slice_has xs j b q))
  places_before (x ∷ xs) (suc i) (suc j) a b h p q = inr (places_before xs i j a b (omega (arith, h)) p q)

  -- what is left begins with the element at the place
  pub dropped : (xs : List A) (i : ℕ) (x : A) (rest : List A) → drop i xs ≡ x ∷ rest → (slice_get xs i ≡ Some x) × (drop (suc i) xs ≡ rest)
  dropped [] zero x rest e = absurd cc
  dropped [] (suc i) x rest e = absurd cc
  dropped (y ∷ ys) zero x rest e = let first : y ≡ x = cc in let left : ys ≡ rest = cc in (ap Some first, left)
  dropped (y ∷ ys) (suc i) x rest e = dropped ys i x rest e

module _ {A B : Type 0} (f : A → B) where
  pub map_slice : (xs : List A) (i : ℕ) (x : A) → slice_get xs i ≡ Some x → slice_get (map f xs) i ≡ Some (f x)
  map_slice xs i x e = slice_get-map f xs i ∙ ap (option_map f) e

  pub slice_map : (xs : List A) (i : ℕ) (y : B) → slice_get (map f xs) i ≡ Some y → (x : A) × (slice_get xs i ≡ Some x) × (f x ≡ y)
  slice_map [] i y e = absurd (none-some y e)
  slice_map (x ∷ xs) zero y e = (x, refl, same_Some (f x) y e)
  slice_map (x ∷ xs) (suc i) y e = slice_map xs i y e

  pub once_of_map : (xs : List A) → Once (map f xs) → Once xs
  once_of_map [] o = tt
  once_of_map (x ∷ xs) o = ((λ h. o.0 (image xs x h)), once_of_map xs o.1)
    where
      image : (ys : List A) (a : A) → Has ys a → Has (map f ys) (f a)
      image [] a h = h
      image (y ∷ ys) a (inl e) = inl (ap f e)
      image (y ∷ ys) a (inr h) = inr (image ys a h)

-- ---- places of names

pub no_place : (names : List EntryKey) (k : EntryKey) → place_of same_entry names k ≡ None → Has names k → ⊥
no_place names k e h = place_none same_entry same_entry-sound same_entry-refl names k e h

pub has_place : (names : List EntryKey) (k : EntryKey) → Has names k → (q : ℕ) × (place_of same_entry names k ≡ Some q)
has_place names k h = by_place (place_of same_entry names k) refl
  where
    by_place : (o : Option ℕ) → place_of same_entry names k ≡ o → (q : ℕ) × (place_of same_entry names k ≡ Some q)
    by_place None e = absurd (no_place names k e h)
    by_place (Some q) e = (q, e)

pub at_place : (names : List EntryKey) (k : EntryKey) (q : ℕ) → place_of same_entry names k ≡ Some q → slice_get names q ≡ Some k
at_place names k q e =
    let r = place_some same_entry same_entry-sound same_entry-refl names k q e in
    slice_get-get_or names q k r.0 ∙ ap Some (r.1 k)

pub place_at : (names : List EntryKey) (k : EntryKey) (q : ℕ) → Once names → slice_get names q ≡ Some k → place_of same_entry names k ≡ Some q
place_at names k q o e =
    let is : get_or names q k ≡ k = get_or_from_slice_get names q k k e in
    ap (place_of same_entry names) (sym is) ∙ place_has same_entry same_entry-sound same_entry-refl names q k o (slice_get_within names q k e)

-- what is left from a place on
pub drop_here : {A : Type 0} (xs : List A) (i : ℕ) (x : A) → slice_get xs i ≡ Some x → drop i xs ≡ x ∷ drop (suc i) xs
drop_here [] i x e = absurd (none-some x e)
drop_here (y ∷ ys) zero x e = ap (λ z. z ∷ ys) (same_Some y x e)
drop_here (y ∷ ys) (suc i) x e = drop_here ys i x e

-- names that differ, as rd_graph says it of a list
pub once_to : (xs : List EntryKey) → Once xs → orders.Once xs
once_to [] o = tt
once_to (x ∷ xs) o = ((λ c. o.0 (has_from xs x c)), once_to xs o.1)
