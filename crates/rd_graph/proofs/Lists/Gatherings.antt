-- Elements of a list by their places: one after another, and as a map.
use Rattle.std.proofs.Common.{◌≡◌, refl, ap, ◌∙◌, sym, subst, ℕ, zero, suc, ◌+◌, ◌<◌, ◌≤◌, List, [], ◌∷◌, ◌++◌, length, take, drop, get_or, map, inl, inr, arith, add-one, drop-cons, append_assoc}
use Rattle.std.proofs.lemmas.List.{append-nil}
use Rattle.rd_graph.specs.Gathered.{gathered, ArePlaces}
use Rattle.rd_graph.proofs.Lists.Listing.{Has, Once, has_map}

-- each place is below a number
abbrev pub AreBelow : ℕ → List ℕ → Type 0
AreBelow n [] = Unit {0}
AreBelow n (p ∷ ps) = (p < n) × AreBelow n ps

pub below_at : (n : ℕ) (ps : List ℕ) (k : ℕ) → AreBelow n ps → k < length ps → get_or ps k 0 < n
below_at n [] k h l = absurd (omega arith)
below_at n (p ∷ ps) zero h l = h.0
below_at n (p ∷ ps) (suc k) h l = below_at n ps k h.1 (omega arith)

pub at_below : (n : ℕ) (ps : List ℕ) → ((k : ℕ) → k < length ps → get_or ps k 0 < n) → AreBelow n ps
at_below n [] h = tt
at_below n (p ∷ ps) h = (h 0 (omega arith), at_below n ps (λ k l. h (suc k) (omega arith)))

pub below_has : (n : ℕ) (ps : List ℕ) (p : ℕ) → AreBelow n ps → Has ps p → p < n
below_has n [] p h m = absurd m
below_has n (q ∷ ps) p h (inl e) = let l = h.0 in omega (arith, l, e)
below_has n (q ∷ ps) p h (inr m) = below_has n ps p h.1 m

pub has_below : (n : ℕ) (ps : List ℕ) → ((p : ℕ) → Has ps p → p < n) → AreBelow n ps
has_below n [] h = tt
has_below n (p ∷ ps) h = (h p (inl refl), has_below n ps (λ q m. h q (inr m)))

module _ {E : Type 0} where
  pub one_at : (xs : List E) (p : ℕ) (d : E) → p < length xs → take 1 (drop p xs) ≡ get_or xs p d ∷ []
  one_at [] p d l = absurd (omega arith)
  one_at (x ∷ xs) zero d l = refl
  one_at (x ∷ xs) (suc p) d l = one_at xs p d (omega arith)

  pub gathered_map : (ps : List ℕ) (xs : List E) (d : E) → AreBelow (length xs) ps → gathered ps xs ≡ map (λ p. get_or xs p d) ps
  gathered_map [] xs d h = refl
  gathered_map (p ∷ ps) xs d h = let l = h.0 in rw (one_at xs p d l, gathered_map ps xs d h.1) refl

  pub once_unmap : (f : ℕ → E) (ps : List ℕ) → Once (map f ps) → Once ps
  once_unmap f [] o = tt
  once_unmap f (p ∷ ps) o = ((λ h. o.0 (has_map f ps p h)), once_unmap f ps o.1)

  has_get : (xs : List E) (k : ℕ) (d : E) → k < length xs → Has xs (get_or xs k d)
  has_get [] k d l = absurd (omega arith)
  has_get (x ∷ xs) zero d l = inl refl
  has_get (x ∷ xs) (suc k) d l = inr (has_get xs k d (omega arith))

  pub apart_at : (xs : List E) (j k : ℕ) (d : E) → Once xs → j < k → k < length xs → get_or xs j d ≡ get_or xs k d → ⊥
  apart_at [] j k d o l m e = absurd (omega arith)
  apart_at (x ∷ xs) j zero d o l m e = absurd (omega arith)
  apart_at (x ∷ xs) zero (suc k) d o l m e = o.0 (subst (λ (y : E). Has xs y) (sym e) (has_get xs k d (omega arith)))
  apart_at (x ∷ xs) (suc j) (suc k) d o l m e = apart_at xs j k d o.1 (omega arith) (omega arith) e

module _ {E : Type 0} where
  pub gathered_once : (ps : List ℕ) (xs : List E) → AreBelow (length xs) ps → Once (gathered ps xs) → Once ps
  gathered_once [] xs h o = tt
  gathered_once (p ∷ ps) [] h o = absurd (let l = h.0 in omega (arith, l))
  gathered_once (p ∷ ps) (x ∷ xs) h o = once_unmap (λ q. get_or (x ∷ xs) q x) (p ∷ ps) (subst Once (gathered_map (p ∷ ps) (x ∷ xs) x h) o)

  pub places_of_once : (ps : List ℕ) (xs : List E) → AreBelow (length xs) ps → Once (gathered ps xs) → ArePlaces ps (length xs)
  places_of_once ps xs h o = record {
    within = λ k l. below_at (length xs) ps k h l;
    apart = λ j k l m e. apart_at ps j k 0 (gathered_once ps xs h o) l m e;
  }

pub drop_at : {A : Type 0} (xs : List A) (i : ℕ) (d : A) → i < length xs → drop i xs ≡ get_or xs i d ∷ drop (i + 1) xs
drop_at xs i d l = rw add-one (drop-cons xs i d l)

pub drop_end : {A : Type 0} (xs : List A) (i : ℕ) → length xs ≤ i → drop i xs ≡ []
drop_end [] zero h = refl
drop_end [] (suc i) h = refl
drop_end (x ∷ xs) zero h = absurd (omega arith)
drop_end (x ∷ xs) (suc i) h = drop_end xs i (omega arith)

-- one more of a list that is made from the front
pub joins_on : {E : Type 0} (now then more rest whole : List E) → then ≡ now ++ more → now ++ (more ++ rest) ≡ whole → then ++ rest ≡ whole
joins_on now then more rest whole is was = rw is (append_assoc now more rest ∙ was)

-- what a loop over a list has put together when it comes to the end
pub whole_at_end : {A E : Type 0} (f : List A → List E) (xs : List A) (i : ℕ) (now whole : List E) → length xs ≤ i → f [] ≡ [] → now ++ f (drop i xs) ≡ whole → now ≡ whole
whole_at_end f xs i now whole l none is = sym (append-nil now) ∙ ap (λ zs. now ++ zs) (sym none) ∙ ap (λ ys. now ++ f ys) (sym (drop_end xs i l)) ∙ is
