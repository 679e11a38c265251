-- Places that rise, and the places of a chain's names.
use Rattle.std.proofs.Common.{◌≡◌, refl, ap, ◌∙◌, sym, subst, ℕ, zero, suc, ◌<◌, ◌≤◌, Bool, false, List, [], ◌∷◌, length, map, take, get_or, Option, Some, None, arith, inl, inr}
use Rattle.std.specs.Prelude.{Contains, IfSome}
use Rattle.rd_keys.specs.declared.entry.EntryKey.{EntryKey}
use Rattle.rd_graph.specs.Orders as order
use Rattle.rd_graph.specs.Graphs.{Graph, nodes}
use Rattle.rd_graph.specs.Gathered.{gathered}
use Rattle.rd_graph.specs.Names.{is_in, place_of, same_entry}
use Rattle.rd_graph.specs.Patches.{AreRising, found_in}
use Rattle.rd_graph.specs.Internal.Seen.{seen}
use Rattle.rd_graph.specs.declared.graph.Node.{Node}
use Rattle.rd_graph.proofs.Lists.Listing.{Has, Once, cases, has_from}
use Rattle.rd_graph.proofs.Reaching.Calls.{once_of}
use Rattle.rd_graph.proofs.Lists.Entries.{same_entry-sound, same_entry-refl, in_has, has_get, place_some}
use Rattle.rd_graph.proofs.Patches.Marks.{gathered_place, nodes_length}

module _ {E : Type 0} where
  -- an element of a list that has some
  pub any_of : (xs : List E) (i : ℕ) → i < length xs → E
  any_of [] i l = absurd (omega arith)
  any_of (x ∷ xs) i l = x

  take_place : (xs : List E) (m : ℕ) (a : E) → Has (take m xs) a → (j : ℕ) × (j < m) × (j < length xs) × (get_or xs j a ≡ a)
  take_place xs zero a h = absurd h
  take_place [] (suc m) a h = absurd h
  take_place (x ∷ xs) (suc m) a (inl e) = (0, omega arith, omega arith, e)
  take_place (x ∷ xs) (suc m) a (inr h) = let r = take_place xs m a h in (suc r.0, (let l = r.1 in omega (arith, l)), (let l = r.2 in omega (arith, l)), r.3)

  pub once_place : (xs : List E) (i j : ℕ) (a : E) → Once xs → i < length xs → j < length xs → get_or xs i a ≡ a → get_or xs j a ≡ a → i ≡ j
  once_place [] i j a o l m e f = absurd (omega arith)
  once_place (x ∷ xs) zero zero a o l m e f = refl
  once_place (x ∷ xs) zero (suc j) a o l m e f = absurd (o.0 (subst (λ z. Has xs z) (f ∙ sym e) (has_get xs j a (omega arith))))
  once_place (x ∷ xs) (suc i) zero a o l m e f = absurd (o.0 (subst (λ z. Has xs z) (e ∙ sym f) (has_get xs i a (omega arith))))
  once_place (x ∷ xs) (suc i) (suc j) a o l m e f = ap suc (once_place xs i j a o.1 (omega arith) (omega arith) e f)

first_least : (ps : List ℕ) (j n : ℕ) → AreRising ps → j < length ps → get_or ps 0 n ≤ get_or ps j 0
first_least [] j n r l = absurd (omega arith)
first_least (p ∷ ps) zero n r l = omega arith
first_least (p ∷ ps) (suc j) n r l = let u = r 0 (suc j) (omega arith) l in omega (arith, u)

-- before the first place nothing goes
pub quiet_before : (ns : List Node) (ps : List ℕ) (first n : ℕ) (names : EntryKey → Bool) → order.Once (nodes (seen ns)) → AreRising ps → ((k : ℕ) → k < length ps → get_or ps k 0 < length ns) → first ≡ get_or ps 0 n
    → ((k : EntryKey) → names k ≡ is_in same_entry (gathered ps (nodes (seen ns))) k)
    → (k : EntryKey) → Contains (take first (nodes (seen ns))) k → names k ≡ false
quiet_before ns ps first n names once rising within is fits k c = elim (cases (names k)) [
  | inr f ↦ f
  | inl t ↦
      let within_names : (j : ℕ) → j < length ps → get_or ps j 0 < length (nodes (seen ns)) = λ j l. subst (λ m. get_or ps j 0 < m) (sym (nodes_length ns)) (within j l) in
      let r = gathered_place ps (nodes (seen ns)) k within_names (in_has same_entry same_entry-sound (gathered ps (nodes (seen ns))) k (sym (fits k) ∙ t)) in
      let s = take_place (nodes (seen ns)) first k (has_from (take first (nodes (seen ns))) k c) in
      let e = once_place (nodes (seen ns)) s.0 (get_or ps r.0 0) k (once_of (nodes (seen ns)) once) s.2 (within_names r.0 r.1) s.3 r.2 in
      let l = first_least ps r.0 n rising r.1 in
      let m = s.1 in
      absurd (omega (arith, e, l, m, is))
]

map-length : {A B : Type 0} (f : A → B) (xs : List A) → length (map f xs) ≡ length xs
map-length f [] = refl
map-length f (x ∷ xs) = ap suc (map-length f xs)

map-at : (f : EntryKey → Option ℕ) (ks : List EntryKey) (i : ℕ) (d : EntryKey) → i < length ks → get_or (map f ks) i None ≡ f (get_or ks i d)
map-at f [] i d l = absurd (omega arith)
map-at f (k ∷ ks) zero d l = refl
map-at f (k ∷ ks) (suc i) d l = map-at f ks i d (omega arith)

-- the places of a chain's names, one by one
pub found_at : (chain : List EntryKey) (g : Graph EntryKey) (found : List (Option ℕ)) (i : ℕ) → found ≡ found_in chain g → i < length found
    → (i < length chain) × ((d : EntryKey) → get_or found i None ≡ place_of same_entry (nodes g) (get_or chain i d))
found_at chain g found i e l =
    let m : i < length chain = subst (λ n. i < n) (ap length e ∙ map-length (λ k. place_of same_entry (nodes g) k) chain) l in
    (m, λ d. ap (λ os. get_or os i None) e ∙ map-at (λ k. place_of same_entry (nodes g) k) chain i d m)

pub found_whole : (chain : List EntryKey) (g : Graph EntryKey) (found : List (Option ℕ)) (i : ℕ) → found ≡ found_in chain g → length found ≤ i → length chain ≤ i
found_whole chain g found i e l = subst (λ n. n ≤ i) (ap length e ∙ map-length (λ k. place_of same_entry (nodes g) k) chain) l

pub found_within : (ns : List Node) (k : EntryKey) (o : Option ℕ) → o ≡ place_of same_entry (nodes (seen ns)) k → IfSome o (λ p. p < length ns)
found_within ns k None e = tt
found_within ns k (Some p) e = subst (λ m. p < m) (nodes_length ns) (place_some same_entry same_entry-sound same_entry-refl (nodes (seen ns)) k p (sym e)).0
