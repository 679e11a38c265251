-- A line in which everything stands after its predecessors.
use Rattle.std.proofs.Common.{◌≡◌, refl, ap, ◌∙◌, sym, subst, ℕ, zero, suc, ◌+◌, ◌<◌, ◌≤◌, true, List, [], ◌∷◌, length, take, get_or, inl, inr, arith}
use Rattle.std.specs.Prelude.{Contains, Some, None, nat_lt}
use Rattle.std.proofs.lemmas.Bool.{cases_lt}
use Rattle.std.proofs.lemmas.Bool.Decides.{Decides-ltb}
use Rattle.std.proofs.lemmas.List.{take_more}
use Rattle.rd_keys.specs.declared.entry.EntryKey.{EntryKey}
use Rattle.rd_graph.specs.Graphs.{Graph, GoesForward, Precedes, Reaches}
use Rattle.rd_graph.specs.Internal.Seen.{seen, seen_one}
use Rattle.rd_graph.specs.Names.{place_of, same_entry}
use Rattle.rd_graph.specs.Orders as spec
use Rattle.rd_graph.specs.Orders.{Before, last}
use Rattle.rd_graph.specs.declared.graph.Node.{Node}
use Rattle.rd_graph.proofs.Lists.Listing.{Has, has_from, contains_from, has_either, map_has, has_map}
use Rattle.rd_graph.proofs.Reaching.Calls.{once_of}
use Rattle.rd_graph.proofs.Reaching.Chains.{forward_all}
use Rattle.rd_graph.proofs.Lists.Entries.{place_some, place_has, has_get, same_entry-sound, same_entry-refl}

-- ---- two names of a line

before_at : {A : Type 0} (xs : List A) (a b : A) (i j : ℕ) → i < j → j < length xs → get_or xs i b ≡ a → get_or xs j b ≡ b → Before xs a b
before_at [] a b i j l m e f = absurd (omega arith)
before_at (x ∷ xs) a b i zero l m e f = absurd (omega arith)
before_at (x ∷ xs) a b zero (suc j) l m e f = inl (e, (j, omega arith, f))
before_at (x ∷ xs) a b (suc i) (suc j) l m e f = inr (before_at xs a b i j (omega arith) (omega arith) e f)

-- where the two stand
record Places {A : Type 0} (xs : List A) (a b : A) : Type 0 where
  first : ℕ
  second : ℕ
  order : first < second
  within : second < length xs
  at_first : get_or xs first b ≡ a
  at_second : get_or xs second b ≡ b

at_before : {A : Type 0} (xs : List A) (a b : A) → Before xs a b → Places xs a b
at_before [] a b h = absurd h
at_before (x ∷ xs) a b (inl h) = record { first = 0; second = suc h.1.0; order = omega arith; within = (let l = h.1.1 in omega (arith, l)); at_first = h.0; at_second = h.1.2 }
at_before (x ∷ xs) a b (inr h) =
    let r = at_before xs a b h in
    record { first = suc r.first; second = suc r.second; order = (let l = r.order in omega (arith, l)); within = (let l = r.within in omega (arith, l)); at_first = r.at_first; at_second = r.at_second }

module _ (line : List EntryKey) (a b : EntryKey) where
  pub before_of : (i j : ℕ) → place_of same_entry line a ≡ Some i → place_of same_entry line b ≡ Some j → nat_lt i j ≡ true → Before line a b
  before_of i j p q t =
      let r = place_some same_entry same_entry-sound same_entry-refl line a i p in
      let s = place_some same_entry same_entry-sound same_entry-refl line b j q in
      before_at line a b i j ((Decides-ltb i j).0 t) s.0 (r.1 b) (s.1 b)

  -- the place of each of the two
  placed : (k : EntryKey) (i : ℕ) → spec.Once line → i < length line → get_or line i b ≡ k → place_of same_entry line k ≡ Some i
  placed k i once l e = subst (λ (z : EntryKey). place_of same_entry line z ≡ Some i) e (place_has same_entry same_entry-sound same_entry-refl line i b (once_of line once) l)

  pub has_first : spec.Once line → place_of same_entry line a ≡ None → Before line a b → ⊥
  has_first once n h =
      let r = at_before line a b h in
      let l = r.order in
      let m = r.within in
      let s : Some r.first ≡ None = sym (placed a r.first once (omega (arith, l, m)) r.at_first) ∙ n in
      cc

  pub has_second : spec.Once line → place_of same_entry line b ≡ None → Before line a b → ⊥
  has_second once n h = let r = at_before line a b h in let s : Some r.second ≡ None = sym (placed b r.second once r.within r.at_second) ∙ n in cc

  pub of_before : spec.Once line → (i j : ℕ) → place_of same_entry line a ≡ Some i → place_of same_entry line b ≡ Some j → Before line a b → nat_lt i j ≡ true
  of_before once i j p q h =
      let r = at_before line a b h in
      let l = r.order in
      let m = r.within in
      let u : Some r.first ≡ Some i = sym (placed a r.first once (omega (arith, l, m)) r.at_first) ∙ p in
      let v : Some r.second ≡ Some j = sym (placed b r.second once r.within r.at_second) ∙ q in
      let e : r.first ≡ i = cc in
      let f : r.second ≡ j = cc in
      (Decides-ltb i j).1 (omega (arith, l, e, f))

-- ---- names before another

same_get : {A : Type 0} (xs : List A) (k : ℕ) (d e : A) → k < length xs → get_or xs k d ≡ get_or xs k e
same_get [] k d e l = absurd (omega arith)
same_get (x ∷ xs) zero d e l = refl
same_get (x ∷ xs) (suc k) d e l = same_get xs k d e (omega arith)

module _ (line names : List EntryKey) (b : EntryKey) where
  pub before_more : (i : ℕ) (d : EntryKey) → i < length names → ((k : ℕ) → k < i → Before line (get_or names k b) b) → Before line (get_or names i d) b → (k : ℕ) → k < i + 1 → Before line (get_or names k b) b
  before_more i d m was here k l = elim (cases_lt k i) [
    | inl n ↦ was k n
    | inr n ↦
        let e : i ≡ k = omega (arith, l, n) in
        subst (λ (j : ℕ). Before line (get_or names j b) b) e (subst (λ (z : EntryKey). Before line z b) (same_get names i d b m) here)
  ]

  pub before_all : (i : ℕ) → length names ≤ i → ((k : ℕ) → k < i → Before line (get_or names k b) b) → (a : EntryKey) → Contains names a → Before line a b
  before_all i l so a c =
      let m = c.1 in
      subst (λ (z : EntryKey). Before line z b) (same_get names c.0 b a m ∙ c.2) (so c.0 (omega (arith, l, m)))

  -- one that does not
  pub not_before : (i : ℕ) (d : EntryKey) → i < length names → (Before line (get_or names i d) b → ⊥) → ((a : EntryKey) → Contains names a → Before line a b) → ⊥
  not_before i d l not h = not (h (get_or names i d) (i, l, same_get names i (get_or names i d) d l))

-- ---- nodes after their predecessors

abbrev pub IsAfter : List EntryKey → Node → Type 0
IsAfter line n = (a : EntryKey) → Contains n.before.items a → Before line a n.key

pub after_more : (line : List EntryKey) (ns : List Node) (i : ℕ) (n : Node) → i < length ns → n ≡ get_or ns i n → ((m : Node) → Has (take i ns) m → IsAfter line m) → IsAfter line n
    → (m : Node) → Has (take (i + 1) ns) m → IsAfter line m
after_more line ns i n l is was here m h = elim (has_either (take i ns) (get_or ns i n ∷ []) m (subst (λ (zs : List Node). Has zs m) (take_more ns i n l) h)) [
  | inl k ↦ was m k
  | inr k ↦ elim k [ inl e ↦ subst (λ (z : Node). IsAfter line z) (is ∙ e) here | inr f ↦ absurd f ]
]

take_all : {A : Type 0} (xs : List A) (i : ℕ) → length xs ≤ i → take i xs ≡ xs
take_all [] zero l = refl
take_all [] (suc i) l = refl
take_all (x ∷ xs) zero l = absurd (omega arith)
take_all (x ∷ xs) (suc i) l = ap (λ zs. x ∷ zs) (take_all xs i (omega arith))

pub after_all : (line : List EntryKey) (ns : List Node) (i : ℕ) → length ns ≤ i → ((m : Node) → Has (take i ns) m → IsAfter line m) → GoesForward (Precedes (seen ns)) line
after_all line ns i l so a b p =
    let m = map_has seen_one ns (b, p.0) (has_from (seen ns) (b, p.0) p.1) in
    subst (λ (z : EntryKey × List EntryKey). Contains z.1 a → Before line a z.0) m.2 (λ c. so m.0 (subst (λ (zs : List Node). Has zs m.0) (sym (take_all ns i l)) m.1) a c) p.2

-- one that does not
pub not_after : (line : List EntryKey) (ns : List Node) (i : ℕ) (n : Node) → i < length ns → n ≡ get_or ns i n → (IsAfter line n → ⊥) → GoesForward (Precedes (seen ns)) line → ⊥
not_after line ns i n l is not h =
    let here : Has ns n = subst (λ (z : Node). Has ns z) (sym is) (has_get ns i n l) in
    not (λ a c. h a n.key (n.before.items, contains_from (seen ns) (n.key, n.before.items) (has_map seen_one ns n here), c))

-- ---- along edges

module _ (line : List EntryKey) (ns other : List Node) (g : Graph EntryKey) (once : spec.Once line) (is : seen ns ≡ g) (same : other ≡ ns) where
  whole : seen other ≡ g
  whole = ap (λ (zs : List Node). seen zs) same ∙ is

  pub reach_forward : GoesForward (Precedes (seen other)) line → GoesForward (Reaches g) line
  reach_forward h = subst (λ (z : Graph EntryKey). GoesForward (Reaches z) line) whole (forward_all (Precedes (seen other)) line (once_of line once) h)

  pub step_forward : GoesForward (Reaches g) line → GoesForward (Precedes (seen other)) line
  step_forward h a b p = h a b (last (subst (λ (z : Graph EntryKey). Precedes z a b) whole p))
