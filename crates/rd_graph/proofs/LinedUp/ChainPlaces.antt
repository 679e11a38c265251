-- The places of the names of a chain, counted through.
use Rattle.std.proofs.Common.{◌≡◌, refl, ap, ◌∙◌, sym, subst, ℕ, zero, suc, ◌+◌, ◌<◌, ◌≤◌, List, [], ◌∷◌, ◌++◌, length, take, drop, get_or, map, Option, Some, None, inl, inr, arith, append_assoc, length-append}
use Rattle.rd_keys.specs.declared.entry.EntryKey.{EntryKey}
use Rattle.rd_graph.specs.Orders.{Before}
use Rattle.rd_graph.specs.Gathered.{gathered}
use Rattle.rd_graph.specs.Names.{place_of, same_entry}
use Rattle.rd_graph.specs.Patches.{not_found}
use Rattle.rd_graph.specs.Internal.Walks.{counted, place_or, free_after, RisesTo}
use Rattle.rd_graph.proofs.Lists.Listing.{Has, has_from, contains_from, map_has, has_map}
use Rattle.rd_graph.proofs.Lists.Entries.{same_entry-sound, same_entry-refl, has_get, place_some}
use Rattle.rd_graph.proofs.Lists.Gatherings.{AreBelow, one_at, gathered_map}

module _ {E : Type 0} where
  pub before_at : (xs : List E) (i j : ℕ) (d : E) → i < j → j < length xs → Before xs (get_or xs i d) (get_or xs j d)
  before_at [] i j d u l = absurd (omega arith)
  before_at (x ∷ xs) i zero d u l = absurd (omega arith)
  before_at (x ∷ xs) zero (suc j) d u l = inl (refl, contains_from xs (get_or xs j d) (has_get xs j d (omega arith)))
  before_at (x ∷ xs) (suc i) (suc j) d u l = inr (before_at xs i j d (omega arith) (omega arith))

  pub gathered_has : (ps : List ℕ) (xs : List E) (a : E) → AreBelow (length xs) ps → Has (gathered ps xs) a → (p : ℕ) × Has ps p × (get_or xs p a ≡ a)
  gathered_has ps xs a below h = map_has (λ p. get_or xs p a) ps a (subst (λ (zs : List E). Has zs a) (gathered_map ps xs a below) h)

  pub has_gathered : (ps : List ℕ) (xs : List E) (p : ℕ) (d : E) → AreBelow (length xs) ps → Has ps p → Has (gathered ps xs) (get_or xs p d)
  has_gathered ps xs p d below h = subst (λ (zs : List E). Has zs (get_or xs p d)) (sym (gathered_map ps xs d below)) (has_map (λ q. get_or xs q d) ps p h)

  at_end : (ys : List E) (k : E) (rest : List E) (m : ℕ) → m ≡ length ys → take 1 (drop m (ys ++ k ∷ rest)) ≡ k ∷ []
  at_end [] k rest zero e = refl
  at_end [] k rest (suc m) e = absurd (omega arith)
  at_end (y ∷ ys) k rest zero e = absurd (omega arith)
  at_end (y ∷ ys) k rest (suc m) e = at_end ys k rest m (omega arith)

  pub longer : (ys : List E) (k : E) (rest : List E) → length ys < length (ys ++ k ∷ rest)
  longer [] k rest = omega arith
  longer (y ∷ ys) k rest = let l = longer ys k rest in omega (arith, l)

  pub get_left : (xs ys : List E) (i : ℕ) (d : E) → i < length xs → get_or (xs ++ ys) i d ≡ get_or xs i d
  get_left [] ys i d l = absurd (omega arith)
  get_left (x ∷ xs) ys zero d l = refl
  get_left (x ∷ xs) ys (suc i) d l = get_left xs ys i d (omega arith)

module _ (xs : List EntryKey) where
  abbrev place : EntryKey → Option ℕ
  place k = place_of same_entry xs k

  abbrev places : ℕ → List EntryKey → List ℕ
  places m ks = counted m (map place ks)

  at_place : (k : EntryKey) (i : ℕ) → place k ≡ Some i → (i < length xs) × ((d : EntryKey) → get_or xs i d ≡ k)
  at_place k i e = place_some same_entry same_entry-sound same_entry-refl xs k i e

  -- a place of the chain that is one of the old ones
  pub counted_has : (m : ℕ) (ks : List EntryKey) (p : ℕ) → Has (places m ks) p → p < m → (k : EntryKey) × Has ks k × (place k ≡ Some p)
  counted_has m [] p h l = absurd h
  counted_has m (k ∷ ks) p h l = by (λ n h l. counted_has n ks p h l) (place k) refl h
    where
      by : ((n : ℕ) → Has (places n ks) p → p < n → (j : EntryKey) × Has ks j × (place j ≡ Some p))
          → (o : Option ℕ) → place k ≡ o → Has (place_or m o ∷ counted (free_after m o) (map place ks)) p → (j : EntryKey) × Has (k ∷ ks) j × (place j ≡ Some p)
      by more None u (inl e) = absurd (omega (arith, e, l))
      by more None u (inr n) = let r = more (m + 1) n (omega (arith, l)) in (r.0, inr r.1, r.2)
      by more (Some i) u (inl e) = (k, inl refl, u ∙ ap Some e)
      by more (Some i) u (inr n) = let r = more m n l in (r.0, inr r.1, r.2)

  -- places that rise below the end are all old ones
  pub all_found : (n least m : ℕ) (ks : List EntryKey) → RisesTo n least (places m ks) → n ≤ m → not_found ks (map place ks) ≡ []
  all_found n least m [] r l = refl
  all_found n least m (k ∷ ks) r l = by (λ low s. all_found n low m ks s l) (place k) r
    where
      by : ((low : ℕ) → RisesTo n low (places m ks) → not_found ks (map place ks) ≡ []) → (o : Option ℕ) → RisesTo n least (place_or m o ∷ counted (free_after m o) (map place ks)) → not_found (k ∷ ks) (o ∷ map place ks) ≡ []
      by more None s = absurd (let u = s.1 in omega (arith, u, l))
      by more (Some i) s = more (i + 1) s.2

  pub found_at : (n least m : ℕ) (ks : List EntryKey) (b : EntryKey) → RisesTo n least (places m ks) → n ≤ m → Has ks b → (j : ℕ) × (place b ≡ Some j) × (least ≤ j)
  found_at n least m [] b r l h = absurd h
  found_at n least m (k ∷ ks) b r l h = by (λ low s h. found_at n low m ks b s l h) (place k) refl r h
    where
      by : ((low : ℕ) → RisesTo n low (places m ks) → Has ks b → (j : ℕ) × (place b ≡ Some j) × (low ≤ j))
          → (o : Option ℕ) → place k ≡ o → RisesTo n least (place_or m o ∷ counted (free_after m o) (map place ks)) → Has (k ∷ ks) b → (j : ℕ) × (place b ≡ Some j) × (least ≤ j)
      by more None u s h = absurd (let v = s.1 in omega (arith, v, l))
      by more (Some i) u s (inl e) = (i, ap place (sym e) ∙ u, s.0)
      by more (Some i) u s (inr n) = let q = more (i + 1) s.2 n in let v = q.2 in let w = s.0 in (q.0, q.1, omega (arith, v, w))

  pub rising_before : (n least m : ℕ) (ks : List EntryKey) (a b : EntryKey) → RisesTo n least (places m ks) → n ≤ m → Before ks a b → Before xs a b
  rising_before n least m [] a b r l h = absurd h
  rising_before n least m (k ∷ ks) a b r l h = by (λ low s h. rising_before n low m ks a b s l h) (place k) refl r h
    where
      by : ((low : ℕ) → RisesTo n low (places m ks) → Before ks a b → Before xs a b)
          → (o : Option ℕ) → place k ≡ o → RisesTo n least (place_or m o ∷ counted (free_after m o) (map place ks)) → Before (k ∷ ks) a b → Before xs a b
      by more None u s h = absurd (let v = s.1 in omega (arith, v, l))
      by more (Some i) u s (inr n) = more (i + 1) s.2 n
      by more (Some i) u s (inl e) =
          let q = found_at n (i + 1) m ks b s.2 l (has_from ks b e.1) in
          let f = at_place k i u in
          let t = at_place b q.0 q.1 in
          let v = q.2 in
          subst (λ (z : EntryKey). Before xs z b) (f.1 a ∙ e.0) (subst (λ (z : EntryKey). Before xs (get_or xs i a) z) (t.1 a) (before_at xs i q.0 a (omega (arith, v)) t.0))

  -- the names at the places of a chain are the chain
  pub chain_named : (all : List EntryKey) → ((i : ℕ) (d : EntryKey) → i < length xs → get_or all i d ≡ get_or xs i d) → length xs ≤ length all
      → (ys ks : List EntryKey) (m : ℕ) → m ≡ length ys → all ≡ ys ++ not_found ks (map place ks) → (gathered (places m ks) all ≡ ks) × AreBelow (length all) (places m ks)
  chain_named all same long ys [] m e is = (refl, tt)
  chain_named all same long ys (k ∷ ks) m e is = by (λ zs n e is. chain_named all same long zs ks n e is) (place k) refl is
    where
      by : ((zs : List EntryKey) (n : ℕ) → n ≡ length zs → all ≡ zs ++ not_found ks (map place ks) → (gathered (places n ks) all ≡ ks) × AreBelow (length all) (places n ks))
          → (o : Option ℕ) → place k ≡ o → all ≡ ys ++ not_found (k ∷ ks) (o ∷ map place ks)
          → (gathered (place_or m o ∷ counted (free_after m o) (map place ks)) all ≡ k ∷ ks) × AreBelow (length all) (place_or m o ∷ counted (free_after m o) (map place ks))
      by more (Some i) u whole =
          let r = more ys m e whole in
          let p = at_place k i u in
          let l = p.0 in
          (rw (one_at all i k (omega (arith, l, long)), same i k l, p.1 k, r.0) refl, (omega (arith, l, long), r.1))
      by more None u whole =
          let rest : List EntryKey = not_found ks (map place ks) in
          let r = more (ys ++ k ∷ []) (m + 1) (omega (arith, e, length-append ys (k ∷ []))) (whole ∙ sym (append_assoc ys (k ∷ []) rest)) in
          let one : take 1 (drop m all) ≡ k ∷ [] = subst (λ (zs : List EntryKey). take 1 (drop m zs) ≡ k ∷ []) (sym whole) (at_end ys k rest m e) in
          let l = longer ys k rest in
          let size : length all ≡ length (ys ++ k ∷ rest) = ap length whole in
          (rw (one, r.0) refl, (omega (arith, e, l, size), r.1))
