-- The line by ranks is one of the merge.
use Rattle.std.proofs.Common.{◌≡◌, refl, ap, ◌∙◌, sym, subst, ℕ, ◌+◌, ◌<◌, ◌≤◌, Bool, true, false, List, [], ◌∷◌, ◌++◌, length, map, get_or, Option, Some, inl, inr, ◌⊎◌, arith}
use Rattle.std.specs.Prelude.{◌↔◌, ◌&&◌, Contains, IsTrue}
use Rattle.std.specs.List.{sum_by}
use Rattle.std.proofs.lemmas.Bool.{cases_lt, eqb-true, eq-eqb}
use Rattle.std.proofs.Math.Dec.{eqb}
use Rattle.std.proofs.lemmas.List.{map-append, get_or-map}
use Rattle.std.proofs.lemmas.List.Sums.{sum_by-cons}
use Rattle.rd_keys.specs.declared.entry.EntryKey.{EntryKey}
use Rattle.rd_graph.specs.Graphs.{Graph, nodes, Precedes, Reaches, Hop, here, over, Stitch, Drops, GoTogether, IsInOrder}
use Rattle.rd_graph.specs.Orders as spec
use Rattle.rd_graph.specs.Orders.{Before}
use Rattle.rd_graph.specs.Names.{same_entry}
use Rattle.rd_graph.specs.Internal.Passes.{stitch_pass}
use Rattle.rd_graph.specs.Patches.{CanBePatched, IsArranged, is_gone, not_found}
use Rattle.rd_graph.specs.Internal.Seen.{seen}
use Rattle.rd_graph.specs.Internal.Walks.{stays_at, staying, counted, free_after}
use Rattle.rd_graph.specs.Internal.Ranks.{fixed, loose, ranked, AreNamesAt, AreRanks, AreRankable, AreByRank}
use Rattle.rd_graph.specs.declared.graph.Node.{Node}
use Rattle.rd_graph.proofs.Lists.Listing.{Has, Once, cases, never, has_left, has_right, has_either, has_map, map_has, before_left, before_right, before_across, before_once, before_either, before_from, before_to, once_join}
use Rattle.rd_graph.proofs.Reaching.Calls.{once_of, once_to}
use Rattle.rd_graph.proofs.Lists.Entries.{same_entry-sound, same_entry-refl, has_get}
use Rattle.rd_graph.proofs.Reaching.Dropping.{dropped}
use Rattle.rd_graph.proofs.Reaching.Sorting.{before_map, map_before, has_sums, once_sums}
use Rattle.rd_graph.proofs.Lists.Gatherings.{AreBelow, has_below, gathered_map}
use Rattle.rd_graph.proofs.LinedUp.LineFacts.{node_length, seen_length}
use Rattle.rd_graph.proofs.LinedUp.ChainPlaces.{before_at}
use Rattle.rd_graph.proofs.LinedUp.Walks.{staying_to, staying_from, staying_before, staying_once, stays_below}
use Rattle.rd_graph.proofs.LinedUp.PlacedLines.{placed_line, once_places, chained, at_old, not_gone}
use Rattle.rd_graph.proofs.LinedUp.ByRanks.RankedLines.{ranked_map, ranked_places, chain_pairs, chain_seconds, ranks_rise, loose_has, loose_before, loose_to, loose_once, fixed_of, fixed_to, fixed_before, fixed_once, fixed_rank, fixed_length, fixed_map, fixed_places}

sum_by_map : {A B : Type 0} (n : B → ℕ) (f : A → B) (xs : List A) → sum_by n (map f xs) ≡ sum_by (λ x. n (f x)) xs
sum_by_map n f [] = refl
sum_by_map n f (x ∷ xs) = sum_by-cons n (f x) (map f xs) ∙ ap (λ k. n (f x) + k) (sum_by_map n f xs) ∙ sym (sum_by-cons (λ y. n (f y)) x xs)

-- two pairs are the same
same_pair : ℕ × ℕ → ℕ × ℕ → Bool
same_pair x y = eqb x.0 y.0 && eqb x.1 y.1

same_pair-sound : (x y : ℕ × ℕ) → same_pair x y ≡ true → x ≡ y
unfolding same_pair
same_pair-sound x y h = elim (cases (eqb x.0 y.0)) [
  | inl t ↦ let u : eqb x.1 y.1 ≡ true = (rw t at h) in ap (λ (n : ℕ). (n, x.1)) (eqb-true x.0 y.0 t) ∙ ap (λ (n : ℕ). (y.0, n)) (eqb-true x.1 y.1 u)
  | inr f ↦ absurd (never false (rw f at h) refl)
]

same_pair-refl : (x : ℕ × ℕ) → same_pair x x ≡ true
unfolding same_pair
same_pair-refl x = let t : eqb x.0 x.0 ≡ true = eq-eqb x.0 x.0 refl in let u : eqb x.1 x.1 ≡ true = eq-eqb x.1 x.1 refl in rw (t, u) refl

pub counted_length : (n : ℕ) (os : List (Option ℕ)) → length (counted n os) ≡ length os
counted_length n [] = refl
counted_length n (o ∷ os) = let e = counted_length (free_after n o) os in omega (arith, e)

map_length : {A B : Type 0} (f : A → B) (xs : List A) → length (map f xs) ≡ length xs
map_length f [] = refl
map_length f (x ∷ xs) = let e = map_length f xs in omega (arith, e)

pub places_length : (chain : List EntryKey) (found : List (Option ℕ)) (n : ℕ) (f : EntryKey → Option ℕ) → found ≡ map f chain → length (counted n found) ≡ length chain
places_length chain found n f e = counted_length n found ∙ ap length e ∙ map_length f chain

module _ (gone : List ℕ) (chain : List EntryKey) (found : List (Option ℕ)) (g : Graph EntryKey) (can : CanBePatched gone chain found g) (sound : IsInOrder g)
    (stays : List Bool) (places : List ℕ) (size : length stays ≡ length g) (marked : (p : ℕ) → p < length g → IsTrue (stays_at stays p) ↔ (Contains gone p → ⊥)) (are : places ≡ counted (length g) found) where
  abbrev old : List EntryKey
  old = nodes g

  abbrev every : List EntryKey
  every = old ++ not_found chain found

  abbrev name : EntryKey → ℕ → EntryKey
  name d p = get_or every p d

  abbrev fx : List EntryKey
  fx = fixed stays places chain

  chain_is : (d : EntryKey) → chain ≡ map (name d) places
  chain_is d = let r = chained gone chain found g can sound stays places size marked are in sym r.0 ∙ gathered_map places every d r.1

  fx_is : (d : EntryKey) → fx ≡ fixed_of stays (name d) places
  fx_is d = ap (λ ks. fixed stays places ks) (chain_is d)

  fx_once_at : EntryKey → Once fx
  fx_once_at d = subst Once (sym (fx_is d)) (fixed_once stays (name d) places (subst Once (chain_is d) (once_of chain can.once)))

  once_any : (xs : List EntryKey) → (EntryKey → Once xs) → Once xs
  once_any [] f = tt
  once_any (x ∷ xs) f = f x

  pub fx_once : Once fx
  fx_once = once_any fx fx_once_at

  abbrev fp : List ℕ
  fp = fixed stays places places

  fp_within : (i : ℕ) → i < length fp → get_or fp i 0 < length g
  fp_within i l = let u = stays_below stays (get_or fp i 0) (fixed_places stays places (get_or fp i 0) (has_get fp i 0 l)) in omega (arith, u, size)

  -- the names of the chain that stay are those at its places that stay
  pub fx_named : AreNamesAt fp fx g
  fx_named = record {
    count = fixed_length stays places chain (ap length are ∙ places_length chain found (length g) _ can.found_are);
    within = fp_within;
    at = λ i d l. ap (λ ks. get_or ks i d) (fx_is d ∙ fixed_map stays (name d) places) ∙ get_or-map (name d) fp i 0 d l ∙ at_old gone chain found g can sound stays places size marked are (get_or fp i 0) d (fp_within i l);
  }

  module _ (label : EntryKey → ℕ) (labels : AreRanks g fx label) (all sorted : List (ℕ × ℕ))
      (all_are : all ≡ loose stays 0 places ++ ranked label old (staying stays 0 (length g)))
      (same : (n : ℕ × ℕ → ℕ) → sum_by n sorted ≡ sum_by n all) (up : (x y : ℕ × ℕ) → Before sorted x y → x.0 ≤ y.0) (stable : (x y : ℕ × ℕ) → Before all x y → x.0 ≡ y.0 → Before sorted x y) where
    abbrev second : ℕ × ℕ → ℕ
    second x = x.1

    abbrev kept : List ℕ
    kept = staying stays 0 (length g)

    abbrev free : List (ℕ × ℕ)
    free = loose stays 0 places

    abbrev tied : List (ℕ × ℕ)
    tied = ranked label old kept

    abbrev line : List ℕ
    line = map second sorted

    kept_below : AreBelow (length old) kept
    kept_below = has_below (length old) kept (λ p h. let r = staying_to stays 0 (length g) p h in let u = r.2 in let e = node_length g in omega (arith, u, e))

    kept_has : (p : ℕ) → stays_at stays p ≡ true → Has kept p
    kept_has p t = let u = stays_below stays p t in staying_from stays 0 (length g) p t (omega arith) (omega (arith, u, size))

    seconds_are : map second all ≡ map second free ++ kept
    seconds_are = ap (map second) all_are ∙ map-append {B = ℕ} second free tied ∙ ap (λ qs. map second free ++ qs) (ranked_places label old kept kept_below)

    to_all : (p : ℕ) → Has (map second free ++ kept) p → (stays_at stays p ≡ true) ⊎ Has places p
    to_all p h = elim (has_either (map second free) kept p h) [
      | inl m ↦ let r = map_has second free p m in inr (subst (λ (z : ℕ). Has places z) r.2 (loose_to stays 0 places r.0 r.1).0)
      | inr m ↦ inl (staying_to stays 0 (length g) p m).0
    ]

    once_seconds : Once (map second free ++ kept)
    once_seconds = once_join (map second free) kept (loose_once stays 0 places (once_places gone chain found g can sound stays places size marked are)) (staying_once stays 0 (length g)) (λ p h k.
        let r = map_has second free p h in
        let f : stays_at stays p ≡ false = ap (stays_at stays) (sym r.2) ∙ (loose_to stays 0 places r.0 r.1).1 in
        let t = (staying_to stays 0 (length g) p k).0 in
        cc)

    same_line : (n : ℕ → ℕ) → sum_by n line ≡ sum_by n (map second all)
    same_line n = sum_by_map n second sorted ∙ same (λ x. n x.1) ∙ sym (sum_by_map n second all)

    eqb_sound : (a b : ℕ) → eqb a b ≡ true → a ≡ b
    eqb_sound a b h = eqb-true a b h

    eqb_refl : (a : ℕ) → eqb a a ≡ true
    eqb_refl a = eq-eqb a a refl

    once_line : Once line
    once_line = once_sums eqb eqb_sound eqb_refl (map second all) line same_line (subst Once (sym seconds_are) once_seconds)

    line_to : (p : ℕ) → Has line p → (stays_at stays p ≡ true) ⊎ Has places p
    line_to p h = to_all p (subst (λ (qs : List ℕ). Has qs p) seconds_are (has_sums eqb eqb_sound eqb_refl line (map second all) (λ n. sym (same_line n)) p h))

    line_has : (p : ℕ) → Has (map second free ++ kept) p → Has line p
    line_has p h = has_sums eqb eqb_sound eqb_refl (map second all) line same_line p (subst (λ (qs : List ℕ). Has qs p) (sym seconds_are) h)

    in_all : (x : ℕ × ℕ) → Has (free ++ tied) x → Has all x
    in_all x h = subst (λ (zs : List (ℕ × ℕ)). Has zs x) (sym all_are) h

    sorted_has : (x : ℕ × ℕ) → Has all x → Has sorted x
    sorted_has x h = has_sums same_pair same_pair-sound same_pair-refl all sorted same x h

    -- what the sort does to two pairs
    put : (x y : ℕ × ℕ) → Has all x → Has all y → (x.0 < y.0) ⊎ ((x.0 ≡ y.0) × Before all x y) → Before line x.1 y.1
    put x y h k (inl l) = before_map second sorted x y (elim (before_either sorted x y (sorted_has x h) (sorted_has y k) (λ e. let f : x.0 ≡ y.0 = ap (λ (z : ℕ × ℕ). z.0) e in omega (arith, f, l))) [
      | inl r ↦ r
      | inr r ↦ absurd (let m = up y x r in omega (arith, m, l))
    ])
    put x y h k (inr e) = before_map second sorted x y (stable x y e.1 e.0)

    hop_up : (a b : EntryKey) → Hop (Precedes g) (is_gone gone g) a b → label a ≤ label b
    hop_up a b (here s) = labels.rises a b s
    hop_up a b (over {c = c} s t r) = let u = labels.rises a c s in let v = hop_up c b r in omega (arith, u, v)

    -- a pair of a place that stays
    tie : EntryKey → ℕ → ℕ × ℕ
    tie d p = (label (get_or old p d), p)

    tied_has : (d : EntryKey) (p : ℕ) → stays_at stays p ≡ true → Has tied (label (get_or old p d), p)
    tied_has d p t = subst (λ (zs : List (ℕ × ℕ)). Has zs (label (get_or old p d), p)) (sym (ranked_map label old kept d kept_below)) (has_map (λ (q : ℕ). (label (get_or old q d), q)) kept p (kept_has p t))

    stitch_forward : (a b : EntryKey) (p q : ℕ) → Stitch (Precedes g) (is_gone gone g) a b → p < q → p < length g → q < length g → get_or (nodes g) p a ≡ a → get_or (nodes g) q a ≡ b → stays_at stays p ≡ true → stays_at stays q ≡ true → Before line p q
    stitch_forward a b p q s l m n e f t w =
        let x : ℕ × ℕ = (label (get_or old p a), p) in
        let y : ℕ × ℕ = (label (get_or old q a), q) in
        let u = hop_up a b s.hop in
        let ex : label (get_or old p a) ≡ label a = ap label e in
        let ey : label (get_or old q a) ≡ label b = ap label f in
        let low : x.0 ≤ y.0 = omega (arith, u, ex, ey) in
        let both : Before tied x y = subst (λ (zs : List (ℕ × ℕ)). Before zs x y) (sym (ranked_map label old kept a kept_below)) (before_map (λ (r : ℕ). (label (get_or old r a), r)) kept p q (staying_before stays 0 (length g) p q t w (omega arith) l (omega (arith, n)))) in
        let joint : Before all x y = subst (λ (zs : List (ℕ × ℕ)). Before zs x y) (sym all_are) (before_right free tied x y both) in
        put x y (before_from all x y joint) (before_to all x y joint) (elim (cases_lt x.0 y.0) [ inl k ↦ inl k | inr k ↦ inr (omega (arith, low, k), joint) ])

    -- the rank of a name of the chain that stays is its place among them
    label_at : (i : ℕ) (d : EntryKey) → i < length fx → label (get_or fx i d) ≡ i
    label_at i d l = elim (labels.own i d l) [
      | inl e ↦ e
      | inr r ↦ let k = r.1 in absurd (back (get_or fx r.0 d) (get_or fx i d) d r.2 (before_at fx r.0 i d k l) (has_get fx r.0 d (omega (arith, k, l))) (has_get fx i d l))
    ]
      where
        left : Graph EntryKey
        left = stitch_pass same_entry (is_gone gone g) [] g

        drops : Drops (is_gone gone g) g left
        drops = (dropped same_entry (is_gone gone g) same_entry-sound same_entry-refl g sound).1

        go : GoTogether chain left
        go = can.forward left drops

        fixed_stays : (a d : EntryKey) → Has fx a → is_gone gone g a ≡ false
        fixed_stays a d h =
            let r = fixed_to stays (name a) places a (subst (λ (ks : List EntryKey). Has ks a) (fx_is a) h) in
            let u = stays_below stays r.0 r.2 in
            let n : r.0 < length g = omega (arith, u, size) in
            not_gone gone chain found g can sound stays places size marked are a r.0 n (sym (at_old gone chain found g can sound stays places size marked are r.0 a n) ∙ r.3) r.2

        back : (c b d : EntryKey) → Reaches g b c → Before fx c b → Has fx c → Has fx b → ⊥
        back c b d reach h hc hb =
            let forth : Before go.line c b = go.added c b (subst (λ (ks : List EntryKey). Before ks c b) (sym (chain_is d)) (fixed_before stays (name d) places c b (subst (λ (ks : List EntryKey). Before ks c b) (fx_is d) h))) in
            let again : Before go.line b c = go.old b c ((drops.reach b c).1 (reach, fixed_stays b d hb, fixed_stays c d hc)) in
            before_once go.line b c (once_of go.line go.once) again forth

    -- a pair of the chain is one of all
    pair_in : (d : EntryKey) (x : ℕ × ℕ) → Has (chain_pairs stays 0 places) x → stays_at stays x.1 ≡ true → Has tied x
    pair_in d x h t =
        let r = fixed_rank stays (name d) 0 places x h t in
        let u = stays_below stays x.1 t in
        let n : x.1 < length g = omega (arith, u, size) in
        let l : r.0 < length fx = (let k = r.2 in subst (λ (ks : List EntryKey). r.0 < length ks) (sym (fx_is d)) k) in
        let same : get_or fx r.0 d ≡ get_or old x.1 d = ap (λ (ks : List EntryKey). get_or ks r.0 d) (fx_is d) ∙ r.3 d ∙ at_old gone chain found g can sound stays places size marked are x.1 d n in
        let e : label (get_or old x.1 d) ≡ x.0 = (let f = label_at r.0 d l in let v = r.1 in let w : label (get_or old x.1 d) ≡ r.0 = sym (ap label same) ∙ f in omega (arith, w, v)) in
        subst (λ (z : ℕ). Has tied (z, x.1)) e (tied_has d x.1 t)

    chain_forward_at : EntryKey → (p q : ℕ) → Before places p q → Before line p q
    chain_forward_at d p q h =
        let r = map_before second (chain_pairs stays 0 places) p q (subst (λ (ps : List ℕ). Before ps p q) (sym (chain_seconds stays 0 places)) h) in
        let x : ℕ × ℕ = r.0 in
        let y : ℕ × ℕ = r.1 in
        let hx : Has (free ++ tied) x = either x (before_from (chain_pairs stays 0 places) x y r.2) in
        let hy : Has (free ++ tied) y = either y (before_to (chain_pairs stays 0 places) x y r.2) in
        subst (λ (z : ℕ). Before line z q) r.3 (subst (λ (z : ℕ). Before line x.1 z) r.4 (put x y (in_all x hx) (in_all y hy) (elim (ranks_rise stays 0 places x y r.2) [
          | inl l ↦ inl l
          | inr e ↦ inr (
            e.0,
            subst (λ (zs : List (ℕ × ℕ)). Before zs x y) (sym all_are) (elim (cases (stays_at stays y.1)) [
              | inr f ↦ before_left free tied x y (loose_before stays 0 places x y r.2 e.1 f)
              | inl t ↦ before_across free tied x y (loose_has stays 0 places x (before_from (chain_pairs stays 0 places) x y r.2) e.1) (pair_in d y (before_to (chain_pairs stays 0 places) x y r.2) t)
            ]),
          )
        ])))
      where
        either : (x : ℕ × ℕ) → Has (chain_pairs stays 0 places) x → Has (free ++ tied) x
        either x h = elim (cases (stays_at stays x.1)) [
          | inl t ↦ has_right free tied x (pair_in d x h t)
          | inr f ↦ has_left free tied x (loose_has stays 0 places x h f)
        ]

    from_chain : (p : ℕ) → Has places p → Has line p
    from_chain p h = elim (cases (stays_at stays p)) [
      | inl t ↦ line_has p (has_right (map second free) kept p (kept_has p t))
      | inr f ↦
          let r = map_has second (chain_pairs stays 0 places) p (subst (λ (ps : List ℕ). Has ps p) (sym (chain_seconds stays 0 places)) h) in
          let u : stays_at stays r.0.1 ≡ false = ap (stays_at stays) r.2 ∙ f in
          line_has p (has_left (map second free) kept p (subst (λ (z : ℕ). Has (map second free) z) r.2 (has_map second free r.0 (loose_has stays 0 places r.0 r.1 u))))
    ]

    some_name : (ks : List EntryKey) (p q : ℕ) → (length ks ≡ length places) → Before places p q → EntryKey
    some_name [] p q e h = absurd (none places p q e h)
      where
        none : (ps : List ℕ) (p q : ℕ) → 0 ≡ length ps → Before ps p q → ⊥
        none [] p q e h = h
        none (x ∷ ps) p q e h = omega arith
    some_name (k ∷ ks) p q e h = k

    lengths : length chain ≡ length places
    lengths = sym (ap length are ∙ places_length chain found (length g) _ can.found_are)

    pub ranked_line : IsArranged gone chain found g (Some line)
    ranked_line = placed_line gone chain found g can sound stays places size marked are line line_to (λ p t. line_has p (has_right (map second free) kept p (kept_has p t))) from_chain once_line stitch_forward
        (λ p q h. chain_forward_at (some_name chain p q lengths h) p q h)

module _ (gone : List ℕ) (chain : List EntryKey) (found : List (Option ℕ)) (ns : List Node) (can : CanBePatched gone chain found (seen ns)) (sound : IsInOrder (seen ns))
    (stays : List Bool) (places : List ℕ) (size : length stays ≡ length ns) (marked : (p : ℕ) → p < length ns → IsTrue (stays_at stays p) ↔ (Contains gone p → ⊥)) (are : places ≡ counted (length ns) found) where
  size_seen : length stays ≡ length (seen ns)
  size_seen = size ∙ sym (seen_length ns)

  marked_seen : (p : ℕ) → p < length (seen ns) → IsTrue (stays_at stays p) ↔ (Contains gone p → ⊥)
  marked_seen p l = let e = seen_length ns in marked p (omega (arith, e, l))

  are_seen : places ≡ counted (length (seen ns)) found
  are_seen = are ∙ ap (λ m. counted m found) (sym (seen_length ns))

  pub count_places : length places ≡ length chain
  count_places = ap length are ∙ places_length chain found (length ns) _ can.found_are

  once_fixed : spec.Once (fixed stays places chain)
  once_fixed = once_to (fixed stays places chain) (fx_once gone chain found (seen ns) can sound stays places size_seen marked_seen are_seen)

  named_fixed : AreNamesAt (fixed stays places places) (fixed stays places chain) (seen ns)
  named_fixed = fx_named gone chain found (seen ns) can sound stays places size_seen marked_seen are_seen

  pub rankable : AreRankable ns stays (fixed stays places places) (fixed stays places chain)
  rankable = record { sound = sound; count = size; once = once_fixed; at = named_fixed }

  pub ranked_by : (pairs : List (ℕ × ℕ)) → AreByRank stays places chain (seen ns) pairs → IsArranged gone chain found (seen ns) (Some (map (λ (x : ℕ × ℕ). x.1) pairs))
  ranked_by pairs by = ranked_line gone chain found (seen ns) can sound stays places size_seen marked_seen are_seen by.put.rank by.put.ranks by.before pairs
      (by.put.pairs ∙ ap (λ m. loose stays 0 places ++ ranked by.put.rank (nodes (seen ns)) (staying stays 0 m)) size_seen) by.same by.sorted by.stable
