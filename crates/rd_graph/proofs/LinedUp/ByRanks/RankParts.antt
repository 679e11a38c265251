-- Ranks that are put from one cut to the next are ranks of all nodes.
use Rattle.std.proofs.Common.{◌≡◌, refl, ap, ◌∙◌, sym, subst, ℕ, ◌+◌, ◌-◌, ◌<◌, ◌≤◌, ltb, Bool, cond, List, [], ◌∷◌, ◌++◌, length, map, take, drop, get_or, unwrap_or, inl, inr, ◌⊎◌, arith, append_assoc, length-drop, length-take-le, get_or-drop, get_or-take, take-append-drop}
use Rattle.std.proofs.lemmas.Bool.{cases_lt, lt-ltb, le-ltb}
use Rattle.std.proofs.lemmas.List.{append-nil, map-append, get_or-map}
use Rattle.std.specs.Prelude.{slice_range}
use Rattle.std.specs.List.{take-map, drop-map}
use Rattle.rd_keys.specs.declared.entry.EntryKey.{EntryKey}
use Rattle.rd_graph.specs.Graphs.{Graph, nodes, Precedes, Reaches, IsInOrder}
use Rattle.rd_graph.specs.Orders as spec
use Rattle.rd_graph.specs.Orders.{Before}
use Rattle.rd_graph.specs.Names.{place_of, same_entry}
use Rattle.rd_graph.specs.Patches.{AreRising}
use Rattle.rd_graph.specs.Internal.Chains.{AreLabels, NoneGoesBack}
use Rattle.rd_graph.specs.Internal.Seen.{seen}
use Rattle.rd_graph.specs.Internal.Walks.{staying}
use Rattle.rd_graph.specs.Internal.Regions.{IsCut, IsRegion, RiseFrom}
use Rattle.rd_graph.specs.Internal.Ranks.{alike, at_ranks, passed, ranked, counted_ranks, labelled_ranks, AreRankable, PutsTo, PutsWithin, PutsRanked}
use Rattle.rd_graph.specs.declared.graph.Node.{Node}
use Rattle.rd_graph.specs.declared.regions.Cut.{Cut}
use Rattle.rd_graph.specs.declared.regions.Region.{Region}
use Rattle.rd_graph.proofs.Lists.Listing.{Has, Once, has_from, contains_from, has_left, has_right, has_either, has_map, before_left, before_right, before_once, once_left, once_right, once_apart}
use Rattle.rd_graph.proofs.Reaching.Calls.{once_of, once_to}
use Rattle.rd_graph.proofs.Reaching.Chains.{chain_map}
use Rattle.rd_graph.proofs.Lists.Entries.{same_entry-sound, same_entry-refl, place_has, has_get}
use Rattle.rd_graph.proofs.Lists.Rising.{any_of}
use Rattle.rd_graph.proofs.Lists.Gatherings.{one_at, apart_at}
use Rattle.rd_graph.proofs.Patches.Namings.{node_count}
use Rattle.rd_graph.proofs.LinedUp.LineFacts.{seen_length}
use Rattle.rd_graph.proofs.LinedUp.PlacedLines.{before_places}
use Rattle.rd_graph.proofs.LinedUp.Walks.{staying_to, staying_parts}
use Rattle.rd_graph.proofs.LinedUp.ByRanks.CountedRanks.{passed_few, passed_grows, passed_own}

-- ---- a part of a list

module _ {A : Type 0} where
  parts : (xs : List A) (i j : ℕ) → xs ≡ take i xs ++ (slice_range xs i j ++ drop (j - i) (drop i xs))
  parts xs i j = sym (take-append-drop i xs) ∙ ap (λ ys. take i xs ++ ys) (sym (take-append-drop (j - i) (drop i xs)))

  pub range_at : (xs : List A) (i j k : ℕ) (d : A) → k < j - i → get_or (slice_range xs i j) k d ≡ get_or xs (i + k) d
  range_at xs i j k d l = get_or-take (j - i) (drop i xs) k d l ∙ get_or-drop i xs k d

  pub range_length : (xs : List A) (i j : ℕ) → i ≤ j → j ≤ length xs → length (slice_range xs i j) ≡ j - i
  range_length xs i j l m = length-take-le (j - i) (drop i xs) (let e = length-drop i xs in omega (arith, e, l, m))

  pub range_once : (xs : List A) (i j : ℕ) → spec.Once xs → spec.Once (slice_range xs i j)
  range_once xs i j o =
      let rest : List A = drop (j - i) (drop i xs) in
      once_to (slice_range xs i j) (once_left (slice_range xs i j) rest (once_right (take i xs) (slice_range xs i j ++ rest) (subst Once (parts xs i j) (once_of xs o))))

-- the nodes of a part are that part of the nodes
nodes_range : (ns : List Node) (i j : ℕ) → nodes (seen (slice_range ns i j)) ≡ slice_range (nodes (seen ns)) i j
nodes_range ns i j =
    let whole : Graph EntryKey = seen ns in
    let one : seen (slice_range ns i j) ≡ slice_range whole i j = sym (ap (take (j - i)) (drop-map (λ (n : Node). (n.key, n.before.items)) i ns) ∙ take-map (λ (n : Node). (n.key, n.before.items)) (j - i) (drop i ns)) in
    ap nodes one ∙ sym (ap (take (j - i)) (drop-map (λ (p : EntryKey × List EntryKey). p.0) i whole) ∙ take-map (λ (p : EntryKey × List EntryKey). p.0) (j - i) (drop i whole))

-- ---- a part of a graph

module _ (ns : List Node) (i j : ℕ) where
  abbrev inner : Graph EntryKey
  inner = seen (slice_range ns i j)

  abbrev ahead : Graph EntryKey
  ahead = seen (take i ns)

  abbrev behind : Graph EntryKey
  behind = seen (drop (j - i) (drop i ns))

  seen_parts : seen ns ≡ ahead ++ (inner ++ behind)
  seen_parts =
      let one : Node → EntryKey × List EntryKey = λ n. (n.key, n.before.items) in
      ap seen (parts ns i j) ∙ map-append one (take i ns) (slice_range ns i j ++ drop (j - i) (drop i ns)) ∙ ap (λ g. ahead ++ g) (map-append one (slice_range ns i j) (drop (j - i) (drop i ns)))

  nodes_parts : nodes (seen ns) ≡ nodes ahead ++ (nodes inner ++ nodes behind)
  nodes_parts =
      let key : EntryKey × List EntryKey → EntryKey = λ p. p.0 in
      ap nodes seen_parts ∙ map-append key ahead (inner ++ behind) ∙ ap (λ ks. nodes ahead ++ ks) (map-append key inner behind)

  pub inner_precedes : (a b : EntryKey) → Precedes inner a b → Precedes (seen ns) a b
  inner_precedes a b s =
      let h : Has (ahead ++ (inner ++ behind)) (b, s.0) = has_right ahead (inner ++ behind) (b, s.0) (has_left inner behind (b, s.0) (has_from inner (b, s.0) s.1)) in
      (s.0, contains_from (seen ns) (b, s.0) (subst (λ (g : Graph EntryKey). Has g (b, s.0)) (sym seen_parts) h), s.2)

  pub inner_reaches : (a b : EntryKey) → Reaches inner a b → Reaches (seen ns) a b
  inner_reaches a b h = chain_map (Precedes inner) (Precedes (seen ns)) inner_precedes a b h

  pub none_goes_back : IsInOrder (seen ns) → NoneGoesBack inner
  none_goes_back sound a b s back =
      let there : Before (nodes ahead ++ (nodes inner ++ nodes behind)) b a = before_right (nodes ahead) (nodes inner ++ nodes behind) b a (before_left (nodes inner) (nodes behind) b a back) in
      before_once (nodes (seen ns)) a b (once_of (nodes (seen ns)) sound.once) (sound.forward a b (inner_precedes a b s)) (subst (λ (ks : List EntryKey). Before ks b a) (sym nodes_parts) there)

  -- a node of the part has its predecessors there
  pub precedes_inner : IsInOrder (seen ns) → (a b : EntryKey) → Has (nodes inner) b → Precedes (seen ns) a b → Precedes inner a b
  precedes_inner sound a b there s =
      let once : Once (nodes ahead ++ (nodes inner ++ nodes behind)) = subst Once nodes_parts (once_of (nodes (seen ns)) sound.once) in
      let key : EntryKey × List EntryKey → EntryKey = λ p. p.0 in
      let h : Has (ahead ++ (inner ++ behind)) (b, s.0) = subst (λ (g : Graph EntryKey). Has g (b, s.0)) seen_parts (has_from (seen ns) (b, s.0) s.1) in
      elim (has_either ahead (inner ++ behind) (b, s.0) h) [
        | inl m ↦ absurd (once_apart (nodes ahead) (nodes inner ++ nodes behind) once b (has_map key ahead (b, s.0) m) (has_left (nodes inner) (nodes behind) b there))
        | inr m ↦ elim (has_either inner behind (b, s.0) m) [
          | inl k ↦ (s.0, contains_from inner (b, s.0) k, s.2)
          | inr k ↦ absurd (once_apart (nodes inner) (nodes behind) (once_right (nodes ahead) (nodes inner ++ nodes behind) once) b there (has_map key behind (b, s.0) k))
        ]
      ]

  pub in_part : (p : ℕ) (d : EntryKey) → i ≤ p → p < j → j ≤ length ns → Has (nodes inner) (get_or (nodes (seen ns)) p d)
  in_part p d l m n =
      let e = node_count ns in
      let size = range_length (nodes (seen ns)) i j (omega (arith, l, m)) (omega (arith, n, e)) in
      let q : i + (p - i) ≡ p = omega (arith, l) in
      let same : get_or (slice_range (nodes (seen ns)) i j) (p - i) d ≡ get_or (nodes (seen ns)) p d = range_at (nodes (seen ns)) i j (p - i) d (omega (arith, l, m)) ∙ ap (λ k. get_or (nodes (seen ns)) k d) q in
      subst (λ (ks : List EntryKey). Has ks (get_or (nodes (seen ns)) p d)) (sym (nodes_range ns i j)) (subst (λ (k : EntryKey). Has (slice_range (nodes (seen ns)) i j) k) same (has_get (slice_range (nodes (seen ns)) i j) (p - i) d (omega (arith, size, l, m))))

-- an ordered graph has no edge that goes back
pub goes_forward : (g : Graph EntryKey) → IsInOrder g → NoneGoesBack g
goes_forward g sound a b s back = before_once (nodes g) a b (once_of (nodes g) sound.once) (sound.forward a b s) back

-- ---- places with ranks

module _ {E : Type 0} (names : List E) where
  ranked_one : (rank : E → ℕ) (p : ℕ) (ps : List ℕ) (d : E) → p < length names → ranked rank names (p ∷ ps) ≡ (rank (get_or names p d), p) ∷ ranked rank names ps
  ranked_one rank p ps d l = rw (one_at names p d l) refl

  -- ranks of names, as ranks of their places
  ranked_at : (rank : E → ℕ) (at : ℕ → ℕ) (ps : List ℕ) → ((p : ℕ) → Has ps p → (p < length names) × ((d : E) → rank (get_or names p d) ≡ at p)) → ranked rank names ps ≡ at_ranks at ps
  ranked_at rank at [] h = refl
  ranked_at rank at (p ∷ ps) h =
      let here = h p (inl refl) in
      let d : E = any_of names p here.0 in
      ranked_one rank p ps d here.0 ∙ ap (λ n. (n, p) ∷ ranked rank names ps) (here.1 d) ∙ ap (λ zs. (at p, p) ∷ zs) (ranked_at rank at ps (λ q m. h q (inr m)))

at_ranks_parts : (rank : ℕ → ℕ) (ps qs : List ℕ) → at_ranks rank (ps ++ qs) ≡ at_ranks rank ps ++ at_ranks rank qs
at_ranks_parts rank ps qs = map-append {B = ℕ × ℕ} (λ p. (rank p, p)) ps qs

at_ranks_same : (rank other : ℕ → ℕ) (ps : List ℕ) → ((p : ℕ) → Has ps p → rank p ≡ other p) → at_ranks rank ps ≡ at_ranks other ps
at_ranks_same rank other [] h = refl
at_ranks_same rank other (p ∷ ps) h = ap (λ n. (n, p) ∷ at_ranks rank ps) (h p (inl refl)) ∙ ap (λ zs. (other p, p) ∷ zs) (at_ranks_same rank other ps (λ q m. h q (inr m)))

-- ---- from one cut to the next

module _ (places : List ℕ) (names : List EntryKey) (stays : List Bool) (ns : List Node) (what : AreRankable ns stays places names) where
  abbrev old : List EntryKey
  old = nodes (seen ns)

  abbrev IsOwn : (ℕ → ℕ) → ℕ → EntryKey → Type 0
  IsOwn rank i d = (rank (get_or places i 0) ≡ i) ⊎ ((j : ℕ) × (j < i) × Reaches (seen ns) (get_or names i d) (get_or names j d))

  abbrev IsEdge : ℕ → ℕ → EntryKey → Type 0
  IsEdge i j d = Precedes (seen ns) (get_or old i d) (get_or old j d)

  -- none are put as yet
  pub put_none : (c : Cut) (first : List (ℕ × ℕ)) → c.met ≡ 0 → c.place ≡ 0 → PutsTo c places names stays ns first first
  put_none c first m p = record {
    rank = λ q. 0;
    rises = λ i j d l n s. omega arith;
    few = λ i l. omega arith;
    own = λ i d l. absurd (omega (arith, l, m));
    pairs = sym (append-nil first) ∙ ap (λ k. first ++ at_ranks (λ q. 0) (staying stays 0 k)) (sym p);
  }

  -- ranks that are put from one cut up to another
  record PutsOn (c to : Cut) (rank : ℕ → ℕ) : Type 0 where
    low : (i : ℕ) → c.place ≤ i → i < to.place → c.met ≤ rank i
    few : (i : ℕ) → c.place ≤ i → i < to.place → rank i ≤ to.met
    rises : (i j : ℕ) (d : EntryKey) → c.place ≤ i → i < j → j < to.place → IsEdge i j d → rank i ≤ rank j
    own : (i : ℕ) (d : EntryKey) → c.met ≤ i → i < to.met → IsOwn rank i d

  module _ (c to : Cut) (cut : IsCut places (length ns) c) (forward : c.place ≤ to.place) (next : c.met ≤ to.met) (first now then : List (ℕ × ℕ)) (was : PutsTo c places names stays ns first now)
      (more : ℕ → ℕ) (on : PutsOn c to more) (put : then ≡ now ++ at_ranks more (staying stays c.place (to.place - c.place))) where
    abbrev both : ℕ → ℕ
    both p = cond (ltb p c.place) (was.rank p) (more p)

    both_low : (p : ℕ) → p < c.place → both p ≡ was.rank p
    both_low p l = let t = lt-ltb p c.place l in rw t refl

    both_high : (p : ℕ) → c.place ≤ p → both p ≡ more p
    both_high p l = let f = le-ltb p c.place l in rw f refl

    both_rises : (i j : ℕ) (d : EntryKey) → i < j → j < to.place → IsEdge i j d → both i ≤ both j
    both_rises i j d l m s = elim (cases_lt j c.place) [
      | inl u ↦ let x = both_low i (omega (arith, l, u)) in let y = both_low j u in let v = was.rises i j d l u s in omega (arith, x, y, v)
      | inr u ↦
          let y = both_high j u in
          elim (cases_lt i c.place) [
            | inl v ↦ let x = both_low i v in let f = was.few i v in let k = on.low j u m in omega (arith, x, y, f, k)
            | inr v ↦ let x = both_high i v in let k = on.rises i j d v l m s in omega (arith, x, y, k)
          ]
    ]

    both_few : (i : ℕ) → i < to.place → both i ≤ to.met
    both_few i l = elim (cases_lt i c.place) [
      | inl u ↦ let x = both_low i u in let f = was.few i u in omega (arith, x, f, next)
      | inr u ↦ let x = both_high i u in let f = on.few i u l in omega (arith, x, f)
    ]

    module _ (size : to.met ≤ length places) where
      both_own : (i : ℕ) (d : EntryKey) → i < to.met → IsOwn both i d
      both_own i d l = elim (cases_lt i c.met) [
        | inl u ↦ elim (was.own i d u) [ inl e ↦ inl (both_low (get_or places i 0) (cut.before i u) ∙ e) | inr r ↦ inr r ]
        | inr u ↦ elim (on.own i d u l) [ inl e ↦ inl (both_high (get_or places i 0) (cut.after i u (omega (arith, l, size))) ∙ e) | inr r ↦ inr r ]
      ]

      both_pairs : then ≡ first ++ at_ranks both (staying stays 0 to.place)
      both_pairs =
          let low : List ℕ = staying stays 0 c.place in
          let high : List ℕ = staying stays c.place (to.place - c.place) in
          let all : staying stays 0 to.place ≡ low ++ high = ap (λ n. staying stays 0 n) (let e : to.place ≡ c.place + (to.place - c.place) = omega (arith, forward) in e) ∙ staying_parts stays 0 c.place (to.place - c.place)
          ∙ ap (λ k. low ++ staying stays k (to.place - c.place)) (let e : 0 + c.place ≡ c.place = omega arith in e) in
          let lows : at_ranks both low ≡ at_ranks was.rank low = at_ranks_same both was.rank low (λ p h. let t = staying_to stays 0 c.place p h in let u = t.2 in both_low p (omega (arith, u))) in
          let highs : at_ranks both high ≡ at_ranks more high = at_ranks_same both more high (λ p h. let t = staying_to stays c.place (to.place - c.place) p h in both_high p t.1) in
          put ∙ ap (λ zs. zs ++ at_ranks more high) was.pairs ∙ append_assoc first (at_ranks was.rank low) (at_ranks more high)
          ∙ ap (λ zs. first ++ (zs ++ at_ranks more high)) (sym lows) ∙ ap (λ zs. first ++ (at_ranks both low ++ zs)) (sym highs)
          ∙ ap (λ zs. first ++ zs) (sym (at_ranks_parts both low high)) ∙ ap (λ ps. first ++ at_ranks both ps) (sym all)

      put_more : PutsTo to places names stays ns first then
      put_more = record { rank = both; rises = both_rises; few = both_few; own = both_own; pairs = both_pairs }

  -- ---- ranks that are counted

  module _ (c to : Cut) (cut : IsCut places (length ns) c) (after : IsCut places (length ns) to) (rise : RiseFrom places c.met to.met) where
    abbrev some : List ℕ
    some = slice_range places c.met to.met

    some_length : length some ≡ to.met - c.met
    some_length = range_length places c.met to.met rise.next after.few

    some_at : (k : ℕ) → k < to.met - c.met → get_or some k 0 ≡ get_or places (c.met + k) 0
    some_at k l = range_at places c.met to.met k 0 l

    pub some_rises : AreRising some
    some_rises = λ j k u v.
        let size = some_length in
        let x = some_at j (omega (arith, u, v, size)) in
        let y = some_at k (omega (arith, v, size)) in
        let w = rise.rises (c.met + j) (c.met + k) (omega arith) (omega (arith, u)) (omega (arith, v, size)) in
        omega (arith, x, y, w)

    pub some_after : (k : ℕ) → k < length some → c.place ≤ get_or some k 0
    some_after k l =
        let size = some_length in
        let n = after.few in
        let x = some_at k (omega (arith, l, size)) in
        let w = cut.after (c.met + k) (omega arith) (omega (arith, l, size, n)) in
        omega (arith, x, w)

    pub some_before : (k : ℕ) → k < length some → get_or some k 0 < to.place
    some_before k l =
        let size = some_length in
        let x = some_at k (omega (arith, l, size)) in
        let w = after.before (c.met + k) (omega (arith, l, size)) in
        omega (arith, x, w)

    some_own : (i : ℕ) → c.met ≤ i → i < to.met → c.met + passed (get_or places i 0) some ≡ i
    some_own i l m =
        let size = some_length in
        let q : c.met + (i - c.met) ≡ i = omega (arith, l) in
        let here : get_or some (i - c.met) 0 ≡ get_or places i 0 = some_at (i - c.met) (omega (arith, l, m)) ∙ ap (λ k. get_or places k 0) q in
        let e : passed (get_or places i 0) some ≡ i - c.met = ap (λ p. passed p some) (sym here) ∙ passed_own some (i - c.met) some_rises (omega (arith, l, m, size)) in
        omega (arith, e, l)

    counted_on : PutsOn c to (λ p. c.met + passed p some)
    counted_on = record {
      low = λ i l m. omega arith;
      few = λ i l m. (let f = passed_few i some in let size = some_length in let n = rise.next in omega (arith, f, size, n));
      rises = λ i j d l m n s. (let g = passed_grows some i j (omega (arith, m)) in omega (arith, g));
      own = λ i d l m. inl (some_own i l m);
    }

    pub put_counted : (first now then : List (ℕ × ℕ)) → c.place ≤ to.place → PutsTo c places names stays ns first now → then ≡ now ++ counted_ranks c.met some (staying stays c.place (to.place - c.place)) → PutsTo to places names stays ns first then
    put_counted first now then forward was put = put_more c to cut forward rise.next first now then was (λ p. c.met + passed p some) counted_on put after.few

  -- ---- ranks that are labels

  module _ (r : Region) (region : IsRegion places (length ns) r) (label : EntryKey → ℕ) (labels : AreLabels (seen (slice_range ns r.from.place r.to.place)) (slice_range names r.from.met r.to.met) label) where
    abbrev inside : List EntryKey
    inside = slice_range names r.from.met r.to.met

    -- the rank of a place
    abbrev label_at : ℕ → ℕ
    label_at p = get_or (map (λ k. r.from.met + label k) old) p 0

    label_is : (p : ℕ) (d : EntryKey) → p < length ns → label_at p ≡ r.from.met + label (get_or old p d)
    label_is p d l = get_or-map (λ k. r.from.met + label k) old p d 0 (let e = node_count ns in omega (arith, e, l))

    inside_length : length inside ≡ r.to.met - r.from.met
    inside_length = range_length names r.from.met r.to.met region.next (let f = region.to.few in let e = what.at.count in omega (arith, e, f))

    label_few : (k : EntryKey) → label k ≤ r.to.met - r.from.met
    label_few k = elim (labels.from k) [
      | inl e ↦ let s = inside_length in omega (arith, e, s)
      | inr f ↦ let l = f.1 in let e = f.2 in let s = inside_length in omega (arith, l, e, s)
    ]

    label_rises : (i j : ℕ) (d : EntryKey) → r.from.place ≤ i → i < j → j < r.to.place → IsEdge i j d → label_at i ≤ label_at j
    label_rises i j d l m n s =
        let low = region.to.low in
        let x = label_is i d (omega (arith, m, n, low)) in
        let y = label_is j d (omega (arith, n, low)) in
        let there = in_part ns r.from.place r.to.place j d (omega (arith, l, m)) n low in
        let g = labels.rises (get_or old i d) (get_or old j d) (precedes_inner ns r.from.place r.to.place what.sound (get_or old i d) (get_or old j d) there s) in
        omega (arith, x, y, g)

    inside_at : (k : ℕ) (d : EntryKey) → k < r.to.met - r.from.met → get_or inside k d ≡ get_or names (r.from.met + k) d
    inside_at k d l = range_at names r.from.met r.to.met k d l

    label_own : (i : ℕ) (d : EntryKey) → r.from.met ≤ i → i < r.to.met → IsOwn label_at i d
    label_own i d l m =
        let few = region.to.few in
        let c = what.at.count in
        let s = seen_length ns in
        let size = inside_length in
        let n : i < length names = omega (arith, m, few, c) in
        let o : i < length places = omega (arith, m, few) in
        let w = what.at.within i o in
        let name : get_or names i d ≡ get_or old (get_or places i 0) d = what.at.at i d o in
        let x : label_at (get_or places i 0) ≡ r.from.met + label (get_or names i d) = label_is (get_or places i 0) d (omega (arith, w, s)) ∙ ap (λ k. r.from.met + label k) (sym name) in
        let q : r.from.met + (i - r.from.met) ≡ i = omega (arith, l) in
        let here : get_or inside (i - r.from.met) d ≡ get_or names i d = inside_at (i - r.from.met) d (omega (arith, l, m)) ∙ ap (λ k. get_or names k d) q in
        let low : label (get_or names i d) ≤ i - r.from.met = subst (λ (k : EntryKey). label k ≤ i - r.from.met) here (labels.own (i - r.from.met) d (omega (arith, l, m, size))) in
        elim (labels.from (get_or names i d)) [
          | inl e ↦ absurd (omega (arith, e, low, size, l, m))
          | inr f ↦
              let u = f.1 in
              let e = f.2 in
              elim (cases_lt f.0 (i - r.from.met)) [
                | inr k ↦ inl (omega (arith, x, e, k, low, l))
                | inl k ↦
                    let there : get_or inside f.0 d ≡ get_or names (r.from.met + f.0) d = inside_at f.0 d (omega (arith, u, size)) in
                    elim (f.3 d) [
                      | inl same ↦ absurd (apart_at names (r.from.met + f.0) i d (once_of names what.once) (omega (arith, k, l)) n (sym there ∙ same))
                      | inr reach ↦ inr (
                        r.from.met + f.0,
                        omega (arith, k, l),
                        subst (λ (b : EntryKey). Reaches (seen ns) (get_or names i d) b) there (inner_reaches ns r.from.place r.to.place (get_or names i d) (get_or inside f.0 d) reach),
                      )
                    ]
              ]
        ]

    labelled_on : PutsOn r.from r.to label_at
    labelled_on = record {
      low = λ i l m. (let w = region.to.low in let d : EntryKey = any_node i (omega (arith, m, w)) in let x = label_is i d (omega (arith, m, w)) in omega (arith, x));
      few = λ i l m. (let w = region.to.low in let d : EntryKey = any_node i (omega (arith, m, w)) in let x = label_is i d (omega (arith, m, w)) in let f = label_few (get_or old i d) in let n = region.next in omega (arith, x, f, n));
      rises = label_rises;
      own = label_own;
    }
      where
        any_node : (i : ℕ) → i < length ns → EntryKey
        any_node i l = any_of old i (let e = node_count ns in omega (arith, e, l))

    labelled_are : labelled_ranks r.from.met label ns (staying stays r.from.place (r.to.place - r.from.place)) ≡ at_ranks label_at (staying stays r.from.place (r.to.place - r.from.place))
    labelled_are = ranked_at old (λ k. r.from.met + label k) label_at (staying stays r.from.place (r.to.place - r.from.place)) (λ p h.
        let t = staying_to stays r.from.place (r.to.place - r.from.place) p h in
        let v = t.2 in
        let f = region.forward in
        let l = region.to.low in
        let c = node_count ns in (omega (arith, v, f, l, c), λ d. sym (label_is p d (omega (arith, v, f, l)))))

    put_labels : (first now then : List (ℕ × ℕ)) → PutsTo r.from places names stays ns first now → then ≡ now ++ labelled_ranks r.from.met label ns (staying stays r.from.place (r.to.place - r.from.place)) → PutsTo r.to places names stays ns first then
    put_labels first now then was put = put_more r.from r.to region.from region.forward region.next first now then was label_at labelled_on (put ∙ ap (λ zs. now ++ zs) labelled_are) region.to.few

  pub put_within : (r : Region) (first now then : List (ℕ × ℕ)) → IsRegion places (length ns) r → PutsTo r.from places names stays ns first now → PutsWithin r names stays ns now then → PutsTo r.to places names stays ns first then
  put_within r first now then region was put = put_labels r region put.label put.labels first now then was put.pairs

  -- ---- after the last cut

  pub put_last : (c : Cut) (first now then : List (ℕ × ℕ)) → IsCut places (length ns) c → length places ≤ c.met → PutsTo c places names stays ns first now → then ≡ now ++ alike c.met (staying stays c.place (length ns - c.place)) → PutsRanked names stays (seen ns) first then
  put_last c first now then cut all was put = record { rank = rank; ranks = record { rises = rank_rises; own = rank_own }; pairs = last.pairs ∙ ap (λ zs. first ++ zs) (sym ranks_are) }
    where
      to : Cut
      to = record { met = c.met; place = length ns }

      last : PutsTo to places names stays ns first then
      last = put_more c to cut cut.low (omega arith) first now then was (λ p. c.met) (record {
        low = λ i l m. omega arith;
        few = λ i l m. omega arith;
        rises = λ i j d l m n s. omega arith;
        own = λ i d l m. absurd (omega (arith, l, m));
      }) put cut.few

      rank : EntryKey → ℕ
      rank k = last.rank (unwrap_or (place_of same_entry old k) 0)

      rank_of : (p : ℕ) (d : EntryKey) → p < length ns → rank (get_or old p d) ≡ last.rank p
      rank_of p d l =
          let e = node_count ns in
          ap (λ o. last.rank (unwrap_or o 0)) (place_has same_entry same_entry-sound same_entry-refl old p d (once_of old what.sound.once) (omega (arith, e, l)))

      rank_rises : (a b : EntryKey) → Precedes (seen ns) a b → rank a ≤ rank b
      rank_rises a b s =
          let t = before_places old a b a (what.sound.forward a b s) in
          let l = t.2 in
          let m = t.3 in
          let e = node_count ns in
          let x : rank a ≡ last.rank t.0 = subst (λ (k : EntryKey). rank k ≡ last.rank t.0) t.4 (rank_of t.0 a (omega (arith, l, m, e))) in
          let y : rank b ≡ last.rank t.1 = subst (λ (k : EntryKey). rank k ≡ last.rank t.1) t.5 (rank_of t.1 a (omega (arith, m, e))) in
          let edge : IsEdge t.0 t.1 a = subst (λ (k : EntryKey). Precedes (seen ns) k (get_or old t.1 a)) (sym t.4) (subst (λ (k : EntryKey). Precedes (seen ns) a k) (sym t.5) s) in
          let up = last.rises t.0 t.1 a l (omega (arith, m, e)) edge in
          omega (arith, x, y, up)

      rank_own : (i : ℕ) (d : EntryKey) → i < length names → (rank (get_or names i d) ≡ i) ⊎ ((j : ℕ) × (j < i) × Reaches (seen ns) (get_or names i d) (get_or names j d))
      rank_own i d l =
          let n = what.at.count in
          let s = seen_length ns in
          let m : i < length places = omega (arith, l, n) in
          let w = what.at.within i m in
          let x : rank (get_or names i d) ≡ last.rank (get_or places i 0) = subst (λ (k : EntryKey). rank k ≡ last.rank (get_or places i 0)) (sym (what.at.at i d m)) (rank_of (get_or places i 0) d (omega (arith, w, s))) in
          elim (last.own i d (omega (arith, m, all))) [ inl e ↦ inl (x ∙ e) | inr r ↦ inr r ]

      ranks_are : ranked rank old (staying stays 0 (length stays)) ≡ at_ranks last.rank (staying stays 0 (length ns))
      ranks_are = ap (λ k. ranked rank old (staying stays 0 k)) what.count ∙ ranked_at old rank last.rank (staying stays 0 (length ns)) (λ p h.
          let t = staying_to stays 0 (length ns) p h in
          let u = t.2 in
          let e = node_count ns in (omega (arith, u, e), λ d. rank_of p d (omega (arith, u))))
