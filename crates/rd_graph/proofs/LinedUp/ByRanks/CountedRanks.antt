-- Ranks that are counted, and ranks that are labels: the loops that put them.
use Rattle.std.proofs.Common.{◌≡◌, refl, ap, ◌∙◌, sym, ℕ, suc, ◌+◌, ◌-◌, ◌<◌, ◌≤◌, ltb, Bool, true, false, cond, List, [], ◌∷◌, ◌++◌, length, take, drop, get_or, inl, inr, arith}
use Rattle.std.proofs.lemmas.Bool.{cases_lt, lt-ltb, le-ltb, ltb-true, ltb-false}
use Rattle.std.proofs.lemmas.List.{append-nil}
use Rattle.std.proofs.lemmas.List.Sums.{prefix_len-le-length, prefix_len_is, prefix_len_passes, prefix_len_stops}
use Rattle.rd_keys.specs.declared.entry.EntryKey.{EntryKey}
use Rattle.rd_graph.specs.Graphs.{nodes}
use Rattle.rd_graph.specs.Patches.{AreRising}
use Rattle.rd_graph.specs.Internal.Seen.{seen}
use Rattle.rd_graph.specs.Internal.Walks.{stays_at, staying}
use Rattle.rd_graph.specs.Internal.Ranks.{alike, passed, counted_ranks, labelled_ranks}
use Rattle.rd_graph.specs.declared.graph.Node.{Node}
use Rattle.rd_graph.proofs.Lists.Listing.{Has}
use Rattle.rd_graph.proofs.Lists.Gatherings.{one_at, joins_on}
use Rattle.rd_graph.proofs.LinedUp.Walks.{staying_to, staying_parts}
use Rattle.rd_graph.proofs.Patches.Namings.{node_name, node_count}

-- ---- how many of some places are lower

pub passed_few : (p : ℕ) (ps : List ℕ) → passed p ps ≤ length ps
passed_few p ps = prefix_len-le-length (λ q. ltb q p) ps

passed_low : (p : ℕ) (ps : List ℕ) (k : ℕ) → k < passed p ps → get_or ps k 0 < p
passed_low p ps k l = ltb-true (get_or ps k 0) p (prefix_len_passes (λ q. ltb q p) ps k 0 l)

passed_high : (p : ℕ) (ps : List ℕ) → passed p ps < length ps → p ≤ get_or ps (passed p ps) 0
passed_high p ps l = ltb-false (get_or ps (passed p ps) 0) p (prefix_len_stops (λ q. ltb q p) ps 0 l)

passed_is : (p : ℕ) (ps : List ℕ) (n : ℕ) → n ≤ length ps → ((k : ℕ) → k < n → get_or ps k 0 < p) → (n < length ps → p ≤ get_or ps n 0) → passed p ps ≡ n
passed_is p ps n l low high = prefix_len_is (λ q. ltb q p) ps n 0 l (λ k m. lt-ltb (get_or ps k 0) p (low k m)) (λ m. le-ltb (get_or ps n 0) p (high m))

pub passed_grows : (ps : List ℕ) (p q : ℕ) → p ≤ q → passed p ps ≤ passed q ps
passed_grows ps p q l = elim (cases_lt (passed q ps) (passed p ps)) [
  | inr u ↦ u
  | inl u ↦
      let few = passed_few p ps in
      let low = passed_low p ps (passed q ps) u in
      let high = passed_high q ps (omega (arith, u, few)) in
      absurd (omega (arith, low, high, l))
]

-- of places that rise, before each as many as stand before it
pub passed_own : (ps : List ℕ) (i : ℕ) → AreRising ps → i < length ps → passed (get_or ps i 0) ps ≡ i
passed_own ps i up l = passed_is (get_or ps i 0) ps i (omega (arith, l)) (λ k m. up k i m l) (λ m. omega arith)

-- ---- one place of a stretch

module _ (put : List ℕ → List (ℕ × ℕ)) (stays : List Bool) (to place : ℕ) where
  pub part_next : (rank : ℕ) (now then whole : List (ℕ × ℕ)) → place < to → ((ps : List ℕ) → put (place ∷ ps) ≡ (rank, place) ∷ put ps) → now ++ put (staying stays place (to - place)) ≡ whole
      → then ≡ now ++ cond (stays_at stays place) ((rank, place) ∷ []) [] → then ++ put (staying stays (place + 1) (to - (place + 1))) ≡ whole
  part_next rank now then whole l one was is =
      let rest : List ℕ = staying stays (place + 1) (to - (place + 1)) in
      let e : to - place ≡ suc (to - (place + 1)) = omega (arith, l) in
      joins_on now then (cond (stays_at stays place) ((rank, place) ∷ []) []) (put rest) whole is
      (ap (λ zs. now ++ zs) (sym (split (stays_at stays place) rest)) ∙ sym (ap (λ n. now ++ put (staying stays place n)) e) ∙ was)
    where
      split : (b : Bool) (ps : List ℕ) → put (cond b (place ∷ []) [] ++ ps) ≡ cond b ((rank, place) ∷ []) [] ++ put ps
      split true ps = one ps
      split false ps = refl

  pub part_end : (now whole : List (ℕ × ℕ)) → put [] ≡ [] → to ≤ place → now ++ put (staying stays place (to - place)) ≡ whole → now ≡ whole
  part_end now whole none l was =
      let e : to - place ≡ 0 = omega (arith, l) in
      sym (append-nil now) ∙ ap (λ zs. now ++ zs) (sym none) ∙ sym (ap (λ n. now ++ put (staying stays place n)) e) ∙ was

-- a place of a region, with the label of its node
pub labelled_one : (least : ℕ) (label : EntryKey → ℕ) (ns : List Node) (place n : ℕ) (x : Node) → place < length ns → n ≡ label (get_or ns place x).key → (ps : List ℕ)
    → labelled_ranks least label ns (place ∷ ps) ≡ (least + n, place) ∷ labelled_ranks least label ns ps
labelled_one least label ns place n x l e ps =
    let c = node_count ns in
    let one : take 1 (drop place (nodes (seen ns))) ≡ (get_or ns place x).key ∷ [] = one_at (nodes (seen ns)) place x.key (omega (arith, c, l)) ∙ ap (λ k. k ∷ []) (node_name ns place x) in
    rw one (ap (λ m. (least + m, place) ∷ labelled_ranks least label ns ps) (sym e))

-- the places up to one of some that rise, and those after it
pub counted_parts : (least : ℕ) (some ps qs : List ℕ) (n : ℕ) → ((p : ℕ) → Has ps p → passed p some ≡ n) → counted_ranks least some (ps ++ qs) ≡ alike (least + n) ps ++ counted_ranks least some qs
counted_parts least some [] qs n h = refl
counted_parts least some (p ∷ ps) qs n h = ap (λ m. (least + m, p) ∷ counted_ranks least some (ps ++ qs)) (h p (inl refl)) ∙ ap (λ zs. (least + n, p) ∷ zs) (counted_parts least some ps qs n (λ q m. h q (inr m)))

module _ (stays : List Bool) (some : List ℕ) (least to i place : ℕ) (up : AreRising some) (low : (k : ℕ) → k < i → get_or some k 0 < place) (high : (k : ℕ) → i ≤ k → k < length some → place ≤ get_or some k 0) where
  passed_here : (p : ℕ) → i ≤ length some → place ≤ p → (i < length some → p ≤ get_or some i 0) → passed p some ≡ i
  passed_here p few l m = passed_is p some i few (λ k n. let u = low k n in omega (arith, u, l)) m

  -- up to the next of some places
  pub counted_next : (now then whole : List (ℕ × ℕ)) → i < length some → get_or some i 0 < to → now ++ counted_ranks least some (staying stays place (to - place)) ≡ whole → then ≡ now ++ alike (least + i) (staying stays place (get_or some i 0 + 1 - place))
      → then ++ counted_ranks least some (staying stays (get_or some i 0 + 1) (to - (get_or some i 0 + 1))) ≡ whole
  counted_next now then whole l m was is =
      let next : ℕ = get_or some i 0 + 1 in
      let above = high i (omega arith) l in
      let here : List ℕ = staying stays place (next - place) in
      let rest : List ℕ = staying stays next (to - next) in
      let split : staying stays place (to - place) ≡ here ++ rest = ap (staying stays place) (let e : to - place ≡ (next - place) + (to - next) = omega (arith, m, above) in e) ∙ staying_parts stays place (next - place) (to - next)
      ∙ ap (λ k. here ++ staying stays k (to - next)) (let e : place + (next - place) ≡ next = omega (arith, above) in e) in
      joins_on now then (alike (least + i) here) (counted_ranks least some rest) whole is
      (ap (λ zs. now ++ zs) (sym (ap (counted_ranks least some) split ∙ counted_parts least some here rest i (λ p h.
      let t = staying_to stays place (next - place) p h in
      let u = t.1 in
      let v = t.2 in
      passed_here p (omega (arith, l)) u (λ n. omega (arith, v, above)))))
      ∙ was)

  -- after the last of them
  pub counted_last : (now whole : List (ℕ × ℕ)) → i ≡ length some → now ++ counted_ranks least some (staying stays place (to - place)) ≡ whole → now ++ alike (least + length some) (staying stays place (to - place)) ≡ whole
  counted_last now whole e was =
      let all : List ℕ = staying stays place (to - place) in
      ap (λ zs. now ++ zs) (ap (λ n. alike (least + n) all) (sym e) ∙ sym (append-nil (alike (least + i) all)) ∙ sym (counted_parts least some all [] i (λ p h.
      let t = staying_to stays place (to - place) p h in
      passed_here p (omega (arith, e)) t.1 (λ n. omega (arith, n, e)))) ∙ ap (counted_ranks least some) (append-nil all)) ∙ was
