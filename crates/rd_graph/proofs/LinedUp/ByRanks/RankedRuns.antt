-- Places with their ranks as runs, and what a sort of the runs does to them.
use Rattle.std.proofs.Common.{◌≡◌, refl, ap, ◌∙◌, sym, subst, ℕ, ◌+◌, ◌<◌, ◌≤◌, List, [], ◌∷◌, ◌++◌, length, map, get_or, take, inl, inr, ◌⊎◌, arith, append_assoc}
use Rattle.std.specs.Prelude.{IsPermutation}
use Rattle.std.specs.List.{sum_by}
use Rattle.std.specs.List.Sorted.{IsNonDecreasingBy, IsStableByKey}
use Rattle.std.specs.Ordering.{nat_cmp}
use Rattle.std.proofs.lemmas.List.{append-nil, map-append, take_more}
use Rattle.std.proofs.lemmas.List.Sums.{sum_by-append, sum_by-cons}
use Rattle.std.proofs.lemmas.List.Sorted.{Contains-permutation, sum_by-IsPermutation}
use Rattle.rd_graph.specs.Orders.{Before}
use Rattle.rd_graph.specs.Runs.{up_from}
use Rattle.rd_graph.specs.Internal.Ranks.{alike, spread}
use Rattle.rd_graph.specs.declared.ranked.RankedRun.{RankedRun}
use Rattle.rd_graph.proofs.Lists.Listing.{Has, has_from, contains_from, has_left, has_right, has_either, map_has, before_from, before_to, before_left, before_right, before_across, before_join}
use Rattle.rd_graph.proofs.Reaching.Sorting.{by_place, rises}

abbrev one : RankedRun → List (ℕ × ℕ)
one r = alike r.rank (up_from r.from r.count)

-- ---- runs one after another

pub spread_append : (rs ss : List RankedRun) → spread (rs ++ ss) ≡ spread rs ++ spread ss
spread_append [] ss = refl
spread_append (r ∷ rs) ss = ap (λ zs. one r ++ zs) (spread_append rs ss) ∙ sym (append_assoc (one r) (spread rs) (spread ss))

-- one more run
pub spread_put : (rs ss : List RankedRun) (r : RankedRun) → ss ≡ rs ++ r ∷ [] → spread ss ≡ spread rs ++ one r
spread_put rs ss r e = ap spread e ∙ spread_append rs (r ∷ []) ∙ ap (λ zs. spread rs ++ zs) (append-nil (one r))

pub alike_parts : (rank : ℕ) (ps qs : List ℕ) → alike rank (ps ++ qs) ≡ alike rank ps ++ alike rank qs
alike_parts rank ps qs = map-append {B = ℕ × ℕ} (λ p. (rank, p)) ps qs

alike_seconds : (rank : ℕ) (ps : List ℕ) → map (λ (x : ℕ × ℕ). x.1) (alike rank ps) ≡ ps
alike_seconds rank [] = refl
alike_seconds rank (p ∷ ps) = ap (λ qs. p ∷ qs) (alike_seconds rank ps)

-- the places of one run more
pub seconds_more : (rs : List RankedRun) (i : ℕ) (d : RankedRun) (now then : List ℕ) → i < length rs → now ≡ map (λ (x : ℕ × ℕ). x.1) (spread (take i rs)) → then ≡ now ++ up_from (get_or rs i d).from (get_or rs i d).count
    → then ≡ map (λ (x : ℕ × ℕ). x.1) (spread (take (i + 1) rs))
seconds_more rs i d now then l was e =
    let second : ℕ × ℕ → ℕ = λ x. x.1 in
    let r : RankedRun = get_or rs i d in
    e ∙ ap (λ ps. ps ++ up_from r.from r.count) was ∙ ap (λ qs. map second (spread (take i rs)) ++ qs) (sym (alike_seconds r.rank (up_from r.from r.count))) ∙ sym (map-append {B = ℕ} second (spread (take i rs)) (one r))
    ∙ ap (map second) (sym (spread_put (take i rs) (take (i + 1) rs) r (take_more rs i d l)))

-- ---- a place of runs is one of a run

one_rank : (r : RankedRun) (x : ℕ × ℕ) → Has (one r) x → x.0 ≡ r.rank
one_rank r x h = let m = map_has (λ (p : ℕ). (r.rank, p)) (up_from r.from r.count) x h in sym (ap (λ (z : ℕ × ℕ). z.0) m.2)

spread_from : (rs : List RankedRun) (x : ℕ × ℕ) → Has (spread rs) x → (r : RankedRun) × Has rs r × Has (one r) x
spread_from [] x h = absurd h
spread_from (r ∷ rs) x h = elim (has_either (one r) (spread rs) x h) [
  | inl k ↦ (r, inl refl, k)
  | inr k ↦ let m = spread_from rs x k in (m.0, inr m.1, m.2)
]

spread_to : (rs : List RankedRun) (r : RankedRun) (x : ℕ × ℕ) → Has rs r → Has (one r) x → Has (spread rs) x
spread_to [] r x h k = absurd h
spread_to (s ∷ rs) r x (inl e) k = has_left (one s) (spread rs) x (subst (λ (q : RankedRun). Has (one q) x) (sym e) k)
spread_to (s ∷ rs) r x (inr h) k = has_right (one s) (spread rs) x (spread_to rs r x h k)

-- two places of one run, or of two
before_from_runs : (rs : List RankedRun) (x y : ℕ × ℕ) → Before (spread rs) x y
    → ((r : RankedRun) × Has rs r × Before (one r) x y) ⊎ ((r : RankedRun) × (s : RankedRun) × Before rs r s × Has (one r) x × Has (one s) y)
before_from_runs [] x y h = absurd h
before_from_runs (r ∷ rs) x y h = elim (before_join (one r) (spread rs) x y h) [
  | inl k ↦ inl (r, inl refl, k)
  | inr k ↦ elim k [
    | inl m ↦ let s = spread_from rs y m.1 in inr (r, s.0, inl (refl, contains_from rs s.0 s.1), m.0, s.2)
    | inr m ↦ elim (before_from_runs rs x y m) [ inl n ↦ inl (n.0, inr n.1, n.2) | inr n ↦ inr (n.0, n.1, inr n.2, n.3, n.4) ]
  ]
]

before_in_run : (rs : List RankedRun) (r : RankedRun) (x y : ℕ × ℕ) → Has rs r → Before (one r) x y → Before (spread rs) x y
before_in_run [] r x y h k = absurd h
before_in_run (s ∷ rs) r x y (inl e) k = before_left (one s) (spread rs) x y (subst (λ (q : RankedRun). Before (one q) x y) (sym e) k)
before_in_run (s ∷ rs) r x y (inr h) k = before_right (one s) (spread rs) x y (before_in_run rs r x y h k)

before_in_runs : (rs : List RankedRun) (r s : RankedRun) (x y : ℕ × ℕ) → Before rs r s → Has (one r) x → Has (one s) y → Before (spread rs) x y
before_in_runs [] r s x y h k m = absurd h
before_in_runs (q ∷ rs) r s x y (inl h) k m = before_across (one q) (spread rs) x y (subst (λ (t : RankedRun). Has (one t) x) (sym h.0) k) (spread_to rs s y (has_from rs s h.1) m)
before_in_runs (q ∷ rs) r s x y (inr h) k m = before_right (one q) (spread rs) x y (before_in_runs rs r s x y h k m)

-- ---- sums over runs

sums : (n : ℕ × ℕ → ℕ) (rs : List RankedRun) → sum_by n (spread rs) ≡ sum_by (λ r. sum_by n (one r)) rs
sums n [] = refl
sums n (r ∷ rs) = sum_by-append n (one r) (spread rs) ∙ ap (λ k. sum_by n (one r) + k) (sums n rs) ∙ sym (sum_by-cons (λ q. sum_by n (one q)) r rs)

-- ---- sorted runs

module _ (all sorted : List RankedRun) (moved : IsPermutation all sorted) (up : IsNonDecreasingBy (λ (r : RankedRun). r.rank) sorted) (stable : IsStableByKey (λ (r : RankedRun). r.rank) nat_cmp all sorted) where
  pub same_spread : (n : ℕ × ℕ → ℕ) → sum_by n (spread sorted) ≡ sum_by n (spread all)
  same_spread n = sums n sorted ∙ sum_by-IsPermutation (λ r. sum_by n (one r)) all sorted moved ∙ sym (sums n all)

  pub sorted_spread : (x y : ℕ × ℕ) → Before (spread sorted) x y → x.0 ≤ y.0
  sorted_spread x y h = elim (before_from_runs sorted x y h) [
    | inl k ↦ let a = one_rank k.0 x (before_from (one k.0) x y k.2) in let b = one_rank k.0 y (before_to (one k.0) x y k.2) in omega (arith, a, b)
    | inr k ↦ let a = one_rank k.0 x k.3 in let b = one_rank k.1 y k.4 in let l = rises (λ (r : RankedRun). r.rank) sorted up k.0 k.1 k.2 in omega (arith, a, b, l)
  ]

  pub stable_spread : (x y : ℕ × ℕ) → Before (spread all) x y → x.0 ≡ y.0 → Before (spread sorted) x y
  stable_spread x y h e = elim (before_from_runs all x y h) [
    | inl k ↦ before_in_run sorted k.0 x y (has_from sorted k.0 (Contains-permutation all sorted k.0 moved (contains_from all k.0 k.1))) k.2
    | inr k ↦
        let a = one_rank k.0 x k.3 in
        let b = one_rank k.1 y k.4 in
        before_in_runs sorted k.0 k.1 x y (by_place (λ (r : RankedRun). r) (λ (r : RankedRun). r.rank) (λ (r : RankedRun). r.rank) all sorted (λ r m. refl) moved up stable k.0 k.1 k.2 (omega (arith, a, b, e))) k.3 k.4
  ]
