-- Lines as runs, in which those of old elements rise, and those of made ones.
use Rattle.std.proofs.Common.{◌≡◌, refl, ap, ◌∙◌, sym, subst, ℕ, zero, suc, ◌+◌, ◌-◌, ◌<◌, ◌≤◌, Bool, true, false, cond, List, [], ◌∷◌, ◌++◌, length, get_or, take, drop, arith, inl, inr, append_assoc, Option, Some, None}
use Rattle.std.specs.Prelude.{slice_set}
use Rattle.std.proofs.lemmas.List.{append-nil, drop-drop, length-append, length-drop, take_more, take-append-drop}
use Rattle.std.specs.Vec.Iter.{into_iter_items, into_iter_len, into_iter_steps}
use Rattle.std.specs.declared.vec.IntoIter.{IntoIter}
use Rattle.rd_graph.specs.Gathered.{gathered}
use Rattle.rd_graph.specs.Runs.{up_from, places_of, RunsRise}
use Rattle.rd_graph.specs.Internal.Walks.{stays_at, staying}
use Rattle.rd_graph.specs.declared.runs.Run.{Run}

-- ---- runs and their places

pub up-length : (p count : ℕ) → length (up_from p count) ≡ count
up-length p zero = refl
up-length p (suc count) = ap suc (up-length (p + 1) count)

pub up-more : (p count : ℕ) → up_from p (count + 1) ≡ up_from p count ++ (p + count) ∷ []
up-more p zero = ap (λ k. k ∷ []) (let e : p ≡ p + 0 = omega arith in e)
up-more p (suc count) =
    let one : suc count + 1 ≡ suc (count + 1) = omega arith in
    let same : p + 1 + count ≡ p + suc count = omega arith in
    ap (up_from p) one ∙ ap (λ ks. p ∷ ks) (up-more (p + 1) count ∙ ap (λ k. up_from (p + 1) count ++ k ∷ []) same)

pub places-append : (rs ss : List Run) → places_of (rs ++ ss) ≡ places_of rs ++ places_of ss
places-append [] ss = refl
places-append (r ∷ rs) ss = ap (λ ks. up_from r.from r.count ++ ks) (places-append rs ss) ∙ sym (append_assoc (up_from r.from r.count) (places_of rs) (places_of ss))

pub one_run : (r : Run) → places_of (r ∷ []) ≡ up_from r.from r.count
one_run r = append-nil (up_from r.from r.count)

-- one more run
pub places_put : (rs ss : List Run) (r : Run) → ss ≡ rs ++ r ∷ [] → places_of ss ≡ places_of rs ++ up_from r.from r.count
places_put rs ss r e = ap places_of e ∙ places-append rs (r ∷ []) ∙ ap (λ ks. places_of rs ++ ks) (one_run r)

pub up-parts : (p m n : ℕ) → up_from p (m + n) ≡ up_from p m ++ up_from (p + m) n
up-parts p zero n = ap (up_from p) (let e : 0 + n ≡ n = omega arith in e) ∙ ap (λ k. up_from k n) (let e : p ≡ p + 0 = omega arith in e)
up-parts p (suc m) n =
    let one : suc m + n ≡ suc (m + n) = omega arith in
    let same : p + 1 + m ≡ p + suc m = omega arith in
    ap (up_from p) one ∙ ap (λ ks. p ∷ ks) (up-parts (p + 1) m n ∙ ap (λ k. up_from (p + 1) m ++ up_from k n) same)

-- more places, of the last run
pub lengthened : (rs : List Run) (i : ℕ) (r : Run) (p n : ℕ) (a : Bool) → i + 1 ≡ length rs → r ≡ get_or rs i r → p ≡ r.from + r.count
    → places_of (slice_set rs i (record { from = r.from; count = r.count + n; aside = a })) ≡ places_of rs ++ up_from p n
lengthened [] i r p n a l e f = absurd (omega (arith, l))
lengthened (x ∷ []) zero r p n a l e f =
    append-nil (up_from r.from (r.count + n)) ∙ up-parts r.from r.count n ∙ ap (λ k. up_from r.from r.count ++ up_from k n) (sym f)
    ∙ ap (λ ks. ks ++ up_from p n) (sym (append-nil (up_from r.from r.count)) ∙ ap (λ (z : Run). up_from z.from z.count ++ []) e)
lengthened (x ∷ y ∷ ys) zero r p n a l e f = absurd (omega (arith, l))
lengthened (x ∷ xs) (suc i) r p n a l e f =
    ap (λ ks. up_from x.from x.count ++ ks) (lengthened xs i r p n a (omega (arith, l)) e f) ∙ sym (append_assoc (up_from x.from x.count) (places_of xs) (up_from p n))

-- a run that is set aside, or no longer
pub reflagged : (rs : List Run) (i : ℕ) (r : Run) (a : Bool) → i < length rs → r ≡ get_or rs i r → places_of (slice_set rs i (record { from = r.from; count = r.count; aside = a })) ≡ places_of rs
reflagged [] i r a l e = absurd (omega (arith, l))
reflagged (x ∷ xs) zero r a l e = ap (λ (z : Run). up_from z.from z.count ++ places_of xs) e
reflagged (x ∷ xs) (suc i) r a l e = ap (λ ks. up_from x.from x.count ++ ks) (reflagged xs i r a (omega (arith, l)) e)

drop_at : {T : Type 0} (xs : List T) (i : ℕ) (x : T) → i < length xs → x ≡ get_or xs i x → drop i xs ≡ x ∷ drop (suc i) xs
drop_at [] i x l e = absurd (omega arith)
drop_at (y ∷ ys) zero x l e = ap (λ z. z ∷ ys) (sym e)
drop_at (y ∷ ys) (suc i) x l e = drop_at ys i x (omega arith) e

module _ (rs : List Run) (i : ℕ) (r : Run) (l : i < length rs) (is : r ≡ get_or rs i r) where
  pub places_more : places_of (take (i + 1) rs) ≡ places_of (take i rs) ++ up_from r.from r.count
  places_more = places_put (take i rs) (take (i + 1) rs) r (take_more rs i r l ∙ ap (λ y. take i rs ++ y ∷ []) (sym is))

  pub count_more : length (places_of (take (i + 1) rs)) ≡ length (places_of (take i rs)) + r.count
  count_more = let e = ap length places_more in let s = length-append (places_of (take i rs)) (up_from r.from r.count) in let u = up-length r.from r.count in omega (arith, e, s, u)

  pub count_within : length (places_of (take i rs)) + r.count ≤ length (places_of rs)
  count_within =
      let whole = ap length (ap places_of (sym (take-append-drop (i + 1) rs)) ∙ places-append (take (i + 1) rs) (drop (i + 1) rs)) in
      let s = length-append (places_of (take (i + 1) rs)) (places_of (drop (i + 1) rs)) in
      let m = count_more in
      omega (arith, whole, s, m)

  -- the runs that are left
  pub left_runs : drop i rs ≡ r ∷ drop (i + 1) rs
  left_runs = drop_at rs i r l is ∙ ap (λ k. r ∷ drop k rs) (let e : suc i ≡ i + 1 = omega arith in e)

  module _ (n m old made : ℕ) where
    pub then_aside : r.aside ≡ true → RunsRise n m old made (drop i rs) → RunsRise n m old made (drop (i + 1) rs)
    then_aside t h = by (subst (RunsRise n m old made) left_runs h)
      where
        by : RunsRise n m old made (r ∷ drop (i + 1) rs) → RunsRise n m old made (drop (i + 1) rs)
        by (inl k) = k.1
        by (inr (inl k)) = absurd (let f : true ≡ false = sym t ∙ k.0 in cc)
        by (inr (inr k)) = absurd (let f : true ≡ false = sym t ∙ k.0 in cc)

    pub then_old : r.aside ≡ false → r.from < n → RunsRise n m old made (drop i rs) → (old ≤ r.from) × (r.from + r.count ≤ n) × RunsRise n m (r.from + r.count) made (drop (i + 1) rs)
    then_old t w h = by (subst (RunsRise n m old made) left_runs h)
      where
        by : RunsRise n m old made (r ∷ drop (i + 1) rs) → (old ≤ r.from) × (r.from + r.count ≤ n) × RunsRise n m (r.from + r.count) made (drop (i + 1) rs)
        by (inl k) = absurd (let f : true ≡ false = sym k.0 ∙ t in cc)
        by (inr (inl k)) = (k.2, k.3, k.4)
        by (inr (inr k)) = absurd (let f = k.1 in omega (arith, f, w))

    pub then_made : r.aside ≡ false → n ≤ r.from → RunsRise n m old made (drop i rs) → (n + made ≤ r.from) × (r.from + r.count ≤ n + m) × RunsRise n m old (r.from - n + r.count) (drop (i + 1) rs)
    then_made t w h = by (subst (RunsRise n m old made) left_runs h)
      where
        by : RunsRise n m old made (r ∷ drop (i + 1) rs) → (n + made ≤ r.from) × (r.from + r.count ≤ n + m) × RunsRise n m old (r.from - n + r.count) (drop (i + 1) rs)
        by (inl k) = absurd (let f : true ≡ false = sym k.0 ∙ t in cc)
        by (inr (inl k)) = absurd (let f = k.1 in omega (arith, f, w))
        by (inr (inr k)) = (k.1, k.2, k.3)

    pub sooner_aside : r.aside ≡ true → RunsRise n m old made (drop (i + 1) rs) → RunsRise n m old made (drop i rs)
    sooner_aside t h = subst (RunsRise n m old made) (sym left_runs) (inl (t, h))

    pub sooner_old : r.aside ≡ false → r.from < n → old ≤ r.from → r.from + r.count ≤ n → RunsRise n m (r.from + r.count) made (drop (i + 1) rs) → RunsRise n m old made (drop i rs)
    sooner_old t w o k h = subst (RunsRise n m old made) (sym left_runs) (inr (inl (t, w, o, k, h)))

    pub sooner_made : r.aside ≡ false → n + made ≤ r.from → r.from + r.count ≤ n + m → RunsRise n m old (r.from - n + r.count) (drop (i + 1) rs) → RunsRise n m old made (drop i rs)
    sooner_made t o k h = subst (RunsRise n m old made) (sym left_runs) (inr (inr (t, o, k, h)))

pub none_left : (n m old made : ℕ) (rs : List Run) (i : ℕ) → length rs ≤ i → RunsRise n m old made (drop i rs)
none_left n m old made [] zero l = tt
none_left n m old made [] (suc i) l = tt
none_left n m old made (r ∷ rs) zero l = absurd (omega (arith, l))
none_left n m old made (r ∷ rs) (suc i) l = none_left n m old made rs i (omega (arith, l))

-- ---- the elements of a run

module _ {T : Type 0} where
  one_and_more : (count p : ℕ) (xs : List T) → p < length xs → take 1 (drop p xs) ++ take count (drop (suc p) xs) ≡ take (suc count) (drop p xs)
  one_and_more count p [] l = absurd (omega arith)
  one_and_more count zero (x ∷ xs) l = refl
  one_and_more count (suc p) (x ∷ xs) l = one_and_more count p xs (omega (arith, l))

  pub gathered_up : (count p : ℕ) (xs : List T) → p + count ≤ length xs → gathered (up_from p count) xs ≡ take count (drop p xs)
  gathered_up zero p xs l = refl
  gathered_up (suc count) p xs l =
      ap (λ zs. take 1 (drop p xs) ++ zs) (gathered_up count (p + 1) xs (omega (arith, l)) ∙ ap (λ k. take count (drop k xs)) (let e : p + 1 ≡ suc p = omega arith in e))
      ∙ one_and_more count p xs (omega (arith, l))

  pub gathered_append : (ps qs : List ℕ) (xs : List T) → gathered (ps ++ qs) xs ≡ gathered ps xs ++ gathered qs xs
  gathered_append [] qs xs = refl
  gathered_append (p ∷ ps) qs xs = ap (λ zs. take 1 (drop p xs) ++ zs) (gathered_append ps qs xs) ∙ sym (append_assoc (take 1 (drop p xs)) (gathered ps xs) (gathered qs xs))

  taken_left : (count p : ℕ) (xs ys : List T) → p + count ≤ length xs → take count (drop p (xs ++ ys)) ≡ take count (drop p xs)
  taken_left zero p xs ys l = refl
  taken_left (suc count) zero [] ys l = absurd (omega (arith, l))
  taken_left (suc count) zero (x ∷ xs) ys l = ap (λ zs. x ∷ zs) (taken_left count zero xs ys (omega (arith, l)))
  taken_left (suc count) (suc p) [] ys l = absurd (omega (arith, l))
  taken_left (suc count) (suc p) (x ∷ xs) ys l = taken_left (suc count) p xs ys (omega (arith, l))

  dropped_left : (p place : ℕ) (xs ys : List T) → p ≡ length xs + place → drop p (xs ++ ys) ≡ drop place ys
  dropped_left p place [] ys e = ap (λ k. drop k ys) (let f : p ≡ place = omega (arith, e) in f)
  dropped_left zero place (x ∷ xs) ys e = absurd (omega (arith, e))
  dropped_left (suc p) place (x ∷ xs) ys e = dropped_left p place xs ys (omega (arith, e))

  pub further : (i count : ℕ) (ps : List T) → take (i + count) ps ≡ take i ps ++ take count (drop i ps)
  further zero count ps = ap (λ k. take k ps) (let e : 0 + count ≡ count = omega arith in e)
  further (suc i) zero [] = ap (λ k. take k []) (let e : suc i + 0 ≡ suc i = omega arith in e)
  further (suc i) (suc count) [] = ap (λ k. take k []) (let e : suc i + suc count ≡ suc (i + suc count) = omega arith in e)
  further (suc i) count (p ∷ ps) = ap (λ k. take k (p ∷ ps)) (let e : suc i + count ≡ suc (i + count) = omega arith in e) ∙ ap (λ qs. p ∷ qs) (further i count ps)

  -- a run of old elements, which are next
  pub run_of_old : (n count p : ℕ) (old made rest : List T) → length old ≡ n → p + count ≤ n → rest ≡ drop p old → take count rest ≡ gathered (up_from p count) (old ++ made)
  run_of_old n count p old made rest l w is =
      ap (take count) is
      ∙ sym (gathered_up count p (old ++ made) (let s = length-append old made in omega (arith, s, l, w)) ∙ taken_left count p old made (omega (arith, l, w)))

  -- a run of made ones, which are next
  pub run_of_made : (n m count p place : ℕ) (old made rest : List T) → length old ≡ n → length made ≡ m → p ≡ n + place → p + count ≤ n + m → rest ≡ drop place made → take count rest ≡ gathered (up_from p count) (old ++ made)
  run_of_made n m count p place old made rest l k e w is =
      ap (take count) (is ∙ sym (dropped_left p place old made (omega (arith, l, e))))
      ∙ sym (gathered_up count p (old ++ made) (let s = length-append old made in omega (arith, s, l, k, w)))

  -- what is gathered with one more run
  pub moved_on : (rs : List Run) (i : ℕ) (r : Run) (xs room now then more : List T) → i < length rs → r ≡ get_or rs i r → now ≡ room ++ gathered (places_of (take i rs)) xs → then ≡ now ++ more → more ≡ gathered (up_from r.from r.count) xs
      → then ≡ room ++ gathered (places_of (take (i + 1) rs)) xs
  moved_on rs i r xs room now then more l is n t m =
      t ∙ ap (λ zs. zs ++ more) n ∙ append_assoc room (gathered (places_of (take i rs)) xs) more
      ∙ ap (λ zs. room ++ (gathered (places_of (take i rs)) xs ++ zs)) m
      ∙ ap (λ zs. room ++ zs) (sym (ap (λ ps. gathered ps xs) (places_more rs i r l is) ∙ gathered_append (places_of (take i rs)) (up_from r.from r.count) xs))

  -- what is left after so many that are passed over, and more
  pub passed_to : (xs rest then : List T) (next passed to : ℕ) → rest ≡ drop next xs → then ≡ drop passed rest → to ≡ next + passed → then ≡ drop to xs
  passed_to xs rest then next passed to r t e = t ∙ ap (drop passed) r ∙ drop-drop passed next xs ∙ ap (λ k. drop k xs) (sym e)

  -- how many are left after so many that are passed over
  pub left_of : (xs rest then : List T) (next to end : ℕ) → length xs ≡ end → next ≤ to → rest ≡ drop next xs → then ≡ drop (to - next) rest → length then ≡ end - to
  left_of xs rest then next to end e l r t =
      ap length (passed_to xs rest then next (to - next) to r t (omega (arith, l))) ∙ length-drop to xs ∙ ap (λ n. n - to) e

  -- one more of a run is moved
  pub taken_on : (i : ℕ) (start rest room now then : List T) → rest ≡ drop i start → now ≡ room ++ take i start → then ≡ now ++ take 1 rest → then ≡ room ++ take (i + 1) start
  taken_on i start rest room now then r n t =
      t ∙ ap (λ zs. zs ++ take 1 rest) n ∙ append_assoc room (take i start) (take 1 rest)
      ∙ ap (λ zs. room ++ (take i start ++ take 1 zs)) r
      ∙ ap (λ zs. room ++ zs) (sym (further i 1 start))

  pub dropped_on : (i : ℕ) (start rest then : List T) → rest ≡ drop i start → then ≡ drop 1 rest → then ≡ drop (i + 1) start
  dropped_on i start rest then r t = t ∙ ap (drop 1) r ∙ drop-drop 1 i start

-- ---- elements are taken one after another

module _ {X : Type 0} where
  pub none_long : (xs : List X) → length xs ≡ 0 → xs ≡ []
  none_long [] e = refl
  none_long (x ∷ xs) e = absurd (omega (arith, e))

module _ {X Z : Type 0} where
  -- what is left after one more
  pub one_passed : (s t : IntoIter X Z) (r : Option X) → length (into_iter_items s) ≡ into_iter_len s → length (into_iter_items t) ≡ into_iter_len t → into_iter_steps s r t → into_iter_items t ≡ drop 1 (into_iter_items s)
  one_passed s t None a b h = none_long (into_iter_items t) (b ∙ h.1) ∙ ap (drop 1) (sym (none_long (into_iter_items s) (a ∙ h.0)))
  one_passed s t (Some x) a b h = ap (drop 1) (sym h.0)

-- ---- a stretch of places of which some stay

module _ (stays : List Bool) where
  skipped : (n from m : ℕ) → ((k : ℕ) → from ≤ k → k < from + n → stays_at stays k ≡ false) → staying stays from (n + m) ≡ staying stays (from + n) m
  skipped zero from m h = ap (staying stays from) (let e : 0 + m ≡ m = omega arith in e) ∙ ap (λ k. staying stays k m) (let e : from ≡ from + 0 = omega arith in e)
  skipped (suc n) from m h =
      ap (staying stays from) (let e : suc n + m ≡ suc (n + m) = omega arith in e)
      ∙ ap (λ b. cond b (from ∷ []) [] ++ staying stays (from + 1) (n + m)) (h from (omega arith) (omega arith))
      ∙ skipped n (from + 1) m (λ k a l. h k (omega (arith, a)) (omega (arith, l)))
      ∙ ap (λ k. staying stays k m) (let e : from + 1 + n ≡ from + suc n = omega arith in e)

  kept : (n from m : ℕ) → ((k : ℕ) → from ≤ k → k < from + n → stays_at stays k ≡ true) → staying stays from (n + m) ≡ up_from from n ++ staying stays (from + n) m
  kept zero from m h = ap (staying stays from) (let e : 0 + m ≡ m = omega arith in e) ∙ ap (λ k. staying stays k m) (let e : from ≡ from + 0 = omega arith in e)
  kept (suc n) from m h =
      ap (staying stays from) (let e : suc n + m ≡ suc (n + m) = omega arith in e)
      ∙ ap (λ b. cond b (from ∷ []) [] ++ staying stays (from + 1) (n + m)) (h from (omega arith) (omega arith))
      ∙ ap (λ ks. from ∷ ks)
      (kept n (from + 1) m (λ k a l. h k (omega (arith, a)) (omega (arith, l)))
      ∙ ap (λ k. up_from (from + 1) n ++ staying stays k m) (let e : from + 1 + n ≡ from + suc n = omega arith in e))

  -- those before a place go, and those from there up to another stay
  pub stretch_run : (place first end to : ℕ) → place ≤ first → first ≤ end → end ≤ to → ((k : ℕ) → place ≤ k → k < first → stays_at stays k ≡ false) → ((k : ℕ) → first ≤ k → k < end → stays_at stays k ≡ true)
      → staying stays place (to - place) ≡ up_from first (end - first) ++ staying stays end (to - end)
  stretch_run place first end to a b d h k =
      ap (staying stays place) (let e : to - place ≡ (first - place) + ((end - first) + (to - end)) = omega (arith, a, b, d) in e)
      ∙ skipped (first - place) place ((end - first) + (to - end)) (λ j u v. h j u (omega (arith, a, v)))
      ∙ ap (λ j. staying stays j ((end - first) + (to - end))) (let e : place + (first - place) ≡ first = omega (arith, a) in e)
      ∙ kept (end - first) first (to - end) (λ j u v. k j u (omega (arith, b, v)))
      ∙ ap (λ j. up_from first (end - first) ++ staying stays j (to - end)) (let e : first + (end - first) ≡ end = omega (arith, b) in e)
