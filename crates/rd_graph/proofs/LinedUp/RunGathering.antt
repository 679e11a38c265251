-- Elements that are taken run by run, and leave others as they were.
use Rattle.std.proofs.Common.{◌≡◌, refl, ap, ◌∙◌, sym, subst, ℕ, zero, suc, ◌+◌, ◌-◌, ◌<◌, ◌≤◌, ◌⊎◌, true, false, cond, List, [], ◌∷◌, ◌++◌, length, get_or, take, drop, arith, inl, inr, append_assoc}
use Rattle.std.proofs.lemmas.List.{append-nil, drop-drop, length-append, take-append-drop, take_more}
use Rattle.std.proofs.Math.Seq.{drop-append_seam, take-append_seam}
use Rattle.std.specs.Prelude.{Contains}
use Rattle.std.proofs.lemmas.Bool.{cases_lt}
use Rattle.rd_graph.specs.Gathered.{gathered, ArePlaces}
use Rattle.rd_graph.specs.Runs.{up_from, places_of, places_aside, set_aside, taken, woven}
use Rattle.rd_graph.specs.Internal.Taking.{KeepsBut, KeepsOthers, KeepsOutside}
use Rattle.rd_graph.specs.declared.runs.Run.{Run}
use Rattle.rd_graph.proofs.Lists.Gatherings.{at_below, below_has}
use Rattle.rd_graph.proofs.Lists.Listing.{Has, Once, cases, contains_from, has_either, has_from, has_left, has_right, once_right, once_apart}
use Rattle.rd_graph.proofs.Patches.PutInPlace.{one_at}
use Rattle.rd_graph.proofs.LinedUp.RunLines.{gathered_append, left_runs, places-append, up-length, up-more}

-- ---- the places of a run

pub has_up : (p count k : ℕ) → k < count → Has (up_from p count) (p + k)
has_up p zero k l = absurd (omega arith)
has_up p (suc count) zero l = inl (let e : p ≡ p + 0 = omega arith in e)
has_up p (suc count) (suc k) l = inr (subst (λ q. Has (up_from (p + 1) count) q) (let e : p + 1 + k ≡ p + suc k = omega arith in e) (has_up (p + 1) count k (omega (arith, l))))

pub up_has : (p count q : ℕ) → Has (up_from p count) q → (p ≤ q) × (q < p + count)
up_has p zero q h = absurd h
up_has p (suc count) q (inl e) = (omega (arith, e), omega (arith, e))
up_has p (suc count) q (inr h) = let r = up_has (p + 1) count q h in let a = r.0 in let b = r.1 in (omega (arith, a), omega (arith, b))

-- ---- places that differ

at_place : (ps : List ℕ) (p : ℕ) → Has ps p → (k : ℕ) × (k < length ps) × (get_or ps k 0 ≡ p)
at_place [] p h = absurd h
at_place (q ∷ ps) p (inl e) = (0, omega arith, e)
at_place (q ∷ ps) p (inr h) = let r = at_place ps p h in (suc r.0, (let l = r.1 in omega (arith, l)), r.2)

apart_once : (ps : List ℕ) → ((j k : ℕ) → j < k → k < length ps → get_or ps j 0 ≡ get_or ps k 0 → ⊥) → Once ps
apart_once [] h = tt
apart_once (p ∷ ps) h = (
  (λ m. let r = at_place ps p m in h 0 (suc r.0) (omega arith) (let l = r.1 in omega (arith, l)) (sym r.2)),
  apart_once ps (λ j k l m e. h (suc j) (suc k) (omega (arith, l)) (omega (arith, m)) e),
)

get_after : (ps qs : List ℕ) (k : ℕ) → get_or (ps ++ qs) (length ps + k) 0 ≡ get_or qs k 0
get_after [] qs k = ap (λ j. get_or qs j 0) (let e : 0 + k ≡ k = omega arith in e)
get_after (p ∷ ps) qs k = ap (λ j. get_or (p ∷ (ps ++ qs)) j 0) (let e : suc (length ps) + k ≡ suc (length ps + k) = omega arith in e) ∙ get_after ps qs k

get_up : (p count k : ℕ) (rest : List ℕ) → k < count → get_or (up_from p count ++ rest) k 0 ≡ p + k
get_up p zero k rest l = absurd (omega (arith, l))
get_up p (suc count) zero rest l = let e : p ≡ p + 0 = omega arith in e
get_up p (suc count) (suc k) rest l = get_up (p + 1) count k rest (omega (arith, l)) ∙ (let e : p + 1 + k ≡ p + suc k = omega arith in e)

module _ (rs : List Run) (i n : ℕ) (r : Run) (l : i < length rs) (is : r ≡ get_or rs i r) (are : ArePlaces (places_of rs) n) where
  two_parts : places_of rs ≡ places_of (take i rs) ++ places_of (drop i rs)
  two_parts = ap places_of (sym (take-append-drop i rs)) ∙ places-append (take i rs) (drop i rs)

  rest_parts : places_of (drop i rs) ≡ up_from r.from r.count ++ places_of (drop (i + 1) rs)
  rest_parts = ap places_of (left_runs rs i r l is)

  once_rest : Once (up_from r.from r.count ++ places_of (drop (i + 1) rs))
  once_rest = subst Once rest_parts (once_right (places_of (take i rs)) (places_of (drop i rs)) (subst Once two_parts (apart_once (places_of rs) (λ j k a b e. are.apart j k a b e))))

  -- a place of the run is one of those that are left, and a place of all
  pub in_rest : (k : ℕ) → Has (up_from r.from r.count) k → Has (places_of (drop i rs)) k
  in_rest k h = subst (λ ps. Has ps k) (sym rest_parts) (has_left (up_from r.from r.count) (places_of (drop (i + 1) rs)) k h)

  pub later_in_rest : (k : ℕ) → Has (places_of (drop (i + 1) rs)) k → Has (places_of (drop i rs)) k
  later_in_rest k h = subst (λ ps. Has ps k) (sym rest_parts) (has_right (up_from r.from r.count) (places_of (drop (i + 1) rs)) k h)

  pub run_within : (k : ℕ) → k < r.count → r.from + k < n
  run_within k w =
      below_has n (places_of rs) (r.from + k) (at_below n (places_of rs) are.within)
      (subst (λ ps. Has ps (r.from + k)) (sym two_parts) (has_right (places_of (take i rs)) (places_of (drop i rs)) (r.from + k) (in_rest (r.from + k) (has_up r.from r.count k w))))

  -- its places come after those of the runs before it
  pub place_in_line : (k : ℕ) → k < r.count → get_or (places_of rs) (length (places_of (take i rs)) + k) 0 ≡ r.from + k
  place_in_line k w =
      ap (λ ps. get_or ps (length (places_of (take i rs)) + k) 0) (two_parts ∙ ap (λ ps. places_of (take i rs) ++ ps) rest_parts)
      ∙ get_after (places_of (take i rs)) (up_from r.from r.count ++ places_of (drop (i + 1) rs)) k
      ∙ get_up r.from r.count k (places_of (drop (i + 1) rs)) w

  -- a place that comes later is none of the run
  pub later_outside : (k : ℕ) → Has (places_of (drop (i + 1) rs)) k → (k < r.from) ⊎ (r.from + r.count ≤ k)
  later_outside k h = elim (sides k) [
    | inl s ↦ s
    | inr s ↦ absurd (once_apart (up_from r.from r.count) (places_of (drop (i + 1) rs)) once_rest k s h)
  ]
    where
      sides : (k : ℕ) → ((k < r.from) ⊎ (r.from + r.count ≤ k)) ⊎ Has (up_from r.from r.count) k
      sides k = elim (cases_lt k r.from) [
        | inl a ↦ inl (inl a)
        | inr a ↦ elim (cases_lt k (r.from + r.count)) [
          | inl b ↦ inr (subst (λ q. Has (up_from r.from r.count) q) (let e : r.from + (k - r.from) ≡ k = omega (arith, a) in e) (has_up r.from r.count (k - r.from) (omega (arith, a, b))))
          | inr b ↦ inl (inr (omega (arith, b)))
        ]
      ]

-- ---- elements

module _ {T : Type 0} where
  one_same : (p : ℕ) (xs ys : List T) → length xs ≡ length ys → ((d : T) → get_or xs p d ≡ get_or ys p d) → take 1 (drop p xs) ≡ take 1 (drop p ys)
  one_same p [] [] e h = refl
  one_same p [] (y ∷ ys) e h = absurd (omega (arith, e))
  one_same p (x ∷ xs) [] e h = absurd (omega (arith, e))
  one_same zero (x ∷ xs) (y ∷ ys) e h = ap (λ z. z ∷ []) (h x)
  one_same (suc p) (x ∷ xs) (y ∷ ys) e h = one_same p xs ys (omega (arith, e)) h

  pub gathered_same : (ps : List ℕ) (xs ys : List T) → length xs ≡ length ys → ((k : ℕ) → Has ps k → (d : T) → get_or xs k d ≡ get_or ys k d) → gathered ps xs ≡ gathered ps ys
  gathered_same [] xs ys e h = refl
  gathered_same (p ∷ ps) xs ys e h = rw (one_same p xs ys e (h p (inl refl)), gathered_same ps xs ys e (λ k m. h k (inr m))) refl

  -- one more of a run
  pub run_more : (from i : ℕ) (xs start before after : List T) (x : T) → from + i < length xs → x ≡ get_or xs (from + i) x → before ≡ start ++ gathered (up_from from i) xs → after ≡ before ++ x ∷ [] → after ≡ start ++ gathered (up_from from (i + 1)) xs
  run_more from i xs start before after x w e b a =
      rw (a, b, up-more from i, gathered_append (up_from from i) ((from + i) ∷ []) xs, append-nil (take 1 (drop (from + i) xs)), one_at xs (from + i) x w e)
      (append_assoc start (gathered (up_from from i) xs) (x ∷ []))

  pub outside_more : (from i : ℕ) (old now then : List T) → KeepsOutside from i old now → KeepsOthers (from + i) now then → KeepsOutside from (i + 1) old then
  outside_more from i old now then o k = record {
    size = k.size ∙ o.size;
    others = λ j d s. k.others j d (off j s) ∙ o.others j d (sooner j s);
  }
    where
      off : (j : ℕ) → (j < from) ⊎ (from + (i + 1) ≤ j) → j ≡ from + i → ⊥
      off j (inl l) e = absurd (omega (arith, l, e))
      off j (inr l) e = absurd (omega (arith, l, e))

      sooner : (j : ℕ) → (j < from) ⊎ (from + (i + 1) ≤ j) → (j < from) ⊎ (from + i ≤ j)
      sooner j (inl l) = inl l
      sooner j (inr l) = inr (omega (arith, l))

  pub outside_none : (from : ℕ) (xs : List T) → KeepsOutside from 0 xs xs
  outside_none from xs = record { size = refl; others = λ j d s. refl }

-- ---- runs that are set aside

pub aside-append : (rs ss : List Run) → places_aside (rs ++ ss) ≡ places_aside rs ++ places_aside ss
aside-append [] ss = refl
aside-append (r ∷ rs) ss = ap (λ ks. set_aside r ++ ks) (aside-append rs ss) ∙ sym (append_assoc (set_aside r) (places_aside rs) (places_aside ss))

pub aside_length : (r : Run) → r.aside ≡ true → length (set_aside r) ≡ r.count
aside_length r t = ap (λ b. length (cond b (up_from r.from r.count) [])) t ∙ up-length r.from r.count

pub none_aside : (r : Run) → r.aside ≡ false → set_aside r ≡ []
none_aside r f = ap (λ b. cond b (up_from r.from r.count) []) f

pub aside_one : (r : Run) → r.aside ≡ true → places_aside (r ∷ []) ≡ up_from r.from r.count
aside_one r t = append-nil (set_aside r) ∙ ap (λ b. cond b (up_from r.from r.count) []) t

pub one_long : (r : Run) → r.aside ≡ true → length (places_aside (r ∷ [])) ≡ r.count
one_long r t = ap length (aside_one r t) ∙ up-length r.from r.count

pub aside_none : (r : Run) → r.aside ≡ false → places_aside (r ∷ []) ≡ []
aside_none r f = append-nil (set_aside r) ∙ none_aside r f

pub aside_more : (rs : List Run) (i : ℕ) (r : Run) → i < length rs → r ≡ get_or rs i r → places_aside (take (i + 1) rs) ≡ places_aside (take i rs) ++ places_aside (r ∷ [])
aside_more rs i r l is = ap places_aside (take_more rs i r l ∙ ap (λ y. take i rs ++ y ∷ []) (sym is)) ∙ aside-append (take i rs) (r ∷ [])

pub aside_within : (rs : List Run) (i : ℕ) (r : Run) → i < length rs → r ≡ get_or rs i r → length (places_aside (take i rs)) + length (places_aside (r ∷ [])) ≤ length (places_aside rs)
aside_within rs i r l is =
    let whole = ap length (ap places_aside (sym (take-append-drop (i + 1) rs)) ∙ aside-append (take (i + 1) rs) (drop (i + 1) rs)) in
    let s = length-append (places_aside (take (i + 1) rs)) (places_aside (drop (i + 1) rs)) in
    let m = ap length (aside_more rs i r l is) in
    let t = length-append (places_aside (take i rs)) (places_aside (r ∷ [])) in
    omega (arith, whole, s, m, t)

-- the places of runs that are not set aside
abbrev plain : Run → List ℕ
plain r = cond r.aside [] (up_from r.from r.count)

abbrev places_plain : List Run → List ℕ
places_plain [] = []
places_plain (r ∷ rs) = plain r ++ places_plain rs

module _ (r : Run) where
  is_aside : r.aside ≡ true → (set_aside r ≡ up_from r.from r.count) × (plain r ≡ [])
  is_aside t = (ap (λ b. cond b (up_from r.from r.count) []) t, ap (λ b. cond b [] (up_from r.from r.count)) t)

  is_plain : r.aside ≡ false → (set_aside r ≡ []) × (plain r ≡ up_from r.from r.count)
  is_plain f = (ap (λ b. cond b (up_from r.from r.count) []) f, ap (λ b. cond b [] (up_from r.from r.count)) f)

  of_run : (k : ℕ) → Has (set_aside r) k → Has (up_from r.from r.count) k
  of_run k h = elim (cases r.aside) [
    | inl t ↦ subst (λ ps. Has ps k) (is_aside t).0 h
    | inr f ↦ absurd (subst (λ ps. Has ps k) (is_plain f).0 h)
  ]

  plain_of_run : (k : ℕ) → Has (plain r) k → Has (up_from r.from r.count) k
  plain_of_run k h = elim (cases r.aside) [
    | inl t ↦ absurd (subst (λ ps. Has ps k) (is_aside t).1 h)
    | inr f ↦ subst (λ ps. Has ps k) (is_plain f).1 h
  ]

  not_both : (k : ℕ) → Has (plain r) k → Has (set_aside r) k → ⊥
  not_both k h m = elim (cases r.aside) [
    | inl t ↦ subst (λ ps. Has ps k) (is_aside t).1 h
    | inr f ↦ subst (λ ps. Has ps k) (is_plain f).0 m
  ]

aside_of_all : (rs : List Run) (k : ℕ) → Has (places_aside rs) k → Has (places_of rs) k
aside_of_all [] k h = h
aside_of_all (r ∷ rs) k h = elim (has_either (set_aside r) (places_aside rs) k h) [
  | inl m ↦ has_left (up_from r.from r.count) (places_of rs) k (of_run r k m)
  | inr m ↦ has_right (up_from r.from r.count) (places_of rs) k (aside_of_all rs k m)
]

plain_of_all : (rs : List Run) (k : ℕ) → Has (places_plain rs) k → Has (places_of rs) k
plain_of_all [] k h = h
plain_of_all (r ∷ rs) k h = elim (has_either (plain r) (places_plain rs) k h) [
  | inl m ↦ has_left (up_from r.from r.count) (places_of rs) k (plain_of_run r k m)
  | inr m ↦ has_right (up_from r.from r.count) (places_of rs) k (plain_of_all rs k m)
]

plain_apart : (rs : List Run) (k : ℕ) → Once (places_of rs) → Has (places_plain rs) k → Has (places_aside rs) k → ⊥
plain_apart [] k o h m = h
plain_apart (r ∷ rs) k o h m = elim (has_either (plain r) (places_plain rs) k h) [
  | inl a ↦ elim (has_either (set_aside r) (places_aside rs) k m) [
    | inl b ↦ not_both r k a b
    | inr b ↦ once_apart (up_from r.from r.count) (places_of rs) o k (plain_of_run r k a) (aside_of_all rs k b)
  ]
  | inr a ↦ elim (has_either (set_aside r) (places_aside rs) k m) [
    | inl b ↦ once_apart (up_from r.from r.count) (places_of rs) o k (of_run r k b) (plain_of_all rs k a)
    | inr b ↦ plain_apart rs k (once_right (up_from r.from r.count) (places_of rs) o) a b
  ]
]

module _ {T : Type 0} where
  pub woven-append : (rs ss : List Run) (xs ys : List T) → woven (rs ++ ss) xs ys ≡ woven rs xs ys ++ woven ss xs (drop (length (places_aside rs)) ys)
  woven-append [] ss xs ys = refl
  woven-append (r ∷ rs) ss xs ys =
      let long = length-append (set_aside r) (places_aside rs) in
      ap (λ zs. taken r xs ys ++ zs)
      (woven-append rs ss xs (drop (length (set_aside r)) ys)
      ∙ ap (λ zs. woven rs xs (drop (length (set_aside r)) ys) ++ woven ss xs zs)
      (drop-drop (length (places_aside rs)) (length (set_aside r)) ys ∙ ap (λ n. drop n ys) (sym long)))
      ∙ sym (append_assoc (taken r xs ys) (woven rs xs (drop (length (set_aside r)) ys)) (woven ss xs (drop (length (places_aside (r ∷ rs))) ys)))

  -- what is woven with one more run
  pub woven_on : (rs : List Run) (i : ℕ) (r : Run) (xs ys room now then more : List T) → i < length rs → r ≡ get_or rs i r → now ≡ room ++ woven (take i rs) xs ys → then ≡ now ++ more → more ≡ taken r xs (drop (length (places_aside (take i rs))) ys)
      → then ≡ room ++ woven (take (i + 1) rs) xs ys
  woven_on rs i r xs ys room now then more l is n t m =
      let one : woven (take (i + 1) rs) xs ys ≡ woven (take i rs) xs ys ++ (taken r xs (drop (length (places_aside (take i rs))) ys) ++ []) =
      ap (λ ss. woven ss xs ys) (take_more rs i r l ∙ ap (λ y. take i rs ++ y ∷ []) (sym is)) ∙ woven-append (take i rs) (r ∷ []) xs ys in
      t ∙ ap (λ zs. zs ++ more) n ∙ append_assoc room (woven (take i rs) xs ys) more
      ∙ ap (λ zs. room ++ (woven (take i rs) xs ys ++ zs)) (m ∙ sym (append-nil (taken r xs (drop (length (places_aside (take i rs))) ys))))
      ∙ ap (λ zs. room ++ zs) (sym one)

  pub taken_aside : (r : Run) (xs ys : List T) → r.aside ≡ true → taken r xs ys ≡ take r.count ys
  taken_aside r xs ys t = ap (λ b. cond b (take r.count ys) (gathered (up_from r.from r.count) xs)) t

  pub taken_plain : (r : Run) (xs ys : List T) → r.aside ≡ false → taken r xs ys ≡ gathered (up_from r.from r.count) xs
  taken_plain r xs ys f = ap (λ b. cond b (take r.count ys) (gathered (up_from r.from r.count) xs)) f

  gathered_long : (ps : List ℕ) (xs : List T) → ((k : ℕ) → Has ps k → k < length xs) → length (gathered ps xs) ≡ length ps
  gathered_long [] xs h = refl
  gathered_long (p ∷ ps) xs h =
      let one = ap length (one_there p xs (h p (inl refl))).1 in
      let s = length-append (take 1 (drop p xs)) (gathered ps xs) in
      let r = gathered_long ps xs (λ k m. h k (inr m)) in
      omega (arith, one, s, r)
    where
      one_there : (p : ℕ) (xs : List T) → p < length xs → (x : T) × (take 1 (drop p xs) ≡ x ∷ [])
      one_there p [] l = absurd (omega (arith, l))
      one_there zero (x ∷ xs) l = (x, refl)
      one_there (suc p) (x ∷ xs) l = one_there p xs (omega (arith, l))

  front_of : (n : ℕ) (xs ys : List T) → length xs ≡ n → take n (xs ++ ys) ≡ xs
  front_of n xs ys e = ap (λ k. take k (xs ++ ys)) (sym e) ∙ take-append_seam xs ys

  rest_of : (n : ℕ) (xs ys : List T) → length xs ≡ n → drop n (xs ++ ys) ≡ ys
  rest_of n xs ys e = ap (λ k. drop k (xs ++ ys)) (sym e) ∙ drop-append_seam xs ys

  -- where what is set aside is taken out of a list that is as it was elsewhere, the elements of runs are those that were there
  woven_part : (rs : List Run) (was now : List T) → length now ≡ length was → ((k : ℕ) → Has (places_of rs) k → k < length was) → ((k : ℕ) → Has (places_plain rs) k → (d : T) → get_or now k d ≡ get_or was k d)
      → woven rs now (gathered (places_aside rs) was) ≡ gathered (places_of rs) was
  woven_part [] was now e within same = refl
  woven_part (r ∷ rs) was now e within same =
      let rest : woven rs now (gathered (places_aside rs) was) ≡ gathered (places_of rs) was =
      woven_part rs was now e (λ k h. within k (has_right (up_from r.from r.count) (places_of rs) k h)) (λ k h d. same k (has_right (plain r) (places_plain rs) k h) d) in
      elim (cases r.aside) [
        | inl t ↦
            let mine : set_aside r ≡ up_from r.from r.count = (is_aside r t).0 in
            let all : gathered (places_aside (r ∷ rs)) was ≡ gathered (up_from r.from r.count) was ++ gathered (places_aside rs) was = gathered_append (set_aside r) (places_aside rs) was ∙ ap (λ ps. gathered ps was ++ gathered (places_aside rs) was) mine in
            let long : length (gathered (up_from r.from r.count) was) ≡ r.count = gathered_long (up_from r.from r.count) was (λ k h. within k (has_left (up_from r.from r.count) (places_of rs) k h)) ∙ up-length r.from r.count in
            let first : taken r now (gathered (places_aside (r ∷ rs)) was) ≡ gathered (up_from r.from r.count) was = taken_aside r now (gathered (places_aside (r ∷ rs)) was) t ∙ ap (take r.count) all ∙ front_of r.count (gathered (up_from r.from r.count) was) (gathered (places_aside rs) was) long in
            let left : drop (length (set_aside r)) (gathered (places_aside (r ∷ rs)) was) ≡ gathered (places_aside rs) was = ap (λ n. drop n (gathered (places_aside (r ∷ rs)) was)) (aside_length r t) ∙ ap (drop r.count) all ∙ rest_of r.count (gathered (up_from r.from r.count) was) (gathered (places_aside rs) was) long in
            ap (λ zs. zs ++ woven rs now (drop (length (set_aside r)) (gathered (places_aside (r ∷ rs)) was))) first
            ∙ ap (λ zs. gathered (up_from r.from r.count) was ++ woven rs now zs) left
            ∙ ap (λ zs. gathered (up_from r.from r.count) was ++ zs) rest
            ∙ sym (gathered_append (up_from r.from r.count) (places_of rs) was)
        | inr f ↦
            let none : set_aside r ≡ [] = (is_plain r f).0 in
            let first : taken r now (gathered (places_aside (r ∷ rs)) was) ≡ gathered (up_from r.from r.count) was =
            taken_plain r now (gathered (places_aside (r ∷ rs)) was) f
            ∙ gathered_same (up_from r.from r.count) now was e (λ k h d. same k (has_left (plain r) (places_plain rs) k (subst (λ ps. Has ps k) (sym (is_plain r f).1) h)) d) in
            let left : drop (length (set_aside r)) (gathered (places_aside (r ∷ rs)) was) ≡ gathered (places_aside rs) was = ap (λ ps. drop (length ps) (gathered (ps ++ places_aside rs) was)) none in
            ap (λ zs. zs ++ woven rs now (drop (length (set_aside r)) (gathered (places_aside (r ∷ rs)) was))) first
            ∙ ap (λ zs. gathered (up_from r.from r.count) was ++ woven rs now zs) left
            ∙ ap (λ zs. gathered (up_from r.from r.count) was ++ zs) rest
            ∙ sym (gathered_append (up_from r.from r.count) (places_of rs) was)
      ]

  pub woven_is : (rs : List Run) (n : ℕ) (was now ys : List T) → ArePlaces (places_of rs) n → length was ≡ n → KeepsBut (places_aside rs) was now → ys ≡ gathered (places_aside rs) was → woven rs now ys ≡ gathered (places_of rs) was
  woven_is rs n was now ys are long kept e =
      ap (woven rs now) e
      ∙ woven_part rs was now kept.size (λ k h. let l = below_has n (places_of rs) k (at_below n (places_of rs) are.within) h in omega (arith, l, long))
      (λ k h d. kept.others k d (λ m. plain_apart rs k (apart_once (places_of rs) (λ j i a b c. are.apart j i a b c)) h (has_from (places_aside rs) k m)))

  -- ---- runs are set aside one after another

  pub kept_none : (xs : List T) → KeepsBut [] xs xs
  kept_none xs = record { size = refl; others = λ k d h. refl }

  pub kept_on : (ps qs rs : List ℕ) (was now then : List T) → rs ≡ ps ++ qs → KeepsBut ps was now → KeepsBut qs now then → KeepsBut rs was then
  kept_on ps qs rs was now then e a b = record {
    size = b.size ∙ a.size;
    others = λ k d h.
        b.others k d (λ m. h (subst (λ us. Contains us k) (sym e) (contains_from (ps ++ qs) k (has_right ps qs k (has_from qs k m)))))
        ∙ a.others k d (λ m. h (subst (λ us. Contains us k) (sym e) (contains_from (ps ++ qs) k (has_left ps qs k (has_from ps k m)))));
  }

  pub kept_outside : (r : Run) (was now : List T) → r.aside ≡ true → KeepsOutside r.from r.count was now → KeepsBut (set_aside r ++ []) was now
  kept_outside r was now t o = record { size = o.size; others = λ k d h. o.others k d (side k (λ m. h (there k m))) }
    where
      there : (k : ℕ) → Has (up_from r.from r.count) k → Contains (set_aside r ++ []) k
      there k m = contains_from (set_aside r ++ []) k (has_left (set_aside r) [] k (subst (λ ps. Has ps k) (sym (is_aside r t).0) m))

      side : (k : ℕ) → (Has (up_from r.from r.count) k → ⊥) → (k < r.from) ⊎ (r.from + r.count ≤ k)
      side k h = elim (cases_lt k r.from) [
        | inl a ↦ inl a
        | inr a ↦ elim (cases_lt k (r.from + r.count)) [
          | inl b ↦ absurd (h (subst (λ q. Has (up_from r.from r.count) q) (let e : r.from + (k - r.from) ≡ k = omega (arith, a) in e) (has_up r.from r.count (k - r.from) (omega (arith, a, b)))))
          | inr b ↦ inr (omega (arith, b))
        ]
      ]

  -- the places of a run that is not taken yet are as they were
  pub aside_next : (rs : List Run) (i n : ℕ) (r : Run) (was now : List T) → i < length rs → r ≡ get_or rs i r → ArePlaces (places_of rs) n → KeepsBut (places_aside (take i rs)) was now → gathered (set_aside r ++ []) now ≡ gathered (set_aside r ++ []) was
  aside_next rs i n r was now l is are kept =
      gathered_same (set_aside r ++ []) now was kept.size
      (λ k h d. kept.others k d (λ m.
      once_apart (places_of (take i rs)) (places_of (drop i rs))
      (subst Once (two_parts rs i n r l is are) (apart_once (places_of rs) (λ a b c e f. are.apart a b c e f))) k (aside_of_all (take i rs) k (has_from (places_aside (take i rs)) k m))
      (in_rest rs i n r l is are k (of_run r k (subst (λ ps. Has ps k) (append-nil (set_aside r)) h)))))
